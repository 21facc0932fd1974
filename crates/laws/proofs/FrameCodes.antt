-- With ESS 1 (W6): FRAME is due at a byte exactly where `byte_due` says, by its code (`due_by_codes`); and the history of the open frame stays told
-- (`at_byte_told`). The idea: data leave the lines; a code is taken by its meaning and by whether a frame and a line are open. Assumes nothing.
use mathlib.Core.Bool.{Bool, true, false, cond, ◌&&◌, ◌||◌}
use mathlib.Core.List.{List, [], ◌∷◌}
use mathlib.Core.Path.{◌≡◌, refl, sym, ap, ◌∙◌}
use Prim.Native.Nat.{ℕ, ◌+◌, ◌≤◌, ◌<◌}
use native.Mathlib.Omega.{arith}
use lib.Dec.{ltb, leb}
use lib.ListN.{length}
use Rattle.bits.proofs.Booleans.{and_zero, or_unit, either}
use Rattle.registers.specs.Control.{capture, crop, edm}
use Rattle.registers.specs.Window.{vst, vline}
use Rattle.packing.specs.Packing.{per_word}
use Rattle.codes.specs.declared.Waiting.TheVariants.{Zero}
use Rattle.codes.specs.declared.Meaning.{Meaning}
use Rattle.codes.specs.declared.Meaning.TheVariants.{FrameEnd, FrameStart, LineEnd, LineStart, Unmatched}
use Rattle.codes.specs.Bytes.{waiting_count, is_code, waiting_after, released}
use Rattle.codes.specs.Meaning.{meaning, by_line_starts}
use Rattle.rules.specs.declared.Pins.{Pins}
use Rattle.rules.specs.declared.Syncs.{Syncs}
use Rattle.rules.specs.declared.Scan.{Scan}
use Rattle.rules.specs.declared.Frame.{Frame}
use Rattle.rules.specs.declared.Frame.TheVariants.{Closed, Open}
use Rattle.rules.specs.declared.Capture.{Capture}
use Rattle.rules.specs.CropWindow.{lines_to_window_end}
use Rattle.rules.specs.State.{not_blanking, raise, close_frame, with_ris, with_registers, with_pins, with_syncs, with_frame, with_rate, with_partial, with_waiting}
use Rattle.rules.specs.Capture.{Captured, no_word, window_ended, hsync_after_window, frame_rises, frame_due, end_of, frame_closes, takes, captured, pack}
use Rattle.rules.specs.Codes.{in_line, coded_syncs, seeks, arrived, before, datum, each_datum, byte_in, taken_out, first_place, frame_opens, line_opens, closes, errs, line_start, obeyed, sought, at_code, at_byte, line_ended, frame_ended}
use Rattle.laws.specs.FrameHistory.{FrameHistory, no_history, last_line_begun, code_due, byte_due, code_starts, code_entry, byte_entry}
use Rattle.laws.proofs.WindowLines.{over, over_blanks, over_begins, over_first_line, risen_on, risen_by_end, last_begun}
use Rattle.laws.proofs.FrameEdges.{Told, once, flags_flagged}

-- The cases: a frame or none, and what the codes said last. Every state is one of these.
abbrev pub placed : Frame → Bool → Bool → Capture → Capture
placed f hsync vsync s = with_syncs (record { hsync = hsync; vsync = vsync }) (with_frame f s)

-- Where FRAME is due. The bytes taken out of their line play no part.
placed_due : (m : Meaning) (f : Frame) (hsync vsync : Bool) (s : Capture) → (at_code m (placed f hsync vsync s)).due ≡ code_due m (placed f hsync vsync s)
unfolding with_syncs with_frame at_code seeks obeyed no_word code_due closes errs line_start in_line coded_syncs frame_due frame_rises window_ended hsync_after_window
placed_due FrameEnd Closed hsync true s = refl
placed_due FrameEnd Closed hsync false s = refl
placed_due FrameEnd (Open taken f) true vsync s = refl
placed_due FrameEnd (Open taken f) false vsync s = refl
placed_due FrameStart Closed hsync true s = refl
placed_due FrameStart Closed hsync false s = refl
placed_due FrameStart (Open taken f) hsync vsync s = refl
placed_due LineEnd Closed hsync true s = refl
placed_due LineEnd Closed hsync false s = refl
placed_due LineEnd (Open taken f) true vsync s = refl
placed_due LineEnd (Open taken f) false vsync s = refl
placed_due LineStart Closed hsync true s = either (λ (c : Captured). c.due ≡ false) (by_line_starts s.registers.escr) refl refl
placed_due LineStart Closed hsync false s = refl
placed_due LineStart (Open taken f) true vsync s = refl
placed_due LineStart (Open taken f) false vsync s = refl
placed_due Unmatched Closed hsync true s = refl
placed_due Unmatched Closed hsync false s = refl
placed_due Unmatched (Open taken f) hsync vsync s = refl

code_is_due : (m : Meaning) (s : Capture) → (at_code m s).due ≡ code_due m s
unfolding with_syncs with_frame
code_is_due m s = placed_due m s.frame s.syncs.hsync s.syncs.vsync s

-- The last byte of a code, before it is obeyed.
abbrev pub cut_out : Capture → Capture
cut_out s = with_waiting Zero (taken_out s.frame s)

out_due : (m : Meaning) (f : Frame) (hsync vsync : Bool) (s : Capture) → code_due m (cut_out (placed f hsync vsync s)) ≡ code_due m (placed f hsync vsync s)
unfolding with_syncs with_frame with_waiting taken_out before code_due in_line frame_due frame_rises window_ended hsync_after_window
out_due m Closed hsync vsync s = by_meaning m
  where
    by_meaning : (m : Meaning) → code_due m (cut_out (placed Closed hsync vsync s)) ≡ code_due m (placed Closed hsync vsync s)
    by_meaning FrameEnd = refl
    by_meaning FrameStart = refl
    by_meaning LineEnd = refl
    by_meaning LineStart = refl
    by_meaning Unmatched = refl
out_due m (Open taken f) hsync vsync s = by_meaning m hsync
  where
    by_meaning : (m : Meaning) (hsync : Bool) → code_due m (cut_out (placed (Open taken f) hsync vsync s)) ≡ code_due m (placed (Open taken f) hsync vsync s)
    by_meaning FrameEnd true = refl
    by_meaning FrameEnd false = refl
    by_meaning FrameStart hsync = refl
    by_meaning LineEnd true = refl
    by_meaning LineEnd false = refl
    by_meaning LineStart hsync = refl
    by_meaning Unmatched hsync = refl

same_due : (m : Meaning) (s : Capture) → code_due m (cut_out s) ≡ code_due m s
unfolding with_syncs with_frame
same_due m s = out_due m s.frame s.syncs.hsync s.syncs.vsync s

-- Another byte than the last of a code.
each_not_due : (s : Capture) (taken : Bool) (f : Scan) (xs : List ℕ) (still : ℕ) → (each_datum s taken f xs still).due ≡ false
unfolding each_datum no_word
each_not_due s taken f [] still = refl
each_not_due s taken f (x ∷ xs) still = refl

byte_in_not_due : (f : Frame) (s : Capture) (x : ℕ) → (byte_in f s x).due ≡ false
unfolding byte_in no_word
byte_in_not_due Closed s x = refl
byte_in_not_due (Open taken f) s x =
    either (λ (c : Captured). c.due ≡ false) s.syncs.hsync refl (each_not_due _ taken (arrived f) (released s.waiting x) (waiting_count (waiting_after s.waiting x)))

pub due_by_codes : (s : Capture) (x : ℕ) → (at_byte s x).due ≡ byte_due s x
unfolding at_byte byte_due
due_by_codes s x = go (is_code s.waiting)
  where
    m : Meaning
    m = meaning s.registers.escr s.registers.esur x

    go : (last : Bool) → (cond last (at_code m (with_waiting Zero (taken_out s.frame s))) (byte_in s.frame s x)).due ≡ last && code_due m s
    go true = code_is_due m (cut_out s) ∙ same_due m s
    go false = byte_in_not_due s.frame s x

-- The remembered levels play no part.
pins_due : (f : Frame) (s : Capture) (p : Pins) (now : Syncs) → frame_due f (with_pins p s) now ≡ frame_due f s now
unfolding frame_due frame_rises window_ended hsync_after_window with_pins
pins_due Closed s p now = refl
pins_due (Open taken f) s p now = refl

pins_code_due : (m : Meaning) (s : Capture) (p : Pins) → code_due m (with_pins p s) ≡ code_due m s
unfolding code_due in_line with_pins
pins_code_due FrameEnd s p = pins_due s.frame s p frame_ended
pins_code_due FrameStart s p = refl
pins_code_due LineEnd s p = ap (λ b. in_line s && b) (pins_due s.frame s p line_ended)
pins_code_due LineStart s p = refl
pins_code_due Unmatched s p = refl

pub pins_byte_due : (s : Capture) (p : Pins) (x : ℕ) → byte_due (with_pins p s) x ≡ byte_due s x
unfolding byte_due with_pins
pins_byte_due s p x = ap (λ b. is_code s.waiting && b) (pins_code_due (meaning s.registers.escr s.registers.esur x) s p)

pins_starts : (m : Meaning) (s : Capture) (p : Pins) → code_starts m (with_pins p s) ≡ code_starts m s
unfolding code_starts seeks with_pins
pins_starts FrameEnd s p = refl
pins_starts FrameStart s p = refl
pins_starts LineEnd s p = refl
pins_starts LineStart s p = refl
pins_starts Unmatched s p = refl

pub pins_byte_entry : (s : Capture) (p : Pins) (x : ℕ) (h : FrameHistory) → byte_entry h (with_pins p s) x ≡ byte_entry h s x
unfolding byte_entry code_entry with_pins
pins_byte_entry s p x h =
    let m = meaning s.registers.escr s.registers.esur x in
    rw (pins_starts m s p, pins_code_due m s p)

-- Data leave all that is told: registers, syncs, and the frame.
pub record Same (s t : Capture) : Type 0 where
  pub registers : t.registers ≡ s.registers
  pub syncs : t.syncs ≡ s.syncs
  pub frame : t.frame ≡ s.frame

same : (s : Capture) → Same s s
same s = record { registers = refl; syncs = refl; frame = refl }

datum_same : (s : Capture) (taken : Bool) (f : Scan) (x : ℕ) → Same s (datum s taken f x).state
unfolding datum pack no_word with_partial
datum_same s taken f x =
    let P : Captured → Type 0 = λ c. Same s c.state in
    let kept : Same s s = same s in
    either P (captured s taken f)
    (either P (ltb (s.partial.count + 1) (per_word (edm s.registers.cr))) (record { registers = refl; syncs = refl; frame = refl }) (record { registers = refl; syncs = refl; frame = refl }))
    kept

pub each_same : (s : Capture) (taken : Bool) (f : Scan) (xs : List ℕ) (still : ℕ) → Same s (each_datum s taken f xs still).state
unfolding each_datum no_word
each_same s taken f [] still = same s
each_same s taken f (x ∷ xs) still =
    let a = datum_same s taken (before (length xs + still) f) x in
    let b = each_same (datum s taken (before (length xs + still) f) x).state taken f xs still in
    record { registers = b.registers ∙ a.registers; syncs = b.syncs ∙ a.syncs; frame = b.frame ∙ a.frame }

byte_in_told : (f : Frame) (s : Capture) (x : ℕ) (h : FrameHistory) → s.frame ≡ f → Told s h → Told (byte_in f s x).state h
unfolding byte_in no_word with_waiting with_frame arrived
byte_in_told Closed s x h e told = told
byte_in_told (Open taken f) s x h e told =
    let still = waiting_after s.waiting x in
    let a = each_same (with_waiting still (with_frame (Open taken (arrived f)) s)) taken (arrived f) (released s.waiting x) (waiting_count still) in
    either (λ (c : Captured). Told c.state h) s.syncs.hsync told (rw (a.registers, a.syncs, a.frame) (rw e at told))

-- Three bytes taken out of their line leave it too, and what a code enters.
out_told : (f : Frame) (s : Capture) (h : FrameHistory) → s.frame ≡ f → Told s h → Told (with_waiting Zero (taken_out f s)) h
unfolding taken_out before with_frame with_waiting
out_told Closed s h e told = told
out_told (Open taken f) s h e told = either (λ (t : Capture). Told (with_waiting Zero t) h) s.syncs.hsync told (rw e at told)

out_starts : (m : Meaning) (f : Frame) (hsync vsync : Bool) (s : Capture) → code_starts m (cut_out (placed f hsync vsync s)) ≡ code_starts m (placed f hsync vsync s)
unfolding with_syncs with_frame with_waiting taken_out code_starts seeks
out_starts FrameEnd f hsync vsync s = refl
out_starts FrameStart Closed hsync vsync s = refl
out_starts FrameStart (Open taken f) true vsync s = refl
out_starts FrameStart (Open taken f) false vsync s = refl
out_starts LineEnd f hsync vsync s = refl
out_starts LineStart Closed hsync vsync s = refl
out_starts LineStart (Open taken f) true vsync s = refl
out_starts LineStart (Open taken f) false vsync s = refl
out_starts Unmatched f hsync vsync s = refl

abbrev begun : Capture → Bool
begun s = last_line_begun s.registers s.frame

out_begun : (f : Frame) (hsync : Bool) (s : Capture) → begun (cut_out (placed f hsync s.syncs.vsync s)) ≡ begun (placed f hsync s.syncs.vsync s)
unfolding with_syncs with_frame with_waiting taken_out before last_line_begun
out_begun Closed hsync s = refl
out_begun (Open taken f) true s = refl
out_begun (Open taken f) false s = refl

same_entry : (m : Meaning) (s : Capture) (h : FrameHistory) → code_entry m h (cut_out s) ≡ code_entry m h s
unfolding code_entry with_syncs with_frame
same_entry m s h = rw (same_due m s, out_starts m s.frame s.syncs.hsync s.syncs.vsync s, out_begun s.frame s.syncs.hsync s)

-- A frame starts; ERR; an end code.
window_positive : (s : Capture) → 0 < lines_to_window_end s.registers
window_positive s = omega arith

opens_told : (s : Capture) → Told (frame_opens s) no_history
unfolding frame_opens with_syncs with_rate with_frame first_place no_history
opens_told s =
    let n = lines_to_window_end s.registers in
    let cropped = crop s.registers.cr in
    let one : over n 1 false ≡ false = over_first_line n (window_positive s) in
    let risen : (taken : Bool) → ◌≡◌ {A = ℕ} 0 (cond (taken && (cropped && false)) 1 0) = λ taken. rw (and_zero cropped, and_zero taken) in
    either (λ (t : Capture). Told (with_syncs not_blanking t) no_history) (capture s.registers.cr) (one, risen (takes s)) (one, risen false)

errs_told : (s : Capture) (h : FrameHistory) → h.due ≤ 1 → Told (errs s).state h
unfolding errs close_frame with_frame with_partial with_syncs raise with_registers with_ris
errs_told s h le = le

frame_end_told : (taken : Bool) (f : Scan) (hsync vsync : Bool) (s : Capture) (h : FrameHistory) → h.due ≤ 1 → Told (closes (placed (Open taken f) hsync vsync s) frame_ended).state h
unfolding closes frame_closes end_of close_frame with_frame with_partial with_syncs with_registers with_ris
frame_end_told taken f hsync vsync s h le =
    let t = placed (Open taken f) hsync vsync s in
    rw (flags_flagged (capture t.registers.cr) (with_syncs (coded_syncs t) t) frame_ended).is le

line_end_told : (taken : Bool) (f : Scan) (hsync vsync : Bool) (s : Capture) (h : FrameHistory) → Told (placed (Open taken f) true false s) h → Told (closes (placed (Open taken f) hsync vsync s) line_ended).state h
unfolding closes frame_closes with_frame with_syncs with_registers with_ris
line_end_told taken f hsync vsync s h told =
    let t = placed (Open taken f) hsync vsync s in
    rw (flags_flagged (capture t.registers.cr) (with_syncs (coded_syncs t) t) line_ended).is told

-- What ends nothing leaves the history.
none_ends : (ended begun : Bool) → ended || (begun && false) ≡ ended
none_ends ended begun = rw (and_zero begun, or_unit ended)

not_more : (taken cropped ended begun : Bool) (n : ℕ) → n ≡ cond (taken && (cropped && ended)) 1 0 → n ≡ cond (taken && (cropped && (ended || (begun && false)))) 1 0
not_more taken cropped ended begun n e = rw (none_ends ended begun) e

-- Every code, in every case.
code_told : (m : Meaning) (f : Frame) (hsync vsync : Bool) (s : Capture) (h : FrameHistory) → let t = placed f hsync vsync s in Told t h → Told (at_code m t).state (code_entry m h t)
unfolding with_syncs with_frame at_code seeks sought obeyed no_word code_entry code_starts last_line_begun code_due line_start in_line frame_due frame_rises window_ended hsync_after_window line_opens
code_told FrameEnd Closed hsync true s h told = told
code_told FrameEnd Closed hsync false s h told = either (λ (t : Capture). Told t (record { ended = h.ended || false; due = h.due })) (by_line_starts s.registers.escr) told told
code_told FrameEnd (Open taken f) hsync vsync s h told =
    let n = lines_to_window_end s.registers in
    let (ended, risen) = told in
    let by_end = risen_by_end taken (crop s.registers.cr) (over n f.lines hsync) (leb n f.lines && true) h.due (rw (← ended) at risen) in
    frame_end_told taken f hsync vsync s _ (rw by_end (either (λ k. k ≤ 1) taken (omega arith) (omega arith)))
code_told FrameStart Closed hsync true s h told = opens_told (placed Closed hsync true s)
code_told FrameStart Closed hsync false s h told = opens_told (placed Closed hsync false s)
code_told FrameStart (Open taken f) hsync vsync s h told = errs_told (placed (Open taken f) hsync vsync s) _ (once (placed (Open taken f) hsync vsync s) h told)
code_told LineEnd Closed hsync true s h told = errs_told (placed Closed hsync true s) _ told
code_told LineEnd Closed hsync false s h told = told
code_told LineEnd (Open taken f) true vsync s h told = errs_told (placed (Open taken f) true vsync s) _ (once (placed (Open taken f) true vsync s) h told)
code_told LineEnd (Open taken f) false vsync s h told =
    let n = lines_to_window_end s.registers in
    let (ended, risen) = told in
    line_end_told taken f false vsync s _
    (rw (last_begun (vst s.registers.cwstrt) (vline s.registers.cwsize) f.lines, ← ended) (
      over_blanks n f.lines false,
      risen_on taken (crop s.registers.cr) (over n f.lines false) (leb n f.lines) true h.due (rw (← ended) at risen),
    ))
code_told LineStart Closed hsync true s h told = go (by_line_starts s.registers.escr)
  where
    go : (by_lines : Bool) → let t = placed Closed hsync true s in
        Told (cond by_lines (no_word (frame_opens t)) (errs t)).state (cond by_lines no_history (record { ended = h.ended || false; due = h.due }))
    go true = opens_told (placed Closed hsync true s)
    go false = errs_told (placed Closed hsync true s) _ told
code_told LineStart Closed hsync false s h told = told
code_told LineStart (Open taken f) true vsync s h told =
    let n = lines_to_window_end s.registers in
    let (ended, risen) = told in
    let None_more = not_more taken (crop s.registers.cr) h.ended (last_line_begun s.registers (Open taken f)) h.due risen in
    (rw (last_begun (vst s.registers.cwstrt) (vline s.registers.cwsize) f.lines, ← ended) (over_begins n f.lines), None_more)
code_told LineStart (Open taken f) false vsync s h told = errs_told (placed (Open taken f) false vsync s) _ (once (placed (Open taken f) false vsync s) h told)
code_told Unmatched Closed hsync true s h told = told
code_told Unmatched Closed hsync false s h told = told
code_told Unmatched (Open taken f) hsync vsync s h told =
    let (ended, risen) = told in
    let begins = last_line_begun s.registers (Open taken f) in
    (ended ∙ sym (none_ends h.ended begins), not_more taken (crop s.registers.cr) h.ended begins h.due risen)

pub at_byte_told : (s : Capture) (x : ℕ) (h : FrameHistory) → Told s h → Told (at_byte s x).state (byte_entry h s x)
unfolding at_byte byte_entry with_syncs with_frame
at_byte_told s x h told = go (is_code s.waiting)
  where
    m : Meaning
    m = meaning s.registers.escr s.registers.esur x

    t : Capture
    t = cut_out s

    go : (last : Bool) → Told (cond last (at_code m (cut_out s)) (byte_in s.frame s x)).state (cond last (code_entry m h s) h)
    go true = rw (← same_entry m s h) (code_told m t.frame t.syncs.hsync t.syncs.vsync t h (out_told s.frame s h refl told))
    go false = byte_in_told s.frame s x h refl told

-- At a frame end FRAME has been due in a taken frame.
pub frame_end_risen : (taken : Bool) (f : Scan) (s : Capture) (h : FrameHistory) → s.frame ≡ Open taken f → Told s h → (code_entry FrameEnd h s).due ≡ cond taken 1 0
unfolding code_entry code_starts code_due frame_due frame_rises window_ended hsync_after_window
frame_end_risen taken f s h e told =
    let n = lines_to_window_end s.registers in
    let (ended, risen) = rw e at told in
    rw e (risen_by_end taken (crop s.registers.cr) (over n f.lines s.syncs.hsync) (leb n f.lines && true) h.due (rw (← ended) at risen))
