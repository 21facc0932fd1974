-- A working edge keeps the history of the open frame told (`Told`): whether the window's last line has ended, and how often FRAME was due (request W1).
-- The idea: rule 3 changes RIS alone; what is left goes by whether a frame is open and which syncs blank. Assumes nothing.
use mathlib.Core.Bool.{Bool, true, false, cond, not, ◌&&◌}
use mathlib.Core.Path.{◌≡◌, refl, ap, ◌∙◌}
use Prim.Native.Nat.{ℕ, ◌+◌, ◌≤◌, ◌<◌}
use native.Mathlib.Omega.{arith}
use lib.Dec.{ltb, leb}
use Rattle.bits.proofs.Booleans.{or_false, and_zero, by_cond, either}
use Rattle.registers.specs.Control.{capture, crop, edm}
use Rattle.registers.specs.Window.{vst, vline}
use Rattle.packing.specs.Packing.{per_word}
use Rattle.rules.specs.declared.Syncs.{Syncs}
use Rattle.rules.specs.declared.Scan.{Scan}
use Rattle.rules.specs.declared.Frame.{Frame}
use Rattle.rules.specs.declared.Frame.TheVariants.{Closed, Open}
use Rattle.rules.specs.declared.Capture.{Capture}
use Rattle.rules.specs.CropWindow.{lines_to_window_end}
use Rattle.bits.specs.Bits.{raised}
use Rattle.rules.specs.State.{with_ris, with_registers, with_syncs, with_frame, with_rate, with_partial, raise, close_frame}
use Rattle.rules.specs.Capture.{Captured, no_word, any_blanks, vsync_flag, line_flag, sync_flags, window_ended, hsync_after_window, frame_rises, frame_due, end_of, frame_closes, frame_end, starts, takes, open_frame, start_of, frame_start, line_begins, next_pixel, captured, pack, pixel, pixel_in, pixel_edge, at_edge}
use Rattle.laws.specs.FrameHistory.{FrameHistory, no_history, last_line_begun, edge_starts, edge_entry}
use Rattle.laws.proofs.WindowLines.{over, over_blanks, over_pixel, over_none, risen_on, risen_by_end, last_begun}

-- What the history has to be, by the frame, the lines up to the window's last, CROP, and whether HSYNC blanked at the last working edge.
abbrev pub ToldIn : Frame → ℕ → Bool → Bool → FrameHistory → Type 0
ToldIn Closed n cropped blanked h = h.due ≤ 1
ToldIn (Open taken f) n cropped blanked h =
    (over n f.lines blanked ≡ h.ended) × (h.due ≡ cond (taken && (cropped && h.ended)) 1 0)

abbrev pub Told : Capture → FrameHistory → Type 0
Told s h = ToldIn s.frame (lines_to_window_end s.registers) (crop s.registers.cr) s.syncs.hsync h

-- At most once, whether a frame is open or not. Where none is, that is all that is told.
told_once : (f : Frame) (n : ℕ) (cropped blanked : Bool) (h : FrameHistory) → ToldIn f n cropped blanked h → h.due ≤ 1
told_once Closed n cropped blanked h told = told
told_once (Open taken f) n cropped blanked h told = rw told.1 (either (λ k. k ≤ 1) (taken && (cropped && h.ended)) (omega arith) (omega arith))

pub once : (s : Capture) (h : FrameHistory) → Told s h → h.due ≤ 1
once s h told = told_once s.frame _ _ _ h told

pub none_told : (s : Capture) (h : FrameHistory) → s.frame ≡ Closed → h.due ≤ 1 → Told s h
none_told s h e le = rw e le

-- Rule 3 changes RIS alone.
abbrev pub with_flags : ℕ → Capture → Capture
with_flags x s = with_registers (with_ris x s.registers) s

pub record Flagged (s t : Capture) : Type 0 where
  pub flags : ℕ
  pub is : t ≡ with_flags flags s

none_flagged : (s : Capture) → Flagged s s
unfolding with_registers with_ris
none_flagged s = record { flags = s.registers.ris; is = refl }

raise_flagged : (k : ℕ) (s : Capture) → Flagged s (raise k s)
unfolding raise
raise_flagged k s = record { flags = raised k s.registers.ris; is = refl }

flagged_then : {s t u : Capture} → Flagged s t → Flagged t u → Flagged s u
unfolding with_registers with_ris
flagged_then a b = record { flags = b.flags; is = b.is ∙ ap (with_flags b.flags) a.is }

pub sync_flags_flagged : (s : Capture) (now : Syncs) → Flagged s (sync_flags s now)
unfolding sync_flags vsync_flag line_flag
sync_flags_flagged s now =
    flagged_then
    (either (Flagged s) (not s.syncs.vsync && now.vsync) (raise_flagged 3 s) (none_flagged s))
    (either (Flagged (vsync_flag s now)) (not (vsync_flag s now).syncs.hsync && now.hsync) (raise_flagged 4 _) (none_flagged _))

-- And where its flags rise with CAPTURE 1 alone (W6).
pub flags_flagged : (b : Bool) (u : Capture) (now : Syncs) → Flagged u (cond b (sync_flags u now) u)
flags_flagged true u now = sync_flags_flagged u now
flags_flagged false u now = none_flagged u

abbrev pub blanks : Bool → Bool → Syncs
blanks hsync vsync = record { hsync = hsync; vsync = vsync }

-- A working edge, once the flags are raised. No frame starts where VSYNC blanks.
no_start : (f : Frame) (hsync : Bool) (s : Capture) → start_of f (blanks hsync true) s ≡ s
unfolding start_of starts
no_start Closed hsync s = rw (and_zero (capture s.registers.cr && s.syncs.vsync))
no_start (Open taken f) hsync s = refl

-- Rules 4 (the frame's end) to 8, and the syncs remembered.
abbrev rest : Capture → Syncs → ℕ → Capture
rest s now x = with_syncs now (pixel_edge (frame_start (frame_closes s now) now) now x).state

window_positive : (s : Capture) → 0 < lines_to_window_end s.registers
window_positive s = omega arith

-- VSYNC blanks: no frame is open.
rest_closed : (f : Frame) (s : Capture) (hsync : Bool) (x : ℕ) → s.frame ≡ f → (rest s (blanks hsync true) x).frame ≡ Closed
unfolding frame_closes end_of frame_start pixel_edge pixel_in no_word with_syncs close_frame with_partial with_frame
rest_closed Closed s hsync x e = rw (e, no_start Closed hsync _)
rest_closed (Open taken f) s hsync x e = rw (e, no_start Closed hsync _)

pub at_edge_closed : (s : Capture) (hsync : Bool) (x : ℕ) → (at_edge s (blanks hsync true) x).state.frame ≡ Closed
unfolding at_edge frame_end
at_edge_closed s hsync x = rest_closed (sync_flags s (blanks hsync true)).frame (sync_flags s (blanks hsync true)) hsync x refl

-- FRAME has been due in a taken frame that VSYNC ends.
pub ends_risen : (taken : Bool) (f : Scan) (s : Capture) (hsync : Bool) (h : FrameHistory) → s.frame ≡ Open taken f → Told s h
    → (edge_entry h s (blanks hsync true)).due ≡ cond taken 1 0
unfolding edge_entry edge_starts frame_due frame_rises hsync_after_window window_ended
ends_risen taken f s hsync h e told =
    let n = lines_to_window_end s.registers in
    let (ended, risen) = rw e at told in
    rw e (risen_by_end taken (crop s.registers.cr) (over n f.lines s.syncs.hsync) (leb n f.lines && hsync) h.due (rw (← ended) at risen))

open_ends : (taken : Bool) (f : Scan) (s : Capture) (y x : ℕ) (hsync : Bool) (h : FrameHistory) → s.frame ≡ Open taken f → Told s h
    → Told (rest (with_flags y s) (blanks hsync true) x) (edge_entry h s (blanks hsync true))
unfolding with_registers with_ris
open_ends taken f s y x hsync h e told =
    rw (rest_closed (Open taken f) (with_flags y s) hsync x e, ends_risen taken f s hsync h e told) (either (λ n. n ≤ 1) taken (omega arith) (omega arith))

-- HSYNC alone blanks.
open_blanks : (taken : Bool) (f : Scan) (s : Capture) (y x : ℕ) (h : FrameHistory) → s.frame ≡ Open taken f → Told s h
    → Told (rest (with_flags y s) (blanks true false) x) (edge_entry h s (blanks true false))
unfolding with_registers with_ris frame_closes frame_start start_of pixel_edge pixel_in no_word with_syncs edge_entry edge_starts last_line_begun frame_due frame_rises hsync_after_window window_ended
open_blanks taken f s y x h e told =
    let n = lines_to_window_end s.registers in
    let (ended, risen) = rw e at told in
    rw (e, last_begun (vst s.registers.cwstrt) (vline s.registers.cwsize) f.lines, ← ended) (
      over_blanks n f.lines s.syncs.hsync,
      risen_on taken (crop s.registers.cr) (over n f.lines s.syncs.hsync) (leb n f.lines) true h.due (rw (← ended) at risen),
    )

-- Neither blanks: the edge carries a pixel.
pixel_told : (s : Capture) (taken : Bool) (f : Scan) (x : ℕ) (now : Syncs) (h : FrameHistory)
    → ToldIn (Open taken (next_pixel s f)) (lines_to_window_end s.registers) (crop s.registers.cr) now.hsync h → Told (with_syncs now (pixel s taken f x).state) h
unfolding pixel pack no_word with_syncs with_frame with_partial
pixel_told s taken f x now h told =
    let P : Captured → Type 0 = λ c. Told (with_syncs now c.state) h in
    either P (captured s taken (next_pixel s f)) (either P (ltb (s.partial.count + 1) (per_word (edm s.registers.cr))) told told) told

open_pixel : (taken : Bool) (f : Scan) (s : Capture) (y x : ℕ) (h : FrameHistory) → s.frame ≡ Open taken f → Told s h
    → Told (rest (with_flags y s) (blanks false false) x) (edge_entry h s (blanks false false))
unfolding with_registers with_ris frame_closes frame_start start_of next_pixel line_begins pixel_edge pixel_in edge_entry edge_starts last_line_begun frame_due frame_rises hsync_after_window window_ended
open_pixel taken f s y x h e told =
    let n = lines_to_window_end s.registers in
    let cropped = crop s.registers.cr in
    let (ended, risen) = rw e at told in
    rw e
    (pixel_told _ taken f x (blanks false false) _
    (rw (last_begun (vst s.registers.cwstrt) (vline s.registers.cwsize) f.lines, ← ended) (
      over_pixel n s f (window_positive s),
      risen_on taken cropped (over n f.lines s.syncs.hsync) (leb n f.lines) false h.due (rw (← ended) at risen),
    )))

-- No frame is open: one may start.
none_ends : (f : Frame) (s : Capture) → f ≡ Closed → end_of f s ≡ s
unfolding end_of
none_ends f s e = rw e

none_closes : (s : Capture) (now : Syncs) → s.frame ≡ Closed → frame_closes s now ≡ s
unfolding frame_closes
none_closes s now e = either (λ (t : Capture). t ≡ s) now.vsync (none_ends s.frame s e) refl

started : (s : Capture) (now : Syncs) (x : ℕ) (b : Bool) (h : FrameHistory) → s.frame ≡ Closed → h.due ≤ 1
    → Told (with_syncs now (pixel_edge (cond b (open_frame s) s) now x).state) (cond b no_history h)
unfolding pixel_edge pixel_in no_word with_syncs with_frame with_rate open_frame no_history
started s now x false h e le = rw e le
started s now x true h e le =
    let n = lines_to_window_end s.registers in
    let no_line : Scan = record { lines = 0; pixels = 0 } in
    let one : over n (next_pixel (open_frame s) no_line).lines false ≡ false =
    over_pixel n (open_frame s) no_line (window_positive s) ∙ rw (over_none n s.syncs.hsync (window_positive s), and_zero (leb n 0)) in
    let risen : ◌≡◌ {A = ℕ} 0 (cond (takes s && (crop s.registers.cr && false)) 1 0) = rw (and_zero (crop s.registers.cr), and_zero (takes s)) in
    by_cond (λ (c : Captured). Told (with_syncs now c.state) no_history) (any_blanks now) _ _
    (λ some. (over_none n now.hsync (window_positive s), risen))
    (λ neither. pixel_told _ (takes s) no_line x now no_history (rw (or_false now.hsync now.vsync neither).0 one, risen))

closed_told : (s : Capture) (y x : ℕ) (now : Syncs) (h : FrameHistory) → s.frame ≡ Closed → h.due ≤ 1 → Told (rest (with_flags y s) now x) (edge_entry h s now)
unfolding with_registers with_ris frame_start start_of starts edge_entry edge_starts frame_due
closed_told s y x now h e le = rw (none_closes (with_flags y s) now e, e) (started _ now x (capture s.registers.cr && s.syncs.vsync && not now.vsync) _ refl le)

-- Every working edge.
edge_told : (f : Frame) (s : Capture) (y x : ℕ) (now : Syncs) (h : FrameHistory) → s.frame ≡ f → Told s h → Told (rest (with_flags y s) now x) (edge_entry h s now)
edge_told Closed s y x now h e told = closed_told s y x now h e (rw e at told)
edge_told (Open taken f) s y x now h e told = go now.hsync now.vsync
  where
    go : (hsync vsync : Bool) → Told (rest (with_flags y s) (blanks hsync vsync) x) (edge_entry h s (blanks hsync vsync))
    go hsync true = open_ends taken f s y x hsync h e told
    go true false = open_blanks taken f s y x h e told
    go false false = open_pixel taken f s y x h e told

pub at_edge_told : (s : Capture) (now : Syncs) (x : ℕ) (h : FrameHistory) → Told s h → Told (at_edge s now x).state (edge_entry h s now)
unfolding at_edge frame_end
at_edge_told s now x h told =
    let flagged = sync_flags_flagged s now in
    rw flagged.is (edge_told s.frame s flagged.flags x now h refl told)
