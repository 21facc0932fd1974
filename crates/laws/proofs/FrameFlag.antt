-- FRAME after a sample is FRAME before it, or raised because it was due by rule 4 and no word was lost (`frame_rises_by_rule_4`, W4), with ESS 1 too, by codes (W6): nothing else raises
-- it, and nothing clears it.
-- The idea: rule 3 and an overrun raise other flags, and what is left leaves RIS. Assumes nothing.
use mathlib.Core.Bool.{Bool, true, false, cond, not, ◌&&◌, ◌||◌}
use mathlib.Core.List.{List}
use Rattle.std.specs.Prelude.{Option, None, Some}
use mathlib.Core.Path.{◌≡◌, refl, sym, ap, ◌∙◌}
use Prim.Native.Nat.{ℕ, ◌+◌}
use native.Mathlib.Omega.{arith}
use lib.Dec.{ltb}
use Rattle.bits.specs.Bits.{bit}
use Rattle.bits.proofs.Booleans.{or_true, or_unit, and_unit, and_zero, either}
use Rattle.registers.specs.Control.{capture, embedded, snapshot, edm}
use Rattle.packing.specs.Packing.{per_word}
use Rattle.samples.specs.Samples.{pixel_data}
use Rattle.codes.specs.declared.Waiting.TheVariants.{Zero}
use Rattle.codes.specs.declared.Meaning.{Meaning}
use Rattle.codes.specs.Bytes.{waiting_count, is_code, waiting_after, released}
use Rattle.codes.specs.Meaning.{meaning}
use Rattle.output.specs.declared.Fate.{Fate}
use Rattle.output.specs.declared.Fate.TheVariants.{Held, Lost}
use Rattle.output.specs.Output.{OutputState, offer}
use Rattle.rules.specs.declared.Pins.{Pins}
use Rattle.rules.specs.declared.Syncs.{Syncs}
use Rattle.rules.specs.declared.Frame.{Frame}
use Rattle.rules.specs.declared.Frame.TheVariants.{Closed, Open}
use Rattle.rules.specs.declared.Capture.{Capture}
use Rattle.rules.specs.declared.Device.{Device}
use Rattle.rules.specs.State.{not_blanking, with_waiting, with_cr, with_ris, with_registers, with_pins, with_syncs, with_frame, with_rate, with_partial, raise, clear_capture, close_frame}
use Rattle.rules.specs.Capture.{Captured, no_word, flagged, working_edge, enabled, remember_pins, blanking, any_blanks, vsync_flag, line_flag, sync_flags, window_ended, hsync_after_window, frame_rises, frame_due, end_of, frame_closes, frame_end, starts, open_frame, start_of, frame_start, next_pixel, captured, pack, pixel, pixel_in, pixel_edge, at_edge}
use Rattle.rules.specs.Codes.{coded_syncs, arrived, byte_in, taken_out, frame_opens, line_opens, closes, errs, at_code, at_byte}
use Rattle.rules.specs.Sample.{byte_of, edge, capture_sample}
use Rattle.rules.specs.Run.{lose_frame, after_word, complete, after_grant, step}
use Rattle.laws.specs.FrameHistory.{byte_due, due_at, is_lost}
use Rattle.bits.proofs.Raised.{raised_other, raised_up}
use Rattle.laws.proofs.FrameEdges.{with_flags, sync_flags_flagged}
use Rattle.laws.proofs.FrameCodes.{each_same, due_by_codes, pins_byte_due}
use Rattle.laws.proofs.ByCode.{by_code, by_sample}

-- FRAME is 1.
abbrev flag : Capture → Bool
flag s = bit 0 s.registers.ris

-- Rule 3.
sync_flags_other : (s : Capture) (now : Syncs) → flag (sync_flags s now) ≡ flag s
unfolding sync_flags vsync_flag line_flag raise with_registers with_ris
sync_flags_other s now =
    let t = vsync_flag s now in
    either (λ (u : Capture). flag u ≡ flag s) (not t.syncs.hsync && now.hsync) (raised_other 0 4 t.registers.ris (omega arith) ∙ first) first
  where
    first : flag (vsync_flag s now) ≡ flag s
    first = either (λ (u : Capture). flag u ≡ flag s) (not s.syncs.vsync && now.vsync) (raised_other 0 3 s.registers.ris (omega arith)) refl

-- FRAME, where it is due.
flagged_flag : (c : Captured) → flag (flagged c) ≡ flag c.state || c.due
unfolding flagged raise with_registers with_ris
flagged_flag c = go c.due
  where
    go : (due : Bool) → flag (cond due (raise 0 c.state) c.state) ≡ flag c.state || due
    go true = raised_up 0 c.state.registers.ris ∙ sym (or_true (flag c.state))
    go false = sym (or_unit (flag c.state))

-- The frame's end, rules 5 to 8, and the syncs remembered leave RIS.
end_of_ris : (f : Frame) (s : Capture) → (end_of f s).registers.ris ≡ s.registers.ris
unfolding end_of close_frame with_partial with_frame clear_capture with_registers with_cr
end_of_ris Closed s = refl
end_of_ris (Open taken f) s = either (λ (t : Capture). t.registers.ris ≡ s.registers.ris) (taken && snapshot s.registers.cr) refl refl

frame_closes_ris : (s : Capture) (now : Syncs) → (frame_closes s now).registers.ris ≡ s.registers.ris
unfolding frame_closes
frame_closes_ris s now = either (λ (t : Capture). t.registers.ris ≡ s.registers.ris) now.vsync (end_of_ris s.frame s) refl

start_of_ris : (f : Frame) (now : Syncs) (s : Capture) → (start_of f now s).registers.ris ≡ s.registers.ris
unfolding start_of open_frame with_rate with_frame
start_of_ris Closed now s = either (λ (t : Capture). t.registers.ris ≡ s.registers.ris) (starts s now) refl refl
start_of_ris (Open taken f) now s = refl

pixel_in_ris : (f : Frame) (s : Capture) (now : Syncs) (x : ℕ) → (pixel_in f s now x).state.registers.ris ≡ s.registers.ris
unfolding pixel_in pixel pack no_word with_frame with_partial
pixel_in_ris Closed s now x = refl
pixel_in_ris (Open taken f) s now x =
    let P : Captured → Type 0 = λ c. c.state.registers.ris ≡ s.registers.ris in
    either P (any_blanks now) refl
    (either P (captured s taken (next_pixel s f)) (either P (ltb (s.partial.count + 1) (per_word (edm s.registers.cr))) refl refl) refl)

-- A working edge leaves FRAME. The flags and the remembered levels play no part in whether it is due.
same_due : (f : Frame) (s : Capture) (y : ℕ) (p : Pins) (now : Syncs) → frame_due f (with_flags y (with_pins p s)) now ≡ frame_due f s now
unfolding frame_due frame_rises window_ended hsync_after_window with_pins with_registers with_ris
same_due Closed s y p now = refl
same_due (Open taken f) s y p now = refl

at_edge_flag : (s : Capture) (now : Syncs) (x : ℕ) → flag (at_edge s now x).state ≡ flag s
unfolding at_edge frame_end frame_start pixel_edge with_syncs
at_edge_flag s now x = rw (pixel_in_ris, start_of_ris, frame_closes_ris, sync_flags_other s now)

at_edge_due : (s : Capture) (p : Pins) (now : Syncs) (x : ℕ) → (at_edge (with_pins p s) now x).due ≡ frame_due s.frame s now
unfolding at_edge frame_end with_pins with_registers
at_edge_due s p now x =
    let flagged = sync_flags_flagged (with_pins p s) now in
    rw flagged.is (same_due s.frame s flagged.flags p now)

-- A byte, with ESS 1, leaves FRAME too.
closes_flag : (s : Capture) (now : Syncs) → flag (closes s now).state ≡ flag s
unfolding closes with_syncs
closes_flag s now =
    let u = with_syncs (coded_syncs s) s in
    ap (bit 0) (frame_closes_ris _ now) ∙ either (λ (t : Capture). flag t ≡ flag s) (capture s.registers.cr) (sync_flags_other u now) refl

errs_flag : (s : Capture) → flag (errs s).state ≡ flag s
unfolding errs close_frame with_frame with_partial with_syncs raise with_registers with_ris
errs_flag s = raised_other 0 2 s.registers.ris (omega arith)

opens_flag : (s : Capture) → flag (frame_opens s) ≡ flag s
unfolding frame_opens with_syncs with_rate with_frame
opens_flag s = either (λ (t : Capture). flag (with_syncs not_blanking t) ≡ flag s) (capture s.registers.cr) refl refl

at_code_flag : (m : Meaning) (s : Capture) → flag (at_code m s).state ≡ flag s
unfolding no_word line_opens with_syncs with_frame
at_code_flag m s = by_code (λ c. flag c.state ≡ flag s) s refl (closes_flag s) (errs_flag s) (λ e. opens_flag s) (λ taken f e. refl) (λ e. refl) m

taken_out_flag : (f : Frame) (s : Capture) → flag (taken_out f s) ≡ flag s
unfolding taken_out with_frame
taken_out_flag Closed s = refl
taken_out_flag (Open taken f) s = either (λ (t : Capture). flag t ≡ flag s) s.syncs.hsync refl refl

byte_in_flag : (f : Frame) (s : Capture) (x : ℕ) → flag (byte_in f s x).state ≡ flag s
unfolding byte_in no_word with_waiting with_frame
byte_in_flag Closed s x = refl
byte_in_flag (Open taken f) s x =
    either (λ (c : Captured). flag c.state ≡ flag s) s.syncs.hsync refl
    (rw (each_same _ taken (arrived f) (released s.waiting x) (waiting_count (waiting_after s.waiting x))).registers)

at_byte_flag : (s : Capture) (x : ℕ) → flag (at_byte s x).state ≡ flag s
unfolding at_byte with_waiting
at_byte_flag s x =
    let m = meaning s.registers.escr s.registers.esur x in
    either (λ (c : Captured). flag c.state ≡ flag s) (is_code s.waiting) (at_code_flag m (with_waiting Zero (taken_out s.frame s)) ∙ taken_out_flag s.frame s) (byte_in_flag s.frame s x)

-- A sample.
sample_flag : (s : Capture) (w : ℕ) → flag (capture_sample s w).state ≡ flag s
unfolding no_word remember_pins with_pins
sample_flag s w =
    by_sample (λ c. flag c.state ≡ flag s) s w (at_byte_flag (remember_pins w s) (byte_of w)) (at_edge_flag (remember_pins w s) (blanking s w) (pixel_data w)) refl

pub sample_due : (s : Capture) (w : ℕ) → (capture_sample s w).due ≡ due_at s w
unfolding capture_sample edge no_word remember_pins due_at
sample_due s w = go (working_edge s w && enabled s) (embedded s.registers.cr)
  where
    go : (goes_on coded : Bool)
        → (cond goes_on (cond coded (at_byte (remember_pins w s) (byte_of w)) (at_edge (remember_pins w s) (blanking s w) (pixel_data w))) (no_word (remember_pins w s))).due
        ≡ goes_on && cond coded (byte_due s (byte_of w)) (frame_due s.frame s (blanking s w))
    go true true = due_by_codes (remember_pins w s) (byte_of w) ∙ pins_byte_due s _ (byte_of w)
    go true false = at_edge_due s _ (blanking s w) (pixel_data w)
    go false coded = refl

-- Rule 9.
lose_frame_other : (s : Capture) → flag (lose_frame s) ≡ flag s
unfolding lose_frame close_frame with_frame with_partial clear_capture raise with_registers with_cr with_ris
lose_frame_other s =
    let other = raised_other 0 1 s.registers.ris (omega arith) in
    either (λ (t : Capture). flag t ≡ flag s) (snapshot s.registers.cr) other other

after_word_flag : (f : Fate) (v : ℕ) (c : Captured) (x : OutputState)
    → let r = after_word f v c x in flag r.device.core.capture ≡ flag c.state || (c.due && not (is_lost r.packed))
unfolding after_word is_lost
after_word_flag Held v c x = rw (and_unit c.due) (flagged_flag c)
after_word_flag Lost v c x = rw (and_zero c.due, or_unit (flag c.state)) (lose_frame_other c.state)

complete_flag : (o : Option ℕ) (c : Captured) (x : OutputState)
    → let r = complete o c x in flag r.device.core.capture ≡ flag c.state || (c.due && not (is_lost r.packed))
unfolding complete is_lost
complete_flag None c x = rw (and_unit c.due) (flagged_flag c)
complete_flag (Some v) c x = after_word_flag (offer v x).fate v c (offer v x).state

pub frame_rises_by_rule_4 : (d : Device) (b : List ℕ) (w : ℕ)
    → let s = d.core.capture in let r = step d b w in bit 0 r.device.core.capture.registers.ris
    ≡ bit 0 s.registers.ris || (due_at s w && not (is_lost r.packed))
unfolding step after_grant
frame_rises_by_rule_4 d b w =
    let s = d.core.capture in
    complete_flag _ (capture_sample s w) _ ∙ rw (sample_flag s w, sample_due s w)
