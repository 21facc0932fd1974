-- What a sample makes of the capture state: a well-formed one stays so, with one more allowed in the bound on lines and pixels; CR stays but for CAPTURE, OVR and the pins
-- stay, and ERR does unless it is said to rise (`Left`). FRAME, where it is due after the sample, changes none of this. Assumes nothing.
use mathlib.Core.Bool.{true, ◌&&◌}
use Rattle.std.specs.Prelude.{Some}
use mathlib.Core.Path.{◌≡◌, ◌∙◌}
use Prim.Native.Nat.{ℕ, ◌+◌, ◌/◌}
use native.Mathlib.Omega.{arith}
use Rattle.bits.specs.Bits.{bit}
use Rattle.bits.proofs.Booleans.{and_true, by_cond, either}
use Rattle.registers.specs.Control.{embedded, enable}
use Rattle.samples.specs.Samples.{pixel_data}
use Rattle.rules.specs.declared.Capture.{Capture}
use Rattle.rules.specs.State.{with_pins, with_syncs}
use Rattle.rules.specs.Capture.{Captured, no_word, working_edge, enabled, remember_pins, blanking}
use Rattle.rules.specs.Sample.{byte_of, edge, capture_sample, next_capture}
use Rattle.rules.proofs.WellFormed.{CaptureOk}
use Rattle.laws.proofs.RegisterValues.{half_enable}
use Rattle.laws.proofs.CaptureParts.{pins_syncs_ok}
use Rattle.laws.proofs.Kept.{kept, flagged_kept}
use Rattle.laws.proofs.Moved.{Moved, at_edge_moved}
use Rattle.laws.proofs.Coded.{Left, kept_left, at_byte_left}

-- Rules 2 to 8, once the pins are remembered.
moved_left : {s : Capture} {c : Captured} → Moved s c → Left s c
moved_left m = record { ok = m.ok; half = m.half; overrun = m.overrun; error = λ e. m.error; pins = m.pins }

pub sample_left : (s : Capture) (w : ℕ) → Left (remember_pins w s) (capture_sample s w)
unfolding capture_sample edge no_word remember_pins with_pins
sample_left s w =
    by_cond (Left (remember_pins w s)) (working_edge s w && enabled s) _ _
    (λ t.
    either (Left (remember_pins w s)) (embedded s.registers.cr)
    (at_byte_left (remember_pins w s) (byte_of w) (and_true (working_edge s w) (enabled s) t).1)
    (moved_left (at_edge_moved (remember_pins w s) (blanking s w) (pixel_data w))))
    (λ t. kept_left (kept _))

pub sample_ok : {n : ℕ} {s : Capture} (w : ℕ) → CaptureOk n s → CaptureOk (n + 1) (capture_sample s w).state
unfolding remember_pins with_pins with_syncs
sample_ok {n} {s} w h = (sample_left s w).ok n (pins_syncs_ok _ s.syncs (omega arith) h)

-- After a sample that loses no word, FRAME raised where it is due.
pub next_half : (s : Capture) (w : ℕ) → (next_capture s w).registers.cr / 2 ≡ s.registers.cr / 2
unfolding next_capture remember_pins with_pins
next_half s w = (flagged_kept (capture_sample s w)).half ∙ (sample_left s w).half

pub next_overrun : (s : Capture) (w : ℕ) → bit 1 (next_capture s w).registers.ris ≡ bit 1 s.registers.ris
unfolding next_capture remember_pins with_pins
next_overrun s w = (flagged_kept (capture_sample s w)).overrun ∙ (sample_left s w).overrun

pub next_enable : (s : Capture) (w : ℕ) → enable (next_capture s w).registers.cr ≡ enable s.registers.cr
next_enable s w = half_enable _ _ (next_half s w)

-- A word is completed with ENABLE 1 only.
pub word_enabled : (s : Capture) (w v : ℕ) → (capture_sample s w).word ≡ Some v → enable s.registers.cr ≡ true
unfolding capture_sample no_word
word_enabled s w v =
    by_cond (λ (c : Captured). c.word ≡ Some v → enable s.registers.cr ≡ true) (working_edge s w && enabled s) _ _
    (λ t is. (and_true (working_edge s w) (enabled s) t).1)
    (λ t is. let z : ◌≡◌ {A = ℕ} 0 1 = cc in absurd (omega arith))
