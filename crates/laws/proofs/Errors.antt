-- Where ERR rises (W6), by what the capture rules say of a sample: never by the sync pins (`no_error_by_pins`), and never with a word (`no_word_in_error`). Where it does, it is 1
-- after the sample (`risen_in_error`), and the frame is gone (`fallen_in_error`). The idea: by codes `errs` alone says so. Assumes nothing.
use mathlib.Core.Bool.{Bool, true, false, ◌&&◌, true≢false}
use mathlib.Core.List.{List, [], ◌∷◌}
use Rattle.std.specs.Prelude.{None}
use mathlib.Core.Path.{◌≡◌, refl, sym, ◌∙◌}
use Prim.Native.Nat.{ℕ}
use Rattle.bits.specs.Bits.{bit}
use Rattle.bits.proofs.Booleans.{either}
use Rattle.registers.specs.Control.{embedded}
use Rattle.codes.specs.declared.Meaning.{Meaning}
use Rattle.codes.specs.Bytes.{waiting_count, is_code, waiting_after, released}
use Rattle.rules.specs.declared.Scan.{Scan}
use Rattle.rules.specs.declared.Frame.{Frame}
use Rattle.rules.specs.declared.Frame.TheVariants.{Closed, Open}
use Rattle.rules.specs.declared.Capture.{Capture}
use Rattle.rules.specs.State.{no_partial, raise, close_frame, with_syncs, with_frame, with_partial, with_registers, with_ris}
use Rattle.rules.specs.Capture.{Captured, no_word, working_edge, enabled, at_edge}
use Rattle.rules.specs.Codes.{seeks, arrived, each_datum, byte_in, closes, errs, at_code, at_byte}
use Rattle.rules.specs.Sample.{edge, capture_sample}
use Rattle.bits.proofs.Raised.{raised_up}
use Rattle.laws.proofs.ByCode.{by_code, by_sample}

-- Where ERR rises: the frame closed, the partial word dropped, only a frame start counts, and FRAME is not due.
pub record Fallen (c : Captured) : Type 0 where
  pub frame : c.state.frame ≡ Closed
  pub partial : c.state.partial ≡ no_partial
  pub seeking : seeks c.state ≡ true
  pub due : c.due ≡ false

-- What is to be shown: where ERR is said to rise there is no word, bit 2 of RIS is 1, and the frame is gone.
record Said (c : Captured) : Type 0 where
  alone : c.error ≡ true → c.word ≡ None
  risen : c.error ≡ true → bit 2 c.state.registers.ris ≡ true
  fallen : c.error ≡ true → Fallen c

silent : (c : Captured) → c.error ≡ false → Said c
silent c quiet = record { alone = λ e. absurd (true≢false (sym e ∙ quiet)); risen = λ e. absurd (true≢false (sym e ∙ quiet)); fallen = λ e. absurd (true≢false (sym e ∙ quiet)) }

-- A code.
errs_said : (s : Capture) → Said (errs s)
unfolding errs raise with_registers with_ris close_frame with_frame with_partial with_syncs seeks
errs_said s = record { alone = λ e. refl; risen = λ e. raised_up 2 s.registers.ris; fallen = λ e. record { frame = refl; partial = refl; seeking = refl; due = refl } }

at_code_said : (m : Meaning) (s : Capture) → Said (at_code m s)
unfolding no_word closes
at_code_said m s = by_code Said s (silent _ refl) (λ now. silent _ refl) (errs_said s) (λ e. silent _ refl) (λ taken f e. silent _ refl) (λ e. silent _ refl) m

-- Another byte.
each_silent : (s : Capture) (taken : Bool) (f : Scan) (xs : List ℕ) (still : ℕ) → (each_datum s taken f xs still).error ≡ false
unfolding each_datum no_word
each_silent s taken f [] still = refl
each_silent s taken f (x ∷ xs) still = refl

byte_in_silent : (f : Frame) (s : Capture) (x : ℕ) → (byte_in f s x).error ≡ false
unfolding byte_in no_word
byte_in_silent Closed s x = refl
byte_in_silent (Open taken f) s x =
    either (λ (c : Captured). c.error ≡ false) s.syncs.hsync refl (each_silent _ taken (arrived f) (released s.waiting x) (waiting_count (waiting_after s.waiting x)))

at_byte_said : (s : Capture) (x : ℕ) → Said (at_byte s x)
unfolding at_byte
at_byte_said s x = either Said (is_code s.waiting) (at_code_said _ _) (silent _ (byte_in_silent s.frame s x))

-- A sample.
sample_said : (s : Capture) (w : ℕ) → Said (capture_sample s w)
unfolding at_edge no_word
sample_said s w = by_sample Said s w (at_byte_said _ _) (silent _ refl) (silent _ refl)

pub no_word_in_error : (s : Capture) (w : ℕ) → (capture_sample s w).error ≡ true → (capture_sample s w).word ≡ None
no_word_in_error s w = (sample_said s w).alone

pub risen_in_error : (s : Capture) (w : ℕ) → (capture_sample s w).error ≡ true → bit 2 (capture_sample s w).state.registers.ris ≡ true
risen_in_error s w = (sample_said s w).risen

pub fallen_in_error : (s : Capture) (w : ℕ) → (capture_sample s w).error ≡ true → Fallen (capture_sample s w)
fallen_in_error s w = (sample_said s w).fallen

pub no_error_by_pins : (s : Capture) (w : ℕ) → embedded s.registers.cr ≡ false → (capture_sample s w).error ≡ false
unfolding capture_sample edge at_edge no_word
no_error_by_pins s w plain = rw plain (either (λ (c : Captured). c.error ≡ false) (working_edge s w && enabled s) refl refl)
