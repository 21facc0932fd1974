-- The bytes that wait after a sample with ESS 1 (W6): at a working edge with ENABLE 1 those that the byte leaves waiting (`waiting_after`), whatever frame, line, ERR and rule 9 do; else the same (`step_waits`).
-- So none waits after a byte that begins no code where none did (`data_waits`). The idea: data and codes leave what waits, which is set before them. Assumes nothing.
use mathlib.Core.Bool.{Bool, true, false, cond, ◌&&◌}
use mathlib.Core.List.{List}
use mathlib.Core.Path.{◌≡◌, refl, ◌∙◌}
use Prim.Native.Nat.{ℕ}
use lib.Dec.{eqb}
use Rattle.bits.proofs.Booleans.{either}
use Rattle.registers.specs.Control.{snapshot, embedded}
use Rattle.samples.specs.Samples.{bus_grant}
use Rattle.codes.specs.declared.Waiting.{Waiting}
use Rattle.codes.specs.declared.Waiting.TheVariants.{Zero, One, Two, Three}
use Rattle.codes.specs.Bytes.{waiting_count, is_code, waiting_after, released}
use Rattle.codes.specs.Meaning.{meaning}
use Rattle.output.specs.Output.{grant, counted}
use Rattle.rules.specs.declared.Frame.{Frame}
use Rattle.rules.specs.declared.Frame.TheVariants.{Closed, Open}
use Rattle.rules.specs.declared.Capture.{Capture}
use Rattle.rules.specs.declared.Device.{Device}
use Rattle.rules.specs.State.{capture_of, output_of, raise, clear_capture, close_frame, with_cr, with_ris, with_registers, with_pins, with_frame, with_partial, with_waiting}
use Rattle.rules.specs.Capture.{Captured, no_word, flagged, working_edge, enabled, remember_pins}
use Rattle.rules.specs.Codes.{arrived, byte_in, taken_out, at_code, at_byte}
use Rattle.rules.specs.Sample.{byte_of, edge, capture_sample}
use Rattle.rules.specs.Run.{lose_frame, after_grant, step}
use Rattle.laws.proofs.Coded.{each_joined}
use Rattle.laws.proofs.Pace.{at_code_waits}
use Rattle.laws.proofs.KeepsSample.{by_word}

-- A byte that is not the last of a code, and every byte.
byte_in_waits : (f : Frame) (s : Capture) (x : ℕ) → (byte_in f s x).state.waiting ≡ waiting_after s.waiting x
unfolding byte_in no_word with_waiting with_frame
byte_in_waits Closed s x = refl
byte_in_waits (Open taken f) s x =
    let still = waiting_after s.waiting x in
    let t = with_waiting still (with_frame (Open taken (arrived f)) s) in
    either (λ (c : Captured). c.state.waiting ≡ still) s.syncs.hsync refl
    (each_joined t taken (arrived f) (arrived f) (released s.waiting x) (waiting_count still) refl).waiting

at_byte_waits : (s : Capture) (x : ℕ) → (at_byte s x).state.waiting ≡ waiting_after s.waiting x
unfolding at_byte waiting_after with_waiting
at_byte_waits s x = go s.waiting (byte_in_waits s.frame s x)
  where
    t : Capture
    t = with_waiting Zero (taken_out s.frame s)

    after_code : (at_code (meaning s.registers.escr s.registers.esur x) t).state.waiting ≡ Zero
    after_code = at_code_waits (meaning s.registers.escr s.registers.esur x) t

    go : (k : Waiting) → (byte_in s.frame s x).state.waiting ≡ waiting_after k x
        → (cond (is_code k) (at_code (meaning s.registers.escr s.registers.esur x) t) (byte_in s.frame s x)).state.waiting ≡ waiting_after k x
    go Zero e = e
    go One e = e
    go Two e = e
    go Three e = after_code

-- A sample: what waits after it.
abbrev pub waits_then : Capture → ℕ → Waiting
waits_then s w = cond (working_edge s w && enabled s) (waiting_after s.waiting (byte_of w)) s.waiting

sample_waits : (s : Capture) (w : ℕ) → embedded s.registers.cr ≡ true → (capture_sample s w).state.waiting ≡ waits_then s w
unfolding capture_sample edge no_word remember_pins with_pins
sample_waits s w coded = rw coded (go (working_edge s w && enabled s))
  where
    go : (goes_on : Bool) → (cond goes_on (at_byte (remember_pins w s) (byte_of w)) (no_word (remember_pins w s))).state.waiting ≡ cond goes_on (waiting_after s.waiting (byte_of w)) s.waiting
    go true = at_byte_waits (remember_pins w s) (byte_of w)
    go false = refl

flagged_waits : (c : Captured) → (flagged c).waiting ≡ c.state.waiting
unfolding flagged raise with_registers with_ris
flagged_waits c = either (λ (t : Capture). t.waiting ≡ c.state.waiting) c.due refl refl

lost_waits : (s : Capture) → (lose_frame s).waiting ≡ s.waiting
unfolding lose_frame close_frame with_frame with_partial clear_capture raise with_registers with_cr with_ris
lost_waits s = either (λ (t : Capture). t.waiting ≡ s.waiting) (snapshot s.registers.cr) refl refl

module _ (d : Device) (b : List ℕ) (w : ℕ) (coded : embedded d.core.capture.registers.cr ≡ true) where
  pub step_waits : (step d b w).device.core.capture.waiting ≡ waits_then (capture_of d) w
  unfolding step after_grant
  step_waits =
      let s = capture_of d in
      let c = capture_sample s w in
      let here = sample_waits s w coded in
      let same = flagged_waits c ∙ here in
      by_word (λ (e : Device). e.core.capture.waiting ≡ waits_then s w) c.word c (grant (bus_grant w) (enabled s) (counted (output_of d)) b).state
      same (λ e. same) (λ v. same) (λ v. lost_waits c.state ∙ here)

  pub data_waits : d.core.capture.waiting ≡ Zero → eqb (byte_of w) 0xFF ≡ false → (step d b w).device.core.capture.waiting ≡ Zero
  unfolding waiting_after working_edge
  data_waits none other = step_waits ∙ rw none (go (working_edge (capture_of d) w && enabled (capture_of d)))
    where
      go : (goes_on : Bool) → cond goes_on (waiting_after Zero (byte_of w)) Zero ≡ Zero
      go true = rw other
      go false = refl
