-- A run's loop: what is left of the samples leads from the present device, buffer and places to the same end as all of them from the first.
-- The idea: one step takes the head of what is left. Assumes nothing.
use mathlib.Core.Bool.{false}
use mathlib.Core.List.{List, [], ◌∷◌, ◌++◌}
use mathlib.Core.Path.{◌≡◌, refl, sym, ap, ◌∙◌}
use Prim.Native.Nat.{ℕ, ◌+◌, ◌/◌}
use native.Mathlib.Omega.{arith}
use lib.ListN.{length-append, length}
use Rattle.registers.specs.Control.{embedded}
use Rattle.output.specs.WellFormed.{Laid}
use Rattle.rules.specs.declared.Capture.{Capture}
use Rattle.rules.specs.declared.Device.{Device}
use Rattle.rules.specs.State.{capture_of, output_of}
use Rattle.sampling.specs.Kinds.{Each}
use Rattle.rules.specs.Run.{step}
use Rattle.rules.proofs.WellFormed.{WellFormed}
use Rattle.laws.proofs.RegisterValues.{half_setup, same_embedded}
use Rattle.laws.proofs.KeepsSample.{step_keeps, step_laid, step_samples, step_half}
use Rattle.sampling.specs.Notes.{Noted, noted_step, noted_steps}

pub record Going (samples : List ℕ) (n₀ n : Noted) (rest : List ℕ) : Type 0 where
  pub same : noted_steps n rest ≡ noted_steps n₀ samples
  pub well : WellFormed n.device
  pub laid : Laid (output_of n.device)
  pub count : n.device.core.output.counts.samples + length rest ≡ n₀.device.core.output.counts.samples + length samples
  pub half : n.device.core.capture.registers.cr / 2 ≡ n₀.device.core.capture.registers.cr / 2
  pub long : length n.buffer ≡ length n₀.buffer

-- Some samples at once.
noted_append : (n : Noted) (xs ys : List ℕ) → noted_steps n (xs ++ ys) ≡ noted_steps (noted_steps n xs) ys
unfolding noted_steps
noted_append n [] ys = refl
noted_append n (x ∷ xs) ys = noted_append (noted_step n x) xs ys

along : (n : Noted) (ws : List ℕ) → WellFormed n.device → Laid (output_of n.device)
    → let m = noted_steps n ws in
    WellFormed m.device × Laid (output_of m.device) × (m.device.core.output.counts.samples ≡ n.device.core.output.counts.samples + length ws)
    × (m.device.core.capture.registers.cr / 2 ≡ n.device.core.capture.registers.cr / 2)
unfolding noted_steps noted_step
along n [] well laid = (well, laid, omega arith, refl)
along n (w ∷ ws) well laid =
    let (well', laid', count', half') = along (noted_step n w) ws (step_keeps n.device n.buffer w well) (step_laid n.device n.buffer w laid) in
    (well', laid', omega (arith, count', step_samples n.device n.buffer w), half' ∙ step_half n.device n.buffer w)

-- One step further, and some.
pub going_on : {samples : List ℕ} {n₀ n : Noted} {w : ℕ} {ws : List ℕ} → Going samples n₀ n (w ∷ ws) → (n' : Noted) → n' ≡ noted_step n w → length n'.buffer ≡ length n.buffer
    → Going samples n₀ n' ws
unfolding noted_steps noted_step
going_on {n = n} {w = w} g n' e el =
    let ed : n'.device ≡ (step n.device n.buffer w).device = ap (λ (x : Noted). x.device) e in
    record {
      same = rw e g.same;
      well = rw ed (step_keeps n.device n.buffer w g.well);
      laid = rw ed (step_laid n.device n.buffer w g.laid);
      count = rw (ed, step_samples) (omega (arith, g.count));
      half = rw ed (step_half n.device n.buffer w ∙ g.half);
      long = el ∙ g.long;
    }

module _ {samples : List ℕ} {n₀ n : Noted} {rest : List ℕ} (g : Going samples n₀ n rest) where
  pub going_far : (n' : Noted) (xs ys : List ℕ) → xs ++ ys ≡ rest → n' ≡ noted_steps n xs → length n'.buffer ≡ length n.buffer → Going samples n₀ n' ys
  going_far n' xs ys whole e el =
      let (well, laid, count, half) = along n xs g.well g.laid in
      let long : length rest ≡ length xs + length ys = rw (← whole) (length-append xs ys) in
      record {
        same = rw e (sym (noted_append n xs ys) ∙ ap (λ (ws : List ℕ). noted_steps n ws) whole ∙ g.same);
        well = rw e well;
        laid = rw e laid;
        count = rw e (omega (arith, count, long, g.count));
        half = rw e (half ∙ g.half);
        long = el ∙ g.long;
      }

  -- ESS stays.
  pub same_codes : embedded n.device.core.capture.registers.cr ≡ embedded n₀.device.core.capture.registers.cr
  same_codes = same_embedded _ _ (half_setup _ _ g.half)

  pub plain_still : embedded n₀.device.core.capture.registers.cr ≡ false → embedded n.device.core.capture.registers.cr ≡ false
  plain_still plain = same_codes ∙ plain

pub going_end : {samples : List ℕ} {n₀ n : Noted} {rest : List ℕ} → Going samples n₀ n rest → length rest ≡ 0 → noted_steps n₀ samples ≡ n
unfolding noted_steps
going_end {rest = []} g none = sym g.same
going_end {rest = w ∷ ws} g none = absurd (omega (arith, none))

-- Samples of a kind: the first, and the rest.
pub first_of : (Has : Capture → ℕ → Type 0) (d : Device) (b : List ℕ) {w : ℕ} (ws : List ℕ) → Each Has d b (w ∷ ws) → Has (capture_of d) w
unfolding Each
first_of Has d b ws each = each.0

pub rest_of : (Has : Capture → ℕ → Type 0) (n n' : Noted) (w : ℕ) (ws : List ℕ) → Each Has n.device n.buffer (w ∷ ws) → n' ≡ noted_step n w → Each Has n'.device n'.buffer ws
unfolding Each noted_step
rest_of Has n n' w ws each e = rw e each.1
