-- The loop over some samples with two frame buffers: what is left of them leads from the present device, turns and buffers to the same end as all of them from the first.
-- The idea: one step takes the head of what is left, a stretch some of it. Assumes nothing.
use mathlib.Core.List.{List, [], ◌∷◌, ◌++◌}
use mathlib.Core.Path.{◌≡◌, refl, sym, ap, ◌∙◌}
use Prim.Native.Nat.{ℕ, ◌+◌}
use native.Mathlib.Omega.{arith}
use lib.ListN.{length-append, length}
use Rattle.buffers.specs.Turns.{oldest_buffer}
use Rattle.output.specs.Output.{with_place}
use Rattle.output.specs.WellFormed.{Laid}
use Rattle.rules.specs.State.{output_of}
use Rattle.rules.proofs.WellFormed.{WellFormed}
use Rattle.laws.proofs.KeepsSample.{step_laid, step_samples}
use Rattle.board_rules.specs.TwoBuffers.{part, Two, TwoStepped, two_step, two_steps}
use Rattle.board_rules.proofs.WellFormed.{TurnsOk}
use Rattle.board_laws.proofs.TwoKeeps.{two_step_keeps, two_steps_keep}
use Rattle.two_buffers.proofs.OneStep.{found, inner, placed_laid}

-- A sample leaves the FIFO laid out, and is counted.
step_two_laid : (x : Two) (w : ℕ) → Laid (output_of x.device) → Laid (output_of (two_step x w).after.device)
unfolding two_step
step_two_laid x w laid =
    placed_laid _ (inner x w).device (step_laid (found x) (part (oldest_buffer x.turns) x.buffers) w (placed_laid _ x.device laid))

step_two_samples : (x : Two) (w : ℕ) → (two_step x w).after.device.core.output.counts.samples ≡ x.device.core.output.counts.samples + 1
unfolding two_step with_place
step_two_samples x w = step_samples (found x) (part (oldest_buffer x.turns) x.buffers) w

-- Some samples at once.
two_append : (x : Two) (xs ys : List ℕ) → two_steps x (xs ++ ys) ≡ two_steps (two_steps x xs) ys
unfolding two_steps
two_append x [] ys = refl
two_append x (w ∷ ws) ys = two_append (two_step x w).after ws ys

along : (x : Two) (ws : List ℕ) → Laid (output_of x.device)
    → Laid (output_of (two_steps x ws).device) × ((two_steps x ws).device.core.output.counts.samples ≡ x.device.core.output.counts.samples + length ws)
unfolding two_steps
along x [] laid = (laid, omega arith)
along x (w ∷ ws) laid =
    let (laid', count) = along (two_step x w).after ws (step_two_laid x w laid) in
    (laid', omega (arith, count, step_two_samples x w))

-- What is left of the samples leads to the same end as all of them from the first.
pub record Turning (samples : List ℕ) (x₀ x : Two) (rest : List ℕ) : Type 0 where
  pub same : two_steps x rest ≡ two_steps x₀ samples
  pub well : WellFormed x.device
  pub turns : TurnsOk x.device.core.output x.turns
  pub laid : Laid (output_of x.device)
  pub count : x.device.core.output.counts.samples + length rest ≡ x₀.device.core.output.counts.samples + length samples
  pub long_a : length x.buffers.a ≡ length x₀.buffers.a
  pub long_b : length x.buffers.b ≡ length x₀.buffers.b

pub turning_on : {samples : List ℕ} {x₀ x : Two} {w : ℕ} {ws : List ℕ} → Turning samples x₀ x (w ∷ ws) → (r : TwoStepped) → r ≡ two_step x w → length r.after.buffers.a ≡ length x.buffers.a
    → length r.after.buffers.b ≡ length x.buffers.b → Turning samples x₀ r.after ws
unfolding two_steps
turning_on {x = x} {w = w} g r e long_a long_b =
    let (well, turns) = two_step_keeps x w g.well g.turns in
    record {
      same = rw e g.same;
      well = rw e well;
      turns = rw e turns;
      laid = rw e (step_two_laid x w g.laid);
      count = rw (e, step_two_samples x w) (omega (arith, g.count));
      long_a = long_a ∙ g.long_a;
      long_b = long_b ∙ g.long_b;
    }

pub turning_far : {samples : List ℕ} {x₀ x : Two} {rest : List ℕ} → Turning samples x₀ x rest → (x' : Two) (xs ys : List ℕ) → xs ++ ys ≡ rest → x' ≡ two_steps x xs
    → length x'.buffers.a ≡ length x.buffers.a → length x'.buffers.b ≡ length x.buffers.b → Turning samples x₀ x' ys
turning_far {x = x} {rest = rest} g x' xs ys whole e long_a long_b =
    let (laid, count) = along x xs g.laid in
    let (well, turns) = two_steps_keep x xs g.well g.turns in
    let long : length rest ≡ length xs + length ys = rw (← whole) (length-append xs ys) in
    record {
      same = rw e (sym (two_append x xs ys) ∙ ap (λ (ws : List ℕ). two_steps x ws) whole ∙ g.same);
      well = rw e well;
      turns = rw e turns;
      laid = rw e laid;
      count = rw e (omega (arith, count, long, g.count));
      long_a = long_a ∙ g.long_a;
      long_b = long_b ∙ g.long_b;
    }

pub turning_end : {samples : List ℕ} {x₀ x : Two} {rest : List ℕ} → Turning samples x₀ x rest → length rest ≡ 0 → two_steps x₀ samples ≡ x
unfolding two_steps
turning_end {rest = []} g none = sym g.same
turning_end {rest = w ∷ ws} g none = absurd (omega (arith, none))
