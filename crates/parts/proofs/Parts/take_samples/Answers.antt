-- `Parts::take_samples` meets its contract.
use Rattle.std.proofs.Common.{◌≡◌, replicate, refl, sym, ap, ◌∙◌, arith, eqb, false, List, ℕ, length-take-le, rules}
use Rattle.rules.specs.Run.{RunResult, run}
use Rattle.refusals.proofs.Numbered.{never_zero}
use Rattle.parts.specs.Answers.{taken}
use Rattle.parts.proofs.Stretch.{none_taken, accepted, few, front_room, stretch_taken}
use Rattle.file_rules.proofs.Singles.{run_refused}
use Rattle.parts.proofs.Parts.take_samples.Goals as goal

pub returns-then-is_err-clause-memory_after : goal.returns-then-is_err-clause-memory_after
returns-then-is_err-clause-memory_after c = none_taken _ _ _ refl

pub returns-in_default-clause-memory_after : goal.returns-in_default-clause-memory_after
returns-in_default-clause-memory_after c = none_taken _ _ _ refl

pub returns-in_default-2-clause-memory_after : goal.returns-in_default-2-clause-memory_after
returns-in_default-2-clause-memory_after c = none_taken _ _ _ refl

pub slice_bounds-samples-end : goal.slice_bounds-samples-end
slice_bounds-samples-end c =
    front_room _ _ _ (replicate 512 0) _ _ _ _ c.samples_left.ensures.value c.samples_at.ensures.result_value c.samples_at.ensures.array_after c.in-Ok-1-to-max.is

pub slice_bounds-run-end : goal.slice_bounds-run-end
slice_bounds-run-end c =
    sym (length-take-le _ _ (front_room _ _ _ (replicate 512 0) _ _ _ _ c.samples_left.ensures.value c.samples_at.ensures.result_value c.samples_at.ensures.array_after c.in-Ok-1-to-max.is))

pub returns-in_default-run-clause-memory_after : goal.returns-in_default-run-clause-memory_after
returns-in_default-run-clause-memory_after c =
    let refused : eqb (run _ _ _ _).number 0 ≡ false = sym (ap (λ (x : RunResult). eqb x.number 0) c.in_default-run.ensures) ∙ never_zero c.in_default-run.field-0 in
    let same = ap (λ (x : RunResult). x.memory) c.in_default-run.ensures ∙ run_refused _ _ _ _ refused in
    ap (λ (m : List ℕ). taken c.args.self.now m) same ∙ none_taken _ _ _ refl

pub overflow_mul-self : goal.overflow_mul-self
overflow_mul-self c =
    omega (arith, (few _ _ _ (replicate 512 0) _ _ _ _ c.samples_left.ensures.value c.samples_at.ensures.result_value c.samples_at.ensures.array_after c.in-Ok-1-to-max.is).2, c.well_formed)

pub overflow_add-self : goal.overflow_add-self
overflow_add-self c =
    let fits = few _ _ _ (replicate 512 0) _ _ _ _ c.samples_left.ensures.value c.samples_at.ensures.result_value c.samples_at.ensures.array_after c.in-Ok-1-to-max.is in
    omega (arith, fits.1, c.samples_left.ensures.value, c.samples_left.ensures.result_bound (omega (arith, fits.1, c.samples_left.ensures.value, c.in-Ok-1-to-max.n-is)))

pub overflow_mul-result : goal.overflow_mul-result
overflow_mul-result c =
    omega (arith, (few _ _ _ (replicate 512 0) _ _ _ _ c.samples_left.ensures.value c.samples_at.ensures.result_value c.samples_at.ensures.array_after c.in-Ok-1-to-max.is).2, c.well_formed)

pub returns-clause-bytes_in_bounds : goal.returns-clause-bytes_in_bounds
returns-clause-bytes_in_bounds c =
    (few _ _ _ (replicate 512 0) _ _ _ _ c.samples_left.ensures.value c.samples_at.ensures.result_value c.samples_at.ensures.array_after c.in-Ok-1-to-max.is).2

pub returns-clause-memory_after : goal.returns-clause-memory_after
returns-clause-memory_after c =
    stretch_taken _ _ _ (replicate 512 0) _ _ _ _ c.samples_left.ensures.value c.samples_at.ensures.result_value c.samples_at.ensures.array_after c.in-Ok-1-to-max.is _ _ _ _ _ (record { number = 0; device = c.in-Ok.device; memory = c.run.new.memory }) (search rules) (accepted _ (sym c.is_err.ensures.value ∙ c.if-is_err.false)) (omega (arith, c.in-Ok-1-to-max.n-is)) c.in-Ok.ensures refl
