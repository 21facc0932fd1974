-- `board::one_memory::sample` meets its contract. Assumes nothing.
use mathlib.Core.Path.{sym, ap, ◌∙◌}
use Rattle.std.proofs.lemmas.Result.{err_from_is_err_and}
use Rattle.rules.specs.Run.{SampleResult}
use Rattle.board.proofs.Modes.{one_sample, sample_one, sample_refused, sample_two}
use Rattle.board.proofs.one_memory.sample.Goals as goal

pub returns-in_err-after-in-One : goal.returns-in_err-after-in-One
returns-in_err-after-in-One c = let p = err_from_is_err_and c.from_residual.result c.from_residual.ensures.1 in
    rw (p.1, p.2) (sample_refused _ _ _ _ c.in-One.is (rw c.in_err-after-in-One.was at c.sample.ensures))

pub returns-in_ok-after-in-One : goal.returns-in_ok-after-in-One
returns-in_ok-after-in-One c =
    rw c.in_one.ensures (ap (λ (r : SampleResult). one_sample r) (rw c.in_ok-after-in-One.was at c.sample.ensures) ∙ sym (sample_one _ _ _ _ c.in-One.is))

pub returns-in-Two : goal.returns-in-Two
returns-in-Two c = rw c.unmatched.ensures (sym (sample_two _ _ _ _ _ c.in-Two.is))
