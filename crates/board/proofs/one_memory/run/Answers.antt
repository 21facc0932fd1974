-- `board::one_memory::run` meets its contract. Assumes nothing.
use mathlib.Core.Path.{sym, ap, ◌∙◌}
use Rattle.std.proofs.lemmas.Result.{err_from_is_err_and}
use Rattle.rules.specs.Run.{RunResult}
use Rattle.board.proofs.Modes.{one_run, run_one, run_refused, run_two}
use Rattle.board.proofs.one_memory.run.Goals as goal

pub returns-in_err-run-in-One : goal.returns-in_err-run-in-One
returns-in_err-run-in-One c = let p = err_from_is_err_and c.from_residual.result c.from_residual.ensures.1 in
    rw (p.1, p.2) (run_refused _ _ _ _ c.in-One.is (rw c.in_err-run-in-One.was at c.run.ensures))

pub returns-in_ok-run-in-One : goal.returns-in_ok-run-in-One
returns-in_ok-run-in-One c =
    rw c.in_one.ensures (ap (λ (r : RunResult). one_run r) (rw c.in_ok-run-in-One.was at c.run.ensures) ∙ sym (run_one _ _ _ _ c.in-One.is))

pub returns-in-Two : goal.returns-in-Two
returns-in-Two c = rw c.unmatched.ensures (sym (run_two _ _ _ _ _ c.in-Two.is))
