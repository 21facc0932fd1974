-- `board::two_memories::run_two` meets its contract. Assumes nothing.
use mathlib.Core.Path.{sym, ap, ◌∙◌}
use Rattle.std.proofs.lemmas.Result.{err_from_is_err_and}
use Rattle.refusals.proofs.Numbered.{never_zero}
use Rattle.refusals.specs.Table.{outcome}
use Rattle.fifo.proofs.Tail.{tail_part, put_tail}
use Rattle.board.specs.Answers.{both}
use Rattle.board.proofs.TwoMemories.{refusal_by, Passed, passes, run_refused, run_in_one, run_accepted}
use Rattle.board.proofs.two_memories.run_two.Goals as goal

pub returns-in_default : goal.returns-in_default
returns-in_default c = rw c.unmatched.ensures (sym (run_in_one _ _ _ c.in_default.is))

pub returns-in_err-refusal_of_both : goal.returns-in_err-refusal_of_both
returns-in_err-refusal_of_both c = let p = err_from_is_err_and c.from_residual.result c.from_residual.ensures.1 in
    rw (p.1, p.2) (sym (run_refused _ _ _ _ (refusal_by _ _ _ _ c.in-Two.is c.malformed.ensures c.refusal_of_both.ensures ∙ ap outcome c.in_err-refusal_of_both.was) (never_zero _)))

pub accepted_run-requires : goal.accepted_run-requires
accepted_run-requires c =
    let a : Passed c.args.b c.in-Two.turns (both c.args.memory_a.now c.args.start_a c.args.memory_b.now c.args.start_b) c.args.samples.now =
    passes _ _ _ _ c.in-Two.is (refusal_by _ _ _ _ c.in-Two.is c.malformed.ensures c.refusal_of_both.ensures ∙ ap outcome c.in_ok-refusal_of_both.was) in
    a.accepts

pub returns : goal.returns
returns c = let a = c.args in
    rw (put_tail a.memory_a.now, put_tail a.memory_b.now)
    (run_accepted _ _ _ _ c.in-Two.is
    (refusal_by _ _ _ _ c.in-Two.is c.malformed.ensures c.refusal_of_both.ensures ∙ ap outcome c.in_ok-refusal_of_both.was)
    (rw (tail_part a.memory_a.now, tail_part a.memory_b.now) at c.accepted_run.ensures))
