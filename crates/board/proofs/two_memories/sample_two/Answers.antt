-- `board::two_memories::sample_two` meets its contract. Assumes nothing.
use mathlib.Core.List.{[], ◌∷◌}
use mathlib.Core.Path.{sym, ap, ◌∙◌}
use Rattle.std.proofs.lemmas.Result.{err_from_is_err_and}
use Rattle.refusals.proofs.Numbered.{never_zero}
use Rattle.refusals.specs.Table.{outcome}
use Rattle.board_rules.specs.TwoBuffers.{TwoStepped}
use Rattle.fifo.proofs.Tail.{tail_part, put_tail}
use Rattle.board.specs.Answers.{both}
use Rattle.board.proofs.TwoLandings.{landing_fits}
use Rattle.board.proofs.TwoMemories.{refusal_by, Passed, passes, sample_refused, sample_in_one, sample_accepted}
use Rattle.board.proofs.two_memories.sample_two.Goals as goal

pub in_memories-landing-requires : goal.in_memories-landing-requires
in_memories-landing-requires c = λ l e.
    let a = c.args in
    let stepped = rw (tail_part a.memory_a.now, tail_part a.memory_b.now) at c.accepted_sample-after.ensures in
    landing_fits a.b.device c.in-Two.turns (both a.memory_a.now a.start_a a.memory_b.now a.start_b) a.w
    c.well_formed.1.0.0
    c.well_formed.1.1.1.0.0
    l
    (sym (ap (λ (r : TwoStepped). r.landing) stepped) ∙ e)

pub returns-in_default : goal.returns-in_default
returns-in_default c = rw c.unmatched.ensures (sym (sample_in_one _ _ _ c.in_default.is))

pub returns-in_err-refusal_of_both : goal.returns-in_err-refusal_of_both
returns-in_err-refusal_of_both c = let p = err_from_is_err_and c.from_residual.result c.from_residual.ensures.1 in
    rw (p.1, p.2) (sym (sample_refused _ _ _ _ (refusal_by _ _ _ _ c.in-Two.is c.malformed.ensures c.refusal_of_both.ensures ∙ ap outcome c.in_err-refusal_of_both.was) (never_zero _)))

pub accepted_sample-after-requires : goal.accepted_sample-after-requires
accepted_sample-after-requires c =
    let a : Passed c.args.b c.in-Two.turns (both c.args.memory_a.now c.args.start_a c.args.memory_b.now c.args.start_b) (c.args.w ∷ []) =
    passes _ _ _ _ c.in-Two.is (refusal_by _ _ _ _ c.in-Two.is c.malformed.ensures c.refusal_of_both.ensures ∙ ap outcome c.in_ok-refusal_of_both.was) in
    a.accepts

pub returns : goal.returns
returns c = let a = c.args in
    rw (put_tail a.memory_a.now, put_tail a.memory_b.now)
    (sample_accepted _ _ _ _ c.in-Two.is
    (refusal_by _ _ _ _ c.in-Two.is c.malformed.ensures c.refusal_of_both.ensures ∙ ap outcome c.in_ok-refusal_of_both.was)
    (rw (tail_part a.memory_a.now, tail_part a.memory_b.now) at c.accepted_sample-after.ensures)
    c.in_memories-landing.ensures)
