-- `sampling::single::sample_core` meets its contract. Assumes nothing.
use lib.ListN.{drop, length-drop}
use mathlib.Core.List.{[], ◌∷◌}
use mathlib.Core.Path.{sym, ap, ◌∙◌}
use native.Mathlib.Omega.{arith}
use Rattle.std.proofs.lemmas.Result.{err_from_is_err_and}
use Rattle.refusals.proofs.Numbered.{never_zero}
use Rattle.refusals.specs.Table.{outcome}
use Rattle.rules.specs.Run.{Stepped, sample}
use Rattle.full_word.specs.Answers.{device}
use Rattle.fifo.proofs.Tail.{tail_part, put_tail}
use Rattle.sampling.proofs.AcceptedRuns.{AcceptedRun, accepted_run, refusal_by, landing_within}
use Rattle.sampling.proofs.Noted.{one_sample, accepted_sample}
use Rattle.sampling.proofs.Ready.{ready}
use Rattle.sampling.proofs.single.sample_core.Goals as goal

pub steps-core-requires : goal.steps-core-requires
steps-core-requires c = let a : AcceptedRun (device c.args.core c.args.slots.now) c.args.memory.now c.args.start (c.args.w ∷ []) = accepted_run _ _ _ _ (refusal_by _ _ _ _ c.malformed_core-bad.ensures c.refusal_of.ensures ∙ ap outcome c.in_ok-refusal_of.was) in
    let (well, laid) = ready _ c.requires a.well in
    record { well_formed = well; laid = laid; samples_bound = a.fits }

pub in_memory-answer-requires : goal.in_memory-answer-requires
in_memory-answer-requires c = λ b e.
    let buffer = drop c.args.start c.args.memory.now in
    let one = one_sample _ _ _ (rw (tail_part, c.no_answer-answer.ensures) at c.steps-core.ensures) in
    let landing = sym (ap (λ (r : Stepped). r.landing) one) ∙ e in
    omega (arith, rw length-drop at (landing_within buffer b (device c.args.core c.args.slots.now) c.args.w landing), c.well_formed.1.1.0.0)

pub returns-in_err-refusal_of : goal.returns-in_err-refusal_of
unfolding sample
returns-in_err-refusal_of c = let a = c.args in
    let refused = refusal_by (device a.core a.slots.now) a.memory.now a.start (a.w ∷ []) c.malformed_core-bad.ensures c.refusal_of.ensures in
    let p = err_from_is_err_and c.from_residual.result c.from_residual.ensures.1 in
    rw (p.1, p.2, refused ∙ ap outcome c.in_err-refusal_of.was, never_zero _)

pub returns : goal.returns
returns c = let a = c.args in
    let d = device a.core a.slots.now in
    let taken = refusal_by d a.memory.now a.start (a.w ∷ []) c.malformed_core-bad.ensures c.refusal_of.ensures in
    rw (put_tail, c.in_memory-answer.ensures)
    (accepted_sample d a.memory.now a.start a.w
    (taken ∙ ap outcome c.in_ok-refusal_of.was)
    (one_sample _ _ _ (rw (tail_part, c.no_answer-answer.ensures) at c.steps-core.ensures)))

pub slice_bounds-steps-start : goal.slice_bounds-steps-start
slice_bounds-steps-start c =
    let a : AcceptedRun (device c.args.core c.args.slots.now) c.args.memory.now c.args.start (c.args.w ∷ []) = accepted_run _ _ _ _ (refusal_by _ _ _ _ c.malformed_core-bad.ensures c.refusal_of.ensures ∙ ap outcome c.in_ok-refusal_of.was) in
    a.within
