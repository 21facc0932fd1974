-- `sampling::coded::coded_steps` meets its contract. Assumes nothing.
use mathlib.Core.Path.{sym, ◌∙◌}
use Rattle.full_word.specs.Answers.{device}
use Rattle.sampling.proofs.DataBytes.{each_datum, data_within, data_part}
use Rattle.sampling.proofs.Going.{going_on, going_far, same_codes, going_end}
use Rattle.sampling.proofs.coded.coded_steps.Goals as goal

pub split_at-requires : goal.split_at-requires
split_at-requires c = data_within c.loop-w.rest.now c.loop-w.e.capture.waiting c.data_end-n.result c.data_end-n.ensures

pub steps_of-e-requires-clause-kind : goal.steps_of-e-requires-clause-kind
steps_of-e-requires-clause-kind c = let l = c.loop-w in
    let (none, all) = data_part l.rest.now l.e.capture.waiting c.data_end-n.result c.data_end-n.ensures c.if-n-gt0.true in
    rw c.split_at.ensures.front (each_datum (device l.e l.slots) l.buffer _ (same_codes l.invariant ∙ c.requires.cr_value) none all)

pub loop-w-preserved-then-n-gt0 : goal.loop-w-preserved-then-n-gt0
loop-w-preserved-then-n-gt0 c = going_far c.loop-w.invariant _ _ _ (sym c.split_at.ensures.by_index.0) c.steps_of-e.ensures c.steps_of-e.auto.buffer

pub loop-w-preserved : goal.loop-w-preserved
loop-w-preserved c = going_on (rw c.in-Some.ensures.cases.0 at c.loop-w.invariant) _ c.step-e.ensures c.step-e.auto.buffer

pub returns : goal.returns
returns c = sym (going_end c.loop-w.invariant c.in_default.ensures.cases)
