-- `sampling::jpeg::jpeg_steps` meets its contract. Assumes nothing.
use mathlib.Core.Path.{sym}
use native.Mathlib.Omega.{arith}
use Rattle.full_word.specs.Answers.{device}
use Rattle.sampling.proofs.Going.{going_on, going_far, going_end, plain_still}
use Rattle.sampling.proofs.Stretches.{stretch_within, stretch_unpadded}
use Rattle.sampling.proofs.jpeg.jpeg_steps.Goals as goal

pub loop-w-preserved-then-pads : goal.loop-w-preserved-then-pads
loop-w-preserved-then-pads c = going_on (rw c.in-Some.ensures.cases.0 at c.loop-w.invariant) _ c.step-e.ensures c.step-e.auto.buffer

pub split_at-requires : goal.split_at-requires
split_at-requires c = let l = c.loop-w in
    rw c.stretch.ensures (stretch_within (device l.e l.slots) l.buffer l.rest.now c.in-Some.ensures.cases.0).1

pub steps_of-e-requires-clause-kind : goal.steps_of-e-requires-clause-kind
steps_of-e-requires-clause-kind c = let l = c.loop-w in
    let none = rw c.if-pads.false at c.pads.ensures in
    rw (c.split_at.ensures.front, c.stretch.ensures)
    (stretch_unpadded (device l.e l.slots) l.buffer l.rest.now c.in-Some.ensures.cases.0 (plain_still l.invariant c.requires.cr_value, none))

pub loop-w-smaller : goal.loop-w-smaller
loop-w-smaller c = let l = c.loop-w in
    omega (arith, c.split_at.ensures.back_len, c.stretch.ensures, (stretch_within (device l.e l.slots) l.buffer l.rest.now c.in-Some.ensures.cases.0).0)

pub loop-w-preserved : goal.loop-w-preserved
loop-w-preserved c =
    going_far c.loop-w.invariant _ _ _ (sym c.split_at.ensures.by_index.0) c.steps_of-e.ensures c.steps_of-e.auto.buffer

pub returns : goal.returns
returns c = sym (going_end c.loop-w.invariant c.in_default.ensures.cases)
