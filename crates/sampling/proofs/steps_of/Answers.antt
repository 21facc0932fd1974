-- `sampling::steps_of` meets its contract. Assumes nothing.
use lib.ListN.{length-drop}
use lib.Seq.{drop-cons}
use mathlib.Core.Path.{sym}
use native.Mathlib.Numerals.{add-one}
use native.Mathlib.Omega.{arith}
use Rattle.sampling.proofs.Going.{going_on, going_end, first_of, rest_of}
use Rattle.sampling.proofs.steps_of.Goals as goal

pub step-e-requires-clause-kind : goal.step-e-requires-clause-kind
step-e-requires-clause-kind g c = first_of _ _ _ _ (rw (drop-cons c.args.samples.now c.loop-w.w-index 0 c.loop-w-test.true) at c.loop-w.invariant.1)

pub loop-w-preserved : goal.loop-w-preserved
loop-w-preserved g c = let (going, each) = rw (drop-cons c.args.samples.now c.loop-w.w-index 0 c.loop-w-test.true) at c.loop-w.invariant in
    rw add-one (going_on going _ c.step-e.ensures c.step-e.auto.buffer, rest_of _ _ _ _ _ each c.step-e.ensures)

pub returns : goal.returns
returns g c = sym (going_end c.loop-w.invariant.0 (rw length-drop (omega (arith, c.loop-w-test.false))))
