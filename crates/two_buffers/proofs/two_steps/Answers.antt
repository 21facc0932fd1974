-- `two_buffers::two_steps` meets its contract. Assumes nothing.
use mathlib.Core.Path.{sym}
use Rattle.two_buffers.specs.Answers.{two, stepped}
use Rattle.two_buffers.proofs.Stretching.{stretch_to}
use Rattle.two_buffers.proofs.Turning.{turning_on, turning_far, turning_end}
use Rattle.two_buffers.proofs.two_steps.Goals as goal

pub split_at-requires : goal.split_at-requires
split_at-requires c = (stretch_to c.stretch_end-n.ensures c.if-n-gt0.true).inside

pub run_stretch-e-requires-clause-b_value : goal.run_stretch-e-requires-clause-b_value
run_stretch-e-requires-clause-b_value c = (stretch_to c.stretch_end-n.ensures c.if-n-gt0.true).runs

pub run_stretch-e-requires-clause-lasts : goal.run_stretch-e-requires-clause-lasts
run_stretch-e-requires-clause-lasts c = rw c.split_at.ensures.front (stretch_to c.stretch_end-n.ensures c.if-n-gt0.true).lasts

pub loop-w-preserved-then-n-gt0 : goal.loop-w-preserved-then-n-gt0
loop-w-preserved-then-n-gt0 c = let r = c.run_stretch-e in
    turning_far c.loop-w.invariant (two r.result r.new.slots r.new.a r.new.b) _ _ (sym c.split_at.ensures.by_index.0) r.ensures r.auto.a r.auto.b

pub loop-w-preserved : goal.loop-w-preserved
loop-w-preserved c = let r = c.two_step in
    turning_on (rw c.in-Some.ensures.cases.0 at c.loop-w.invariant) (stepped r.result r.new.slots r.new.a r.new.b) r.ensures r.auto.a r.auto.b

pub returns : goal.returns
returns c = sym (turning_end c.loop-w.invariant c.in_default.ensures.cases)
