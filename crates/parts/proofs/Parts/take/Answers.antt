-- `Parts::take` meets its contract.
use Rattle.std.proofs.Common.{sym, ◌∙◌, eqb-true}
use Rattle.parts.proofs.Stretch.{taken_on, taken_all}
use Rattle.parts.proofs.Parts.take.Goals as goal

pub loop-rest-preserved : goal.loop-rest-preserved
loop-rest-preserved c = taken_on c.args.start _ _ _ _ c.args.bytes.now c.take_some-n.result c.loop-rest.invariant c.take_some-n.ensures.memory_after

pub returns : goal.returns
returns c = taken_all c.args.start _ _ c.loop-rest.rest.now c.args.bytes.now c.loop-rest.invariant (eqb-true _ 0 (sym c.is_empty.ensures ∙ c.loop-rest-test.false))
