-- `trace_writer::put_samples` meets its contract.
use Rattle.numbers.proofs.Putting.{filled}
use Rattle.trace_writer.proofs.Filling.{samples_start, sample_on, no_samples}
use Rattle.trace_writer.proofs.put_samples.Goals as goal

pub loop-i-init : goal.loop-i-init
loop-i-init c = samples_start _ _ _ c.requires

pub loop-i-preserved : goal.loop-i-preserved
loop-i-preserved c = sample_on _ _ _ _ _ _ c.loop-i.invariant c.loop-i-test.true c.put.ensures

pub returns : goal.returns
returns c = filled _ _ _ _ c.loop-i.invariant (no_samples _ _ c.loop-i-test.false)
