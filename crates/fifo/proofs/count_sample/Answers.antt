-- `fifo::count_sample` meets its contract. Assumes nothing.
use Rattle.output.specs.Output.{count_sample, with_counts}
use Rattle.fifo.proofs.count_sample.Goals as goal

pub returns : goal.returns
unfolding count_sample with_counts
returns c = rw c.apart-counted.ensures
