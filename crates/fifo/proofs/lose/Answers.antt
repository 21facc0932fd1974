-- `fifo::lose` meets its contract. Assumes nothing.
use Rattle.output.specs.Output.{count_discarded, with_counts}
use Rattle.fifo.proofs.lose.Goals as goal

pub returns : goal.returns
unfolding count_discarded with_counts
returns c = rw c.apart-after.ensures
