-- `fifo::discard` meets its contract. Assumes nothing.
use Rattle.output.specs.Output.{laid, with_held, holding, with_counts, count_discarded, discard}
use Rattle.fifo.proofs.discard.Goals as goal

pub returns : goal.returns
unfolding laid with_held holding with_counts count_discarded discard
returns c = rw c.apart-after.ensures
