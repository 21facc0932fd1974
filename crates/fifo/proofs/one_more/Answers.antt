-- `fifo::one_more` meets its contract. Assumes nothing.
use Rattle.output.specs.Output.{with_held}
use Rattle.fifo.proofs.one_more.Goals as goal

pub returns : goal.returns
unfolding with_held
returns c = rw c.apart-after.ensures
