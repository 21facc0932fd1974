-- `fifo::landed` meets its contract. Assumes nothing.
use Rattle.output.specs.Output.{with_held, with_place, with_counts, count_landed}
use Rattle.fifo.proofs.landed.Goals as goal

pub returns : goal.returns
unfolding with_held with_place with_counts count_landed
returns c = rw c.apart-after.ensures
