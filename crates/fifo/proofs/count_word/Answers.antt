-- `fifo::count_word` meets its contract. Assumes nothing.
use Rattle.output.specs.Output.{count_word, with_counts}
use Rattle.fifo.proofs.count_word.Goals as goal

pub returns : goal.returns
unfolding count_word with_counts
returns c = rw c.apart-counted.ensures
