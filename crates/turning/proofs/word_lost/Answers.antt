-- `turning::word_lost` meets its contract. Assumes nothing.
use Rattle.buffers.specs.Turns.{word_lost}
use Rattle.turning.proofs.word_lost.Goals as goal

pub returns : goal.returns
unfolding word_lost
returns c = rw (← c.first_word.ensures, ← c.discarded.ensures)
