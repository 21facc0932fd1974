-- `turning::first_word` meets its contract. Assumes nothing.
use Rattle.buffers.specs.Turns.{first_word, with_turn}
use Rattle.turning.proofs.first_word.Goals as goal

pub returns-then-t : goal.returns-then-t
unfolding first_word with_turn
returns-then-t c = rw c.if-t.true

pub returns-else-t : goal.returns-else-t
unfolding first_word with_turn
returns-else-t c = rw (c.if-t.false, ← c.other.ensures, ← c.with_turn.ensures)
