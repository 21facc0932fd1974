-- `turning::last_of_frame` meets its contract. Assumes nothing.
use borrow.Author.Tests.{le-ltb, lt-ltb}
use Rattle.buffers.specs.Turns.{last_of_frame, oldest_opens}
use Rattle.turning.proofs.last_of_frame.Goals as goal

pub returns-then-held-gt0 : goal.returns-then-held-gt0
unfolding last_of_frame oldest_opens
returns-then-held-gt0 c = rw (lt-ltb _ _ c.if-held-gt0.true, ← c.oldest_opens.ensures)

pub returns-else-held-gt0 : goal.returns-else-held-gt0
unfolding last_of_frame oldest_opens
returns-else-held-gt0 c = rw (le-ltb _ _ c.if-held-gt0.false)
