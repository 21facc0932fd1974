-- `turning::oldest_place` meets its contract. Assumes nothing.
use Rattle.buffers.specs.Turns.{oldest_place}
use Rattle.turning.proofs.oldest_place.Goals as goal

pub returns-then-oldest_opens : goal.returns-then-oldest_opens
unfolding oldest_place
returns-then-oldest_opens c = rw (← c.oldest_opens.ensures, c.if-oldest_opens.true)

pub returns-in-A : goal.returns-in-A
unfolding oldest_place
returns-in-A c = rw (
  ← c.oldest_opens.ensures,
  c.if-oldest_opens.false,
  ← c.oldest_buffer.ensures,
  c.in-A.is,
)

pub returns-in-B : goal.returns-in-B
unfolding oldest_place
returns-in-B c = rw (
  ← c.oldest_opens.ensures,
  c.if-oldest_opens.false,
  ← c.oldest_buffer.ensures,
  c.in-B.is,
)
