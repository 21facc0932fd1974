-- `turning::frame_over` meets its contract. Assumes nothing.
use Rattle.buffers.specs.Turns.{frame_over}
use Rattle.turning.proofs.frame_over.Goals as goal

pub returns-then-is_landing : goal.returns-then-is_landing
unfolding frame_over
returns-then-is_landing c = rw (
  ← c.known.ensures,
  ← c.is_landing.ensures,
  c.if-is_landing.true,
  ← c.with_content.ensures,
  ← c.with_latest.ensures,
)

pub returns-else-is_landing : goal.returns-else-is_landing
unfolding frame_over
returns-else-is_landing c = rw (← c.known.ensures, ← c.is_landing.ensures, c.if-is_landing.false)
