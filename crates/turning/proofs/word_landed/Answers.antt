-- `turning::word_landed` meets its contract. Assumes nothing.
use Rattle.buffers.specs.Turns.{word_landed}
use Rattle.turning.proofs.word_landed.Goals as goal

pub returns-then-last_of_frame : goal.returns-then-last_of_frame
unfolding word_landed
returns-then-last_of_frame c = rw (
  ← c.oldest_buffer-u.ensures,
  ← c.oldest_opens.ensures,
  ← c.opened.ensures,
  ← c.with_tags-l.ensures,
  ← c.last_of_frame.ensures,
  c.if-last_of_frame.true,
  ← c.frame_over.ensures,
)

pub returns-else-last_of_frame : goal.returns-else-last_of_frame
unfolding word_landed
returns-else-last_of_frame c = rw (
  ← c.oldest_buffer-u.ensures,
  ← c.oldest_opens.ensures,
  ← c.opened.ensures,
  ← c.with_tags-l.ensures,
  ← c.last_of_frame.ensures,
  c.if-last_of_frame.false,
)
