-- `board_words::encodes` meets its contract. Assumes nothing.
use Rattle.image_rules.specs.BoardImage.{encodes}
use Rattle.board_words.proofs.encodes.Goals as goal

pub returns-then-encodes : goal.returns-then-encodes
unfolding encodes
returns-then-encodes c = rw (c.mode_encodes.ensures, c.mode_part.ensures, ← c.device_part.ensures, ← c.encodes.ensures, c.if-encodes.true)

pub returns-else-encodes : goal.returns-else-encodes
unfolding encodes
returns-else-encodes c = rw (← c.device_part.ensures, ← c.encodes.ensures, c.if-encodes.false)
