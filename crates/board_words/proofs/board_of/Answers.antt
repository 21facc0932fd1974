-- `board_words::board_of` meets its contract. Assumes nothing.
use Rattle.image_rules.specs.BoardImage.{board_of}
use Rattle.board_words.proofs.board_of.Goals as goal

pub returns : goal.returns
unfolding board_of
returns c = rw (c.device_of.ensures, c.device_part.ensures, c.mode_of.ensures, c.mode_part.ensures)
