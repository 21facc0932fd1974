-- `printing::word_line` meets its contract.
use Rattle.text.proofs.Appending.{put_then}
use Rattle.printing.specs.Printed.{word_line}
use Rattle.printing.proofs.word_line.Goals as goal

pub returns : goal.returns
unfolding word_line
returns c = put_then _ _ _ _ _ _ _ _ (rw c.hex_digits-digits.ensures at c.put-place.ensures) c.put.ensures
