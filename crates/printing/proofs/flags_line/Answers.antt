-- `printing::flags_line` meets its contract.
use Rattle.text.proofs.Appending.{put_then}
use Rattle.printing.specs.Printed.{flags_line}
use Rattle.printing.proofs.flags_line.Goals as goal

pub returns : goal.returns
unfolding flags_line
returns c = put_then _ _ _ _ _ _ _ _ (put_then _ _ _ _ _ _ _ _ c.put-named.ensures (rw c.hex_digits-digits.ensures at c.put-flagged.ensures)) c.put.ensures
