-- `printing::count_line` meets its contract.
use Rattle.text.proofs.Appending.{put_then}
use Rattle.printing.specs.Printed.{count_line}
use Rattle.printing.proofs.count_line.Goals as goal

pub returns : goal.returns
unfolding count_line
returns c = put_then _ _ _ _ _ _ _ _ (put_then _ _ _ _ _ _ _ _ c.put-named.ensures c.put_decimal-counted.ensures) c.put.ensures
