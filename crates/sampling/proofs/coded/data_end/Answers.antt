-- `sampling::coded::data_end` meets its contract. Assumes nothing.
use lib.ListN.{drop, length-drop}
use native.Mathlib.Omega.{arith}
use Rattle.fifo.proofs.Tail.{tail_part}
use Rattle.sampling.proofs.DataBytes.{run_within}
use Rattle.sampling.proofs.coded.data_end.Goals as goal

pub overflow_add-result : goal.overflow_add-result
overflow_add-result c =
    omega (arith, rw tail_part at c.data_run.ensures, c.requires, c.well_formed, rw length-drop at (run_within (drop c.args.first c.args.samples.now)))
