-- `fifo::clauses::all_zero` meets its contract. Assumes nothing.
use Rattle.std.proofs.lemmas.Grind.{common_steps}
use native.Mathlib.Omega.{arith}
use Rattle.fifo.proofs.Zeros.{zeros}
use Rattle.fifo.proofs.clauses.all_zero.Goals as goal

pub returns : goal.returns
returns c = rw zeros (grind (arith, common_steps))
