-- `fifo::clauses::bad_counts` meets its contract. Assumes nothing.
use Rattle.output.specs.WellFormed.{bad_counts}
use Rattle.fifo.proofs.clauses.bad_counts.Goals as goal

pub returns : goal.returns
unfolding bad_counts
returns c = rw (← c.sum.ensures)
