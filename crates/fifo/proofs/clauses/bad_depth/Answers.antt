-- `fifo::clauses::bad_depth` meets its contract. Assumes nothing.
use borrow.Author.Tests.{eq-eqb, ne_eqb}
use Rattle.output.specs.WellFormed.{bad_depth}
use Rattle.fifo.proofs.clauses.bad_depth.Goals as goal

pub returns-then-depth-eq0 : goal.returns-then-depth-eq0
unfolding bad_depth
returns-then-depth-eq0 c = rw (eq-eqb _ _ c.if-depth-eq0.true)

pub returns-else-depth-eq0 : goal.returns-else-depth-eq0
unfolding bad_depth
returns-else-depth-eq0 c = rw (ne_eqb _ _ c.if-depth-eq0.false)
