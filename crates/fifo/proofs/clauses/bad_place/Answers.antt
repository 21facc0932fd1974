-- `fifo::clauses::bad_place` meets its contract. Assumes nothing.
use mathlib.Core.Path.{refl}
use Rattle.output.specs.WellFormed.{bad_place}
use Rattle.fifo.proofs.clauses.bad_place.Goals as goal

pub returns : goal.returns
unfolding bad_place
returns c = refl
