-- `fifo::room` meets its contract. Assumes nothing.
use mathlib.Core.Path.{refl}
use Rattle.output.specs.Output.{room}
use Rattle.fifo.proofs.room.Goals as goal

pub returns : goal.returns
unfolding room
returns c = refl
