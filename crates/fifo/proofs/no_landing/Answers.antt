-- `fifo::no_landing` meets its contract. Assumes nothing.
use mathlib.Core.Path.{refl}
use Rattle.output.specs.Output.{no_landing}
use Rattle.fifo.proofs.no_landing.Goals as goal

pub returns : goal.returns
unfolding no_landing
returns c slots buffer = refl
