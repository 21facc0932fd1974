-- `turning::with_turn` meets its contract. Assumes nothing.
use mathlib.Core.Path.{refl}
use Rattle.buffers.specs.Turns.{with_turn}
use Rattle.turning.proofs.with_turn.Goals as goal

pub returns : goal.returns
unfolding with_turn
returns c = refl
