-- `turning::discarded` meets its contract. Assumes nothing.
use mathlib.Core.Path.{refl}
use Rattle.buffers.specs.Turns.{discarded, with_tags, with_turn}
use Rattle.turning.proofs.discarded.Goals as goal

pub returns : goal.returns
unfolding discarded with_tags with_turn
returns c = refl
