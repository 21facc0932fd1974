-- `turning::rearmed` meets its contract. Assumes nothing.
use mathlib.Core.Path.{refl}
use Rattle.buffers.specs.Turns.{rearmed, with_content, with_place_b}
use Rattle.turning.proofs.rearmed.Goals as goal

pub returns : goal.returns
unfolding rearmed with_content with_place_b
returns c = refl
