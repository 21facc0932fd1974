-- `turning::with_tags` meets its contract. Assumes nothing.
use mathlib.Core.Path.{refl}
use Rattle.buffers.specs.Turns.{with_tags}
use Rattle.turning.proofs.with_tags.Goals as goal

pub returns : goal.returns
unfolding with_tags
returns c = refl
