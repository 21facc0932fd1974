-- `turning::with_latest` meets its contract. Assumes nothing.
use mathlib.Core.Path.{refl}
use Rattle.buffers.specs.Turns.{with_latest}
use Rattle.turning.proofs.with_latest.Goals as goal

pub returns : goal.returns
unfolding with_latest
returns c = refl
