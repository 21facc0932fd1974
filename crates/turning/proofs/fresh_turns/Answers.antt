-- `turning::fresh_turns` meets its contract. Assumes nothing.
use mathlib.Core.Path.{refl}
use Rattle.buffers.specs.Turns.{fresh_turns}
use Rattle.turning.proofs.fresh_turns.Goals as goal

pub returns : goal.returns
unfolding fresh_turns
returns c = refl
