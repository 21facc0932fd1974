-- `turning::oldest_opens` meets its contract. Assumes nothing.
use native.Mathlib.Nat.{div-one}
use Rattle.buffers.specs.Turns.{oldest_opens}
use Rattle.turning.proofs.oldest_opens.Goals as goal

pub returns : goal.returns
unfolding oldest_opens
returns c = rw div-one
