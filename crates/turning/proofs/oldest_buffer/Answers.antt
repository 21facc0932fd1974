-- `turning::oldest_buffer` meets its contract. Assumes nothing.
use native.Mathlib.Nat.{div-one}
use borrow.Author.Tests.{eq-eqb, ne_eqb}
use Rattle.buffers.specs.Turns.{oldest_buffer}
use Rattle.turning.proofs.oldest_buffer.Goals as goal

pub returns-then-t-eq1 : goal.returns-then-t-eq1
unfolding oldest_buffer
returns-then-t-eq1 c = rw (div-one, eq-eqb _ _ c.if-t-eq1.true)

pub returns-else-t-eq1 : goal.returns-else-t-eq1
unfolding oldest_buffer
returns-else-t-eq1 c = rw (div-one, ne_eqb _ _ c.if-t-eq1.false)
