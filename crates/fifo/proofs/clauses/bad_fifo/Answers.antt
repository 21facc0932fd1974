-- `fifo::clauses::bad_fifo` meets its contract. Assumes nothing.
use mathlib.Core.List.{List}
use mathlib.Core.Path.{◌≡◌}
use Prim.Native.Nat.{ℕ, ◌-◌, min}
use native.Mathlib.Omega.{arith}
use lib.ListN.{length, take, drop}
use borrow.Author.Tests.{le-ltb, lt-ltb}
use Rattle.std.proofs.lemmas.Grind.{common_steps}
use Rattle.output.specs.WellFormed.{bad_fifo}
use Rattle.fifo.proofs.clauses.bad_fifo.Goals as goal

-- From the end on there are none.
unused : (slots : List ℕ) (held : ℕ) → length slots ≡ 32 → take (32 - min 32 held) (drop (min 32 held) slots) ≡ drop held slots
unused slots held all = grind (arith, common_steps)

pub returns-then-o : goal.returns-then-o
unfolding bad_fifo
returns-then-o c = rw (lt-ltb _ _ c.if-o.true)

pub returns-else-o : goal.returns-else-o
unfolding bad_fifo
returns-else-o c =
    let h = c.args.o.held in
    let s = c.args.slots.now in
    rw (c.all_zero.ensures, c.min.ensures, unused s h c.told-slots, le-ltb _ _ c.if-o.false)
