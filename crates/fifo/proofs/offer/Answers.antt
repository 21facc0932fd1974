-- `fifo::offer` meets its contract. Assumes nothing.
use borrow.Author.Tests.{lt-ltb, le-ltb}
use native.Mathlib.Omega.{arith}
use Rattle.output.specs.Output.{OutputState, with_held, holding, count_word, with_counts, offer}
use Rattle.output.proofs.Contents.{taken_in}
use Rattle.fifo.proofs.offer.Goals as goal

pub one_more-requires : goal.one_more-requires
unfolding count_word with_counts
one_more-requires c = rw c.count_word-counted.ensures (omega (arith, c.if-o.true))

pub returns-then-o : goal.returns-then-o
unfolding offer holding count_word with_counts with_held
returns-then-o c = let a = c.args in
    let x : OutputState = record { output = a.o; slots = a.slots.now } in
    let l = c.requires.laid in
    let space = c.if-o.true in
    rw (lt-ltb _ _ space, c.one_more.ensures, c.count_word-counted.ensures, taken_in x l a.v (omega (arith, space, l.within)))

pub returns-else-o : goal.returns-else-o
unfolding offer
returns-else-o c = rw (le-ltb _ _ c.if-o.false, c.count_word-counted.ensures)
