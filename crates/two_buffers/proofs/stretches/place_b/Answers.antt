-- `two_buffers::stretches::place_b` meets its contract. Assumes nothing.
use borrow.Author.Tests.{tests}
use Rattle.std.proofs.Common.{rules}
use Rattle.two_buffers.specs.Stretches.{place_b}
use Rattle.buffers.specs.Turns.{with_place_b}
use Rattle.two_buffers.proofs.stretches.place_b.Goals as goal

pub returns-in-B : goal.returns-in-B
unfolding place_b with_place_b
returns-in-B c = search (rules, tests)

pub returns-in_default : goal.returns-in_default
unfolding place_b with_place_b
returns-in_default c = search (rules, tests)

pub returns-in_default-2 : goal.returns-in_default-2
unfolding place_b with_place_b
returns-in_default-2 c = search (rules, tests)
