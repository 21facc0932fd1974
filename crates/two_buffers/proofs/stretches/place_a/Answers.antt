-- `two_buffers::stretches::place_a` meets its contract. Assumes nothing.
use borrow.Author.Tests.{tests}
use Rattle.std.proofs.Common.{rules}
use Rattle.two_buffers.specs.Stretches.{place_a}
use Rattle.two_buffers.proofs.stretches.place_a.Goals as goal

pub returns-in-A : goal.returns-in-A
unfolding place_a
returns-in-A c = search (rules, tests)

pub returns-in_default : goal.returns-in_default
unfolding place_a
returns-in_default c = search (rules, tests)

pub returns-in_default-2 : goal.returns-in_default-2
unfolding place_a
returns-in_default-2 c = search (rules, tests)
