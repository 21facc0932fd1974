-- `two_buffers::stretches::first_place` meets its contract. Assumes nothing.
use borrow.Author.Tests.{tests}
use Rattle.std.proofs.Common.{rules}
use Rattle.two_buffers.specs.Stretches.{first_place}
use Rattle.two_buffers.proofs.stretches.first_place.Goals as goal

pub returns-then-first_opens : goal.returns-then-first_opens
unfolding first_place
returns-then-first_opens c = search (rules, tests)

pub returns-in-A : goal.returns-in-A
unfolding first_place
returns-in-A c = search (rules, tests)

pub returns-in-B : goal.returns-in-B
unfolding first_place
returns-in-B c = search (rules, tests)
