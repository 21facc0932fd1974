-- `two_buffers::stretches::no_room` meets its contract. Assumes nothing.
use borrow.Author.Tests.{tests}
use Rattle.std.proofs.Common.{rules}
use Rattle.two_buffers.specs.Stretches.{no_room}
use Rattle.two_buffers.proofs.stretches.no_room.Goals as goal

pub returns-then-o-ne0 : goal.returns-then-o-ne0
unfolding no_room
returns-then-o-ne0 c = search (rules, tests)

pub returns-else-o-ne0 : goal.returns-else-o-ne0
unfolding no_room
returns-else-o-ne0 c = search (rules, tests)
