-- `two_buffers::landed_at` meets its contract. Assumes nothing.
use borrow.Author.Tests.{tests}
use Rattle.std.proofs.Common.{rules}
use Rattle.buffers.specs.Turns.{with_place_b}
use Rattle.buffers.specs.Kept.{landed_at}
use Rattle.two_buffers.proofs.landed_at.Goals as goal

pub returns-in-A : goal.returns-in-A
unfolding landed_at with_place_b
returns-in-A c = search (rules, tests)

pub returns-in-B : goal.returns-in-B
unfolding landed_at with_place_b
returns-in-B c = search (rules, tests)
