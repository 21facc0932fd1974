-- `two_buffers::placed` meets its contract. Assumes nothing.
use borrow.Author.Tests.{tests}
use Rattle.std.proofs.Common.{rules}
use Rattle.output.specs.Output.{with_place}
use Rattle.two_buffers.specs.Answers.{placed}
use Rattle.two_buffers.proofs.placed.Goals as goal

pub returns : goal.returns
unfolding placed with_place
returns c = search (rules, tests)
