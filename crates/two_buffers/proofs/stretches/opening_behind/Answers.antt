-- `two_buffers::stretches::opening_behind` meets its contract. Assumes nothing.
use borrow.Author.Tests.{tests}
use Rattle.std.proofs.Common.{rules}
use Rattle.two_buffers.specs.Stretches.{opening_behind}
use Rattle.two_buffers.proofs.stretches.opening_behind.Goals as goal

pub returns-then-begun : goal.returns-then-begun
unfolding opening_behind
returns-then-begun c = search (rules, tests)

pub returns-else-begun : goal.returns-else-begun
unfolding opening_behind
returns-else-begun c = search (rules, tests)
