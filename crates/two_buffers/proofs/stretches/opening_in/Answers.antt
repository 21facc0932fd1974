-- `two_buffers::stretches::opening_in` meets its contract. Assumes nothing.
use borrow.Author.Tests.{tests}
use Rattle.std.proofs.Common.{rules}
use Rattle.two_buffers.specs.Stretches.{opening_in}
use Rattle.two_buffers.proofs.stretches.opening_in.Goals as goal

pub returns-then-held-gt0 : goal.returns-then-held-gt0
unfolding opening_in
returns-then-held-gt0 c = search (rules, tests)

pub returns-else-opens : goal.returns-else-opens
unfolding opening_in
returns-else-opens c = search (rules, tests)
