-- `two_buffers::stretches::turns_behind` meets its contract. Assumes nothing.
use borrow.Author.Tests.{tests}
use Rattle.std.proofs.Common.{rules}
use Rattle.two_buffers.specs.Stretches.{turns_behind}
use Rattle.two_buffers.proofs.stretches.turns_behind.Goals as goal

pub returns-then-lost : goal.returns-then-lost
unfolding turns_behind
returns-then-lost c = search (rules, tests)

pub returns-then-before-held : goal.returns-then-before-held
unfolding turns_behind
returns-then-before-held c = search (rules, tests)

pub returns-else-before-held : goal.returns-else-before-held
unfolding turns_behind
returns-else-before-held c = search (rules, tests)
