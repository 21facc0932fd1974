-- `two_buffers::stretches::goes_on` meets its contract. Assumes nothing.
use borrow.Author.Tests.{tests}
use Rattle.std.proofs.Common.{rules}
use Rattle.two_buffers.specs.Stretches.{goes_on}
use Rattle.two_buffers.proofs.stretches.goes_on.Goals as goal

pub returns-then-not-blank : goal.returns-then-not-blank
unfolding goes_on
returns-then-not-blank c = search (rules, tests)

pub returns-else-not-blank : goal.returns-else-not-blank
unfolding goes_on
returns-else-not-blank c = search (rules, tests)
