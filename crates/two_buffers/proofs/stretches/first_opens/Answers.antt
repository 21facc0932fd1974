-- `two_buffers::stretches::first_opens` meets its contract. Assumes nothing.
use borrow.Author.Tests.{tests}
use Rattle.std.proofs.Common.{rules}
use Rattle.two_buffers.specs.Stretches.{first_opens}
use Rattle.two_buffers.proofs.stretches.first_opens.Goals as goal

pub returns-then-held-eq0 : goal.returns-then-held-eq0
unfolding first_opens
returns-then-held-eq0 c = search (rules, tests)

pub returns-else-held-eq0 : goal.returns-else-held-eq0
unfolding first_opens
returns-else-held-eq0 c = search (rules, tests)
