-- `two_buffers::stretches::alone` meets its contract. Assumes nothing.
use borrow.Author.Tests.{tests}
use Rattle.std.proofs.Common.{rules}
use Rattle.two_buffers.specs.Stretches.{alone}
use Rattle.two_buffers.proofs.stretches.alone.Goals as goal

pub returns-then-held-eq0 : goal.returns-then-held-eq0
unfolding alone
returns-then-held-eq0 c = search (rules, tests)

pub returns-then-t-tags_in : goal.returns-then-t-tags_in
unfolding alone
returns-then-t-tags_in c = search (rules, tests)

pub returns-else-t-tags_in : goal.returns-else-t-tags_in
unfolding alone
returns-else-t-tags_in c = search (rules, tests)
