-- `two_buffers::stretches::runs` meets its contract. Assumes nothing.
use borrow.Author.Tests.{tests}
use Rattle.std.proofs.Common.{rules}
use Rattle.two_buffers.specs.Stretches.{runs}
use Rattle.two_buffers.proofs.stretches.runs.Goals as goal

pub returns-then-alone : goal.returns-then-alone
unfolding runs
returns-then-alone c = search (rules, tests)

pub returns-else-alone : goal.returns-else-alone
unfolding runs
returns-else-alone c = search (rules, tests)
