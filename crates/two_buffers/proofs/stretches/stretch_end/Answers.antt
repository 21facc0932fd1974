-- `two_buffers::stretches::stretch_end` meets its contract. Assumes nothing.
use borrow.Author.Tests.{tests}
use Rattle.std.proofs.Common.{rules}
use Rattle.two_buffers.specs.Stretches.{stretch_end}
use Rattle.two_buffers.proofs.stretches.stretch_end.Goals as goal

pub returns-then-runs : goal.returns-then-runs
unfolding stretch_end
returns-then-runs c = search (rules, tests)

pub returns-else-runs : goal.returns-else-runs
unfolding stretch_end
returns-else-runs c = search (rules, tests)
