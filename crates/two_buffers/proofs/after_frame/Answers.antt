-- `two_buffers::after_frame` meets its contract. Assumes nothing.
use borrow.Author.Tests.{tests}
use Rattle.std.proofs.Common.{rules}
use Rattle.buffers.specs.Kept.{keep, keeps}
use Rattle.two_buffers.proofs.after_frame.Goals as goal

pub returns-then-error : goal.returns-then-error
unfolding keep keeps
returns-then-error c = search (rules, tests)

pub returns-then-ended : goal.returns-then-ended
unfolding keep keeps
returns-then-ended c = search (rules, tests)

pub returns-else-ended : goal.returns-else-ended
unfolding keep keeps
returns-else-ended c = search (rules, tests)
