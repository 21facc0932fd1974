-- `two_buffers::after_word` meets its contract. Assumes nothing.
use borrow.Author.Tests.{tests}
use Rattle.std.proofs.Common.{rules}
use Rattle.buffers.specs.Kept.{keep, keeps}
use Rattle.two_buffers.proofs.after_word.Goals as goal

pub returns-in-Nothing : goal.returns-in-Nothing
unfolding keep keeps
returns-in-Nothing c = search (rules, tests)

pub returns-in-Completed : goal.returns-in-Completed
unfolding keep keeps
returns-in-Completed c = search (rules, tests)

pub returns-in-Lost : goal.returns-in-Lost
unfolding keep keeps
returns-in-Lost c = search (rules, tests)
