-- `two_buffers::after_landing` meets its contract. Assumes nothing.
use borrow.Author.Tests.{tests}
use Rattle.std.proofs.Common.{rules}
use Rattle.buffers.specs.Kept.{keep, keeps}
use Rattle.two_buffers.proofs.after_landing.Goals as goal

pub returns-in-Some : goal.returns-in-Some
unfolding keep keeps
returns-in-Some c = search (rules, tests)

pub returns-in_default : goal.returns-in_default
unfolding keep keeps
returns-in_default c = search (rules, tests)

pub returns-in_default-2 : goal.returns-in_default-2
unfolding keep keeps
returns-in_default-2 c = search (rules, tests)
