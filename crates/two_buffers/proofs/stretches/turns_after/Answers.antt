-- `two_buffers::stretches::turns_after` meets its contract. Assumes nothing.
use borrow.Author.Tests.{tests}
use Rattle.std.proofs.Common.{rules}
use Rattle.two_buffers.specs.Stretches.{turns_by, turns_after}
use Rattle.two_buffers.proofs.stretches.turns_after.Goals as goal

pub returns : goal.returns
unfolding turns_by turns_after
returns c = search (rules, tests)
