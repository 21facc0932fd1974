-- `two_buffers::stretches::tags_in` meets its contract. Assumes nothing.
use borrow.Author.Tests.{tests}
use Rattle.std.proofs.Common.{rules}
use Rattle.two_buffers.specs.Stretches.{tags_in}
use Rattle.two_buffers.proofs.stretches.tags_in.Goals as goal

pub returns-in-A : goal.returns-in-A
unfolding tags_in
returns-in-A c = search (rules, tests)

pub returns-in-B : goal.returns-in-B
unfolding tags_in
returns-in-B c = search (rules, tests)
