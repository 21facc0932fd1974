-- `two_buffers::stretches::next_buffer` meets its contract. Assumes nothing.
use borrow.Author.Tests.{tests}
use Rattle.std.proofs.Common.{rules}
use Rattle.two_buffers.specs.Stretches.{next_buffer}
use Rattle.two_buffers.proofs.stretches.next_buffer.Goals as goal

pub returns-then-t : goal.returns-then-t
unfolding next_buffer
returns-then-t c = search (rules, tests)

pub returns-else-t : goal.returns-else-t
unfolding next_buffer
returns-else-t c = search (rules, tests)
