-- `two_buffers::stretches::lasting_end` meets its contract. Assumes nothing.
use borrow.Author.Tests.{tests}
use Rattle.std.proofs.Common.{rules}
use Rattle.two_buffers.specs.Stretches.{lasting_end}
use Rattle.two_buffers.proofs.stretches.lasting_end.Goals as goal

pub returns-then-embedded : goal.returns-then-embedded
unfolding lasting_end
returns-then-embedded c = search (rules, tests)

pub returns-then-goes_on : goal.returns-then-goes_on
unfolding lasting_end
returns-then-goes_on c = search (rules, tests)

pub returns : goal.returns
unfolding lasting_end
returns c = search (rules, tests)
