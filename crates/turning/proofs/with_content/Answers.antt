-- `turning::with_content` meets its contract. Assumes nothing.
use Rattle.buffers.specs.Turns.{with_content}
use Rattle.turning.proofs.with_content.Goals as goal

pub returns-in-A : goal.returns-in-A
unfolding with_content
returns-in-A c = rw c.in-A.is

pub returns-in-B : goal.returns-in-B
unfolding with_content
returns-in-B c = rw c.in-B.is
