-- `fifo::grant` meets its contract. Assumes nothing.
use Rattle.output.specs.Output.{grant}
use Rattle.fifo.proofs.grant.Goals as goal

pub returns-then-enabled : goal.returns-then-enabled
returns-then-enabled c = rw (c.if-granted.true, c.if-enabled.true) c.oldest_lands.ensures

pub returns-then-granted : goal.returns-then-granted
unfolding grant
returns-then-granted c = rw (c.if-granted.true, c.if-enabled.false) (c.no_landing.ensures _ _)

pub returns : goal.returns
unfolding grant
returns c = rw c.if-granted.false (c.no_landing-2.ensures _ _)
