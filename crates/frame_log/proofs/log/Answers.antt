-- `log` meets its contract. The loop keeps that what is left of the trace leads to the same end. Each turn is one sample of the rules over two memories.
use Rattle.frame_log.proofs.Turns.{written, next, last}
use Rattle.frame_log.proofs.log.Goals as goal

pub loop-w-preserved : goal.loop-w-preserved
loop-w-preserved g c = next _ _ _ _ _ _ _ _ c.loop-w.invariant c.loop-w-test.true c.turn-b.ensures

pub returns : goal.returns
returns g c = last _ _ _ _ _ _ _ _ c.loop-w.invariant c.loop-w-test.false (written _ _ _ _ _ _ c.fresh-fresh.ensures c.two_buffers-in_two.ensures c.unwrap_or-before.ensures c.write-written.ensures c.unwrap_or-b.ensures)
