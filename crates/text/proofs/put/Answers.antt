-- `text::put` meets its contract.
use Rattle.text.proofs.Appending.{put_on, put_over}
use Rattle.text.proofs.put.Goals as goal

pub loop-b-preserved : goal.loop-b-preserved
loop-b-preserved c = put_on _ _ _ _ _ c.loop-b.invariant _ _ c.loop-b-test.true c.put_byte-place.ensures

pub returns : goal.returns
returns c = put_over _ _ _ _ _ c.loop-b.invariant c.loop-b-test.false
