-- `two_buffers::two_steps` meets its contract: the loop keeps `Turning`, and each turn is one sample or a stretch of them. Assumes nothing.
use lib.ListN.{length}
use Rattle.two_buffers.specs.Answers.{two}
use Rattle.two_buffers.proofs.Turning.{Turning}
use Rattle.two_buffers.proofs.two_steps.Given as goal

abbrev pub invariant-loop-w : goal.invariant-loop-w
invariant-loop-w l = Turning l.samples (two l.initial.e l.initial.slots l.initial.a l.initial.b) (two l.e l.slots l.a l.b) l.rest

abbrev pub decreases-loop-w : goal.decreases-loop-w
decreases-loop-w l = length l.rest
