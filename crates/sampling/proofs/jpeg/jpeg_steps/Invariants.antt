-- `sampling::jpeg::jpeg_steps` meets its contract: the loop keeps `Going`, and each turn is one step of the rules or a stretch of them. Assumes nothing.
use lib.ListN.{length}
use Rattle.sampling.specs.Answers.{noted}
use Rattle.sampling.proofs.Going.{Going}
use Rattle.sampling.proofs.jpeg.jpeg_steps.Given as goal

abbrev pub invariant-loop-w : goal.invariant-loop-w
invariant-loop-w l = Going l.samples (noted l.initial.e l.initial.slots l.initial.buffer l.initial.answer) (noted l.e l.slots l.buffer l.answer) l.rest

abbrev pub decreases-loop-w : goal.decreases-loop-w
decreases-loop-w l = length l.rest
