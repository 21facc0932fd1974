-- `files::steps` meets its contract: the samples left lead to the same end.
use Rattle.std.proofs.Common.{length}
use Rattle.files.proofs.Samples.{Stepping}
use Rattle.files.proofs.steps.Given as goal

abbrev pub invariant-loop-n : goal.invariant-loop-n
invariant-loop-n l = Stepping l.file l.initial.buffer l.initial.d l.buffer l.d l.rest

abbrev pub decreases-loop-n : goal.decreases-loop-n
decreases-loop-n l = length l.rest
