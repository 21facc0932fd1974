use Rattle.std.proofs.Common.{◌≡◌, drop}
use Rattle.frame_log.specs.Frames.{three_frames, samples}
use Rattle.frame_log.proofs.log.Given as goal

-- What is left of the trace leads to the same end.
abbrev pub invariant-loop-w : goal.invariant-loop-w
invariant-loop-w g l = samples l.b l.memory_a l.memory_b (drop l.w-index three_frames) ≡ samples l.initial.b l.initial.memory_a l.initial.memory_b three_frames
