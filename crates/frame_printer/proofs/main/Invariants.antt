use Rattle.std.proofs.Common.{◌-◌, ◌^◌}
use Rattle.frame_printer.specs.Reading.{ByParts}
use Rattle.frame_printer.proofs.main.Given as goal

-- What has come are parts of a file.
abbrev pub invariant-loop-n : goal.invariant-loop-n
invariant-loop-n l = ByParts l.p l.memory

abbrev pub decreases-loop-n : goal.decreases-loop-n
decreases-loop-n l = 2 ^ 35 - l.p.taken
