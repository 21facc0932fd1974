-- `Parts::take` meets its contract.
use Rattle.std.proofs.Common.{◌≡◌, length}
use Rattle.file_rules.specs.Parts.{take_bytes}
use Rattle.parts.specs.Answers.{taken}
use Rattle.parts.proofs.Parts.take.Given as goal

-- What is left gives what all of the part does.
abbrev pub invariant-loop-rest : goal.invariant-loop-rest
invariant-loop-rest l = take_bytes l.start (taken l.self l.memory) l.rest ≡ take_bytes l.start (taken l.initial.self l.initial.memory) l.bytes

abbrev pub decreases-loop-rest : goal.decreases-loop-rest
decreases-loop-rest l = length l.rest
