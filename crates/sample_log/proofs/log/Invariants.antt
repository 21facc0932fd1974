use Rattle.sample_log.proofs.Turns.{Turn}
use Rattle.sample_log.proofs.log.Given as goal

-- What is left of the trace leads to the same end.
abbrev pub invariant-loop-w : goal.invariant-loop-w
invariant-loop-w g l = Turn l.initial.b l.initial.memory l.b l.memory l.w-index
