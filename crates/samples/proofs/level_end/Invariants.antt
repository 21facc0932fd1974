-- `samples::level_end` meets its contract: the loop keeps what is left of the run, and ends at the end of the list, or where it began behind it. Assumes nothing.
use Rattle.std.proofs.Common.{◌≡◌, ◌+◌, drop, ◌≤◌, length, max}
use Rattle.samples.specs.Samples.{level_run}
use Rattle.samples.proofs.level_end.Given as goal

abbrev pub invariant-loop-i : goal.invariant-loop-i
invariant-loop-i l =
    (l.first + level_run l.level (drop l.first l.list) ≡ l.i + level_run l.level (drop l.i l.list)) × (l.i ≤ max (length l.list) l.first)
