-- `numbers::put` meets its contract: the bytes so far, then those of what is left.
use Rattle.std.proofs.Common.{◌≡◌, ◌++◌, ◌-◌, take}
use Rattle.numbers.specs.Numbers.{little}
use Rattle.numbers.proofs.put.Given as goal

abbrev pub invariant-loop-b : goal.invariant-loop-b
invariant-loop-b l = take l.b-index l.b-items ++ little (l.n - l.b-index) l.rest ≡ little l.n l.x
