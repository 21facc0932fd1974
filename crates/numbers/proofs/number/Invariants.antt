-- `numbers::number` meets its contract: so far the number of the bytes from the i-th on.
use Rattle.std.proofs.Common.{◌≡◌, ◌<◌, ◌-◌, ◌^◌}
use Rattle.numbers.specs.Numbers.{number_at}
use Rattle.numbers.proofs.number.Given as goal

abbrev pub invariant-loop-i : goal.invariant-loop-i
invariant-loop-i g l = record { value : l.x ≡ number_at l.rest l.i (g.row.N - l.i); small : l.x < 256 ^ (g.row.N - l.i) }
