-- `well_formed::used` meets its contract. Assumes nothing.
use Prim.Native.Nat.{◌≤◌}
use native.Mathlib.Nat.{mul-le-mul_right}
use native.Mathlib.Omega.{arith}
use Rattle.packing.specs.Packing.{width}
use Rattle.well_formed.proofs.used.Goals as goal

pub overflow_mul-result : goal.overflow_mul-result
unfolding width
overflow_mul-result c = let small : c.width.result ≤ 14 = omega (arith, c.width.ensures, c.edm.ensures) in
    omega (arith, mul-le-mul_right c.args.count small)

pub returns : goal.returns
returns c = rw (c.width.ensures, c.edm.ensures)
