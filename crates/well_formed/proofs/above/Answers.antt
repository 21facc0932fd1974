-- `well_formed::above` meets its contract. Assumes nothing.
use Prim.Native.Nat.{◌<◌, ◌^◌}
use lib.Pow.{pow_mono}
use native.Mathlib.Nat.{div-eq_of_lt, lt_of_lt_of_le}
use borrow.Author.Tests.{le-ltb}
use Rattle.well_formed.proofs.above.Goals as goal

pub returns-else-used-lt32 : goal.returns-else-used-lt32
returns-else-used-lt32 c = let low : c.args.bits < 2 ^ c.args.used =
    lt_of_lt_of_le c.ranges.bits.fits (pow_mono c.if-used-lt32.false) in
    rw (div-eq_of_lt low, le-ltb _ _ c.if-used-lt32.false)
