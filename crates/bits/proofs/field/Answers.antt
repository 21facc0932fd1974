-- `bits::field` meets its contract: the power of two that cuts the field off fits a word. Assumes nothing.
use mathlib.Core.Path.{◌≡◌}
use Prim.Native.Nat.{suc, ◌+◌, ◌-◌}
use native.Mathlib.Omega.{arith}
use lib.Pow.{pow_pos}
use Rattle.bits.proofs.Words.{no_field, whole_field, doubled}
use Rattle.bits.proofs.field.Goals as goal

pub nonzero_rem-result : goal.nonzero_rem-result
nonzero_rem-result g c = rw (doubled _ c.if-this-lt31.true) (pow_pos _)

pub returns-then-this-gt31 : goal.returns-then-this-gt31
returns-then-this-gt31 g c = no_field g.row.HIGH g.row.LOW c.args.x c.if-this-gt31.either c.ranges.x.fits

pub returns-then-this-lt31 : goal.returns-then-this-lt31
returns-then-this-lt31 g c =
    let width : g.row.HIGH + 1 - g.row.LOW ≡ suc (g.row.HIGH - g.row.LOW) = omega arith in rw (width, doubled _ c.if-this-lt31.true)

pub returns-else-this-lt31 : goal.returns-else-this-lt31
returns-else-this-lt31 g c = whole_field g.row.HIGH g.row.LOW c.args.x c.if-this-lt31.false c.ranges.x.fits
