-- The partial word's bits: no unused one is set exactly if they are below a bound, and with one datum more they fit. Assumes nothing.
use mathlib.Core.Bool.{false}
use mathlib.Core.Path.{◌≡◌}
use Prim.Native.Nat.{ℕ, ◌+◌, ◌*◌, ◌/◌, ◌^◌, ◌≤◌, ◌<◌}
use native.Mathlib.Nat.{zero-add, zero-mul, div-eq_of_lt, lt-div-mul-add}
use native.Mathlib.Omega.{arith}
use lib.Pow.{pow_pos}
use borrow.Author.Tests.{eqb-true, eq-eqb, not-false}
use Rattle.registers.specs.Control.{edm}
use Rattle.packing.specs.Packing.{width, per_word, Joins}
use Rattle.packing.proofs.Lanes.{joined_partial, joined_fits}
use Rattle.rules.specs.declared.Capture.{Capture}
use Rattle.rules.specs.Capture.{packed_bits}
use Rattle.rules.specs.WellFormed.{unused_bits}
use Rattle.bits.proofs.Booleans.{not_is_false}
use Rattle.rules.proofs.WellFormed.{CaptureOk}

-- EDM has two bits.
pub edm_most : (cr : ℕ) → edm cr ≤ 3
edm_most cr = omega arith

quotient_zero : (x b : ℕ) → 0 < b → x / b ≡ 0 → x < b
quotient_zero x b pos e = rw (e, zero-mul, zero-add) at (lt-div-mul-add {a = x} pos)

pub used : (s : Capture) → unused_bits s ≡ false → s.partial.bits < 2 ^ (width (edm s.registers.cr) * s.partial.count)
unfolding unused_bits
used s e = quotient_zero _ _ (pow_pos _) (eqb-true _ 0 (not-false _ e))

pub unused : (s : Capture) → s.partial.bits < 2 ^ (width (edm s.registers.cr) * s.partial.count) → unused_bits s ≡ false
unfolding unused_bits
unused s h = not_is_false _ (eq-eqb _ 0 (div-eq_of_lt h))

module _ {n : ℕ} (s : Capture) (x : ℕ) (ok : CaptureOk n s) where
  pub packed_partial : s.partial.count + 1 < per_word (edm s.registers.cr)
      → packed_bits s x < 2 ^ (width (edm s.registers.cr) * (s.partial.count + 1))
  unfolding packed_bits
  packed_partial h = joined_partial _ (edm_most s.registers.cr) _ _ x (used s ok.unused) h

  pub datum_joins : Joins (edm s.registers.cr) s.partial.count s.partial.bits x
  datum_joins = (ok.short, joined_fits _ (edm_most s.registers.cr) _ _ x (used s ok.unused) ok.short)
