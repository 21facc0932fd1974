-- Bits and fields of a word of 32 bits, where they reach past its last bit; and a power of two that fits it. Assumes nothing.
use mathlib.Core.Logic.{◌⊎◌, inl, inr}
use mathlib.Core.Path.{◌≡◌, sym}
use Prim.Native.Nat.{ℕ, suc, ◌+◌, ◌-◌, ◌*◌, ◌/◌, ◌%◌, ◌^◌, ◌≤◌, ◌<◌}
use native.Mathlib.Nat.{div-eq_of_lt, div-le_self, mod-eq_of_lt, mod-one, zero-mod, lt_of_lt_of_le, pow-succ'}
use native.Mathlib.Omega.{arith}
use lib.Pow.{pow_mono, pow-lt}
use Rattle.bits.specs.Bits.{field}

-- Nothing from bit 32 on.
pub none_above : (k x : ℕ) → 32 ≤ k → x < 2 ^ 32 → x / 2 ^ k ≡ 0
none_above k x high fits = div-eq_of_lt (lt_of_lt_of_le fits (pow_mono high))

-- A field whose ends are swapped, or which begins above bit 31, has no bits.
pub no_field : (high low x : ℕ) → (high < low) ⊎ ((low ≤ high) × (31 < low)) → x < 2 ^ 32 → 0 ≡ field high low x
no_field high low x (inl swapped) fits = let empty : high + 1 - low ≡ 0 = omega arith in rw (empty, mod-one (x / 2 ^ low))
no_field high low x (inr (order, above)) fits = rw (none_above low x above fits, zero-mod)

-- One of 32 bits or more is all from its lowest bit on.
pub whole_field : (high low x : ℕ) → 31 ≤ high - low → x < 2 ^ 32 → x / 2 ^ low ≡ field high low x
whole_field high low x wide fits =
    let all : 32 ≤ high + 1 - low = omega arith in
    let power = pow_mono all in
    sym (mod-eq_of_lt (lt_of_lt_of_le {m = 2 ^ 32} (omega (arith, div-le_self x (2 ^ low))) power))

-- A power of two up to 2^30, doubled in a word.
pub doubled : (d : ℕ) → d < 31 → 2 * 2 ^ d % 2 ^ 32 ≡ 2 ^ suc d
doubled d low = rw (← pow-succ' 2 d) (mod-eq_of_lt (pow-lt {i = suc d} {j = 32} (omega arith)))
