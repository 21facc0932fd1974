-- A partial word filled with zero data has the bits that it had (`zero_filled_bits`). The idea: a zero datum joins nothing. Assumes nothing.
use mathlib.Core.Path.{◌≡◌, refl}
use Prim.Native.Nat.{ℕ, zero, suc, ◌+◌, ◌-◌}
use native.Mathlib.Nat.{zero-mod, zero-mul, add-zero}
use Rattle.packing.specs.Packing.{per_word, kept, joined, with_zeros, zero_filled}

pub zero_joins : (e count bits : ℕ) → joined e count bits 0 ≡ bits
unfolding joined kept
zero_joins e count bits = rw (zero-mod, zero-mul, add-zero)

zeros_join : (n e count bits : ℕ) → with_zeros n e count bits ≡ bits
unfolding with_zeros
zeros_join zero e count bits = refl
zeros_join (suc n) e count bits = rw (zero_joins e count bits) (zeros_join n e (count + 1) bits)

pub zero_filled_bits : (e count bits : ℕ) → zero_filled e count bits ≡ bits
unfolding zero_filled
zero_filled_bits e count bits = zeros_join (per_word e - count) e count bits
