-- Ranges of bits, and the mask of some of them.
use Rattle.std.specs.Prelude.{Bool, false, not, ◌||◌, List, [], ◌∷◌, ℕ, ◌+◌, ◌*◌, ◌-◌, ◌^◌, eqb}
use Rattle.bits.specs.Bits.{field}

-- Bits high:low.
pub record Range : Type 0 where
  pub high : ℕ
  pub low : ℕ

-- A bit of one of the ranges is 1 in x.
abbrev pub any_set : List Range → ℕ → Bool
any_set [] x = false
any_set (r ∷ rs) x = any_set rs x || not (eqb (field r.high r.low x) 0)

-- The ranges as a mask.
abbrev pub mask : List Range → ℕ
mask [] = 0
mask (r ∷ rs) = (2 ^ (r.high + 1 - r.low) - 1) * 2 ^ r.low + mask rs
