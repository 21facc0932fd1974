-- Numbers as bytes, worked out by hand and proved of the definitions by computation under one statement, `numbers_sheet`: the lowest byte first, as many as are asked
-- for; and a byte beyond the end counts as 0.
use mathlib.Core.List.{[], ◌∷◌, map}
use mathlib.Core.Path.{◌≡◌, refl}
use Prim.Native.Nat.{ℕ}
use Rattle.numbers.specs.Numbers.{little, number, number_at}

pub numbers_sheet :
    (map (λ (n : ℕ). little n 0x04030201) (0 ∷ 1 ∷ 3 ∷ 4 ∷ 5 ∷ []) ≡
    [] ∷ (1 ∷ []) ∷ (1 ∷ 2 ∷ 3 ∷ []) ∷ (1 ∷ 2 ∷ 3 ∷ 4 ∷ []) ∷ (1 ∷ 2 ∷ 3 ∷ 4 ∷ 0 ∷ []) ∷ [])
    × (map number ([] ∷ (1 ∷ []) ∷ (1 ∷ 2 ∷ 3 ∷ 4 ∷ []) ∷ []) ≡ 0 ∷ 1 ∷ 0x04030201 ∷ [])
    × (map (λ (at : ℕ). number_at (1 ∷ 2 ∷ 3 ∷ 4 ∷ 5 ∷ 6 ∷ 7 ∷ []) at 4) (2 ∷ 5 ∷ 7 ∷ []) ≡ 0x06050403 ∷ 0x0706 ∷ 0 ∷ [])
unfolding little number number_at
numbers_sheet = (refl, refl, refl)
