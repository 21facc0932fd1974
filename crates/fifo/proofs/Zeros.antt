-- That all of some numbers are 0, as a fold over them. Assumes nothing.
use mathlib.Core.Bool.{Bool, true, false, ◌&&◌}
use mathlib.Core.List.{List, [], ◌∷◌}
use mathlib.Core.Path.{◌≡◌, refl, sym}
use Prim.Native.Nat.{ℕ}
use lib.Dec.{eqb}
use Rattle.std.specs.Prelude.{fold}
use Rattle.output.specs.WellFormed.{all_zero}

abbrev and_zero : Bool → ℕ → Bool
and_zero z x = z && eqb x 0

from_false : (xs : List ℕ) → fold and_zero false xs ≡ false
from_false [] = refl
from_false (x ∷ xs) = from_false xs

pub zeros : (xs : List ℕ) → all_zero xs ≡ fold (λ z x. z && eqb x 0) true xs
unfolding all_zero
zeros [] = refl
zeros (x ∷ xs) = go (eqb x 0) (zeros xs)
  where
    go : (b : Bool) → all_zero xs ≡ fold and_zero true xs → b && all_zero xs ≡ fold and_zero b xs
    go true rest = rest
    go false rest = sym (from_false xs)
