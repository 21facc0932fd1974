-- A loop that tests one sample after the other for a bit above 17 tests whether one of them has one. Assumes nothing.
use mathlib.Core.Bool.{Bool, true, false, ◌||◌}
use mathlib.Core.List.{List, [], ◌∷◌}
use mathlib.Core.Path.{◌≡◌, refl, sym}
use Prim.Native.Nat.{ℕ}
use Rattle.std.specs.List.{fold}
use Rattle.bits.proofs.Booleans.{or_unit}
use Rattle.samples.specs.Samples.{bad_sample, any_bad}

or_assoc : (x y z : Bool) → (x || y) || z ≡ x || (y || z)
or_assoc true y z = refl
or_assoc false y z = refl

pub one_after_another : (b : Bool) (list : List ℕ) → fold (λ (any : Bool) (w : ℕ). any || bad_sample w) b list ≡ (b || any_bad list)
unfolding any_bad
one_after_another b [] = sym (or_unit b)
one_after_another b (w ∷ ws) = rw (one_after_another (b || bad_sample w) ws, or_assoc)
