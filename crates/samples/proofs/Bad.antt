-- Whether one of some samples is bad, as a fold. Assumes nothing.
use mathlib.Core.Bool.{Bool, true, false, ◌||◌}
use mathlib.Core.List.{List, [], ◌∷◌}
use mathlib.Core.Path.{◌≡◌, sym}
use Prim.Native.Nat.{ℕ}
use Rattle.std.specs.List.{fold}
use Rattle.bits.proofs.Booleans.{or_unit}
use Rattle.samples.specs.Samples.{bad_sample, any_bad}

pub fold_bad : (any : Bool) (ws : List ℕ) → fold (λ a w. a || bad_sample w) any ws ≡ any || any_bad ws
unfolding any_bad
fold_bad any [] = sym (or_unit any)
fold_bad true (w ∷ ws) = fold_bad true ws
fold_bad false (w ∷ ws) = fold_bad (bad_sample w) ws
