-- The bytes of some words: four for each, and those of one list after those of another. By induction on the words. Assumes nothing.
use mathlib.Core.List.{List, [], ◌∷◌, ◌++◌, append_assoc, append-nil}
use mathlib.Core.Path.{◌≡◌, refl, sym, ap, ◌∙◌}
use Prim.Native.Nat.{ℕ, ◌*◌}
use native.Mathlib.Omega.{arith}
use lib.ListN.{length}
use Rattle.numbers.specs.Numbers.{little}
use Rattle.output.specs.Output.{bytes, all_bytes}

pub all_bytes_length : (vs : List ℕ) → length (all_bytes vs) ≡ 4 * length vs
unfolding all_bytes little
all_bytes_length [] = refl
all_bytes_length (v ∷ vs) = omega (arith, all_bytes_length vs)

pub all_bytes_append : (us vs : List ℕ) → all_bytes (us ++ vs) ≡ all_bytes us ++ all_bytes vs
unfolding all_bytes
all_bytes_append [] vs = refl
all_bytes_append (u ∷ us) vs = rw (all_bytes_append us vs) (sym (append_assoc (bytes u) (all_bytes us) (all_bytes vs)))

pub all_bytes_last : (vs : List ℕ) (v : ℕ) → all_bytes (vs ++ v ∷ []) ≡ all_bytes vs ++ bytes v
unfolding all_bytes
all_bytes_last vs v = all_bytes_append vs (v ∷ []) ∙ ap (λ l. all_bytes vs ++ l) (append-nil (bytes v))
