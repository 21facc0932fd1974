-- What holds of every element of a list: of two lists together, of each of them, and by a law of one element. By induction on the list. Assumes nothing.
use mathlib.Core.List.{List, [], ◌∷◌, ◌++◌}
use Rattle.delivery.specs.Delivery.{All}

module _ {A : Type 0} (P : A → Type 0) where
  pub all_append : (xs ys : List A) → All P xs → All P ys → All P (xs ++ ys)
  all_append [] ys p q = q
  all_append (x ∷ xs) ys p q = (p.0, all_append xs ys p.1 q)

  pub all_first : (xs ys : List A) → All P (xs ++ ys) → All P xs
  all_first [] ys p = tt
  all_first (x ∷ xs) ys p = (p.0, all_first xs ys p.1)

  pub all_last : (xs ys : List A) → All P (xs ++ ys) → All P ys
  all_last [] ys p = p
  all_last (x ∷ xs) ys p = all_last xs ys p.1

  pub all_map : (Q : A → Type 0) → ((a : A) → P a → Q a) → (xs : List A) → All P xs → All Q xs
  all_map Q f [] p = tt
  all_map Q f (x ∷ xs) p = (f x p.0, all_map Q f xs p.1)
