-- The writes that are given as two arrays and a count, one by one. Assumes nothing.
use mathlib.Core.List.{List}
use mathlib.Core.Path.{◌≡◌, refl, ap, ◌∙◌}
use Prim.Native.Nat.{ℕ, zero, suc, ◌+◌, ◌<◌}
use native.Mathlib.Nat.{add-zero, zero-add}
use native.Mathlib.Omega.{arith}
use lib.ListN.{length, get_or}
use Rattle.trace_format.specs.declared.Write.{Write}
use Rattle.trace_writer.specs.Writing.{given_from, given}

-- As many writes are given as the count says.
pub length_given : (offsets values : List ℕ) (k n : ℕ) → length (given_from offsets values k n) ≡ n
unfolding given_from
length_given offsets values k zero = refl
length_given offsets values k (suc n) = ap suc (length_given offsets values (suc k) n)

-- Each is of its two entries.
nth_given : (offsets values : List ℕ) (k n i : ℕ) (d : Write) → i < n → get_or (given_from offsets values k n) i d ≡ record { offset = get_or offsets (k + i) 0; value = get_or values (k + i) 0 }
unfolding given_from
nth_given offsets values k zero i d h = absurd (omega arith)
nth_given offsets values k (suc n) zero d h = rw (add-zero k)
nth_given offsets values k (suc n) (suc i) d h =
    let next : suc k + i ≡ k + suc i = omega arith in
    rw next at (nth_given offsets values (suc k) n i d (omega arith))

pub nth_of_all : (offsets values : List ℕ) (n i : ℕ) (d : Write) → i < n → get_or (given n offsets values) i d ≡ record { offset = get_or offsets i 0; value = get_or values i 0 }
nth_of_all offsets values n i d h = nth_given offsets values 0 n i d h ∙ rw (zero-add i)
