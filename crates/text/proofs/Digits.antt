-- Decimal: one digit below 10, else those of the tenth and then the last; how many digits there are. Assumes nothing.
use mathlib.Core.Bool.{Bool, true, false, cond}
use mathlib.Core.List.{List, [], ◌∷◌, ◌++◌}
use mathlib.Core.Path.{◌≡◌, refl, sym, ap}
use Prim.Native.Nat.{ℕ, zero, suc, ◌-◌, ◌/◌, ◌%◌, ◌^◌, ◌≤◌, ◌<◌}
use native.Mathlib.Numerals.{add-one}
use native.Mathlib.Omega.{arith}
use lib.Dec.{ltb}
use lib.ListN.{length, set, drop, length-append}
use Rattle.std.proofs.lemmas.List.{append_assoc, drop-set}
use borrow.Author.Tests.{lt-ltb, le-ltb}
use Rattle.text.specs.Text.{digit, decimal_within, decimal, hex}

-- Any number of digits that is large enough gives the same.
same_within : (n m x : ℕ) → x < 10 ^ suc n → x < 10 ^ suc m → decimal_within n x ≡ decimal_within m x
unfolding decimal_within
same_within zero zero x low high = refl
same_within zero (suc m) x low high = rw (lt-ltb x 10 (omega arith))
same_within (suc n) zero x low high = rw (lt-ltb x 10 (omega arith))
same_within (suc n) (suc m) x low high = go (ltb x 10) (same_within n m (x / 10) (omega arith) (omega arith))
  where
    go : (b : Bool) → decimal_within n (x / 10) ≡ decimal_within m (x / 10)
        → cond b (digit x ∷ []) (decimal_within n (x / 10) ++ (digit (x % 10) ∷ [])) ≡ cond b (digit x ∷ []) (decimal_within m (x / 10) ++ (digit (x % 10) ∷ []))
    go true tenth = refl
    go false tenth = ap (λ (l : List ℕ). l ++ (digit (x % 10) ∷ [])) tenth

pub decimal_one : (x : ℕ) → x < 10 → decimal x ≡ digit x ∷ []
unfolding decimal decimal_within
decimal_one x low = rw (lt-ltb x 10 low)

pub decimal_more : (x : ℕ) → 10 ≤ x → x < 10 ^ 20 → decimal x ≡ decimal (x / 10) ++ (digit (x % 10) ∷ [])
unfolding decimal decimal_within
decimal_more x high low = rw (le-ltb x 10 high) (ap (λ (l : List ℕ). l ++ (digit (x % 10) ∷ [])) (same_within 18 19 (x / 10) (omega arith) (omega arith)))

-- A number below 10 ^ (n + 1) has at most n + 1 digits; in hexadecimal there are as many as asked for.
within_length : (n x : ℕ) → length (decimal_within n x) ≤ suc n
unfolding decimal_within
within_length zero x = omega arith
within_length (suc n) x = go (ltb x 10) (within_length n (x / 10))
  where
    go : (b : Bool) → length (decimal_within n (x / 10)) ≤ suc n → length (cond b (digit x ∷ []) (decimal_within n (x / 10) ++ (digit (x % 10) ∷ []))) ≤ suc (suc n)
    go true tenth = omega arith
    go false tenth = rw length-append (omega arith)

pub decimal_short : (x : ℕ) → length (decimal x) ≤ 20
unfolding decimal
decimal_short x = within_length 19 x

pub hex_length : (n x : ℕ) → length (hex n x) ≡ n
unfolding hex
hex_length zero x = refl
hex_length (suc n) x = rw (length-append, hex_length n (x / 16)) (omega arith)

-- One digit more, from the last one on: the one before place i is put there, and stands before those from i on.
pub hex_before : (i rest d : ℕ) (digits : List ℕ) → 0 < i → i - 1 < length digits → d ≡ digit (rest % 16)
    → hex (i - 1) (rest / 16) ++ drop (i - 1) (set digits (i - 1) d) ≡ hex i rest ++ drop i digits
unfolding hex
hex_before zero rest d digits some within is = absurd (omega arith)
hex_before (suc j) rest d digits some within is =
    let before : suc j - 1 ≡ j = omega arith in
    let fits : j < length digits = omega arith in
    rw (before, drop-set digits j d fits, is, add-one) (sym (append_assoc (hex j (rest / 16)) (digit (rest % 16) ∷ []) (drop (suc j) digits)))
