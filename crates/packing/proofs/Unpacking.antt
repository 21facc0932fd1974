-- Words and their data. `word_again`, `data_again`: taking a word's data and putting data together are inverse to each other, unused bits included. `packed_data`: a word that
-- is packed from any data has the kept bits of these, each at most the maximum (`kept_within`); data up to the maximum are their own kept bits (`kept_same`).
-- The idea: both layouts are digits in a base, for which `lanes` and `together` are inverse; and a datum joined above others is a digit more. Rows by computation last. Assumes
-- nothing.
use mathlib.Core.Bool.{Bool, true, false, cond}
use mathlib.Core.List.{List, [], ◌∷◌, map}
use mathlib.Core.Path.{◌≡◌, refl, sym, ap, ◌∙◌}
use Prim.Native.Nat.{ℕ, zero, suc, ◌+◌, ◌*◌, ◌/◌, ◌^◌, ◌≤◌, ◌<◌}
use native.Mathlib.Nat.{mul-zero, mul-one, mul-add, div-add-mod', div-lt_iff_lt-mul, mod-lt, mod-eq_of_lt, le_of_eq, lt_of_lt_of_le, pow-zero, pow-suc}
use native.Mathlib.Omega.{arith}
use lib.Arith.{lt-one, digits_div, digits_mod}
use lib.Dec.{eqb}
use lib.ListN.{length}
use lib.Pow.{pow-add, pow_pos, pow_mono, le_ones, lt_of_le_ones}
use Rattle.packing.specs.Packing.{width, lane, per_word, kept, joined}
use Rattle.packing.specs.Unpacking.{lanes, together, data_of, maximum, all_joined}
use Rattle.packing.proofs.Lanes.{layout}

-- Digits of a base: every one is below it.
abbrev pub Digits : ℕ → List ℕ → Type 0
Digits base [] = Unit {0}
Digits base (x ∷ xs) = (x < base) × Digits base xs

module _ (base : ℕ) (positive : 0 < base) where
  pub lanes_together : (n w : ℕ) → w < base ^ n → together base (lanes base n w) ≡ w
  unfolding lanes together
  lanes_together zero w fits = sym (lt-one (lt_of_lt_of_le fits (le_of_eq (pow-zero base))))
  lanes_together (suc n) w fits = rw (lanes_together n (w / base) ((div-lt_iff_lt-mul positive).1 (lt_of_lt_of_le fits (le_of_eq (pow-suc base n))))) (div-add-mod' w base)

  pub together_lanes : (xs : List ℕ) → Digits base xs → lanes base (length xs) (together base xs) ≡ xs
  unfolding lanes together
  together_lanes [] d = refl
  together_lanes (x ∷ xs) (low, d) = rw (digits_mod (together base xs) low, digits_div (together base xs) low, together_lanes xs d)

-- The lanes fill a word.
fills : (e : ℕ) → (2 ^ lane e) ^ per_word e ≡ 2 ^ 32
unfolding lane per_word
fills e = go (eqb e 0)
  where
    go : (b : Bool) → (2 ^ cond b 8 16) ^ cond b 4 2 ≡ 2 ^ 32
    go true = refl
    go false = refl

pub word_again : (e w : ℕ) → w < 2 ^ 32 → together (2 ^ lane e) (data_of e w) ≡ w
unfolding data_of
word_again e w fits = lanes_together (2 ^ lane e) (pow_pos (lane e)) (per_word e) w (rw (fills e) fits)

pub data_again : (e : ℕ) (xs : List ℕ) → length xs ≡ per_word e → Digits (2 ^ lane e) xs → data_of e (together (2 ^ lane e) xs) ≡ xs
unfolding data_of
data_again e xs full d = rw (← full) (together_lanes (2 ^ lane e) (pow_pos (lane e)) xs d)

-- Joined data are digits above the bits.
joined_together : (e count bits : ℕ) (xs : List ℕ) → all_joined e count bits xs ≡ bits + together (2 ^ lane e) (map (kept e) xs) * 2 ^ (lane e * count)
unfolding all_joined joined together
joined_together e count bits [] = omega arith
joined_together e count bits (x ∷ xs) =
    let next : 2 ^ (lane e * (count + 1)) ≡ 2 ^ (lane e * count) * 2 ^ lane e = rw (mul-add, mul-one) (pow-add 2 (lane e * count) (lane e)) in
    rw (joined_together e (count + 1) (bits + kept e x * 2 ^ (lane e * count)) xs, next) (omega arith)

kept_digits : (e : ℕ) → e ≤ 3 → (xs : List ℕ) → Digits (2 ^ lane e) (map (kept e) xs)
unfolding kept
kept_digits e le [] = tt
kept_digits e le (x ∷ xs) =
    (lt_of_lt_of_le (mod-lt x (pow_pos (width e))) (pow_mono (layout (λ w l n. w ≤ l) e le (omega arith) (λ w small. omega arith))), kept_digits e le xs)

same_length : (f : ℕ → ℕ) (xs : List ℕ) → length (map f xs) ≡ length xs
same_length f [] = refl
same_length f (x ∷ xs) = ap suc (same_length f xs)

pub packed_data : (e : ℕ) → e ≤ 3 → (xs : List ℕ) → length xs ≡ per_word e → data_of e (all_joined e 0 0 xs) ≡ map (kept e) xs
packed_data e le xs full =
    let digits : all_joined e 0 0 xs ≡ together (2 ^ lane e) (map (kept e) xs) = rw (joined_together e 0 0 xs, mul-zero (lane e)) (omega arith) in
    rw digits (data_again e (map (kept e) xs) (same_length (kept e) xs ∙ full) (kept_digits e le xs))

pub kept_within : (e x : ℕ) → kept e x ≤ maximum e
unfolding kept maximum
kept_within e x = le_ones (width e) (mod-lt x (pow_pos (width e)))

pub kept_same : (e x : ℕ) → x ≤ maximum e → kept e x ≡ x
unfolding kept maximum
kept_same e x low = mod-eq_of_lt (lt_of_le_ones (width e) low)

-- The word of trace T at twelve bits, bytes, and the highest data at fourteen bits; the maximum of each EDM (W11).
pub unpacking_sheet :
    (data_of 2 0x091B0AAB ≡ 0x0AAB ∷ 0x091B ∷ [])
    × (data_of 0 0x04030201 ≡ 1 ∷ 2 ∷ 3 ∷ 4 ∷ [])
    × (data_of 3 0x3FFF3FFF ≡ 0x3FFF ∷ 0x3FFF ∷ [])
    × (map maximum (0 ∷ 1 ∷ 2 ∷ 3 ∷ []) ≡ 255 ∷ 1023 ∷ 4095 ∷ 16383 ∷ [])
unfolding lane per_word width lanes data_of maximum
unpacking_sheet = (refl, refl, refl, refl)
