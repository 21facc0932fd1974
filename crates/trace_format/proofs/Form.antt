-- What the form checks say of a file: those of its header and of its length, and what they need.
-- The idea: an accepted file has passed every test, and each test says what it compares. Assumes nothing.
use mathlib.Core.Bool.{Bool, true, false, cond, not, ◌&&◌, ◌||◌}
use mathlib.Core.List.{List, [], ◌∷◌, ◌++◌}
use mathlib.Core.Path.{◌≡◌, refl}
use Prim.Native.Nat.{ℕ, ◌≤◌, ◌<◌, ◌^◌}
use native.Mathlib.Omega.{arith}
use lib.Dec.{eqb, ltb}
use lib.ListN.{take, get_or}
use borrow.Author.Tests.{ltb-false, eqb-true, not-false, le-ltb, eq-eqb}
use Rattle.numbers.specs.Numbers.{number_at}
use Rattle.numbers.proofs.NumberAt.{number_at_below}
use Rattle.refusals.proofs.Accepted.{accepted, first_append}
use Rattle.bits.proofs.Booleans.{and_true, by_cond, either}
use Rattle.refusals.specs.Refusals.{◌⇒◌}
use Rattle.trace_format.specs.Format.{sample_limit, version_for, count_size, header_length, mark}
use Rattle.trace_format.specs.Reading.{same, version_of, sample_count, whole, header_checks, header_refusal, form_of}

-- The version of a number of samples is 1 or 2, and its count has room for the number.
version_known : (samples : ℕ) → (eqb (version_for samples) 1 || eqb (version_for samples) 2) ≡ true
unfolding version_for
version_known samples = either (λ (v : ℕ). (eqb v 1 || eqb v 2) ≡ true) (ltb 16384 samples) refl refl

pub version_fits : (samples : ℕ) → version_for samples < 256 ^ 2
unfolding version_for
version_fits samples = either (λ (v : ℕ). v < 256 ^ 2) (ltb 16384 samples) (omega arith) (omega arith)

pub count_fits : (samples : ℕ) → samples ≤ sample_limit → samples < 256 ^ count_size (version_for samples)
unfolding version_for count_size
count_fits samples h = by_cond (λ (v : ℕ). samples < 256 ^ count_size v) (ltb 16384 samples) 2 1 (λ many. omega arith) (λ few. omega (arith, ltb-false 16384 samples few))

-- A count has two bytes or four.
pub count_sizes : (version : ℕ) → (2 ≤ count_size version) × (count_size version ≤ 4)
unfolding count_size
count_sizes version = either (λ (n : ℕ). (2 ≤ n) × (n ≤ 4)) (eqb version 2) (omega arith, omega arith) (omega arith, omega arith)

-- What a file that begins with f and has n bytes has passed.
pub record Formed (f : List ℕ) (n : ℕ) : Type 0 where
  pub long : header_length (version_of f) ≤ n
  pub marked : take 3 f ≡ mark
  pub versioned : version_of f ≡ version_for (sample_count f)
  pub exact : n ≡ whole f

same_equal : (xs ys : List ℕ) → same xs ys ≡ true → xs ≡ ys
unfolding same
same_equal [] [] e = refl
same_equal [] (y ∷ ys) e = cc
same_equal (x ∷ xs) [] e = cc
same_equal (x ∷ xs) (y ∷ ys) e =
    let (h, t) = and_true (eqb x y) (same xs ys) e in
    rw (eqb-true x y h, same_equal xs ys t)

pub formed : (f : List ℕ) (n : ℕ) → form_of f n ≡ 0 → Formed f n
unfolding form_of
formed f n e =
    let (short, (mark, (version, (long, (count, (whole, u)))))) =
    accepted
    (header_checks f n ++ (not (eqb n (whole f)) ⇒ 13 ∷ []))
    (omega arith, (omega arith, (omega arith, (omega arith, (omega arith, (omega arith, tt)))))) e in
    record {
      long = ltb-false _ _ long;
      marked = same_equal _ _ (not-false _ mark);
      versioned = eqb-true _ _ (not-false _ count);
      exact = eqb-true _ _ (not-false _ whole);
    }

-- A file that passes the tests has good form.
pub good_form : (f : List ℕ) (n : ℕ) → same (take 3 f) mark ≡ true → version_of f ≡ version_for (sample_count f) → n ≡ whole f → form_of f n ≡ 0
unfolding form_of
good_form f n b c d =
    let known : (eqb (version_of f) 1 || eqb (version_of f) 2) ≡ true = rw c (version_known (sample_count f)) in
    rw (le-ltb n 8 (omega (arith, d, (count_sizes (version_of f)).0)), b, known, le-ltb n (header_length (version_of f)) (omega (arith, d)), eq-eqb _ _ c, eq-eqb _ _ d)

-- The length is looked at where the header is accepted.
pub form_after_header : (f : List ℕ) (n : ℕ) → form_of f n ≡ cond (eqb (header_refusal f n) 0) (cond (not (eqb n (whole f))) 13 0) (header_refusal f n)
unfolding form_of header_refusal
form_after_header f n =
    first_append (header_checks f n) (not (eqb n (whole f)) ⇒ 13 ∷ []) (omega arith, (omega arith, (omega arith, (omega arith, (omega arith, tt)))))

-- In bytes the number of samples is never above the limit.
pub count_below : (f : List ℕ) → ((i : ℕ) → get_or f i 0 < 256) → sample_count f ≤ sample_limit
unfolding count_size
count_below f bytes =
    either (λ (n : ℕ). number_at f 6 n ≤ sample_limit) (eqb (version_of f) 2) (omega (arith, number_at_below f bytes 6 4)) (omega (arith, number_at_below f bytes 6 2))

-- The mark's test, byte by byte.
pub mark_bytes : (f : List ℕ) → same (take 3 f) mark ≡ eqb (get_or f 0 0) 0x46 && (eqb (get_or f 1 0) 0x47 && eqb (get_or f 2 0) 0x54)
unfolding same
mark_bytes [] = refl
mark_bytes (a ∷ []) = refl
mark_bytes (a ∷ b ∷ []) = refl
mark_bytes (a ∷ b ∷ c ∷ f) = go (eqb a 0x46) (eqb b 0x47) (eqb c 0x54)
  where
    go : (x y z : Bool) → x && (y && (z && true)) ≡ x && (y && z)
    go true true true = refl
    go true true false = refl
    go true false z = refl
    go false y z = refl
