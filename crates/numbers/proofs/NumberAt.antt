-- A number of n bytes from a byte on: its first byte and 256 times the number of those after it, a byte beyond the end reading as 0; below 256 ^ n; what is written there
-- reads back, and what is read is written as it was. The idea: the byte is there, or nothing is from it on. Assumes nothing.
use mathlib.Core.List.{List, ◌++◌}
use mathlib.Core.Path.{◌≡◌, refl, ◌∙◌}
use Prim.Native.Nat.{ℕ, zero, suc, ◌+◌, ◌-◌, ◌*◌, ◌≤◌, ◌<◌, ◌^◌}
use native.Mathlib.Nat.{pow-succ'}
use native.Mathlib.Decide.{dec_lt}
use native.Mathlib.Numerals.{add-one}
use native.Mathlib.Omega.{arith}
use lib.ListN.{length, take, drop, get_or, drop_of_length-le, length-drop, get_or-eq_default}
use lib.Seq.{drop-cons, take-nil, take_at, drop_at, length-take-le}
use Rattle.numbers.specs.Numbers.{Bytes, little, number, number_at}
use Rattle.numbers.proofs.Numbers.{bytes_take, bytes_drop, length_little, number_little, little_number}

pub number_at_suc : (f : List ℕ) (at n : ℕ) → number_at f at (suc n) ≡ get_or f at 0 + 256 * number_at f (at + 1) n
unfolding number_at number
number_at_suc f at n = go (dec_lt at (length f))
  where
    go : Dec (at < length f) → number (take (suc n) (drop at f)) ≡ get_or f at 0 + 256 * number (take n (drop (at + 1) f))
    go (yes h) = rw (add-one, drop-cons f at 0 h)
    go (no h) =
        let past : length f ≤ at = omega arith in
        let beyond : length f ≤ at + 1 = omega arith in
        rw (drop_of_length-le f past, drop_of_length-le f beyond, get_or-eq_default f 0 past, take-nil)

pub number_at_one : (f : List ℕ) (at : ℕ) → number_at f at 1 ≡ get_or f at 0
unfolding number_at number
number_at_one f at = number_at_suc f at zero ∙ none_after (get_or f at 0)
  where
    none_after : (b : ℕ) → b + 256 * 0 ≡ b
    none_after b = omega arith

pub number_at_none : (f : List ℕ) (at : ℕ) → 0 ≡ number_at f at 0
unfolding number_at number
number_at_none f at = refl

-- The number of the bytes from the one before the i-th on, up to the n-th.
pub number_at_before : (f : List ℕ) (i n : ℕ) → 0 < i → i ≤ n → number_at f (i - 1) (n - (i - 1)) ≡ get_or f (i - 1) 0 + 256 * number_at f i (n - i)
number_at_before f i n some within =
    let more : n - (i - 1) ≡ suc (n - i) = omega arith in
    let here : i - 1 + 1 ≡ i = omega arith in
    rw (more, number_at_suc f (i - 1) (n - i), here)

pub power_before : (i n : ℕ) → 0 < i → i ≤ n → 256 ^ (n - (i - 1)) ≡ 256 * 256 ^ (n - i)
power_before i n some within =
    let more : n - (i - 1) ≡ suc (n - i) = omega arith in
    rw (more, pow-succ')

pub number_at_three : (f : List ℕ) (at : ℕ) → number_at f at 3 ≡ get_or f at 0 + 256 * get_or f (at + 1) 0 + 65536 * get_or f (at + 2) 0
number_at_three f at =
    let next : at + 1 + 1 ≡ at + 2 = omega arith in
    rw (number_at_suc f at 2, number_at_suc f (at + 1) 1, next, number_at_one f (at + 2)) (omega arith)

-- Where every number of a list is a byte, a number of n bytes is below 256 ^ n.
pub number_at_below : (f : List ℕ) → ((i : ℕ) → get_or f i 0 < 256) → (at n : ℕ) → number_at f at n < 256 ^ n
unfolding number_at number
number_at_below f bytes at zero = omega arith
number_at_below f bytes at (suc n) = rw (number_at_suc f at n, pow-succ') (omega (arith, bytes at, number_at_below f bytes (at + 1) n))

-- Written behind a known number of bytes, a number reads back.
pub number_at_little : (f pre post : List ℕ) (at n x : ℕ) → f ≡ pre ++ (little n x ++ post) → length pre ≡ at → x < 256 ^ n → number_at f at n ≡ x
unfolding number_at
number_at_little f pre post at n x e l h = rw (e, drop_at pre (little n x ++ post) at l, take_at (little n x) post n (length_little n x)) (number_little n x h)

-- Read from bytes that are there, it is written as it was.
pub little_number_at : (f : List ℕ) (at n : ℕ) → Bytes f → at + n ≤ length f → little n (number_at f at n) ≡ take n (drop at f)
unfolding number_at
little_number_at f at n b h =
    let l : length (take n (drop at f)) ≡ n = length-take-le n (drop at f) (simp length-drop (omega arith)) in
    rw l at (little_number (take n (drop at f)) (bytes_take n (drop at f) (bytes_drop at f b)))
