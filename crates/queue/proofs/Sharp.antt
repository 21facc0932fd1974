-- The premise is sharp at every depth and spacing: where windows of w samples hold g grants, words come s samples apart, and g * s < w, a queue of any depth
-- loses a word. By counting: in the end more words have come than there were grants, by more than the depth.
use Prim.Native.Nat.{ℕ, zero, suc, ◌+◌, ◌*◌, ◌-◌, ◌%◌, ◌≤◌, ◌<◌, min}
use mathlib.Core.Path.{◌≡◌, refl, ap}
use mathlib.Core.Bool.{Bool, true, false, cond}
use Rattle.std.specs.Prelude.{None, Some}
use mathlib.Core.List.{List, [], ◌∷◌}
use native.Mathlib.Nat.{add-zero, add-suc, zero-add, suc-add, zero-mul, suc-mul, add-mod_right, mod-eq_of_lt, mul-le-mul_left, zero-min, min-zero, suc-min-suc, sub-zero, zero-sub, suc-sub-suc}
use native.Mathlib.Numerals.{add-one}
use native.Mathlib.Omega.{arith}
use lib.ListN.{length, take, drop, length-append}
use lib.Seq.{take-nil}
use lib.Dec.{ltb}
use borrow.Author.Tests.{ltb-true, ltb-false}
use Rattle.queue.specs.Queue.{Input, start, after, grants, words, Spaced}
use Rattle.queue.proofs.Flow.{flow, queue_law}

-- How many of the n numbers from i on pass a test.
count : (ℕ → Bool) → ℕ → ℕ → ℕ
count f i zero = 0
count f i (suc n) = cond (f i) 1 0 + count f (suc i) n

count_add : (f : ℕ → Bool) (i m n : ℕ) → count f i (m + n) ≡ count f i m + count f (i + m) n
unfolding count
count_add f i zero n = rw (zero-add, add-zero) (omega arith)
count_add f i (suc m) n = rw (suc-add, add-suc) (omega (arith, rw suc-add at (count_add f (suc i) m n)))

-- The first g of each p numbers: each p in a row have g of them.
first_of : ℕ → ℕ → ℕ → Bool
first_of p g i = ltb (i % p) g

module _ (p g : ℕ) (few : g ≤ p) where
  in-first : (i n : ℕ) → i + n ≤ p → count (first_of p g) i n ≡ min (g - i) n
  unfolding count first_of
  in-first i zero le = omega arith
  in-first i (suc n) le = rw (mod-eq_of_lt {n = i} {m = p} (omega arith)) (go (ltb i g) refl (in-first (suc i) n (omega arith)))
    where
      go : (b : Bool) → ltb i g ≡ b → count (first_of p g) (suc i) n ≡ min (g - suc i) n → cond b 1 0 + count (first_of p g) (suc i) n ≡ min (g - i) (suc n)
      go true e h = omega (arith, ltb-true)
      go false e h = omega (arith, ltb-false)

  in_window : (i : ℕ) → count (first_of p g) i p ≡ g
  unfolding count first_of
  in_window zero = omega (arith, in-first 0 p (omega arith))
  in_window (suc i) =
      let f = first_of p g in
      let again : f (i + p) ≡ f i = rw add-mod_right in
      let e = rw (add-one, again) at (count_add f i p 1) in
      omega (arith, in_window i)

  in-many : (k i : ℕ) → count (first_of p g) i (k * p) ≡ k * g
  unfolding count
  in-many zero i = rw (zero-mul, zero-mul)
  in-many (suc k) i =
      let e = count_add (first_of p g) i (k * p) p in
      rw (suc-mul, suc-mul) (omega (arith, in-many k i, in_window (i + k * p)))

-- The inputs with the grants and words that two tests tell, from sample number i on: a word is its sample's number.
module _ (f h : ℕ → Bool) where
  inputs : ℕ → ℕ → List (Input ℕ)
  inputs i zero = []
  inputs i (suc n) = record { grant = f i; word = cond (h i) (Some i) None } ∷ inputs (suc i) n

  inputs_grants : (i n : ℕ) → grants (inputs i n) ≡ count f i n
  unfolding inputs grants count
  inputs_grants i zero = refl
  inputs_grants i (suc n) = omega (arith, inputs_grants (suc i) n)

  inputs_words : (i n : ℕ) → length (words (inputs i n)) ≡ count h i n
  unfolding inputs words count
  inputs_words i zero = refl
  inputs_words i (suc n) = go (h i) (inputs_words (suc i) n)
    where
      go : (b : Bool) → length (words (inputs (suc i) n)) ≡ count h (suc i) n
          → length (words (record { grant = f i; word = cond b (Some i) None } ∷ inputs (suc i) n)) ≡ cond b 1 0 + count h (suc i) n
      go true e = omega arith
      go false e = omega arith

  inputs_length : (i n : ℕ) → length (inputs i n) ≡ n
  unfolding inputs
  inputs_length i zero = refl
  inputs_length i (suc n) = ap suc (inputs_length (suc i) n)

  inputs_window : (m k i n : ℕ) → take m (drop k (inputs i n)) ≡ inputs (i + k) (min m (n - k))
  unfolding inputs
  inputs_window zero zero i n = rw zero-min
  inputs_window (suc m) zero i zero = rw (zero-sub, min-zero)
  inputs_window (suc m) zero i (suc n) = rw (add-zero, sub-zero, suc-min-suc, rw (add-zero, sub-zero) at (inputs_window m zero (suc i) n))
  inputs_window m (suc k) i zero = rw (zero-sub, min-zero) (take-nil m)
  inputs_window m (suc k) i (suc n) = rw (add-suc, suc-sub-suc) (rw suc-add at (inputs_window m k (suc i) n))

-- No more words leave than there are grants, and a queue holds no more than its depth.
starves : (d : ℕ) (xs : List (Input ℕ)) → grants xs + d < length (words xs) → 1 ≤ (after d xs).lost
unfolding start
starves d xs h = go (after d xs).lost refl
  where
    go : (n : ℕ) → (after d xs).lost ≡ n → 1 ≤ n
    go zero e = absurd (omega (arith, (flow d start xs).most, (queue_law d xs).0, simp length-append at (ap length ((queue_law d xs).1 e))))
    go (suc n) e = omega arith

-- Inputs with at least g grants in each w samples and words at least s samples apart, at which a queue of depth d loses a word.
pub record Starved (d s w g : ℕ) : Type 0 where
  pub inputs : List (Input ℕ)
  pub dense : (k : ℕ) → k + w ≤ length inputs → g ≤ grants (take w (drop k inputs))
  pub spaced : Spaced s inputs
  pub loses : 1 ≤ (after d inputs).lost

starved : (d s w g : ℕ) → 1 ≤ s → g * s < w → Starved d s w g
starved d s w g s1 less =
    let f = first_of w g in
    let h = first_of s 1 in
    let n : ℕ = suc d * s * w in
    let few : g ≤ w = omega (arith, mul-le-mul_left g s1) in
    let swap : n ≡ suc d * w * s = omega arith in
    let came : count h 0 n ≡ suc d * w * 1 = rw swap (in-many s 1 s1 (suc d * w) 0) in
    let went : count f 0 n ≡ suc d * s * g = in-many w g few (suc d * s) 0 in
    record {
      inputs = inputs f h 0 n;
      dense =
          λ k le.
          let e : min w (n - k) ≡ w = omega (arith, inputs_length f h 0 n) in
          rw (inputs_window, e, inputs_grants) (omega (arith, in_window w g few (0 + k)));
      spaced =
          λ k.
          let m : ℕ = min s (n - k) in
          let e : m + (s - m) ≡ s = omega arith in
          rw (inputs_window, inputs_words) (omega (arith, in_window s 1 s1 (0 + k), rw e at (count_add h (0 + k) m (s - m))));
      loses = starves d (inputs f h 0 n) (omega (arith, inputs_grants f h 0 n, inputs_words f h 0 n, mul-le-mul_left (suc d) less));
    }

-- With windows one sample longer, and with one grant fewer in each.
pub slow : (d s : ℕ) → 1 ≤ s → Starved d s (d * s + 1) d
slow d s s1 = starved d s (d * s + 1) d s1 (omega arith)

pub scarce : (d s : ℕ) → 1 ≤ s → Starved (suc d) s (suc d * s) d
scarce d s s1 = starved (suc d) s (suc d * s) d s1 (omega arith)
