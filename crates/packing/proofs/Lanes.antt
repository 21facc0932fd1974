-- The two layouts of a word, and that bits with one datum more above them fit. Assumes nothing.
use mathlib.Core.Bool.{Bool, true, false, cond}
use mathlib.Core.Path.{◌≡◌, refl}
use Prim.Native.Nat.{ℕ, ◌+◌, ◌*◌, ◌^◌, ◌≤◌, ◌<◌}
use native.Mathlib.Decide.{dec_lt}
use native.Mathlib.Nat.{add_comm, mul-zero, mul-one, mul-add, mul_comm, mul-le-mul_right, mod-lt, lt_of_lt_of_le}
use native.Mathlib.Omega.{arith}
use lib.Dec.{eqb}
use lib.Pow.{pow-add, pow_pos, pow_mono}
use lib.Arith.{digits_lt}
use borrow.Author.Tests.{eqb-true}
use Rattle.packing.specs.Packing.{width, lane, per_word, kept, joined}

-- The two layouts: width, lane and data per word.
pub layout : (P : ℕ → ℕ → ℕ → Type 0) (e : ℕ) → e ≤ 3 → P 8 8 4 → ((w : ℕ) → w ≤ 14 → P w 16 2) → P (width e) (lane e) (per_word e)
unfolding width lane per_word
layout P e le f g = go (eqb e 0) refl
  where
    go : (b : Bool) → eqb e 0 ≡ b → P (8 + 2 * e) (cond b 8 16) (cond b 4 2)
    go true z = rw (eqb-true e 0 z) f
    go false z = g (8 + 2 * e) (omega arith)

pub per_word_positive : (e : ℕ) → 0 < per_word e
unfolding per_word
per_word_positive e = go (eqb e 0)
  where
    go : (b : Bool) → 0 < cond b 4 2
    go true = omega arith
    go false = omega arith

pub few_data : (e : ℕ) → per_word e ≤ 4
unfolding per_word
few_data e = go (eqb e 0)
  where
    go : (b : Bool) → cond b 4 2 ≤ 4
    go true = omega arith
    go false = omega arith

-- A datum above the bits.
above : (b d k m : ℕ) → b < 2 ^ k → d < 2 ^ m → b + d * 2 ^ k < 2 ^ (k + m)
above b d k m hb hd = rw (pow-add 2 k m, mul_comm (2 ^ k) (2 ^ m), add_comm b (d * 2 ^ k)) (digits_lt hd hb)

-- While the word stays partial its lanes have no gaps, and its data at most 32 bits.
still_partial : (e : ℕ) → e ≤ 3 → (c : ℕ) → c + 1 < per_word e → (lane e * c ≡ width e * c) × (width e * (c + 1) ≤ 32)
still_partial e le =
    layout (λ w l n. (c : ℕ) → c + 1 < n → (l * c ≡ w * c) × (w * (c + 1) ≤ 32)) e le
    (λ c h. (refl, omega arith))
    (λ w hw c h. let z : c ≡ 0 = omega arith in rw (z, mul-zero w) (refl, omega arith))

-- The last datum ends at bit 31.
full : (e : ℕ) → e ≤ 3 → (c : ℕ) → c < per_word e → per_word e ≤ c + 1 → (width e ≤ lane e) × (lane e * c + lane e ≡ 32)
full e le =
    layout (λ w l n. (c : ℕ) → c < n → n ≤ c + 1 → (w ≤ l) × (l * c + l ≡ 32)) e le
    (λ c h g. (omega arith, omega arith))
    (λ w hw c h g. (omega arith, omega arith))

module _ (e : ℕ) (le : e ≤ 3) (c bits x : ℕ) (used : bits < 2 ^ (width e * c)) where
  pub joined_partial : c + 1 < per_word e → joined e c bits x < 2 ^ (width e * (c + 1))
  unfolding joined kept
  joined_partial h = rw ((still_partial e le c h).0, mul-add, mul-one) (above _ _ _ _ used (mod-lt _ (pow_pos _)))

  -- The bits of a word fit 32, partial still or full.
  pub joined_fits : c < per_word e → joined e c bits x < 2 ^ 32
  unfolding joined kept
  joined_fits short = go (dec_lt (c + 1) (per_word e))
    where
      go : Dec (c + 1 < per_word e) → joined e c bits x < 2 ^ 32
      go (yes h) = lt_of_lt_of_le (joined_partial h) (pow_mono (still_partial e le c h).1)
      go (no h) =
          let (narrow, whole) = full e le c short (omega arith) in
          rw whole at
          (above _ _ _ _
          (lt_of_lt_of_le used (pow_mono (mul-le-mul_right c narrow)))
          (lt_of_lt_of_le (mod-lt x (pow_pos _)) (pow_mono narrow)))
