-- A bit of some ranges is 1 in a value exactly if the value meets their mask, where each range lies above the next: `meets`.
-- The idea: each range is met by a block of bits of its own. Assumes nothing.
use mathlib.Core.Bool.{not, ◌||◌}
use mathlib.Core.List.{List, [], ◌∷◌}
use mathlib.Core.Path.{◌≡◌, sym, ap, ◌∙◌}
use Prim.Native.Nat.{ℕ, zero, suc, ◌+◌, ◌-◌, ◌*◌, ◌/◌, ◌%◌, ◌^◌, ◌<◌}
use native.Mathlib.Nat.{div-add-mod', mod-lt}
use native.Mathlib.Omega.{arith}
use lib.Bits.{bit_and, and_zero_r, and_mask, and_block}
use lib.Dec.{eqb}
use lib.Pow.{pow_pos}
use borrow.Author.Tests.{eq-eqb, ne_eqb}
use Rattle.bits.specs.Ranges.{Range, any_set, mask}

-- A mask of two blocks, from bit k up and below it.
blocks : (k a b x : ℕ) → b < 2 ^ k → bit_and x (a * 2 ^ k + b) ≡ bit_and (x / 2 ^ k) a * 2 ^ k + bit_and (x % 2 ^ k) b
blocks k a b x low =
    ap (λ (y : ℕ). bit_and y (a * 2 ^ k + b)) (sym (div-add-mod' x (2 ^ k))) ∙ and_block k (x / 2 ^ k) a (x % 2 ^ k) b (mod-lt x (pow_pos k)) low

below : (k b x : ℕ) → b < 2 ^ k → bit_and (x % 2 ^ k) b ≡ bit_and x b
below k b x low =
    let zeros : bit_and (x / 2 ^ k) 0 * 2 ^ k + bit_and (x % 2 ^ k) b ≡ bit_and (x % 2 ^ k) b = rw (and_zero_r (x / 2 ^ k)) (omega arith) in
    let alone : 0 * 2 ^ k + b ≡ b = omega arith in
    sym (ap (bit_and x) (sym alone) ∙ blocks k 0 b x low ∙ zeros)

sum_zero : (f p r : ℕ) → 0 < p → not (eqb (f * p + r) 0) ≡ not (eqb r 0) || not (eqb f 0)
sum_zero f p (suc r) pos = rw (ne_eqb (f * p + suc r) 0 (omega arith), ne_eqb (suc r) 0 (omega arith))
sum_zero zero p zero pos = rw (eq-eqb (zero * p + 0) 0 (omega arith))
sum_zero (suc f) p zero pos = rw (ne_eqb (suc f * p + 0) 0 (omega arith), ne_eqb (suc f) 0 (omega arith))

-- Each range lies above the next.
abbrev pub Falling : List Range → Type 0
Falling [] = Unit {0}
Falling (r ∷ rs) = (mask rs < 2 ^ r.low) × Falling rs

pub meets : (rs : List Range) (x : ℕ) → Falling rs → not (eqb (bit_and x (mask rs)) 0) ≡ any_set rs x
meets [] x f = rw (and_zero_r x)
meets (r ∷ rs) x (low, f) =
    rw (blocks r.low (2 ^ (r.high + 1 - r.low) - 1) (mask rs) x low, and_mask (x / 2 ^ r.low) (r.high + 1 - r.low), below r.low (mask rs) x low, ← meets rs x f)
    (sum_zero (x / 2 ^ r.low % 2 ^ (r.high + 1 - r.low)) (2 ^ r.low) (bit_and x (mask rs)) (pow_pos r.low))
