-- A bit made 1 or 0, and the others: raising one that is 0 carries into no other, and clearing bit 0 keeps the half.
-- The idea: two values with the same half have the same bits from bit 1 on. Assumes nothing.
use mathlib.Core.Bool.{true, false}
use mathlib.Core.Path.{◌≡◌, refl, ap}
use Prim.Native.Nat.{ℕ, zero, suc, ◌+◌, ◌/◌, ◌%◌, ◌^◌}
use native.Mathlib.Nat.{div-div-eq-div-mul, pow-succ'}
use native.Mathlib.Omega.{arith}
use borrow.Author.Tests.{eqb-true, eqb-false, eq-eqb}
use Rattle.bits.specs.Bits.{bit, raised, lowered}
use Rattle.bits.proofs.Booleans.{by_cond}

pub bit_true : (k x : ℕ) → bit k x ≡ true → x / 2 ^ k % 2 ≡ 1
bit_true k x e = eqb-true (x / 2 ^ k % 2) 1 e

pub bit_false : (k x : ℕ) → bit k x ≡ false → x / 2 ^ k % 2 ≡ 0
bit_false k x e = let h = eqb-false (x / 2 ^ k % 2) 1 e in omega arith

-- Bits from bit 1 on.
pub above : (k x : ℕ) → x / 2 ^ suc k ≡ x / 2 / 2 ^ k
above k x = rw (pow-succ' 2 k, div-div-eq-div-mul)

pub same_above : (k x y : ℕ) → x / 2 ≡ y / 2 → x / 2 ^ suc k ≡ y / 2 ^ suc k
same_above k x y h = rw (above k x, above k y, h)

-- Raising a flag that is 0 carries into no other bit.
carry : (j k x : ℕ) → ¬ (j ≡ k) → ¬ (x / 2 ^ k % 2 ≡ 1) → (x + 2 ^ k) / 2 ^ j % 2 ≡ x / 2 ^ j % 2
carry zero zero x other off = absurd (other refl)
carry zero (suc k) x other off = rw (pow-succ' 2 k) (omega arith)
carry (suc j) zero x other off = rw (same_above j (x + 1) x (omega arith))
carry (suc j) (suc k) x other off =
    let half : (x + 2 ^ suc k) / 2 ≡ x / 2 + 2 ^ k = rw (pow-succ' 2 k) (omega arith) in
    rw (above j (x + 2 ^ suc k), above j x, half) (carry j k (x / 2) (λ e. other (ap suc e)) (rw (above k x) at off))

pub raised_other : (j k x : ℕ) → ¬ (j ≡ k) → bit j (raised k x) ≡ bit j x
unfolding raised
raised_other j k x other = by_cond (λ y. bit j y ≡ bit j x) (bit k x) _ _ (λ e. refl) (λ e. rw (carry j k x other (eqb-false _ 1 e)))

-- And it raises that flag.
carried : (k x : ℕ) → ¬ (x / 2 ^ k % 2 ≡ 1) → (x + 2 ^ k) / 2 ^ k % 2 ≡ 1
carried zero x off = omega arith
carried (suc k) x off =
    let half : (x + 2 ^ suc k) / 2 ≡ x / 2 + 2 ^ k = rw (pow-succ' 2 k) (omega arith) in
    rw (above k (x + 2 ^ suc k), half) (carried k (x / 2) (rw (above k x) at off))

pub raised_up : (k x : ℕ) → bit k (raised k x) ≡ true
unfolding raised
raised_up k x = by_cond (λ y. bit k y ≡ true) (bit k x) _ _ (λ on. on) (λ off. eq-eqb _ 1 (carried k x (eqb-false _ 1 off)))

pub lowered_half : (x : ℕ) → lowered 0 x / 2 ≡ x / 2
unfolding lowered
lowered_half x = by_cond (λ y. y / 2 ≡ x / 2) (bit 0 x) _ _ (λ e. omega (arith, bit_true 0 x e)) (λ e. refl)
