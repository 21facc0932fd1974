-- What the value of a test joined by `||`, `&&` or equality tells, of one of some tests too; joined with a constant; and a definition by `cond` taken apart. Assumes nothing.
use mathlib.Core.Bool.{Bool, true, false, cond, not, ◌&&◌, ◌||◌, beq, true≢false, false≢true}
use mathlib.Core.List.{List, [], ◌∷◌}
use mathlib.Core.Path.{◌≡◌, refl, sym, ◌∙◌}
use Rattle.bits.specs.Tests.{one_holds}

pub or_false : (a b : Bool) → a || b ≡ false → (a ≡ false) × (b ≡ false)
or_false true b e = absurd (true≢false e)
or_false false b e = (refl, e)

pub and_true : (a b : Bool) → a && b ≡ true → (a ≡ true) × (b ≡ true)
and_true true b e = (refl, e)
and_true false b e = absurd (false≢true e)

pub same_bool : (a b : Bool) → beq a b ≡ true → a ≡ b
same_bool true true e = refl
same_bool true false e = absurd (false≢true e)
same_bool false true e = absurd (false≢true e)
same_bool false false e = refl

pub or_unit : (b : Bool) → b || false ≡ b
or_unit true = refl
or_unit false = refl

pub or_true : (b : Bool) → b || true ≡ true
or_true true = refl
or_true false = refl

-- What holds of both arms, each under its test, holds of the choice.
pub by_cond {ℓ} : {A : Type ℓ} (P : A → Type 0) (b : Bool) (x y : A) → (b ≡ true → P x) → (b ≡ false → P y) → P (cond b x y)
by_cond P true x y f g = f refl
by_cond P false x y f g = g refl

-- The same where neither arm needs its test.
pub either {ℓ} : {A : Type ℓ} {x y : A} (P : A → Type 0) (b : Bool) → P x → P y → P (cond b x y)
either P true f g = f
either P false f g = g

pub and_unit : (b : Bool) → b && true ≡ b
and_unit true = refl
and_unit false = refl

pub and_zero : (b : Bool) → b && false ≡ false
and_zero true = refl
and_zero false = refl

pub both_false : (a b : Bool) → a ≡ false → b ≡ false → a || b ≡ false
both_false true b e f = absurd (true≢false e)
both_false false b e f = f

-- `a && b` is false: from a, not b.
pub and_false : (a b : Bool) → a && b ≡ false → a ≡ true → b ≡ false
and_false true b e h = e
and_false false b e h = absurd (false≢true h)

pub and_false_left : (a b : Bool) → a && b ≡ false → b ≡ true → a ≡ false
and_false_left true b e h = absurd (true≢false (sym h ∙ e))
and_false_left false b e h = refl

pub imp_and_false : (a b : Bool) → (a ≡ true → b ≡ false) → a && b ≡ false
imp_and_false true b h = h refl
imp_and_false false b h = refl

pub not_is_false : (a : Bool) → a ≡ true → not a ≡ false
not_is_false true e = refl
not_is_false false e = absurd (false≢true e)

pub not_is_true : (a : Bool) → a ≡ false → not a ≡ true
not_is_true true e = absurd (true≢false e)
not_is_true false e = refl

-- None of some tests holds.
abbrev pub None : List Bool → Type 0
None [] = Unit {0}
None (t ∷ ts) = (t ≡ false) × None ts

pub none : (ts : List Bool) → one_holds ts ≡ false → None ts
none [] e = tt
none (t ∷ ts) e = let (h, rest) = or_false t (one_holds ts) e in (h, none ts rest)

pub none_any : (ts : List Bool) → None ts → one_holds ts ≡ false
none_any [] n = refl
none_any (t ∷ ts) n = both_false t (one_holds ts) n.0 (none_any ts n.1)
