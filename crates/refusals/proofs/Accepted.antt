-- An accepted call, whose refusal number is 0, has passed every one of its tests. Further tests are read only then.
-- The idea: by induction on the tests, each of which has a number above 0. Assumes nothing.
use mathlib.Core.Bool.{Bool, true, false, cond}
use mathlib.Core.List.{List, [], ◌∷◌, ◌++◌}
use mathlib.Core.Path.{◌≡◌, refl}
use Prim.Native.Nat.{ℕ, ◌<◌}
use native.Mathlib.Omega.{arith}
use lib.Dec.{eqb}
use borrow.Author.Tests.{ne_eqb}
use Rattle.refusals.specs.Refusals.{Test, first}

-- Every test has a number above 0; every test is passed.
abbrev pub Numbered : List Test → Type 0
Numbered [] = Unit {0}
Numbered (t ∷ ts) = (0 < t.number) × Numbered ts

abbrev pub Passed : List Test → Type 0
Passed [] = Unit {0}
Passed (t ∷ ts) = (t.holds ≡ false) × Passed ts

passed : (b : Bool) (n m : ℕ) → 0 < n → cond b n m ≡ 0 → (b ≡ false) × (m ≡ 0)
passed true n m pos e = absurd (omega arith)
passed false n m pos e = (refl, e)

pub accepted : (ts : List Test) → Numbered ts → first ts ≡ 0 → Passed ts
accepted [] n e = tt
accepted (t ∷ ts) n e = let (h, rest) = passed t.holds t.number (first ts) n.0 e in (h, accepted ts n.1 rest)

pub first_append : (ts us : List Test) → Numbered ts → first (ts ++ us) ≡ cond (eqb (first ts) 0) (first us) (first ts)
first_append [] us n = refl
first_append (t ∷ ts) us n = rw (first_append ts us n.1) (go t.holds)
  where
    go : (b : Bool) → cond b t.number (cond (eqb (first ts) 0) (first us) (first ts)) ≡ cond (eqb (cond b t.number (first ts)) 0) (first us) (cond b t.number (first ts))
    go true = rw (ne_eqb t.number 0 (λ e. absurd (omega (arith, n.0))))
    go false = refl
