-- How a refusal is found (document 01, "Refusal numbers"): tests in the paper's order, read from the top. What a call answers then.
use Rattle.std.specs.Prelude.{Bool, cond, List, [], ◌∷◌, ℕ, eqb}

-- A refusal number and the test for it: a test that holds is a refusal.
pub record Test : Type 0 where
  pub holds : Bool
  pub number : ℕ

abbrev pub ◌⇒◌ : Bool → ℕ → Test
holds ⇒ number = record { holds = holds; number = number }

infix 68 ◌⇒◌
-- The number of the first test that holds, from the top; 0 where none does: the call is accepted.
abbrev pub first : List Test → ℕ
first [] = 0
first (t ∷ ts) = cond t.holds t.number (first ts)

-- A call that answers a value: a refusal returns its number and no value.
pub data Answer (A : Type 0) : Type 0 where
  refused : ℕ → Answer A
  answered : A → Answer A

-- The answer from the refusal number (0: none) and the value of an accepted call.
abbrev pub answer : {A : Type 0} → ℕ → A → Answer A
answer {A} number value = cond (eqb number 0) (answered value) (refused number)
