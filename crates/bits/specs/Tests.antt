-- Tests: one of some holds, and a number where one holds.
use Rattle.std.specs.Prelude.{Bool, false, cond, ◌||◌, List, [], ◌∷◌, ℕ}

-- One of the tests holds.
abbrev pub one_holds : List Bool → Bool
one_holds [] = false
one_holds (t ∷ ts) = t || one_holds ts

-- A number where a test holds, and else 0.
abbrev pub number_if : Bool → ℕ → ℕ
number_if t n = cond t n 0
