-- The window test in the manual's terms is rule 7, for every line, column and register content: n + 1 from the first on are those from the first to the first + n.
use mathlib.Core.Path.{◌≡◌}
use Prim.Native.Nat.{ℕ, ◌+◌, ◌≤◌}
use native.Mathlib.Decide.{dec_le}
use native.Mathlib.Omega.{arith}
use borrow.Author.Tests.{lt-ltb, le-ltb, le-leb, lt-leb}
use Rattle.rules.specs.declared.Registers.{Registers}
use Rattle.rules.specs.CropWindow.{one_of, inside, from_to, rule_7}

pub one_of_is_from_to : (first n x : ℕ) → one_of first (n + 1) x ≡ from_to first (first + n) x
unfolding one_of from_to
one_of_is_from_to first n x = go (dec_le x (first + n))
  where
    go : Dec (x ≤ first + n) → one_of first (n + 1) x ≡ from_to first (first + n) x
    go (yes h) = rw (lt-ltb x (first + (n + 1)) (omega arith), le-leb x (first + n) h)
    go (no h) = rw (le-ltb x (first + (n + 1)) (omega arith), lt-leb x (first + n) (omega arith))

pub window_is_rule_7 : (r : Registers) (line column : ℕ) → inside r line column ≡ rule_7 r line column
unfolding inside rule_7
window_is_rule_7 r line column = rw (one_of_is_from_to, one_of_is_from_to)
