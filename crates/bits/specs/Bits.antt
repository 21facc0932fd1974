-- Bits and fields of a number, by division and remainder.
use Rattle.std.specs.Prelude.{Bool, cond, ℕ, ◌+◌, ◌-◌, ◌/◌, ◌%◌, ◌^◌, eqb}

-- Bit k of x.
abbrev pub bit : ℕ → ℕ → Bool
bit k x = eqb (x / 2 ^ k % 2) 1

-- Bits high:low of x, as a number.
abbrev pub field : ℕ → ℕ → ℕ → ℕ
field high low x = x / 2 ^ low % 2 ^ (high + 1 - low)

-- Bit k of x made 1; made 0.
unfoldable pub raised : ℕ → ℕ → ℕ
raised k x = cond (bit k x) x (x + 2 ^ k)

unfoldable pub lowered : ℕ → ℕ → ℕ
lowered k x = cond (bit k x) (x - 2 ^ k) x
