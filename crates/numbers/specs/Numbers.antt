-- Numbers as bytes, little-endian, in memory and in files (document 01, "Memory and counts" and "Trace file, version 1").
use Rattle.std.specs.Prelude.{List, [], ◌∷◌, ℕ, zero, suc, ◌+◌, ◌*◌, ◌/◌, ◌%◌, ◌<◌, take, drop}

-- Every number of a list is a byte.
abbrev pub Bytes : List ℕ → Type 0
Bytes [] = Unit {0}
Bytes (b ∷ bs) = (b < 256) × Bytes bs

-- The n lowest bytes of a number, the lowest first.
unfoldable pub little : ℕ → ℕ → List ℕ
little zero x = []
little (suc n) x = x % 256 ∷ little n (x / 256)

-- The number that some bytes are; and that of n bytes from a byte on, where a byte beyond the end counts as 0.
unfoldable pub number : List ℕ → ℕ
number [] = 0
number (b ∷ bs) = b + 256 * number bs

unfoldable pub number_at : List ℕ → ℕ → ℕ → ℕ
number_at bytes at n = number (take n (drop at bytes))
