-- Packing (document 01, rule 8; 004, tables 262 to 265): how EDM lays data out in words of 32 bits.
use Rattle.std.specs.Prelude.{cond, ℕ, zero, suc, ◌+◌, ◌-◌, ◌*◌, ◌%◌, ◌^◌, ◌<◌, eqb}

-- EDM 0, 1, 2, 3 keep 8, 10, 12, 14 data bits.
unfoldable pub width : ℕ → ℕ
width e = 8 + 2 * e

-- Each in 8 bits, four to a word (EDM 0), or in 16 bits, two to a word.
unfoldable pub lane : ℕ → ℕ
lane e = cond (eqb e 0) 8 16

unfoldable pub per_word : ℕ → ℕ
per_word e = cond (eqb e 0) 4 2

-- The bits that are kept of a datum.
unfoldable pub kept : ℕ → ℕ → ℕ
kept e x = x % 2 ^ width e

-- The bits of some data of a word, with one datum more above them: first lowest, the rest 0.
unfoldable pub joined : ℕ → ℕ → ℕ → ℕ → ℕ
joined e count bits x = bits + kept e x * 2 ^ (lane e * count)

-- W4 (004, 32.3.9): the same with n zero data more; and a partial word filled with zero data, as many as it lacks.
unfoldable pub with_zeros : ℕ → ℕ → ℕ → ℕ → ℕ
with_zeros zero e count bits = bits
with_zeros (suc n) e count bits = with_zeros n e (count + 1) (joined e count bits 0)

unfoldable pub zero_filled : ℕ → ℕ → ℕ → ℕ
zero_filled e count bits = with_zeros (per_word e - count) e count bits

-- There are fewer data than make a word, and with one more their bits fit 32.
abbrev pub Joins : ℕ → ℕ → ℕ → ℕ → Type 0
Joins e count bits x = (count < per_word e) × (joined e count bits x < 2 ^ 32)
