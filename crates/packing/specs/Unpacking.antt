-- Rule 8 read backwards: the data of a word (document 01, rule 8; 004, tables 262 to 265), as the pixels of a picture (W11) and of a sheet (W13) are.
use Rattle.std.specs.Prelude.{List, [], ◌∷◌, ℕ, zero, suc, ◌+◌, ◌-◌, ◌*◌, ◌/◌, ◌%◌, ◌^◌}
use Rattle.packing.specs.Packing.{width, lane, per_word, joined}

-- The n lowest digits of a number in a base, lowest first; and the number that has some digits.
unfoldable pub lanes : ℕ → ℕ → ℕ → List ℕ
lanes base zero w = []
lanes base (suc n) w = w % base ∷ lanes base n (w / base)

unfoldable pub together : ℕ → List ℕ → ℕ
together base [] = 0
together base (x ∷ xs) = together base xs * base + x

-- The data of a word, first lowest, unused bits included.
unfoldable pub data_of : ℕ → ℕ → List ℕ
data_of e w = lanes (2 ^ lane e) (per_word e) w

-- The highest datum that is kept: 255, 1023, 4095, 16383.
unfoldable pub maximum : ℕ → ℕ
maximum e = 2 ^ width e - 1

-- The bits of some data of a word, with each of a list above them.
unfoldable pub all_joined : ℕ → ℕ → ℕ → List ℕ → ℕ
all_joined e count bits [] = bits
all_joined e count bits (x ∷ xs) = all_joined e (count + 1) (joined e count bits x) xs
