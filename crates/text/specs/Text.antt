-- Text as bytes (document 01, "The frame printer"): ASCII; numbers in decimal with no zero in front, and in hexadecimal, upper case, with as many digits as asked for.
use Rattle.std.specs.Prelude.{cond, List, [], ◌∷◌, ◌++◌, ℕ, zero, suc, ◌+◌, ◌/◌, ◌%◌, ltb}
use Prim.Native.Char.{code}
use Prim.Native.String.{String, [] as []ˢ, ◌∷◌ as ◌∷ˢ◌}

-- The bytes of some characters of ASCII, which are their codes.
abbrev pub ascii : String → List ℕ
ascii []ˢ = []
ascii (c ∷ˢ s) = code c ∷ ascii s

-- 0 to 9, then A to F.
abbrev pub digit : ℕ → ℕ
digit x = cond (ltb x 10) (48 + x) (55 + x)

-- A number in decimal: below 10 its digit, else the number without its last digit, then that; at most n digits are taken off behind the first. 20 digits are enough for every 64-bit number.
unfoldable pub decimal_within : ℕ → ℕ → List ℕ
decimal_within zero x = digit x ∷ []
decimal_within (suc n) x = cond (ltb x 10) (digit x ∷ []) (decimal_within n (x / 10) ++ (digit (x % 10) ∷ []))

unfoldable pub decimal : ℕ → List ℕ
decimal x = decimal_within 19 x

-- The n lowest hexadecimal digits of a number, highest first.
unfoldable pub hex : ℕ → ℕ → List ℕ
hex zero x = []
hex (suc n) x = hex n (x / 16) ++ (digit (x % 16) ∷ [])
