-- Numbers as text, and text in a buffer, proved of the definitions by computation under one statement, `text_sheet`: 0 and the ends of one, two and ten digits; digits above 9, zeros in front; text that fits, that
-- fits in part, and behind the end.
use mathlib.Core.List.{List, [], ◌∷◌}
use mathlib.Core.Path.{◌≡◌, refl}
use Prim.Native.Nat.{ℕ}
use Rattle.text.specs.Text.{ascii, decimal_within, decimal, hex}
use Rattle.text.specs.Putting.{putting, put}

abbrev four : List ℕ
four = 1 ∷ 2 ∷ 3 ∷ 4 ∷ []

pub text_sheet :
    (ascii "0 9Az\n" ≡ 0x30 ∷ 0x20 ∷ 0x39 ∷ 0x41 ∷ 0x7A ∷ 0x0A ∷ [])
    × (decimal 0 ∷ decimal 9 ∷ decimal 10 ∷ decimal 99 ∷ decimal 100 ∷ decimal 4294967295 ∷ [] ≡ ascii "0" ∷ ascii "9" ∷ ascii "10" ∷ ascii "99" ∷ ascii "100" ∷ ascii "4294967295" ∷ [])
    × (hex 2 0 ∷ hex 2 0x19 ∷ hex 2 0x1AF ∷ hex 8 0x091B0AAB ∷ hex 8 0xFEDC7654 ∷ hex 0 7 ∷ [] ≡ ascii "00" ∷ ascii "19" ∷ ascii "AF" ∷ ascii "091B0AAB" ∷ ascii "FEDC7654" ∷ [] ∷ [])
    × (put (7 ∷ 8 ∷ []) 1 four ≡ putting 3 (1 ∷ 7 ∷ 8 ∷ 4 ∷ []))
    × (put (7 ∷ 8 ∷ []) 3 four ≡ putting 4 (1 ∷ 2 ∷ 3 ∷ 7 ∷ []))
    × (put (7 ∷ 8 ∷ []) 5 four ≡ putting 5 four)
unfolding decimal_within decimal hex put
text_sheet = (refl, refl, refl, refl, refl, refl)
