-- Samples many at a time, proved of the definitions by computation under one statement, `decoding_sheet`: two of seven bytes, bit 23 and all; and how many are given: those there whole from a byte on, at
-- most as many as asked for, and as there is room for; the end, and refusal 7.
use mathlib.Core.List.{List, [], ◌∷◌}
use mathlib.Core.Path.{◌≡◌, refl}
use Prim.Native.Nat.{ℕ}
use Rattle.numbers.specs.Numbers.{number, number_at}
use Rattle.samples.specs.Samples.{bad_sample, any_bad}
use Rattle.trace.specs.Decoding.{samples_in, how_many, many, the_end, refused, samples_at}

abbrev seven : List ℕ
seven = 0xAB ∷ 0x0A ∷ 0x01 ∷ 0x1B ∷ 0x09 ∷ 0x80 ∷ 0xFF ∷ []

pub decoding_sheet : (samples_in 2 seven ≡ 0x010AAB ∷ 0x80091B ∷ [])
    × (how_many seven 0 9 9 ∷ how_many seven 1 9 9 ∷ how_many seven 2 9 9 ∷ how_many seven 8 9 9 ∷ how_many seven 0 1 9 ∷ how_many seven 0 9 1 ∷ [] ≡ 2 ∷ 2 ∷ 1 ∷ 0 ∷ 1 ∷ 1 ∷ [])
    × (samples_at seven 0 1 9 ∷ samples_at seven 0 9 9 ∷ samples_at seven 5 9 9 ∷ samples_at seven 0 0 9 ∷ [] ≡ many 1 ∷ refused 7 ∷ the_end ∷ the_end ∷ [])
unfolding samples_in how_many samples_at bad_sample any_bad number number_at
decoding_sheet = (refl, refl, refl)
