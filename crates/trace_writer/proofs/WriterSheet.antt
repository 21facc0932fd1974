-- The writer (document 01, "Refusal numbers" and "Trace file, version 1"), worked out by hand and proved of the definitions by computation under one statement, `writer_sheet`.
use mathlib.Core.List.{List, [], ◌∷◌, map}
use mathlib.Core.Path.{◌≡◌, refl}
use Prim.Native.Nat.{ℕ}
use lib.ListN.{replicate}
use Rattle.refusals.specs.Refusals.{Answer, refused, answered}
use Rattle.samples.specs.Samples.{bad_sample, any_bad}
use Rattle.trace_format.specs.declared.Write.{Write}
use Rattle.numbers.specs.Numbers.{little}
use Rattle.trace_format.specs.Format.{version_for, count_size, write_bytes, sample_bytes, header, encode}
use Rattle.trace_writer.specs.Writing.{WriteResult, writer_refusal, write, given_from, given}

abbrev a_write : Write
a_write = record { offset = 0x0C; value = 0x04030201 }

-- "Device, memory and output buffer stay as lent"; "the writer answers its length; bytes after it stay".
abbrev leaves : Answer ℕ → List ℕ → WriteResult
leaves a buffer = record { answer = a; buffer = buffer }

abbrev lent : ℕ → List ℕ
lent n = replicate n 0xEE

pub writer_sheet :
    -- 14 for more than 255 writes, before 7 and 15; 255 are 1,283 bytes, and one byte less is 15
    (writer_refusal (replicate 256 a_write) (0x40000 ∷ []) [] ≡ 14)
    × (map (writer_refusal (replicate 255 a_write) []) (lent 1283 ∷ lent 1282 ∷ []) ≡ 0 ∷ 15 ∷ [])
    -- 7 for a bit above 17, in a later sample too, before 15
    × (map (λ samples. writer_refusal [] samples []) ((0x40000 ∷ []) ∷ (0x3FFFF ∷ 0x40000 ∷ []) ∷ (0x3FFFF ∷ []) ∷ []) ≡ 7 ∷ 7 ∷ 15 ∷ [])
    × (map (write (a_write ∷ []) (0x10AAB ∷ [])) (lent 18 ∷ lent 15 ∷ []) ≡
    leaves (answered 16) (0x46 ∷ 0x47 ∷ 0x54 ∷ 1 ∷ 0 ∷ 1 ∷ 1 ∷ 0 ∷ 0x0C ∷ 1 ∷ 2 ∷ 3 ∷ 4 ∷ 0xAB ∷ 0x0A ∷ 1 ∷ 0xEE ∷ 0xEE ∷ []) ∷
    leaves (refused 15) (lent 15) ∷
    [])
    × (write [] (0x40000 ∷ []) (lent 12) ≡ leaves (refused 7) (lent 12))
    -- writes as two arrays and a count
    × (given 3 (1 ∷ 2 ∷ 3 ∷ 4 ∷ []) (10 ∷ 20 ∷ 30 ∷ 40 ∷ []) ≡ record { offset = 1; value = 10 } ∷ record { offset = 2; value = 20 } ∷ record { offset = 3; value = 30 } ∷ [])
unfolding writer_refusal write given_from little version_for count_size write_bytes sample_bytes header encode bad_sample any_bad
writer_sheet = (refl, refl, refl, refl, refl, refl)
