-- Request W7, sentence by sentence, for files and the writer: worked out from the request by hand, proved of the definitions by computation under one statement, `request_sheet`.
use mathlib.Core.List.{List, [], ◌∷◌, map}
use mathlib.Core.Path.{◌≡◌, refl}
use Prim.Native.Nat.{ℕ}
use lib.ListN.{drop}
use Rattle.numbers.specs.Numbers.{little, number, number_at}
use Rattle.trace_format.specs.Format.{version_for, count_size, header}
use Rattle.trace_format.specs.Reading.{same, whole, form_of, form_refusal, item, Item, a_write, a_sample, the_end, refused, checked, write_at, sample_at, past, found, Read, read, samples_from, file_refusal, run_checks}
use Rattle.refusals.specs.Refusals.{first}
use Rattle.samples.specs.Samples.{bad_sample, any_bad}

-- A file's first bytes: mark, version, number of writes; then bytes.
abbrev FGT : List ℕ → List ℕ
FGT bytes = 0x46 ∷ 0x47 ∷ 0x54 ∷ bytes

unfoldable pub refused_files : List (List ℕ)
refused_files =
    -- below eight bytes 13, whatever they are: none, three wrong ones, seven with a wrong mark, seven
    [] ∷
    (1 ∷ 2 ∷ 3 ∷ []) ∷
    (1 ∷ 2 ∷ 3 ∷ 1 ∷ 0 ∷ 0 ∷ 0 ∷ []) ∷
    FGT (2 ∷ 0 ∷ 0 ∷ 0 ∷ []) ∷
    -- the mark before the version
    (0x46 ∷ 0x47 ∷ 0x55 ∷ 3 ∷ 0 ∷ 0 ∷ 0 ∷ 0 ∷ []) ∷
    -- "11 for a version that is neither 1 nor 2": 0, 3, and 258, whose low byte is 2
    FGT (0 ∷ 0 ∷ 0 ∷ 0 ∷ 0 ∷ []) ∷
    FGT (3 ∷ 0 ∷ 0 ∷ 0 ∷ 0 ∷ []) ∷
    FGT (2 ∷ 1 ∷ 0 ∷ 0 ∷ 0 ∷ []) ∷
    -- "a version 2 file below 10 bytes is 13, after 11": eight and nine bytes, the count too small as far as it goes
    FGT (2 ∷ 0 ∷ 0 ∷ 1 ∷ 0 ∷ []) ∷
    FGT (2 ∷ 0 ∷ 0 ∷ 1 ∷ 0 ∷ 0 ∷ []) ∷
    -- "12 for a version 1 count above 16,384, a version 2 count not above it", before 13 for the length
    FGT (1 ∷ 0 ∷ 0 ∷ 1 ∷ 0x40 ∷ []) ∷
    FGT (2 ∷ 0 ∷ 0 ∷ 0 ∷ 0x40 ∷ 0 ∷ 0 ∷ []) ∷
    FGT (2 ∷ 0 ∷ 0 ∷ 0 ∷ 0 ∷ 0 ∷ 0 ∷ []) ∷
    -- 16,384 in version 1 and 16,385 in version 2 pass; the length is wrong
    FGT (1 ∷ 0 ∷ 0 ∷ 0 ∷ 0x40 ∷ []) ∷
    FGT (2 ∷ 0 ∷ 0 ∷ 1 ∷ 0x40 ∷ 0 ∷ 0 ∷ []) ∷
    -- a length that is right only without its upper bits: 1,431,655,766 samples are 4,294,967,298 bytes, here two
    FGT (2 ∷ 0 ∷ 0 ∷ 0x56 ∷ 0x55 ∷ 0x55 ∷ 0x55 ∷ 0 ∷ 0 ∷ []) ∷
    -- a byte less and a byte more than the header gives
    FGT (1 ∷ 0 ∷ 0 ∷ 1 ∷ 0 ∷ 0 ∷ 0 ∷ []) ∷
    FGT (1 ∷ 0 ∷ 0 ∷ 1 ∷ 0 ∷ 0 ∷ 0 ∷ 0 ∷ 0 ∷ []) ∷
    []

-- "The writer uses version 1 up to 16,384": the headers of files with one write and 16,384, 16,385 and 4,294,967,295 samples.
unfoldable pub headers : List (List ℕ)
headers =
    FGT (1 ∷ 0 ∷ 1 ∷ 0 ∷ 0x40 ∷ []) ∷
    FGT (2 ∷ 0 ∷ 1 ∷ 1 ∷ 0x40 ∷ 0 ∷ 0 ∷ []) ∷
    FGT (2 ∷ 0 ∷ 1 ∷ 0xFF ∷ 0xFF ∷ 0xFF ∷ 0xFF ∷ []) ∷
    []

-- "a four-byte sample count, so the header is 10 bytes": version 2 with one write, 0x4CE3 to offset 0, and 16,385 samples, of which the first is there.
unfoldable pub version_2 : List ℕ
version_2 = FGT (2 ∷ 0 ∷ 1 ∷ 1 ∷ 0x40 ∷ 0 ∷ 0 ∷ 0 ∷ 0xE3 ∷ 0x4C ∷ 0 ∷ 0 ∷ 0xAB ∷ 0x0A ∷ 1 ∷ [])

-- Document 01, "Its form checks are 13, 10, 11, 12, 13 on opening and 7 at a sample, its place staying": one write and two samples, of which the first has bit 18; and the same with a wrong mark.
unfoldable pub bad_file : List ℕ
bad_file = FGT (1 ∷ 0 ∷ 1 ∷ 2 ∷ 0 ∷ 0x0C ∷ 1 ∷ 2 ∷ 3 ∷ 4 ∷ 5 ∷ 0 ∷ 4 ∷ 0xFF ∷ 0xFF ∷ 3 ∷ [])

unfoldable pub no_file : List ℕ
no_file = 0x46 ∷ 0x47 ∷ 0x55 ∷ drop 3 bad_file

abbrev finds : Item → ℕ → Read
finds i place = record { item = i; place = place }

pub request_sheet :
    (map form_refusal refused_files ≡ 13 ∷ 13 ∷ 13 ∷ 13 ∷ 10 ∷ 11 ∷ 11 ∷ 11 ∷ 13 ∷ 13 ∷ 12 ∷ 12 ∷ 12 ∷ 13 ∷ 13 ∷ 13 ∷ 13 ∷ 13 ∷ [])
    × (map (header 1) (16384 ∷ 16385 ∷ 4294967295 ∷ []) ≡ headers)
    × (map (item version_2) (0 ∷ 1 ∷ []) ≡ a_write (record { offset = 0; value = 0x4CE3 }) ∷ a_sample 0x10AAB ∷ [])
    × (whole (header 255 4294967295) ≡ 12884903170)
    × (map (read bad_file) (0 ∷ 1 ∷ 2 ∷ 3 ∷ 4 ∷ []) ≡
    finds (a_write (record { offset = 0x0C; value = 0x04030201 })) 1 ∷ finds (refused 7) 1 ∷ finds (a_sample 0x3FFFF) 3 ∷ finds the_end 3 ∷ finds the_end 4 ∷ [])
    × (map (read no_file) (0 ∷ 1 ∷ 3 ∷ []) ≡ finds (refused 10) 0 ∷ finds (refused 10) 1 ∷ finds (refused 10) 3 ∷ [])
    × (map first (run_checks no_file 6 8 9 ∷ run_checks bad_file 6 8 9 ∷ run_checks bad_file 0 8 9 ∷ run_checks bad_file 0 8 8 ∷ []) ≡ 10 ∷ 6 ∷ 9 ∷ 7 ∷ [])
    × (map file_refusal (FGT (1 ∷ 0 ∷ 0 ∷ 1 ∷ 0 ∷ 0xFF ∷ 0xFF ∷ 3 ∷ []) ∷ bad_file ∷ no_file ∷ []) ≡ 0 ∷ 7 ∷ 10 ∷ [])
unfolding refused_files headers version_2 bad_file no_file form_of same number_at number version_for count_size little header item checked bad_sample any_bad write_at sample_at past found read samples_from file_refusal
request_sheet = (refl, refl, refl, refl, refl, refl, refl, refl)
