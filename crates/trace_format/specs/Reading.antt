-- Reading a trace file, version 1 or 2: the form checks, and the item at a place (document 01, "Trace file, version 1" and "Refusal numbers"; request W7).
use Rattle.std.specs.Prelude.{Bool, true, false, cond, not, ◌&&◌, ◌||◌, List, [], ◌∷◌, ◌++◌, ℕ, zero, suc, ◌+◌, ◌-◌, ◌*◌, eqb, ltb, length, take}
use Rattle.numbers.specs.Numbers.{number_at}
use Rattle.refusals.specs.Refusals.{Test, ◌⇒◌, first}
use Rattle.samples.specs.Samples.{bad_sample, any_bad}
use Rattle.trace_format.specs.declared.Write.{Write}
use Rattle.trace_format.specs.Format.{version_for, count_size, header_length, sample_size, write_start, mark}

unfoldable pub same : List ℕ → List ℕ → Bool
same [] [] = true
same [] (y ∷ ys) = false
same (x ∷ xs) [] = false
same (x ∷ xs) (y ∷ ys) = eqb x y && same xs ys

-- The header's numbers. Which bytes are the number of samples the version says.
abbrev pub version_of : List ℕ → ℕ
version_of file = number_at file 3 2

abbrev pub write_count : List ℕ → ℕ
write_count file = number_at file 5 1

abbrev pub sample_count : List ℕ → ℕ
sample_count file = number_at file 6 (count_size (version_of file))

-- The byte at which sample number k of a file begins; and the length that the header gives.
abbrev pub sample_start : List ℕ → ℕ → ℕ
sample_start file k = write_start (version_of file) (write_count file) + sample_size * k

abbrev pub whole : List ℕ → ℕ
whole file = sample_start file (sample_count file)

-- The checks of a header, of which n bytes of the file are there: 13 (below 8 bytes), 10, 11, 13 (version 2 below 10 bytes), 12: the version is not that of the
-- number of samples, which is above 16,384 in version 1, or not above it in version 2.
abbrev pub header_checks : List ℕ → ℕ → List Test
header_checks head n =
    ltb n 8 ⇒ 13 ∷
    not (same (take 3 head) mark) ⇒ 10 ∷
    not (eqb (version_of head) 1 || eqb (version_of head) 2) ⇒ 11 ∷
    ltb n (header_length (version_of head)) ⇒ 13 ∷
    not (eqb (version_of head) (version_for (sample_count head))) ⇒ 12 ∷
    []

unfoldable pub header_refusal : List ℕ → ℕ → ℕ
header_refusal head n = first (header_checks head n)

-- The form checks of a file that begins with a header and has a length: those of the header, then 13 where the length is not the one that the header gives.
unfoldable pub form_of : List ℕ → ℕ → ℕ
form_of head n = first (header_checks head n ++ (not (eqb n (whole head)) ⇒ 13 ∷ []))

-- The form checks on opening: 13, 10, 11, 13, 12, 13.
abbrev pub form_refusal : List ℕ → ℕ
form_refusal file = form_of file (length file)

-- What stands at a place: a write, a sample, the end, or a refusal.
pub data Item : Type 0 where
  a_write : Write → Item
  a_sample : ℕ → Item
  the_end : Item
  refused : ℕ → Item

-- Refusal 7: a sample has a bit above 17.
unfoldable pub checked : ℕ → Item
checked w = cond (bad_sample w) (refused 7) (a_sample w)

-- Write number k, and sample number k, of a file.
unfoldable pub write_at : List ℕ → ℕ → Write
write_at file k = record { offset = number_at file (write_start (version_of file) k) 1; value = number_at file (write_start (version_of file) k + 1) 4 }

unfoldable pub sample_at : List ℕ → ℕ → ℕ
sample_at file k = number_at file (sample_start file k) sample_size

-- Places are numbered from 0: first the writes, then the samples, then the end.
unfoldable pub item : List ℕ → ℕ → Item
item file place =
    cond (ltb place (write_count file))
    (a_write (write_at file place))
    (cond (ltb place (write_count file + sample_count file)) (checked (sample_at file (place - write_count file))) the_end)

-- The place after an item; at the end and at a refusal it stays.
unfoldable pub past : ℕ → Item → ℕ
past place (a_write w) = place + 1
past place (a_sample w) = place + 1
past place the_end = place
past place (refused n) = place

-- A reader at a place of a file: what it finds there once the file passes the form checks, and its place afterwards.
pub record Read : Type 0 where
  pub item : Item
  pub place : ℕ

unfoldable pub found : List ℕ → ℕ → Item
found file place = cond (eqb (form_refusal file) 0) (item file place) (refused (form_refusal file))

unfoldable pub read : List ℕ → ℕ → Read
read file place = record { item = found file place; place = past place (found file place) }

-- What n readings one after the other find, from a place on.
unfoldable pub visits : List ℕ → ℕ → ℕ → List Item
visits file place zero = []
visits file place (suc n) = (read file place).item ∷ visits file (read file place).place n

-- All writes and all samples of a file, in order, n of them from number k on.
unfoldable pub writes_from : List ℕ → ℕ → ℕ → List Write
writes_from file k zero = []
writes_from file k (suc n) = write_at file k ∷ writes_from file (suc k) n

unfoldable pub samples_from : List ℕ → ℕ → ℕ → List ℕ
samples_from file k zero = []
samples_from file k (suc n) = sample_at file k ∷ samples_from file (suc k) n

abbrev pub writes_of : List ℕ → List Write
writes_of file = writes_from file 0 (write_count file)

abbrev pub samples_of : List ℕ → List ℕ
samples_of file = samples_from file 0 (sample_count file)

-- An accepted file passes the form checks, and none of its samples has a bit above 17.
unfoldable pub file_refusal : List ℕ → ℕ
file_refusal file = cond (eqb (form_refusal file) 0) (cond (any_bad (samples_of file)) 7 0) (form_refusal file)

-- The checks of a file that is run, whatever module runs it, over a memory of so many bytes; `written` is the number of the first refused write, 0 where none is. In order: 13,
-- 10, 11, 13, 12, 13, the refused write's number, 9, 7.
abbrev pub run_checks : List ℕ → ℕ → ℕ → ℕ → List Test
run_checks file written size start =
    not (eqb (form_refusal file) 0) ⇒ form_refusal file ∷
    not (eqb written 0) ⇒ written ∷
    ltb size start ⇒ 9 ∷
    any_bad (samples_of file) ⇒ 7 ∷
    []
