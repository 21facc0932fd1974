-- Request W7, sentence by sentence, for files by parts: worked out from the request by hand, proved of the definitions by computation under one statement, `request_sheet`.
use mathlib.Core.List.{List, [], ◌∷◌, ◌++◌, map}
use mathlib.Core.Path.{◌≡◌, refl}
use Prim.Native.Nat.{ℕ}
use lib.ListN.{take, drop, replicate}
use Rattle.numbers.specs.Numbers.{number, number_at}
use Rattle.rules.specs.State.{fresh}
use Rattle.rules.specs.Run.{RunResult}
use Rattle.rules.proofs.EveryRule.{every_rule}
use Rattle.trace_format.specs.Format.{version_for, count_size}
use Rattle.trace_format.specs.Reading.{same, header_refusal, form_of}
use Rattle.file_rules.specs.Parts.{State, opened, wants, after_write, after_sample, falls, write_byte, sample_byte, byte_at, take_byte, take_bytes, take_parts, end_refusal, ended, run_parts, wanted}

-- The paper's file of 37 bytes (document 01, "The frame printer"), but for its last sample.
unfoldable pub file_T : List ℕ
file_T =
    0x46 ∷ 0x47 ∷ 0x54 ∷ 0x01 ∷ 0x00 ∷ 0x01 ∷ 0x08 ∷ 0x00 ∷ 0x00 ∷ 0xE3 ∷ 0x48 ∷ 0x00 ∷ 0x00 ∷
    0x00 ∷ 0xC0 ∷ 0x00 ∷ 0x00 ∷ 0xC0 ∷ 0x01 ∷ 0xAB ∷ 0x0A ∷ 0x00 ∷ 0xAB ∷ 0x0A ∷ 0x01 ∷
    0x1B ∷ 0x09 ∷ 0x00 ∷ 0x1B ∷ 0x09 ∷ 0x01 ∷ 0x00 ∷ 0xC0 ∷ 0x02 ∷ []

-- One byte a part.
abbrev singly : List ℕ → List (List ℕ)
singly [] = []
singly (b ∷ bs) = (b ∷ []) ∷ singly bs

-- Header and write of a file with one write to an offset where no register is, and one sample.
abbrev no_register : List ℕ → List ℕ
no_register sample = 0x46 ∷ 0x47 ∷ 0x54 ∷ 0x01 ∷ 0x00 ∷ 0x01 ∷ 0x01 ∷ 0x00 ∷ 0x40 ∷ 0x00 ∷ 0x00 ∷ 0x00 ∷ 0x00 ∷ sample

-- Its number, how many words landed, and the memory of eight bytes.
pub record Row : Type 0 where
  pub number : ℕ
  pub landed : ℕ
  pub memory : List ℕ

abbrev row : RunResult → Row
row r = record { number = r.number; landed = r.device.core.output.counts.landed; memory = r.memory }

abbrev by : ℕ → List (List ℕ) → Row
by start parts = row (run_parts fresh parts (replicate 8 0) start)

-- Accepted or refused; the word 0x091B0AAB in memory, or nothing.
abbrev accepted : Row
accepted = record { number = 0; landed = 1; memory = 0xAB ∷ 0x0A ∷ 0x1B ∷ 0x09 ∷ 0 ∷ 0 ∷ 0 ∷ 0 ∷ [] }

abbrev with_word : ℕ → Row
with_word number = record { number = number; landed = 0; memory = 0xAB ∷ 0x0A ∷ 0x1B ∷ 0x09 ∷ 0 ∷ 0 ∷ 0 ∷ 0 ∷ [] }

abbrev nothing : ℕ → Row
nothing number = record { number = number; landed = 0; memory = replicate 8 0 }

unfoldable pub inputs : List (List (List ℕ))
inputs =
    -- "print the same": whole; a byte a part; cut in the header, in the write and in a sample, with empty parts
    ((file_T ++ 0x00 ∷ 0xC0 ∷ 0x01 ∷ []) ∷ []) ∷
    singly (file_T ++ 0x00 ∷ 0xC0 ∷ 0x01 ∷ []) ∷
    ([] ∷ take 5 file_T ∷ [] ∷ take 6 (drop 5 file_T) ∷ drop 11 file_T ∷ (0x00 ∷ 0xC0 ∷ []) ∷ (0x01 ∷ []) ∷ [] ∷ []) ∷
    -- a byte less, a byte more, a bad sample: what landed before stays
    (file_T ∷ (0x00 ∷ 0xC0 ∷ []) ∷ []) ∷
    (file_T ∷ (0x00 ∷ 0xC0 ∷ 0x01 ∷ 0x00 ∷ []) ∷ []) ∷
    (file_T ∷ (0x00 ∷ 0xC0 ∷ 0x04 ∷ []) ∷ []) ∷
    -- a bad sample and a wrong length: 13 comes before 7
    (file_T ∷ (0x00 ∷ 0xC0 ∷ 0x04 ∷ 0x00 ∷ []) ∷ []) ∷
    -- a refused write and a bad sample; with a wrong length as well
    (no_register (0x00 ∷ 0x00 ∷ 0x04 ∷ []) ∷ []) ∷
    (no_register (0x00 ∷ 0x00 ∷ 0x04 ∷ 0x00 ∷ []) ∷ []) ∷
    -- nothing; three wrong bytes; eight with a wrong mark
    [] ∷
    ((1 ∷ 2 ∷ 3 ∷ []) ∷ []) ∷
    ((1 ∷ 2 ∷ 3 ∷ []) ∷ (1 ∷ 0 ∷ 0 ∷ 0 ∷ 0 ∷ []) ∷ []) ∷
    []

-- The state after some bytes; and what is wanted then: to the eighth, whatever came before; to the tenth in version 2; to one behind the length; nothing behind a refused header.
abbrev begun : List ℕ → State
begun bytes = (take_bytes 0 (record { state = opened fresh; memory = [] }) bytes).state

abbrev more : List ℕ → ℕ
more bytes = let s = begun bytes in wanted s.head s.taken

pub request_sheet :
    (map (by 0) inputs ≡ accepted ∷ accepted ∷ accepted ∷ with_word 13 ∷ with_word 13 ∷ with_word 7 ∷ with_word 13 ∷ nothing 2 ∷ nothing 13 ∷ nothing 13 ∷ nothing 13 ∷ nothing 10 ∷ [])
    -- 9 stands after the writes and before the samples, and is found without samples too
    × (map (by 9) (((file_T ++ 0x00 ∷ 0xC0 ∷ 0x04 ∷ []) ∷ []) ∷ (no_register (0x00 ∷ 0x00 ∷ 0x04 ∷ []) ∷ []) ∷ ((0x46 ∷ 0x47 ∷ 0x54 ∷ 1 ∷ 0 ∷ 0 ∷ 0 ∷ 0 ∷ []) ∷ []) ∷ []) ≡ nothing 9 ∷ nothing 2 ∷ nothing 9 ∷ [])
    × (map more ([] ∷ (1 ∷ 2 ∷ 3 ∷ []) ∷ (1 ∷ 2 ∷ 3 ∷ 1 ∷ 0 ∷ 0 ∷ 0 ∷ 0 ∷ []) ∷ (0x46 ∷ 0x47 ∷ 0x54 ∷ 2 ∷ 0 ∷ 0 ∷ 0 ∷ []) ∷ (0x46 ∷ 0x47 ∷ 0x54 ∷ 2 ∷ 0 ∷ 0 ∷ 0 ∷ 0 ∷ []) ∷ (0x46 ∷ 0x47 ∷ 0x54 ∷ 2 ∷ 0 ∷ 0 ∷ 0 ∷ 0 ∷ 0 ∷ []) ∷ take 8 file_T ∷ (file_T ++ 0x00 ∷ 0xC0 ∷ 0x01 ∷ []) ∷ []) ≡ 8 ∷ 5 ∷ 0 ∷ 1 ∷ 2 ∷ 1 ∷ 30 ∷ 1 ∷ [])
    -- of three bytes too many one is counted
    × ((begun (file_T ++ 0x00 ∷ 0xC0 ∷ 0x01 ∷ 0x00 ∷ 0x00 ∷ 0x00 ∷ [])).taken ≡ 38)
unfolding every_rule inputs file_T opened wants after_write after_sample falls write_byte sample_byte byte_at take_byte take_bytes take_parts end_refusal ended run_parts wanted header_refusal form_of same number_at number version_for count_size
request_sheet = (refl, refl, refl, refl)
