-- Running a file (document 01, "Refusal numbers" and "The frame printer"; W9), worked out by hand and proved of the definitions by computation under one statement, `files_sheet`.
use mathlib.Core.List.{List, [], ◌∷◌, ◌++◌, map}
use mathlib.Core.Path.{◌≡◌, refl}
use Prim.Native.Nat.{ℕ}
use lib.ListN.{replicate}
use Rattle.numbers.specs.Numbers.{number, number_at}
use Rattle.rules.specs.RegisterCalls.{no_device}
use Rattle.rules.specs.Run.{RunResult}
use Rattle.rules.proofs.EveryRule.{every_rule}
use Rattle.trace_format.specs.Format.{version_for, count_size}
use Rattle.trace_format.specs.Reading.{same, form_of, write_at, sample_at, writes_from, samples_from}
use Rattle.file_rules.specs.File.{set_up, run_on, run_file, run_file_of}

-- A file of so many writes and samples; the paper's trace but for its last byte.
abbrev file : ℕ → ℕ → List ℕ → List ℕ
file writes samples bytes = 0x46 ∷ 0x47 ∷ 0x54 ∷ 1 ∷ 0 ∷ writes ∷ samples ∷ 0 ∷ bytes

abbrev T : List ℕ
T =
    0x00 ∷ 0xC0 ∷ 0x00 ∷ 0x00 ∷ 0xC0 ∷ 0x01 ∷ 0xAB ∷ 0x0A ∷ 0x00 ∷ 0xAB ∷ 0x0A ∷ 0x01 ∷
    0x1B ∷ 0x09 ∷ 0x00 ∷ 0x1B ∷ 0x09 ∷ 0x01 ∷ 0x00 ∷ 0xC0 ∷ 0x02 ∷ 0x00 ∷ 0xC0 ∷ []

abbrev enabling : List ℕ
enabling = 0x00 ∷ 0xE3 ∷ 0x48 ∷ 0x00 ∷ 0x00 ∷ []

-- Number, landed, RIS and depth, and the memory of eight bytes.
pub record Row : Type 0 where
  pub numbers : List ℕ
  pub memory : List ℕ

abbrev row : RunResult → Row
row r =
    record {
      numbers = r.number ∷ r.device.core.output.counts.landed ∷ r.device.core.capture.registers.ris ∷ r.device.core.output.depth ∷ [];
      memory = r.memory;
    }

abbrev lent : List ℕ
lent = replicate 8 0xEE

abbrev leaves : List ℕ → List ℕ → Row
leaves numbers memory = record { numbers = numbers; memory = memory }

pub files_sheet :
    -- the paper's file, from byte 0 and from byte 4
    (map (λ start. row (run_file (file 1 8 (enabling ++ T ++ 0x01 ∷ [])) lent start)) (0 ∷ 4 ∷ []) ≡
    leaves (0 ∷ 1 ∷ 0x19 ∷ 4 ∷ []) (0xAB ∷ 0x0A ∷ 0x1B ∷ 0x09 ∷ replicate 4 0xEE) ∷
    leaves (0 ∷ 1 ∷ 0x19 ∷ 4 ∷ []) (replicate 4 0xEE ++ 0xAB ∷ 0x0A ∷ 0x1B ∷ 0x09 ∷ []) ∷
    [])
    -- 9 before 7; refused, there is no device and the memory is as it was, also if the last sample was the bad one
    × (run_file (file 1 8 (enabling ++ T ++ 0x04 ∷ [])) lent 9 ≡ record { number = 9; device = no_device; memory = lent })
    × (run_file (file 1 8 (enabling ++ T ++ 0x04 ∷ [])) lent 0 ≡ record { number = 7; device = no_device; memory = lent })
    -- the first refused write's number, before 9: CWSTRT behind enabling is 6, and so the offset without a register behind it is not answered
    × (run_file (file 3 1 (enabling ++ 0x20 ∷ 0 ∷ 0 ∷ 0 ∷ 0 ∷ 0x40 ∷ 0 ∷ 0 ∷ 0 ∷ 0 ∷ 0 ∷ 0 ∷ 4 ∷ [])) lent 9 ≡ record { number = 6; device = no_device; memory = lent })
    × ((run_file (file 2 1 (0x20 ∷ 0 ∷ 0 ∷ 0 ∷ 0 ∷ enabling ++ 0 ∷ 0 ∷ 0 ∷ [])) lent 8).number ≡ 0)
    -- the form before the writes
    × (run_file (file 1 1 (0x40 ∷ 0 ∷ 0 ∷ 0 ∷ 0 ∷ 0 ∷ 0 ∷ [])) lent 9 ≡ record { number = 13; device = no_device; memory = lent })
    -- W9: "18, the first check where a device is made"; the file is run on a device of that depth
    × (map (λ depth. row (run_file_of depth (1 ∷ 2 ∷ 3 ∷ []) lent 9)) (0 ∷ 33 ∷ 32 ∷ []) ≡ leaves (18 ∷ 0 ∷ 0 ∷ 0 ∷ []) lent ∷ leaves (18 ∷ 0 ∷ 0 ∷ 0 ∷ []) lent ∷ leaves (13 ∷ 0 ∷ 0 ∷ 0 ∷ []) lent ∷ [])
    × (row (run_file_of 1 (file 1 8 (enabling ++ T ++ 0x01 ∷ [])) lent 4) ≡ leaves (0 ∷ 1 ∷ 0x19 ∷ 1 ∷ []) (replicate 4 0xEE ++ 0xAB ∷ 0x0A ∷ 0x1B ∷ 0x09 ∷ []))
unfolding every_rule version_for count_size number number_at same form_of write_at sample_at writes_from samples_from set_up run_on run_file_of
files_sheet = (refl, refl, refl, refl, refl, refl, refl, refl)
