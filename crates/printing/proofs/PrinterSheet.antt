-- What is printed (document 01, "The frame printer"), proved of the definitions by computation under one statement, `printer_sheet`: the paper's file, the same at ten and at eight bits and without the grant, and refused ones.
use mathlib.Core.List.{List, [], ◌∷◌, flatten}
use mathlib.Core.Path.{◌≡◌, refl}
use Prim.Native.Nat.{ℕ}
use Rattle.numbers.specs.Numbers.{number, number_at}
use Rattle.rules.proofs.EveryRule.{every_rule}
use Rattle.trace_format.specs.Format.{version_for, count_size}
use Rattle.trace_format.specs.Reading.{same, form_of, write_at, sample_at, writes_from, samples_from}
use Rattle.file_rules.specs.File.{set_up, run_on}
use Rattle.text.specs.Text.{ascii, decimal_within, decimal, hex}
use Rattle.printing.specs.Printed.{count_line, flags_line, word_line, word_lines, report, lines, printed, printed_file}

-- The paper's 37 bytes, with a byte of CR, that of the grant and the last one named.
abbrev paper : ℕ → ℕ → ℕ → List ℕ
paper cr grant last =
    0x46 ∷ 0x47 ∷ 0x54 ∷ 0x01 ∷ 0x00 ∷ 0x01 ∷ 0x08 ∷ 0x00 ∷ 0x00 ∷ 0xE3 ∷ cr ∷ 0x00 ∷ 0x00 ∷
    0x00 ∷ 0xC0 ∷ 0x00 ∷ 0x00 ∷ 0xC0 ∷ 0x01 ∷ 0xAB ∷ 0x0A ∷ 0x00 ∷ 0xAB ∷ 0x0A ∷ 0x01 ∷
    0x1B ∷ 0x09 ∷ 0x00 ∷ 0x1B ∷ 0x09 ∷ 0x01 ∷ 0x00 ∷ 0xC0 ∷ grant ∷ 0x00 ∷ 0xC0 ∷ last ∷ []

pub printer_sheet :
    (printed_file (paper 0x48 0x02 0x01) ≡ ascii "samples 8\nwords 1\nheld 0\ndiscarded 0\nflags 19\n091B0AAB\n")
    × (printed_file (paper 0x44 0x02 0x01) ≡ ascii "samples 8\nwords 1\nheld 0\ndiscarded 0\nflags 19\n011B02AB\n")
    × (printed_file (paper 0x40 0x02 0x01) ≡ ascii "samples 8\nwords 0\nheld 0\ndiscarded 0\nflags 19\n")
    -- no grant: the word is held
    × (printed_file (paper 0x48 0x00 0x01) ≡ ascii "samples 8\nwords 0\nheld 1\ndiscarded 0\nflags 19\n")
    × (printed_file (paper 0x48 0x02 0x04) ≡ ascii "refused 7\n")
    × (printed_file [] ≡ ascii "refused 13\n")
unfolding every_rule version_for count_size number number_at same form_of write_at sample_at writes_from samples_from set_up run_on decimal_within decimal hex count_line flags_line word_line word_lines report lines printed printed_file flatten
printer_sheet = (refl, refl, refl, refl, refl, refl)
