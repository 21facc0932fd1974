-- What the frame printer prints (document 01, "The frame printer"): from a file's bytes to the bytes of a text in lines, each ended by a newline.
use Rattle.std.specs.Prelude.{Result, Ok, Err, cond, ℕ, zero, suc, ◌*◌, eqb, get_or, replicate}
use mathlib.Core.List.{List, [], ◌∷◌, ◌++◌, flatten}
use Rattle.output.specs.Output.{word_at}
use Rattle.refusals.specs.declared.Refusal.{Refusal}
use Rattle.rules.specs.declared.Device.{Device}
use Rattle.rules.specs.RegisterCalls.{no_device}
use Rattle.file_rules.specs.File.{run_file}
use Rattle.text.specs.Text.{ascii, decimal, hex}

-- A name with a space behind it, and a number in decimal.
unfoldable pub count_line : List ℕ → ℕ → List ℕ
count_line name n = name ++ decimal n ++ ascii "\n"

-- RIS as two hex digits; a landed word as eight.
unfoldable pub flags_line : ℕ → List ℕ
flags_line ris = ascii "flags " ++ hex 2 ris ++ ascii "\n"

unfoldable pub word_line : ℕ → List ℕ
word_line word = hex 8 word ++ ascii "\n"

-- The landed words in order, n of them from number k on: word k stands at bytes 4k to 4k + 3.
unfoldable pub word_lines : List ℕ → ℕ → ℕ → List (List ℕ)
word_lines memory k zero = []
word_lines memory k (suc n) = word_line (word_at memory (4 * k)) ∷ word_lines memory (suc k) n

-- The counts (words means landed), RIS, then each landed word.
unfoldable pub report : Device → List ℕ → List (List ℕ)
report d memory =
    let o = d.core.output in
    count_line (ascii "samples ") o.counts.samples ∷
    count_line (ascii "words ") o.counts.landed ∷
    count_line (ascii "held ") o.held ∷
    count_line (ascii "discarded ") o.counts.discarded ∷
    flags_line d.core.capture.registers.ris ∷
    word_lines memory 0 o.counts.landed

-- A refusal prints one line. Otherwise the report.
unfoldable pub lines : ℕ → Device → List ℕ → List (List ℕ)
lines number d memory = cond (eqb number 0) (report d memory) (count_line (ascii "refused ") number ∷ [])

-- The device that a run has left: none where it was refused.
abbrev pub device_left : Result Device Refusal → Device
device_left (Ok d) = d
device_left (Err e) = no_device

-- All of it: the lines one after the other.
unfoldable pub printed : ℕ → Device → List ℕ → List ℕ
printed number d memory = flatten (lines number d memory)

-- A file on standard input: its run over memory of 16,384 zero bytes, start 0, printed.
abbrev pub blank : List ℕ
blank = replicate 16384 0

unfoldable pub printed_file : List ℕ → List ℕ
printed_file file =
    let r = run_file file blank 0 in
    printed r.number r.device r.memory

-- Line number k, counted from 0, and nothing behind the last one; and what a program writes that asks for n lines by their numbers, from number k on.
abbrev pub line : ℕ → Device → List ℕ → ℕ → List ℕ
line number d memory k = get_or (lines number d memory) k []

unfoldable pub asked : (ℕ → List ℕ) → ℕ → ℕ → List ℕ
asked line k zero = []
asked line k (suc n) = line k ++ asked line (suc k) n
