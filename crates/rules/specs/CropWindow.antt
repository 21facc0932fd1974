-- The crop window: the test in the manual's terms (004, 32.3.8, 32.5.9, 32.5.10), and rule 7 in the paper's words. Both give the same answer for every line,
-- column and register content (proofs/CropWindow, `window_is_rule_7`).
use Rattle.std.specs.Prelude.{Bool, ◌&&◌, ℕ, ◌+◌, ltb, leb}
use Rattle.registers.specs.Window.{vst, hoffcnt, vline, capcnt}
use Rattle.rules.specs.declared.Registers.{Registers}

-- 32.5.9 VST, 32.5.10 VLINE: the first line, and the number of lines, VLINE + 1.
abbrev pub first_line : Registers → ℕ
first_line r = vst r.cwstrt

abbrev pub number_of_lines : Registers → ℕ
number_of_lines r = vline r.cwsize + 1

-- The lines of a frame up to the window's last, which is line VST + VLINE: VST + VLINE + 1, since lines count from 0.
abbrev pub lines_to_window_end : Registers → ℕ
lines_to_window_end r = first_line r + number_of_lines r

-- 32.5.9 HOFFCNT, 32.5.10 CAPCNT: the first pixel clock of a line, and the number of pixel clocks, CAPCNT + 1.
abbrev pub first_clock : Registers → ℕ
first_clock r = hoffcnt r.cwstrt

abbrev pub number_of_clocks : Registers → ℕ
number_of_clocks r = capcnt r.cwsize + 1

-- One of so many from the first on.
unfoldable pub one_of : ℕ → ℕ → ℕ → Bool
one_of first number x = leb first x && ltb x (first + number)

-- 32.3.8: a line, and a pixel clock in it, are inside the window. Both count from 0.
unfoldable pub inside : Registers → ℕ → ℕ → Bool
inside r line clock = one_of (first_line r) (number_of_lines r) line && one_of (first_clock r) (number_of_clocks r) clock

-- Rule 7: the line is VST to VST + VLINE and the column is HOFFCNT to HOFFCNT + CAPCNT, ends included.
unfoldable pub from_to : ℕ → ℕ → ℕ → Bool
from_to low high x = leb low x && leb x high

unfoldable pub rule_7 : Registers → ℕ → ℕ → Bool
rule_7 r line column =
    from_to (vst r.cwstrt) (vst r.cwstrt + vline r.cwsize) line &&
    from_to (hoffcnt r.cwstrt) (hoffcnt r.cwstrt + capcnt r.cwsize) column
