-- Trace T (document 01, "The frame printer"), and what single samples from byte 0, one after another, make of device and memory; the same of a board in mode one.
use Rattle.std.specs.Prelude.{List, [], ◌∷◌, ℕ}
use Rattle.rules.specs.declared.Device.{Device}
use Rattle.rules.specs.Run.{Ran, sample}
use Rattle.board_rules.specs.declared.Board.{Board}
use Rattle.board_rules.specs.BoardCalls.{in_one}
use Rattle.board_rules.specs.BoardRuns as board_runs

abbrev pub trace_t : List ℕ
trace_t = 0x0C000 ∷ 0x1C000 ∷ 0x00AAB ∷ 0x10AAB ∷ 0x0091B ∷ 0x1091B ∷ 0x2C000 ∷ 0x1C000 ∷ []

unfoldable pub samples : Device → List ℕ → List ℕ → Ran
samples d memory [] = record { device = d; buffer = memory }
samples d memory (w ∷ ws) = samples (sample d memory 0 w).device (sample d memory 0 w).memory ws

-- A board and the memory, as they are left: by one sample; and with the device in mode one.
pub record Left : Type 0 where
  pub board : Board
  pub memory : List ℕ

abbrev pub left : Board → List ℕ → Left
left b memory = record { board = b; memory = memory }

abbrev pub sample_left : Board → List ℕ → ℕ → Left
sample_left b memory w = let s = board_runs.sample b memory 0 w in left s.board s.memory

abbrev pub left_in_one : Ran → Left
left_in_one r = left (in_one r.device) r.buffer
