-- A trace of three frames of 12 bits, and what single samples over two memories (W2), one after another, make of board and memories: A from byte 0 on, B from byte 4.
use Rattle.std.specs.Prelude.{List, [], ◌∷◌, ℕ}
use Rattle.board_rules.specs.declared.Board.{Board}
use Rattle.board_rules.specs.BoardCalls as board_calls
use Rattle.board_rules.specs.BoardRuns as board_runs

-- A blank edge; a word, its grant and the frame's end; two words, of which the first lands in the frame and the second in the sample of its end; a word, its grant and the frame's end.
abbrev pub three_frames : List ℕ
three_frames =
    0x0C000 ∷ 0x1C000 ∷
    0x00AAB ∷ 0x10AAB ∷ 0x0091B ∷ 0x1091B ∷ 0x2C000 ∷ 0x1C000 ∷
    0x00001 ∷ 0x10001 ∷ 0x00002 ∷ 0x10002 ∷ 0x00003 ∷ 0x10003 ∷ 0x20004 ∷ 0x10004 ∷ 0x0C000 ∷ 0x3C000 ∷
    0x00005 ∷ 0x10005 ∷ 0x00006 ∷ 0x10006 ∷ 0x2C000 ∷ 0x1C000 ∷
    []

-- A board and the two memories, as they are left: by one sample; by one after another.
pub record Left : Type 0 where
  pub board : Board
  pub a : List ℕ
  pub b : List ℕ

abbrev pub left : Board → List ℕ → List ℕ → Left
left board a b = record { board = board; a = a; b = b }

abbrev pub lends : List ℕ → List ℕ → board_runs.Both
lends a b = record { a = record { memory = a; start = 0 }; b = record { memory = b; start = 4 } }

abbrev pub sample_left : Board → List ℕ → List ℕ → ℕ → Left
sample_left board a b w = let s = board_runs.sample_two board (lends a b) w in left s.board s.memories.a s.memories.b

unfoldable pub samples : Board → List ℕ → List ℕ → List ℕ → Left
samples board a b [] = left board a b
samples board a b (w ∷ ws) = let l = sample_left board a b w in samples l.board l.a l.b ws

-- The board after reset, in mode two, with CR written.
abbrev pub ready : ℕ → Board
ready cr = (board_calls.write (board_calls.two_buffers board_calls.fresh).board 0x00 cr).board
