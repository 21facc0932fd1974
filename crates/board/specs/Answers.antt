-- The paper's values of each case of the answers of a board's calls (W2), and what the calls leave by value and in lent places, together. A refused call leaves the board as it was: it stands
-- first.
use Rattle.std.specs.Prelude.{false, List, [], ◌≡◌, ℕ, ◌+◌, ◌≤◌, ◌<◌, ◌^◌, length, Option, None, Some, Result, Ok, Err}
use Rattle.refusals.specs.Refusals.{Answer, refused, answered}
use Rattle.refusals.specs.declared.Refusal.{Refusal}
use Rattle.refusals.specs.Table.{number, answer_of}
use Rattle.output.specs.declared.SampleAnswer.{SampleAnswer}
use Rattle.buffers.specs.declared.Buffer.{Buffer}
use Rattle.buffers.specs.declared.Turns.{Turns}
use Rattle.rules.specs.declared.Device.{Device}
use Rattle.rules.specs.WellFormed.{malformed}
use Rattle.board_rules.specs.declared.Board.{Board}
use Rattle.board_rules.specs.State.{bad_turns}
use Rattle.board_rules.specs.Answers as board_answers
use Rattle.board_rules.specs.TwoBuffers as buffer_rules
use Rattle.board_rules.specs.BoardRuns as board_runs
use Rattle.board_rules.specs.HandingBack as handing_rules
use Rattle.board_rules.specs.declared.Landing.{Landing}
use Rattle.board_rules.specs.declared.TwoAnswer.{TwoAnswer}
use Rattle.board_rules.specs.declared.Handed.{Handed}
use Rattle.board_rules.specs.declared.Handed.TheVariants as handed_cases
use Rattle.board.specs.declared.Sampled.{Sampled}
use Rattle.board.specs.declared.TwoSampled.{TwoSampled}
use Rattle.board.specs.declared.TwoAccepted.{TwoAccepted}
use Rattle.board.specs.declared.HandedBack.{HandedBack}

-- The number and the board that a call leaves.
abbrev pub changed : Board → Result Board Refusal → board_answers.Changed
changed before (Ok b) = record { number = 0; board = b }
changed before (Err e) = record { number = number e; board = before }

-- With the memory that some samples leave.
abbrev pub ran : Board → Result Board Refusal → List ℕ → board_runs.OneRun
ran before (Ok b) memory = record { number = 0; board = b; memory = memory }
ran before (Err e) memory = record { number = number e; board = before; memory = memory }

-- A sample's two answers, or a refusal; and over a board that is lent.
abbrev pub sampled : Board → Result Sampled Refusal → List ℕ → board_runs.OneSample
sampled before (Ok s) memory = record { answer = answered s.answer; board = s.board; memory = memory }
sampled before (Err e) memory = record { answer = refused (number e); board = before; memory = memory }

abbrev pub lent_sampled : Board → Result SampleAnswer Refusal → List ℕ → board_runs.OneSample
lent_sampled after r memory = record { answer = answer_of r; board = after; memory = memory }

-- Two lent memories with their starts; what a run over them leaves.
abbrev pub pair : List ℕ → List ℕ → buffer_rules.Pair
pair a b = record { a = a; b = b }

abbrev pub both : List ℕ → ℕ → List ℕ → ℕ → board_runs.Both
both ma sa mb sb = record { a = record { memory = ma; start = sa }; b = record { memory = mb; start = sb } }

abbrev pub two_ran : Board → Result Board Refusal → List ℕ → List ℕ → board_runs.TwoRun
two_ran before (Ok b) ma mb = record { number = 0; board = b; memories = pair ma mb }
two_ran before (Err e) ma mb = record { number = number e; board = before; memories = pair ma mb }

-- A device and turns that a sample over two frame buffers may find, with so many samples to come.
pub record Accepted (d : Device) (t : Turns) (n : ℕ) : Type 0 where
  pub well : malformed d ≡ false
  pub turns : bad_turns d.core.output t ≡ false
  pub fits : d.core.output.counts.samples + n < 2 ^ 32

-- Over frame buffers: device, turns and buffers; what samples leave.
abbrev pub two : Device → Turns → List ℕ → List ℕ → buffer_rules.Two
two d t a b = record { device = d; turns = t; buffers = pair a b }

pub record LeftTwo : Type 0 where
  pub board : Board
  pub buffers : buffer_rules.Pair

abbrev pub left_two : Board → List ℕ → List ℕ → LeftTwo
left_two board a b = record { board = board; buffers = pair a b }

unfoldable pub ran_two : Device → Turns → List ℕ → List ℕ → List ℕ → LeftTwo
ran_two d t a b ws = let x = buffer_rules.two_steps (two d t a b) ws in record { board = board_runs.board x; buffers = x.buffers }

abbrev pub stepped_two : TwoAccepted → List ℕ → List ℕ → buffer_rules.TwoStepped
stepped_two r a b = record { after = two r.device r.turns a b; landing = r.answer.landing; packed = r.answer.packed }

-- A landing's byte in its memory, which is below 2 ^ 64.
abbrev pub start_in : ℕ → ℕ → Buffer → ℕ
start_in sa sb u = (board_runs.lent u (both [] sa [] sb)).start

abbrev pub Within : ℕ → ℕ → Option Landing → Type 0
Within sa sb o = (l : Landing) → o ≡ Some l → start_in sa sb l.buffer + l.byte < 2 ^ 64

unfoldable pub in_memories : ℕ → ℕ → Option Landing → Option Landing
in_memories sa sb None = None
in_memories sa sb (Some l) = Some (record { buffer = l.buffer; byte = start_in sa sb l.buffer + l.byte })

-- A sample's two answers, or a refusal; and over a board that is lent.
abbrev pub two_sampled : Board → Result TwoSampled Refusal → List ℕ → List ℕ → board_runs.TwoSample
two_sampled before (Ok s) ma mb = record { answer = answered s.answer; board = s.board; memories = pair ma mb }
two_sampled before (Err e) ma mb = record { answer = refused (number e); board = before; memories = pair ma mb }

abbrev pub lent_two_sampled : Board → Result TwoAnswer Refusal → List ℕ → List ℕ → board_runs.TwoSample
lent_two_sampled after r ma mb = record { answer = answer_of r; board = after; memories = pair ma mb }

-- Where the latest complete frame is, or a refusal; and the part that is handed back, empty where the call is refused.
abbrev pub frame_of : Result HandedBack Refusal → Answer Handed
frame_of (Ok h) = answered h.frame
frame_of (Err e) = refused (number e)

abbrev pub part_of : Result HandedBack Refusal → List ℕ
part_of (Ok h) = h.part.now
part_of (Err e) = []

abbrev pub span : ℕ → ℕ → handing_rules.Span
span length start = record { length = length; start = start }

abbrev pub spans : ℕ → ℕ → ℕ → ℕ → handing_rules.Spans
spans la sa lb sb = record { a = span la sa; b = span lb sb }

-- The part that an answer names is there.
unfoldable pub Named : Answer Handed → board_runs.Both → Type 0
Named (refused n) l = Unit {0}
Named (answered handed_cases.Nothing) l = Unit {0}
Named (answered (handed_cases.TooShort u bytes)) l = Unit {0}
Named (answered (handed_cases.FrameIn u bytes)) l = (board_runs.lent u l).start + bytes ≤ length (board_runs.lent u l).memory
