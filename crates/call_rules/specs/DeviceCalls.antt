-- What the exported calls on a device answer and leave: the rules of each call on the board of an image, as numbers and words (include/dcmi.h). An image that
-- encodes no board is malformed: refusal 1. Refused, image, memory and every output stay.
use Rattle.std.specs.Prelude.{Bool, cond, List, [], ◌∷◌, ℕ, eqb, Option, None, Some}
use Rattle.refusals.specs.Refusals.{Answer, refused, answered}
use Rattle.buffers.specs.declared.Buffer.{Buffer}
use Rattle.buffers.specs.declared.Buffer.TheVariants.{A, B}
use Rattle.output.specs.declared.Packing.{Packing as Packed}
use Rattle.output.specs.declared.Packing.TheVariants.{Nothing as nothing, Completed as completed, Lost as lost}
use Rattle.output.specs.declared.SampleAnswer.{SampleAnswer}
use Rattle.board_rules.specs.declared.Board.{Board}
use Rattle.board_rules.specs.Answers.{Changed}
use Rattle.board_rules.specs.TwoBuffers.{Pair}
use Rattle.board_rules.specs.declared.Landing.{Landing}
use Rattle.board_rules.specs.BoardCalls as board_calls
use Rattle.board_rules.specs.BoardRuns as board_runs
use Rattle.board_rules.specs.HandingBack as handing_rules
use Rattle.image_rules.specs.Image.{flag}
use Rattle.board_rules.specs.declared.Handed.TheVariants as handed_cases
use Rattle.board_rules.specs.declared.Handed.{Handed}
use Rattle.board_rules.specs.declared.TwoAnswer.{TwoAnswer}
use Rattle.image_rules.specs.BoardImage.{image_of, encodes, board_of}

-- The number, and the image that is left.
pub record Called : Type 0 where
  pub number : ℕ
  pub image : List ℕ

abbrev pub called : ℕ → List ℕ → Called
called number image = record { number = number; image = image }

abbrev pub changed : List ℕ → Changed → Called
changed image c = record { number = c.number; image = cond (eqb c.number 0) (image_of c.board) image }

abbrev pub no_board : List ℕ → Called
no_board image = record { number = 1; image = image }

unfoldable pub reset : Called
reset = record { number = 0; image = image_of board_calls.fresh }

-- W9: a device made with a depth.
unfoldable pub reset_depth : List ℕ → ℕ → Called
reset_depth image depth = changed image (board_calls.made depth)

-- A call that changes the board of an image.
abbrev pub on_board : List ℕ → (Board → Changed) → Called
on_board image call = cond (encodes image) (changed image (call (board_of image))) (no_board image)

unfoldable pub write : List ℕ → ℕ → ℕ → Called
write image offset value = on_board image (λ b. board_calls.write b offset value)

unfoldable pub rearm : List ℕ → Called
rearm image = on_board image board_calls.rearm

-- W2: the buffer mode.
unfoldable pub one_buffer : List ℕ → Called
one_buffer image = on_board image board_calls.one_buffer

unfoldable pub two_buffers : List ℕ → Called
two_buffers image = on_board image board_calls.two_buffers

-- The number, and the output that is left: the old one where the call is refused.
pub record Got : Type 0 where
  pub number : ℕ
  pub value : ℕ

abbrev pub gave : ℕ → ℕ → Got
gave number value = record { number = number; value = value }

abbrev pub got : ℕ → Answer ℕ → Got
got old (refused n) = record { number = n; value = old }
got old (answered v) = record { number = 0; value = v }

abbrev pub got_line : ℕ → Answer Bool → Got
got_line old (refused n) = record { number = n; value = old }
got_line old (answered b) = record { number = 0; value = flag b }

unfoldable pub read : List ℕ → ℕ → ℕ → Got
read image offset old = cond (encodes image) (got old (board_calls.read (board_of image) offset)) (record { number = 1; value = old })

unfoldable pub interrupt : List ℕ → ℕ → Got
interrupt image old = cond (encodes image) (got_line old (board_calls.interrupt (board_of image))) (record { number = 1; value = old })

-- With the memory that is left.
pub record RunCalled : Type 0 where
  pub number : ℕ
  pub image : List ℕ
  pub memory : List ℕ

abbrev pub run_called : ℕ → List ℕ → List ℕ → RunCalled
run_called number image memory = record { number = number; image = image; memory = memory }

abbrev pub ran : List ℕ → board_runs.OneRun → RunCalled
ran image r = record { number = r.number; image = cond (eqb r.number 0) (image_of r.board) image; memory = r.memory }

unfoldable pub run : List ℕ → List ℕ → ℕ → List ℕ → RunCalled
run image memory start samples =
    cond (encodes image) (ran image (board_runs.run (board_of image) memory start samples)) (record { number = 1; image = image; memory = memory })

-- W2: with the two memories that are left.
pub record TwoCalled : Type 0 where
  pub number : ℕ
  pub image : List ℕ
  pub memories : Pair

abbrev pub two_called : ℕ → List ℕ → List ℕ → List ℕ → TwoCalled
two_called number image a b = record { number = number; image = image; memories = record { a = a; b = b } }

abbrev pub ran_two : List ℕ → board_runs.TwoRun → TwoCalled
ran_two image r = record { number = r.number; image = cond (eqb r.number 0) (image_of r.board) image; memories = r.memories }

unfoldable pub run_two : List ℕ → board_runs.Both → List ℕ → TwoCalled
run_two image l samples =
    cond (encodes image) (ran_two image (board_runs.run_two (board_of image) l samples)) (record { number = 1; image = image; memories = board_runs.memories l })

-- A sample's two answers as four words: landed, byte, packed, value.
abbrev pub landed_word : Option ℕ → ℕ
landed_word None = 0
landed_word (Some byte) = 1

abbrev pub byte_word : Option ℕ → ℕ
byte_word None = 0
byte_word (Some byte) = byte

abbrev pub packed_word : Packed → ℕ
packed_word nothing = 0
packed_word (completed v) = 1
packed_word lost = 2

abbrev pub value_word : Packed → ℕ
value_word nothing = 0
value_word (completed v) = v
value_word lost = 0

abbrev pub answer_words : SampleAnswer → List ℕ
answer_words a = landed_word a.landing ∷ byte_word a.landing ∷ packed_word a.packed ∷ value_word a.packed ∷ []

-- The number, the image and the answer that are left; and the memory.
pub record SampleStored : Type 0 where
  pub number : ℕ
  pub image : List ℕ
  pub answer : List ℕ

abbrev pub sample_called : ℕ → List ℕ → List ℕ → SampleStored
sample_called number image answer = record { number = number; image = image; answer = answer }

abbrev pub sample_stored : List ℕ → List ℕ → Answer SampleAnswer → Board → SampleStored
sample_stored image old (refused n) b = sample_called n image old
sample_stored image old (answered a) b = sample_called 0 (image_of b) (answer_words a)

pub record SampleCalled : Type 0 where
  pub stored : SampleStored
  pub memory : List ℕ

abbrev pub sample_left : SampleStored → List ℕ → SampleCalled
sample_left stored memory = record { stored = stored; memory = memory }

unfoldable pub sample : List ℕ → List ℕ → ℕ → ℕ → List ℕ → SampleCalled
sample image memory start w old =
    let r = board_runs.sample (board_of image) memory start w in
    cond (encodes image) (sample_left (sample_stored image old r.answer r.board) r.memory) (sample_left (sample_called 1 image old) memory)

-- W2: over two memories the first word names the buffer: 1 A, 2 B.
abbrev pub in_word : Buffer → ℕ
in_word A = 1
in_word B = 2

abbrev pub landed_in_word : Option Landing → ℕ
landed_in_word None = 0
landed_in_word (Some l) = in_word l.buffer

abbrev pub byte_in_word : Option Landing → ℕ
byte_in_word None = 0
byte_in_word (Some l) = l.byte

abbrev pub two_words : TwoAnswer → List ℕ
two_words a = landed_in_word a.landing ∷ byte_in_word a.landing ∷ packed_word a.packed ∷ value_word a.packed ∷ []

abbrev pub two_stored : List ℕ → List ℕ → Answer TwoAnswer → Board → SampleStored
two_stored image old (refused n) b = sample_called n image old
two_stored image old (answered a) b = sample_called 0 (image_of b) (two_words a)

pub record TwoSampleCalled : Type 0 where
  pub stored : SampleStored
  pub memories : Pair

abbrev pub two_left : SampleStored → List ℕ → List ℕ → TwoSampleCalled
two_left stored a b = record { stored = stored; memories = record { a = a; b = b } }

abbrev pub sampled_two : List ℕ → List ℕ → board_runs.TwoSample → TwoSampleCalled
sampled_two image old r = record { stored = two_stored image old r.answer r.board; memories = r.memories }

unfoldable pub sample_two : List ℕ → board_runs.Both → ℕ → List ℕ → TwoSampleCalled
sample_two image l w old =
    cond (encodes image) (sampled_two image old (board_runs.sample_two (board_of image) l w)) (record { stored = sample_called 1 image old; memories = board_runs.memories l })

-- W2: where the latest complete frame is, as three words: kind, offset, length. Where a memory is too short, offset + length is what it must have.
abbrev pub short_word : Buffer → ℕ
short_word A = 3
short_word B = 4

pub record FrameCalled : Type 0 where
  pub number : ℕ
  pub frame : List ℕ

abbrev pub frame_called : ℕ → List ℕ → FrameCalled
frame_called number frame = record { number = number; frame = frame }

abbrev pub start_of : Buffer → handing_rules.Spans → ℕ
start_of u s = (handing_rules.span_of u s).start

abbrev pub frame_words : List ℕ → handing_rules.Spans → Answer Handed → FrameCalled
frame_words old s (refused n) = record { number = n; frame = old }
frame_words old s (answered handed_cases.Nothing) = record { number = 0; frame = 0 ∷ 0 ∷ 0 ∷ [] }
frame_words old s (answered (handed_cases.TooShort u bytes)) = record { number = 0; frame = short_word u ∷ start_of u s ∷ bytes ∷ [] }
frame_words old s (answered (handed_cases.FrameIn u bytes)) = record { number = 0; frame = in_word u ∷ start_of u s ∷ bytes ∷ [] }

unfoldable pub latest_frame : List ℕ → handing_rules.Spans → List ℕ → FrameCalled
latest_frame image s old =
    cond (encodes image) (frame_words old s (handing_rules.latest_frame (board_of image) s)) (record { number = 1; frame = old })
