-- Runs and single samples of a board (W2): over one memory in mode one, over two in mode two. "Memories not matching the mode is 16, after 1."
use Rattle.std.specs.Prelude.{Bool, cond, not, ◌||◌, List, [], ◌∷◌, ◌++◌, ℕ, ◌+◌, eqb, ltb, length, take, drop, Option, None, Some}
use Rattle.buffers.specs.declared.Buffer.{Buffer}
use Rattle.buffers.specs.declared.Buffer.TheVariants.{A, B}
use Rattle.buffers.specs.declared.Turns.{Turns}
use Rattle.buffers.specs.Turns.{fresh_turns}
use Rattle.refusals.specs.Refusals.{◌⇒◌, first, Answer, answer}
use Rattle.run_refusals.specs.RunRefusals.{run_tests}
use Rattle.output.specs.Output as output_rules
use Rattle.output.specs.declared.Packing.{Packing as Packed}
use Rattle.output.specs.declared.SampleAnswer.{SampleAnswer}
use Rattle.rules.specs.Run as run_rules
use Rattle.board_rules.specs.declared.Mode.{Mode}
use Rattle.board_rules.specs.declared.Mode.TheVariants.{One, Two}
use Rattle.board_rules.specs.declared.Board.{Board}
use Rattle.board_rules.specs.State.{is_two, malformed}
use Rattle.board_rules.specs.TwoBuffers as buffer_rules
use Rattle.board_rules.specs.TwoBuffers.{Pair, two_step, two_steps}
use Rattle.board_rules.specs.declared.Landing.{Landing}
-- One sample's answers: the landing's buffer and its byte in that memory.
use Rattle.board_rules.specs.declared.TwoAnswer.{TwoAnswer}

-- Over one memory: refusals 1, 16, 9, 7, 8.
unfoldable pub one_refusal : Board → List ℕ → ℕ → List ℕ → ℕ
one_refusal b memory start samples =
    cond (malformed b) 1 (cond (is_two b.mode) 16 (run_rules.run_refusal b.device memory start samples))

-- The refusal number, 0 where the run is accepted, and board and memory after it; the run is the device's.
pub record OneRun : Type 0 where
  pub number : ℕ
  pub board : Board
  pub memory : List ℕ

unfoldable pub run : Board → List ℕ → ℕ → List ℕ → OneRun
run b memory start samples =
    let number = one_refusal b memory start samples in
    let r = run_rules.run b.device memory start samples in
    record {
      number = number;
      board = cond (eqb number 0) (record { device = r.device; mode = b.mode }) b;
      memory = cond (eqb number 0) r.memory memory;
    }

-- One sample. Its answers, where it is accepted, are the device's.
pub record OneSample : Type 0 where
  pub answer : Answer SampleAnswer
  pub board : Board
  pub memory : List ℕ

unfoldable pub sample : Board → List ℕ → ℕ → ℕ → OneSample
sample b memory start w =
    let number = one_refusal b memory start (w ∷ []) in
    let r = run_rules.step b.device (drop start memory) w in
    record {
      answer = answer number (record { landing = output_rules.in_memory start r.landing; packed = r.packed });
      board = cond (eqb number 0) (record { device = r.device; mode = b.mode }) b;
      memory = cond (eqb number 0) (take start memory ++ r.buffer) memory;
    }

-- A lent memory and its start byte; its frame buffer, and the memory with another. Refusal 9 of one.
pub record Lent : Type 0 where
  pub memory : List ℕ
  pub start : ℕ

abbrev pub frame_buffer : Lent → List ℕ
frame_buffer l = drop l.start l.memory

abbrev pub refilled : Lent → List ℕ → List ℕ
refilled l buffer = take l.start l.memory ++ buffer

abbrev pub beyond : Lent → Bool
beyond l = ltb (length l.memory) l.start

-- "Each run or sample lends both memories and starts."
pub record Both : Type 0 where
  pub a : Lent
  pub b : Lent

abbrev pub lent : Buffer → Both → Lent
lent A l = l.a
lent B l = l.b

abbrev pub memories : Both → Pair
memories l = record { a = l.a.memory; b = l.b.memory }

abbrev pub buffers : Both → Pair
buffers l = record { a = frame_buffer l.a; b = frame_buffer l.b }

abbrev pub filled : Both → Pair → Pair
filled l p = record { a = refilled l.a p.a; b = refilled l.b p.b }

-- Over two memories: refusals 1, 16, 9 of either, 7, 8.
unfoldable pub two_refusal : Board → Both → List ℕ → ℕ
two_refusal b l samples =
    first
    (malformed b ⇒ 1 ∷
    not (is_two b.mode) ⇒ 16 ∷
    run_tests (beyond l.a || beyond l.b) b.device.core.output.counts.samples samples)

-- Board and frame buffers as the samples have them, and put back. In mode one no such call is accepted.
unfoldable pub turns_of : Mode → Turns
turns_of One = fresh_turns
turns_of (Two t) = t

abbrev pub opened : Board → Both → buffer_rules.Two
opened b l = record { device = b.device; turns = turns_of b.mode; buffers = buffers l }

abbrev pub board : buffer_rules.Two → Board
board x = record { device = x.device; mode = Two x.turns }

pub record TwoRun : Type 0 where
  pub number : ℕ
  pub board : Board
  pub memories : Pair

unfoldable pub run_two : Board → Both → List ℕ → TwoRun
run_two b l samples =
    let number = two_refusal b l samples in
    let x = two_steps (opened b l) samples in
    record {
      number = number;
      board = cond (eqb number 0) (board x) b;
      memories = cond (eqb number 0) (filled l x.buffers) (memories l);
    }

-- A landing's byte in its memory.
unfoldable pub in_memory : Both → Option Landing → Option Landing
in_memory l None = None
in_memory l (Some x) = Some (record { buffer = x.buffer; byte = (lent x.buffer l).start + x.byte })

pub record TwoSample : Type 0 where
  pub answer : Answer TwoAnswer
  pub board : Board
  pub memories : Pair

unfoldable pub sample_two : Board → Both → ℕ → TwoSample
sample_two b l w =
    let number = two_refusal b l (w ∷ []) in
    let r = two_step (opened b l) w in
    record {
      answer = answer number (record { landing = in_memory l r.landing; packed = r.packed });
      board = cond (eqb number 0) (board r.after) b;
      memories = cond (eqb number 0) (filled l r.after.buffers) (memories l);
    }
