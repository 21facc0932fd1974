-- Lists of calls, one after the other: set-up calls from reset, then runs and single samples over one memory or two (W2), refused calls included. Each call gets
-- the board and the memories that the last one left, and brings its own start byte, or bytes.
use Rattle.std.specs.Prelude.{cond, List, [], ◌∷◌, ◌++◌, ℕ, ◌+◌, ◌<◌, ◌^◌, eqb, length, take, drop, Option, None, Some}
use Rattle.buffers.specs.declared.Buffer.TheVariants.{A}
use Rattle.refusals.specs.Refusals.{Answer, refused, answered}
use Rattle.output.specs.declared.Packing.{Packing as Packed}
use Rattle.output.specs.declared.SampleAnswer.{SampleAnswer}
use Rattle.rules.specs.Run.{step}
use Rattle.board_rules.specs.declared.Board.{Board}
use Rattle.board_rules.specs.TwoBuffers.{Pair, with_part, two_step}
use Rattle.board_rules.specs.BoardCalls as board_calls
use Rattle.board_rules.specs.BoardRuns.{Both, opened, filled, one_refusal, two_refusal}
use Rattle.board_rules.specs.declared.TwoAnswer.{TwoAnswer}
use Rattle.board_rules.specs.BoardRuns as board_runs

-- A set-up call: a register write, whose value is a 32-bit number; or a mode change (W2).
pub data SetUpCall : Type 0 where
  a_write : (offset value : ℕ) → value < 2 ^ 32 → SetUpCall
  one_buffer : SetUpCall
  two_buffers : SetUpCall

-- The board that a set-up call leaves, and that after some.
unfoldable pub after_set_up : Board → SetUpCall → Board
after_set_up b (a_write offset value fits) = (board_calls.write b offset value).board
after_set_up b one_buffer = (board_calls.one_buffer b).board
after_set_up b two_buffers = (board_calls.two_buffers b).board

unfoldable pub after_set_ups : Board → List SetUpCall → Board
after_set_ups b [] = b
after_set_ups b (c ∷ cs) = after_set_ups (after_set_up b c) cs

-- The boards on the way: the one before the set-up calls, and that after each of them.
unfoldable pub boards : Board → List SetUpCall → List Board
boards b [] = b ∷ []
boards b (c ∷ cs) = b ∷ boards (after_set_up b c) cs

-- The start bytes that a call comes with: that of one memory, A, or those of two (W2).
pub data Starts : Type 0 where
  one_memory : (start : ℕ) → Starts
  two_memories : (start_a start_b : ℕ) → Starts

-- A call: a run of some samples, or one sample.
pub data Call : Type 0 where
  a_run : Starts → List ℕ → Call
  a_sample : Starts → ℕ → Call

-- The start bytes of a call, and the samples that it brings.
abbrev pub starts_of : Call → Starts
starts_of (a_run t ws) = t
starts_of (a_sample t w) = t

abbrev pub brings : Call → List ℕ
brings (a_run t ws) = ws
brings (a_sample t w) = w ∷ []

-- What calls hand on: the board and the memories.
pub record System : Type 0 where
  pub board : Board
  pub memories : Pair

-- Two memories as a call lends them, each with its start byte.
abbrev pub lending : (start_a start_b : ℕ) → Pair → Both
lending start_a start_b m = record { a = record { memory = m.a; start = start_a }; b = record { memory = m.b; start = start_b } }

-- A call's refusal number: those that do not match the mode are refused 16 (W2).
unfoldable pub refusal_of : Starts → System → List ℕ → ℕ
refusal_of (one_memory start) s ws = one_refusal s.board s.memories.a start ws
refusal_of (two_memories start_a start_b) s ws = two_refusal s.board (lending start_a start_b s.memories) ws

abbrev pub refusal : System → Call → ℕ
refusal s c = refusal_of (starts_of c) s (brings c)

-- Those of a call's samples that are accepted: all or none.
unfoldable pub accepted : System → Call → List ℕ
accepted s c = cond (eqb (refusal s c) 0) (brings c) []

-- What a call leaves.
unfoldable pub after_call : System → Call → System
after_call s (a_run (one_memory start) ws) =
    let r = board_runs.run s.board s.memories.a start ws in
    record { board = r.board; memories = with_part A r.memory s.memories }
after_call s (a_run (two_memories start_a start_b) ws) =
    let r = board_runs.run_two s.board (lending start_a start_b s.memories) ws in
    record { board = r.board; memories = r.memories }
after_call s (a_sample (one_memory start) w) =
    let r = board_runs.sample s.board s.memories.a start w in
    record { board = r.board; memories = with_part A r.memory s.memories }
after_call s (a_sample (two_memories start_a start_b) w) =
    let r = board_runs.sample_two s.board (lending start_a start_b s.memories) w in
    record { board = r.board; memories = r.memories }

-- The accepted samples of a list of calls, in order: they are numbered from 1 across the calls.
unfoldable pub samples : System → List Call → List ℕ
samples s [] = []
samples s (c ∷ cs) = accepted s c ++ samples (after_call s c) cs

-- What an accepted single sample says of its word; nothing to say of a run or a refused call.
unfoldable pub said : Answer SampleAnswer → Option Packed
said (refused number) = None
said (answered a) = Some a.packed

unfoldable pub said_two : Answer TwoAnswer → Option Packed
said_two (refused number) = None
said_two (answered a) = Some a.packed

unfoldable pub says : System → Call → Option Packed
says s (a_run t ws) = None
says s (a_sample (one_memory start) w) = said (board_runs.sample s.board s.memories.a start w).answer
says s (a_sample (two_memories start_a start_b) w) = said_two (board_runs.sample_two s.board (lending start_a start_b s.memories) w).answer

-- One sample of an accepted call with these start bytes.
unfoldable pub stepped : Starts → System → ℕ → System
stepped (one_memory start) s w =
    let r = step s.board.device (drop start s.memories.a) w in
    record { board = record { device = r.device; mode = s.board.mode }; memories = with_part A (take start s.memories.a ++ r.buffer) s.memories }
stepped (two_memories start_a start_b) s w =
    let l = lending start_a start_b s.memories in
    let x = (two_step (opened s.board l) w).after in
    record { board = board_runs.board x; memories = filled l x.buffers }

-- A moment at which the claim is read: board and memories, the number of samples so far, and what the call said.
pub record Moment : Type 0 where
  pub board : Board
  pub memories : Pair
  pub count : ℕ
  pub packed : Option Packed

abbrev pub moment : System → ℕ → Option Packed → Moment
moment s n p = record { board = s.board; memories = s.memories; count = n; packed = p }

-- The moments inside an accepted call: after each of its samples.
unfoldable pub moments_inside : Starts → System → ℕ → List ℕ → List Moment
moments_inside t s n [] = []
moments_inside t s n (w ∷ ws) = moment (stepped t s w) (n + 1) None ∷ moments_inside t (stepped t s w) (n + 1) ws

-- Every moment of a list of calls, n samples being accepted before: after each sample inside an accepted call, and after each call.
unfoldable pub moments : System → ℕ → List Call → List Moment
moments s n [] = []
moments s n (c ∷ cs) =
    let s' = after_call s c in
    let n' = n + length (accepted s c) in
    moments_inside (starts_of c) s n (accepted s c) ++ (moment s' n' (says s c) ∷ moments s' n' cs)
