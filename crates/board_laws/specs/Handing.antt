-- W2: lists of calls with one pair of memories and starts handed on, each call over the memories that the last one left; and what handing back has to answer after them, by the history alone.
use Rattle.std.specs.Prelude.{cond, ◌||◌, List, [], ◌∷◌, ℕ, ◌*◌, ◌<◌, ◌^◌, Option, None, Some}
use Rattle.buffers.specs.Story.{Tale, completed}
use Rattle.refusals.specs.Refusals.{Answer, refused, answered}
use Rattle.board_rules.specs.declared.Board.{Board}
use Rattle.board_rules.specs.TwoBuffers.{Pair}
use Rattle.board_rules.specs.BoardCalls.{fresh_of}
use Rattle.board_rules.specs.BoardRuns as board_runs
use Rattle.board_rules.specs.BoardRuns.{Both, beyond}
use Rattle.board_rules.specs.declared.Handed.{Handed}
use Rattle.board_rules.specs.declared.Handed.TheVariants.{Nothing as nothing, FrameIn as frame_in}
use Rattle.board_laws.specs.BoardHistories as board_histories
use Rattle.board_laws.specs.BoardHistories.{Call, after, reached, history, frames}

-- A call but for its memories. The value of a write is a 32-bit number.
pub data Bare : Type 0 where
  a_write : (offset value : ℕ) → value < 2 ^ 32 → Bare
  a_rearming : Bare
  one_buffer : Bare
  two_buffers : Bare
  a_run : (samples : List ℕ) → Bare
  a_sample : (w : ℕ) → Bare
  a_run_two : (samples : List ℕ) → Bare
  a_sample_two : (w : ℕ) → Bare

-- The call, over these memories; over one memory it is over A.
unfoldable pub over : Both → Bare → Call
over l (a_write offset value fits) = board_histories.a_write offset value fits
over l a_rearming = board_histories.a_rearming
over l one_buffer = board_histories.one_buffer
over l two_buffers = board_histories.two_buffers
over l (a_run samples) = board_histories.a_run l.a.memory l.a.start samples
over l (a_sample w) = board_histories.a_sample l.a.memory l.a.start w
over l (a_run_two samples) = board_histories.a_run_two l samples
over l (a_sample_two w) = board_histories.a_sample_two l w

-- The memories that it leaves. The starts stay.
abbrev pub with_memories : Pair → Both → Both
with_memories p l = record { a = record { memory = p.a; start = l.a.start }; b = record { memory = p.b; start = l.b.start } }

unfoldable pub memories_left : Board → Both → Bare → Both
memories_left b l (a_write offset value fits) = l
memories_left b l a_rearming = l
memories_left b l one_buffer = l
memories_left b l two_buffers = l
memories_left b l (a_run samples) = with_memories (record { a = (board_runs.run b l.a.memory l.a.start samples).memory; b = l.b.memory }) l
memories_left b l (a_sample w) = with_memories (record { a = (board_runs.sample b l.a.memory l.a.start w).memory; b = l.b.memory }) l
memories_left b l (a_run_two samples) = with_memories (board_runs.run_two b l samples).memories l
memories_left b l (a_sample_two w) = with_memories (board_runs.sample_two b l w).memories l

-- A list of calls, from a board and memories on; and the memories that it leaves.
unfoldable pub calls : Board → Both → List Bare → List Call
calls b l [] = []
calls b l (q ∷ qs) = over l q ∷ calls (after b (over l q)) (memories_left b l q) qs

unfoldable pub memories_left_by : Board → Both → List Bare → Both
memories_left_by b l [] = l
memories_left_by b l (q ∷ qs) = memories_left_by (after b (over l q)) (memories_left b l q) qs

-- From a board made with a depth, and memories: board and memories after the calls, and the frames that their history tells.
abbrev pub board_after : ℕ → Both → List Bare → Board
board_after depth l qs = reached depth (calls (fresh_of depth) l qs)

abbrev pub memories_after : ℕ → Both → List Bare → Both
memories_after depth l qs = memories_left_by (fresh_of depth) l qs

abbrev pub frames_after : ℕ → Both → List Bare → List Tale
frames_after depth l qs = frames (history depth (calls (fresh_of depth) l qs))

-- What handing back has to answer, the latest complete frame being given, if there is one: its buffer, and four bytes for each of its words; or that there is none. Refusal 9 where a start
-- is above its memory's length. It says of no memory that it is too short.
unfoldable pub frame_handed : Option Tale → Handed
frame_handed None = nothing
frame_handed (Some f) = frame_in f.buffer (4 * completed f)

unfoldable pub to_hand : Both → Option Tale → Answer Handed
to_hand l o = cond (beyond l.a || beyond l.b) (refused 9) (answered (frame_handed o))
