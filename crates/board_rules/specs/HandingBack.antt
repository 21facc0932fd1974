-- W2: "lent the runs' memories and starts, a call hands back the part of A or B that holds the latest complete frame, and says which if there is none or that memory is too short".
use Rattle.std.specs.Prelude.{Bool, cond, not, ◌||◌, List, [], ◌∷◌, ℕ, ◌-◌, ◌*◌, ltb, length, take, Option, None, Some}
use Rattle.buffers.specs.declared.Buffer.{Buffer}
use Rattle.buffers.specs.declared.Buffer.TheVariants.{A, B}
use Rattle.buffers.specs.declared.Turns.{Turns}
use Rattle.buffers.specs.Turns.{latest_complete}
use Rattle.buffers.specs.Kept.{place_in}
use Rattle.refusals.specs.Refusals.{◌⇒◌, first, Answer, refused, answered, answer}
use Rattle.rules.specs.declared.Device.{Device}
use Rattle.board_rules.specs.declared.Board.{Board}
use Rattle.board_rules.specs.State.{is_two, kept_of, malformed}
use Rattle.board_rules.specs.BoardRuns.{Lent, Both, lent, frame_buffer, turns_of}
-- No frame is complete; or the latest is in a buffer, with so many bytes, four for each of its words, from that memory's start on; or that buffer's memory is too short for so many.
use Rattle.board_rules.specs.declared.Handed.{Handed}
use Rattle.board_rules.specs.declared.Handed.TheVariants.{Nothing as nothing, TooShort as too_short, FrameIn as frame_in}

-- Of the memories only their lengths and starts count.
pub record Span : Type 0 where
  pub length : ℕ
  pub start : ℕ

abbrev pub span : Lent → Span
span l = record { length = length l.memory; start = l.start }

pub record Spans : Type 0 where
  pub a : Span
  pub b : Span

abbrev pub spans : Both → Spans
spans l = record { a = span l.a; b = span l.b }

abbrev pub span_of : Buffer → Spans → Span
span_of A s = s.a
span_of B s = s.b

-- Refusals 1, 16, 9: either start above its own length.
abbrev pub beyond_span : Span → Bool
beyond_span s = ltb s.length s.start

unfoldable pub handing_refusal : Board → Spans → ℕ
handing_refusal b s = first (malformed b ⇒ 1 ∷ not (is_two b.mode) ⇒ 16 ∷ (beyond_span s.a || beyond_span s.b) ⇒ 9 ∷ [])

-- The latest complete frame, if there is one: its words are as many as its buffer's next place says.
unfoldable pub handed_from : Buffer → ℕ → Span → Handed
handed_from u bytes s = cond (ltb (s.length - s.start) bytes) (too_short u bytes) (frame_in u bytes)

unfoldable pub handed_latest : Option Buffer → Device → Turns → Spans → Handed
handed_latest None d t s = nothing
handed_latest (Some u) d t s = handed_from u (4 * place_in u (kept_of d t)) (span_of u s)

unfoldable pub latest_frame : Board → Spans → Answer Handed
latest_frame b s =
    answer (handing_refusal b s) (handed_latest (latest_complete (turns_of b.mode)) b.device (turns_of b.mode) s)

abbrev pub hand_back : Board → Both → Answer Handed
hand_back b l = latest_frame b (spans l)

-- The part of a memory that is handed back; empty where there is none.
unfoldable pub handed_part : Answer Handed → Both → List ℕ
handed_part (refused number) l = []
handed_part (answered nothing) l = []
handed_part (answered (too_short u bytes)) l = []
handed_part (answered (frame_in u bytes)) l = take bytes (frame_buffer (lent u l))
