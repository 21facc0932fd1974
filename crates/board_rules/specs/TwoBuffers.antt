-- One sample with two frame buffers (W2; 004, 32.3.6): the nine rules as they are, over the buffer of the oldest held word and at its place; then what the sample's events do to the turns.
use Rattle.std.specs.Prelude.{Bool, cond, not, ◌&&◌, List, [], ◌∷◌, ◌++◌, ℕ, Option, None, Some}
use Rattle.buffers.specs.declared.Buffer.{Buffer}
use Rattle.buffers.specs.declared.Buffer.TheVariants.{A, B}
use Rattle.buffers.specs.declared.Turns.{Turns}
use Rattle.buffers.specs.Turns.{oldest_buffer, oldest_place}
use Rattle.buffers.specs.Story as story
use Rattle.buffers.specs.Kept.{keeps}
use Rattle.rules.specs.declared.Capture.{Capture}
use Rattle.rules.specs.declared.Device.{Device}
use Rattle.rules.specs.State.{capture_of, is_open}
use Rattle.rules.specs.Capture.{Captured}
use Rattle.rules.specs.Sample.{capture_sample}
use Rattle.rules.specs.RegisterCalls.{placed}
use Rattle.output.specs.declared.Packing.{Packing as Packed}
use Rattle.output.specs.declared.Packing.TheVariants.{Nothing as nothing, Completed as completed, Lost as lost}
use Rattle.rules.specs.Run.{step}
use Rattle.board_rules.specs.declared.Landing.{Landing}
use Rattle.board_rules.specs.State.{kept_of}

-- Two frame buffers, or memories; one of them, and with one changed.
pub record Pair : Type 0 where
  pub a : List ℕ
  pub b : List ℕ

abbrev pub part : Buffer → Pair → List ℕ
part A p = p.a
part B p = p.b

abbrev pub with_part : Buffer → List ℕ → Pair → Pair
with_part A m p = record { a = m; b = p.b }
with_part B m p = record { a = p.a; b = m }

-- What a sample's answers and the capture rules say of the frames: a word landed (rule 1); one was completed, and is held or lost (rule 9); ERR discarded the held words (W6), or rule 4 ended
-- the frame, which was open and is closed. A padded word comes before the end (W4); if it is lost the frame is gone already, and the end tells nothing more.
abbrev pub landing_event : Option ℕ → List story.Event
landing_event None = []
landing_event (Some byte) = story.landed ∷ []

abbrev pub word_event : Packed → List story.Event
word_event nothing = []
word_event (completed v) = story.held v ∷ []
word_event lost = story.lost ∷ []

abbrev pub has_closed : Capture → Captured → Bool
has_closed s c = is_open s.frame && not (is_open c.state.frame)

unfoldable pub frame_event : Capture → Captured → List story.Event
frame_event s c = cond c.error (story.discarded ∷ []) (cond (has_closed s c) (story.ended ∷ []) [])

unfoldable pub sample_events : Capture → ℕ → Option ℕ → Packed → List story.Event
sample_events s w landing packed = landing_event landing ++ (word_event packed ++ frame_event s (capture_sample s w))

-- Device, turns and frame buffers.
pub record Two : Type 0 where
  pub device : Device
  pub turns : Turns
  pub buffers : Pair

-- "A landing names A or B": the buffer, and the byte of it.
abbrev pub landing_in : Buffer → Option ℕ → Option Landing
landing_in u None = None
landing_in u (Some byte) = Some (record { buffer = u; byte = byte })

-- What a sample makes of them, with its two answers.
pub record TwoStepped : Type 0 where
  pub after : Two
  pub landing : Option Landing
  pub packed : Packed

-- The device's place is A's. For the sample it is that of the oldest held word.
unfoldable pub two_step : Two → ℕ → TwoStepped
two_step x w =
    let d = x.device in
    let u = oldest_buffer x.turns in
    let r = step (placed (oldest_place d.core.output.place x.turns) d) (part u x.buffers) w in
    let k = keeps (kept_of d x.turns) (sample_events (capture_of d) w r.landing r.packed) in
    record {
      after = record { device = placed k.place_a r.device; turns = k.turns; buffers = with_part u r.buffer x.buffers };
      landing = landing_in u r.landing;
      packed = r.packed;
    }

unfoldable pub two_steps : Two → List ℕ → Two
two_steps x [] = x
two_steps x (w ∷ ws) = two_steps (two_step x w).after ws
