-- What a sample or some samples with two frame buffers leave by value and in lent places, together (W2).
use Rattle.std.specs.Prelude.{Bool, cond, not, ◌&&◌, List, [], ◌∷◌, ◌++◌, ℕ, ◌+◌, ◌<◌, ◌^◌}
use Rattle.buffers.specs.Story as story
use Rattle.buffers.specs.Kept as buffers_kept
use Rattle.output.specs.Output.{with_place}
use Rattle.output.specs.declared.SampleAnswer.{SampleAnswer}
use Rattle.rules.specs.declared.Capture.{Capture}
use Rattle.rules.specs.declared.Core.{Core}
use Rattle.rules.specs.State.{is_open}
use Rattle.rules.specs.Sample.{capture_sample}
use Rattle.board_rules.specs.TwoBuffers as buffer_rules
use Rattle.full_word.specs.Answers.{device}
use Rattle.two_buffers.specs.declared.Kept.{Kept}
use Rattle.two_buffers.specs.declared.Turned.{Turned}
use Rattle.two_buffers.specs.declared.TwoStepped.{TwoStepped}

-- What is kept.
abbrev pub kept : Kept → buffers_kept.Kept
kept k = record { turns = k.turns; place_a = k.place_a; held = k.held }

-- One more word's tags fit.
pub record TagsFit (k : buffers_kept.Kept) : Type 0 where
  pub held : k.held < 32
  pub buffers : k.turns.in_b + 2 ^ k.held < 2 ^ 32
  pub opening : k.turns.opening + 2 ^ k.held < 2 ^ 32

-- A sample's events, the end of the frame being judged by the core that the sample leaves: a lost word closes the frame too, and then its end tells nothing more.
abbrev pub closing_events : Bool → Bool → List story.Event
closing_events error ended = cond error (story.discarded ∷ []) (cond ended (story.ended ∷ []) [])

unfoldable pub events : Capture → ℕ → Core → SampleAnswer → List story.Event
events s w after answer =
    buffer_rules.landing_event answer.landing ++
    (buffer_rules.word_event answer.packed ++ closing_events (capture_sample s w).error (is_open s.frame && not (is_open after.capture.frame)))

-- The core with another place for the next word; with A's, and the turns.
unfoldable pub placed : ℕ → Core → Core
placed k c = record { capture = c.capture; output = with_place k c.output }

unfoldable pub turned : buffers_kept.Kept → Core → Turned
turned k c = record { core = placed k.place_a c; turns = k.turns }

-- Device, turns and frame buffers.
abbrev pub pair : List ℕ → List ℕ → buffer_rules.Pair
pair a b = record { a = a; b = b }

abbrev pub two : Turned → List ℕ → List ℕ → List ℕ → buffer_rules.Two
two d slots a b = record { device = device d.core slots; turns = d.turns; buffers = pair a b }

abbrev pub stepped : TwoStepped → List ℕ → List ℕ → List ℕ → buffer_rules.TwoStepped
stepped r slots a b = record { after = two r.after slots a b; landing = r.answer.landing; packed = r.answer.packed }
