-- What is kept after a sample's events, in turn; and that the end of the frame may be judged by the core that the sample leaves. The idea: rule 9 leaves the frame of the capture
-- rules but where the word is lost, and then the end of the frame tells nothing more. Assumes nothing.
use mathlib.Core.Bool.{Bool, true, false, cond, not, ◌&&◌}
use mathlib.Core.List.{List, [], ◌∷◌, ◌++◌}
use Rattle.std.specs.Prelude.{Option, None, Some}
use mathlib.Core.Path.{◌≡◌, refl, sym, ◌∙◌}
use Prim.Native.Nat.{ℕ}
use Rattle.bits.proofs.Booleans.{either}
use Rattle.buffers.specs.Turns.{with_turn, with_tags, discarded, word_lost, frame_ended}
use Rattle.buffers.specs.Story as story
use Rattle.buffers.specs.Kept.{Kept, keep, keeps}
use Rattle.output.specs.declared.Fate.{Fate}
use Rattle.output.specs.declared.Fate.TheVariants.{Held, Lost}
use Rattle.output.specs.Output.{OutputState, offer}
use Rattle.output.specs.declared.SampleAnswer.{SampleAnswer}
use Rattle.rules.specs.declared.Capture.{Capture}
use Rattle.rules.specs.declared.Core.{Core}
use Rattle.rules.specs.declared.Device.{Device}
use Rattle.rules.specs.State.{capture_of, is_open, raise, with_registers}
use Rattle.rules.specs.Capture.{Captured, flagged}
use Rattle.rules.specs.Sample.{capture_sample}
use Rattle.rules.specs.Run.{Completed, lose_frame, after_word, complete, after_grant, step}
use Rattle.board_rules.specs.TwoBuffers.{landing_event, word_event, frame_event, sample_events}
use Rattle.board_laws.proofs.TwoKeeps.{keeps_append}
use Rattle.two_buffers.specs.Answers.{closing_events, events}

-- Three lists of events in turn; a sample's.
in_turn : (k : Kept) (es fs gs : List story.Event) → keeps k (es ++ (fs ++ gs)) ≡ keeps (keeps (keeps k es) fs) gs
in_turn k es fs gs = keeps_append k es (fs ++ gs) ∙ keeps_append (keeps k es) fs gs

pub events_in_turn : (s : Capture) (w : ℕ) (core : Core) (a : SampleAnswer) (k : Kept) {k₁ k₂ k₃ : Kept} {error ended : Bool}
    → k₁ ≡ keeps k (landing_event a.landing) → k₂ ≡ keeps k₁ (word_event a.packed) → error ≡ (capture_sample s w).error
    → ended ≡ (is_open s.frame && not (is_open core.capture.frame)) → k₃ ≡ keeps k₂ (closing_events error ended)
    → k₃ ≡ keeps k (events s w core a)
unfolding events
events_in_turn s w core a k e₁ e₂ error ended e₃ = rw (in_turn k (landing_event a.landing) (word_event a.packed) _, ← e₁, ← e₂, ← error, ← ended) e₃

-- FRAME's flag leaves the frame.
same_frame : (c : Captured) → (flagged c).frame ≡ c.state.frame
unfolding flagged raise with_registers
same_frame c = either (λ (s : Capture). s.frame ≡ c.state.frame) c.due refl refl

-- After a lost word the end of the frame tells nothing more.
quiet : (k : Kept) (ends : Bool) → keeps (keep k story.lost) (cond ends (story.ended ∷ []) []) ≡ keep k story.lost
unfolding keeps keep word_lost discarded with_turn with_tags frame_ended
quiet k true = refl
quiet k false = refl

quiet_either : (k : Kept) (error ends ends' : Bool) → keeps (keep k story.lost) (closing_events error ends) ≡ keeps (keep k story.lost) (closing_events error ends')
quiet_either k true ends ends' = refl
quiet_either k false ends ends' = quiet k ends ∙ sym (quiet k ends')

-- Rule 9's word and the end of the frame.
abbrev Closes : Capture → Captured → Completed → Type 0
Closes s c r =
    (k : Kept) → keeps (keeps k (word_event r.packed)) (closing_events c.error (is_open s.frame && not (is_open r.device.core.capture.frame)))
    ≡ keeps (keeps k (word_event r.packed)) (frame_event s c)

word_closes : (s : Capture) (f : Fate) (v : ℕ) (c : Captured) (x : OutputState) → Closes s c (after_word f v c x)
unfolding after_word frame_event keeps
word_closes s Held v c x k = rw (same_frame c)
word_closes s Lost v c x k = quiet_either k c.error (is_open s.frame && not (is_open (lose_frame c.state).frame)) (is_open s.frame && not (is_open c.state.frame))

complete_closes : (s : Capture) (o : Option ℕ) (c : Captured) (x : OutputState) → Closes s c (complete o c x)
unfolding complete frame_event
complete_closes s None c x k = rw (same_frame c)
complete_closes s (Some v) c x k = word_closes s (offer v x).fate v c (offer v x).state k

-- A sample's.
pub closing : (d : Device) (b : List ℕ) (w : ℕ) (k : Kept)
    → let r = step d b w in
    keeps k (events (capture_of d) w r.device.core (record { landing = r.landing; packed = r.packed })) ≡ keeps k (sample_events (capture_of d) w r.landing r.packed)
unfolding step after_grant events sample_events
closing d b w k =
    let s = capture_of d in
    let c = capture_sample s w in
    let r = step d b w in
    in_turn k (landing_event r.landing) (word_event r.packed) (closing_events c.error (is_open s.frame && not (is_open r.device.core.capture.frame)))
    ∙ complete_closes s c.word c _ (keeps k (landing_event r.landing))
    ∙ sym (in_turn k (landing_event r.landing) (word_event r.packed) (frame_event s c))
