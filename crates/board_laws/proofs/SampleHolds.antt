-- Samples with two frame buffers keep held words and buffers as the story's frames tell (`two_steps_hold`).
-- The idea: rule 1 takes the oldest held word and stores it in its buffer at its place, which is what a landing is told to do; rule 9 and ERR do to the held words what their events say.
-- Assumes nothing.
use mathlib.Core.Bool.{Bool, true, false, cond, ◌&&◌}
use mathlib.Core.List.{List, [], ◌∷◌, ◌++◌, map}
use Rattle.std.specs.Prelude.{Option, None, Some}
use mathlib.Core.Path.{◌≡◌, refl, sym, ap, ◌∙◌, subst}
use Prim.Native.Nat.{ℕ, ◌+◌, ◌-◌}
use native.Mathlib.Omega.{arith}
use lib.Dec.{ltb}
use lib.ListN.{length, length-append}
use Rattle.bits.proofs.Booleans.{either}
use Rattle.buffers.specs.declared.Buffer.{Buffer}
use Rattle.buffers.specs.declared.Buffer.TheVariants.{A, B}
use Rattle.buffers.specs.Turns.{oldest_buffer, oldest_place}
use Rattle.buffers.specs.Story as story
use Rattle.buffers.specs.Story.{Tale}
use Rattle.buffers.specs.Kept.{Kept, start}
use Rattle.buffers.proofs.Frames.{Sound, sound_landing}
use Rattle.buffers.proofs.Told.{Tells, all_kept, tells_start}
use Rattle.buffers.proofs.Words.{words_count}
use Rattle.samples.specs.Samples.{bus_grant}
use Rattle.output.specs.declared.Output.{Output}
use Rattle.output.specs.Output.{OutputState, contents, with_held, holding, push, with_counts, with_place, count_sample, count_word, count_landed, count_discarded, room, stored, Granted, no_landing, lands, oldest_lands, grant, Offered, offer, discard, counted}
use Rattle.output.proofs.Contents.{contents_holding}
use Rattle.rules.specs.declared.Capture.{Capture}
use Rattle.rules.specs.State.{capture_of, output_of}
use Rattle.rules.specs.Capture.{Captured, enabled}
use Rattle.rules.specs.Sample.{capture_sample}
use Rattle.rules.specs.RegisterCalls.{placed}
use Rattle.rules.specs.Run.{after_word, complete, after_grant, step}
use Rattle.laws.proofs.Errors.{no_word_in_error}
use Rattle.board_rules.specs.State.{kept_of}
use Rattle.board_rules.specs.TwoBuffers.{Pair, part, with_part, landing_event, word_event, has_closed, frame_event, sample_events, Two, two_step, two_steps}
use Rattle.board_laws.specs.BoardHistories.{on_device, landing_byte, two_samplings, frame_events, tell, tell_all}
use Rattle.board_laws.proofs.AsDevice.{same_byte}
use Rattle.board_laws.proofs.CompleteFrames.{Explained, explained_on, story_append, two_step_kept}
use Rattle.board_laws.proofs.InBuffers.{Holds, holds_held, holds_lost, holds_ended, holds_discarded, holds_landed}

-- Rule 1: nothing lands, or the oldest held word does.
by_grant : (P : Granted → Type 0) (granted on : Bool) (x : OutputState) (m : List ℕ) → P (no_landing x m)
    → ((v : ℕ) (vs : List ℕ) → contents x ≡ v ∷ vs → room x.output.place m ≡ true → P (lands v vs x.output m)) → P (grant granted on x m)
unfolding grant
by_grant P granted on x m stays goes = either P (granted && on) (go (contents x) refl) stays
  where
    go : (vs : List ℕ) → contents x ≡ vs → P (oldest_lands vs x m)
    go [] is = unfold oldest_lands in stays
    go (v ∷ vs) is = unfold oldest_lands in by (room x.output.place m) refl
      where
        by : (b : Bool) → room x.output.place m ≡ b → P (cond b (lands v vs x.output m) (no_landing x m))
        by true e = goes v vs is e
        by false e = stays

with_same : (u : Buffer) (p : Pair) → with_part u (part u p) p ≡ p
with_same A p = refl
with_same B p = refl

-- As many words as are held.
abbrev Counted : OutputState → Type 0
Counted x = length (contents x) ≡ x.output.held

holding_counted : (n : ℕ) (vs : List ℕ) (o : Output) → length vs ≡ n → Counted (holding n vs o)
unfolding holding with_held
holding_counted n vs o e = ap length (contents_holding n vs o e) ∙ e

landing_holds : (k : Kept) (x : OutputState) (p : Pair) (fs : List Tale) (granted on : Bool) → oldest_place k.place_a k.turns ≡ x.output.place → Counted x → Tells k fs
    → Holds (contents x) p fs
    → let u = oldest_buffer k.turns in
    let g = grant granted on x (part u p) in
    Holds (contents g.state) (with_part u g.buffer p) (story.story fs (landing_event g.landing)) × Counted g.state
unfolding story.story story.tell no_landing lands
landing_holds k x p fs granted on at count t h =
    by_grant
    (λ (g : Granted).
    Holds (contents g.state) (with_part (oldest_buffer k.turns) g.buffer p) (story.story fs (landing_event g.landing)) × Counted g.state)
    granted on x (part (oldest_buffer k.turns) p)
    (rw (with_same (oldest_buffer k.turns) p) (h, count))
    (λ v vs is space.
    let less : length vs ≡ x.output.held - 1 = omega (arith, rw is at count) in
    let left = contents_holding (x.output.held - 1) vs (count_landed x.output) less in
    let now = holds_landed k v vs p fs t (subst (λ (l : List ℕ). Holds l p fs) is h) (rw at space) in
    let u = oldest_buffer k.turns in
    (subst (λ (l : List ℕ). Holds l (with_part u (stored x.output.place v (part u p)) p) (story.landing_of fs)) (sym left) (rw at at now), holding_counted (x.output.held - 1) vs (count_landed x.output) less))

-- Rule 9 and ERR, and the end of a frame.
ended_holds : (b : Bool) {vs : List ℕ} {p : Pair} {fs : List Tale} → Holds vs p fs → Holds vs p (story.story fs (cond b (story.ended ∷ []) []))
unfolding story.story story.tell
ended_holds true h = holds_ended h
ended_holds false h = h

quiet_holds : (b c : Bool) (x : OutputState) (p : Pair) (fs : List Tale) → Holds (contents x) p fs
    → Holds (contents (cond b (discard 0 x) x)) p (story.story fs (cond b (story.discarded ∷ []) (cond c (story.ended ∷ []) [])))
unfolding story.story story.tell discard
quiet_holds true c x p fs h = rw (contents_holding 0 [] (count_discarded (x.output.held + 0) x.output) refl) (holds_discarded h)
quiet_holds false c x p fs h = ended_holds c h

word_holds : (v : ℕ) (b : Bool) (c : Captured) (x : OutputState) (p : Pair) (fs : List Tale) → Counted x → Sound fs → Holds (contents x) p fs
    → let a = complete (Some v) c x in Holds (contents (output_of a.device)) p (story.story fs (word_event a.packed ++ cond b (story.ended ∷ []) []))
unfolding complete after_word offer discard story.story story.tell
word_holds v b c x p fs count s h =
    either
    (λ (r : Offered).
    let a = after_word r.fate v c r.state in Holds (contents (output_of a.device)) p (story.story fs (word_event a.packed ++ cond b (story.ended ∷ []) [])))
    (ltb x.output.held x.output.depth)
    (rw (contents_holding (x.output.held + 1) (push v (contents x)) (count_word x.output) (rw (length-append, count))) (ended_holds b (holds_held v s h)))
    (rw (contents_holding 0 [] (count_discarded ((count_word x.output).held + 1) (count_word x.output)) refl) (ended_holds b (holds_lost s h)))

after_holds : (o : Option ℕ) (s : Capture) (c : Captured) (x : OutputState) (p : Pair) (fs : List Tale) → (c.error ≡ true → o ≡ None) → Counted x → Sound fs → Holds (contents x) p fs
    → let a = complete o c x in Holds (contents (output_of a.device)) p (story.story fs (word_event a.packed ++ frame_event s c))
unfolding complete frame_event
after_holds None s c x p fs alone count sound h = quiet_holds c.error (has_closed s c) x p fs h
after_holds (Some v) s c x p fs alone count sound h =
    subst
    (λ (rises : Bool).
    let a = complete (Some v) c x in
    Holds (contents (output_of a.device)) p (story.story fs (word_event a.packed ++ cond rises (story.discarded ∷ []) (cond (has_closed s c) (story.ended ∷ []) []))))
    (sym (no_error c.error v alone)) (word_holds v (has_closed s c) c x p fs count sound h)
  where
    no_error : (rises : Bool) (v : ℕ) → (rises ≡ true → Some v ≡ None) → rises ≡ false
    no_error false v e = refl
    no_error true v e = let n = e refl in let z : ◌≡◌ {A = ℕ} 0 1 = cc in absurd (omega arith)

sound_landed : (o : Option ℕ) (fs : List Tale) → Sound fs → Sound (story.story fs (landing_event o))
unfolding story.story story.tell
sound_landed None fs s = s
sound_landed (Some byte) fs s = sound_landing fs s

-- One sample.
pub two_step_holds : (x : Two) (w : ℕ) (fs : List Tale) → Tells (kept_of x.device x.turns) fs → Holds (contents (output_of x.device)) x.buffers fs
    → let r = two_step x w in
    Holds (contents (output_of r.after.device)) r.after.buffers (story.story fs (sample_events (capture_of x.device) w (landing_byte r.landing) r.packed))
unfolding two_step step after_grant sample_events counted count_sample with_counts with_place contents
two_step_holds x w fs t h =
    let d = x.device in
    let s = capture_of d in
    let u = oldest_buffer x.turns in
    let y = counted (output_of (placed (oldest_place d.core.output.place x.turns) d)) in
    let g = grant (bus_grant w) (enabled s) y (part u x.buffers) in
    let a = complete (capture_sample s w).word (capture_sample s w) g.state in
    let count : length (contents (output_of d)) ≡ d.core.output.held = ap length h.words ∙ words_count fs ∙ sym t.count in
    let (landed, count') = landing_holds (kept_of d x.turns) y x.buffers fs (bus_grant w) (enabled s) refl count t h in
    rw (same_byte u g.landing, story_append fs (landing_event g.landing) (word_event a.packed ++ frame_event s (capture_sample s w)))
    (after_holds (capture_sample s w).word s (capture_sample s w) g.state (with_part u g.buffer x.buffers) (story.story fs (landing_event g.landing))
    (no_word_in_error s w) count' (sound_landed g.landing fs t.sound) landed)

-- Some samples.
pub tells_of : {k : Kept} {fs : List Tale} → Explained k fs → Tells k fs
tells_of x = rw (x.keeps, x.tells) (all_kept start [] x.since tells_start)

pub two_steps_hold : (x : Two) (ws : List ℕ) (fs : List Tale) → Explained (kept_of x.device x.turns) fs → Holds (contents (output_of x.device)) x.buffers fs
    → let y = two_steps x ws in Holds (contents (output_of y.device)) y.buffers (tell_all fs (map on_device (two_samplings x ws)))
unfolding two_steps two_samplings tell_all tell frame_events
two_steps_hold x [] fs e h = h
two_steps_hold x (w ∷ ws) fs e h =
    let r = two_step x w in
    two_steps_hold r.after ws _
    (explained_on (sample_events (capture_of x.device) w (landing_byte r.landing) r.packed) e (two_step_kept x w) refl)
    (two_step_holds x w fs (tells_of e) h)
