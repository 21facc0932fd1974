-- W2, over every depth and every list of calls: in mode two a buffer is said to hold a complete frame, of so many words, just if the history of the calls says so (`complete_frames`), and
-- the latest complete frame is the one that the history says (`latest_frame`).
-- The idea: what is kept is what some events make of a fresh start, and the frames that the history tells since the mode was set are what they tell (`Explained`); the laws over lists of
-- events (crate `buffers`) say the rest. Assumes nothing.
use mathlib.Core.Bool.{Bool, true, false, cond, not}
use mathlib.Core.List.{List, [], ◌∷◌, ◌++◌, map, append-nil}
use mathlib.Core.Path.{◌≡◌, refl, ap, sym, ◌∙◌, subst}
use Prim.Native.Nat.{ℕ}
use lib.Dec.{eqb}
use Rattle.bits.proofs.Booleans.{by_cond, either}
use Rattle.buffers.specs.declared.Buffer.{Buffer}
use Rattle.buffers.specs.declared.Turns.{Turns}
use Rattle.buffers.specs.Turns as turn_rules
use Rattle.buffers.specs.Turns.{fresh_turns, latest_complete}
use Rattle.buffers.specs.Story as story
use Rattle.buffers.specs.Story.{Tale, complete_in, latest_in, word_count, which}
use Rattle.buffers.specs.Kept.{Kept, start, keep, keeps, complete_of}
use Rattle.buffers.proofs.Told.{complete_is_history}
use Rattle.buffers.proofs.LatestFrame.{latest_is_history}
use Rattle.registers.specs.Map.{register_at}
use Rattle.std.specs.Prelude.{Option, Some, None}
use Rattle.output.specs.Output.{OutputState, with_held, holding, with_counts, with_place, count_discarded, discard}
use Rattle.output.specs.WellFormed.{bad_depth}
use Rattle.rules.specs.declared.Device.{Device}
use Rattle.rules.specs.State.{capture_of}
use Rattle.rules.specs.Capture.{enabled}
use Rattle.rules.specs.Run as run_rules
use Rattle.rules.specs.RegisterCalls as register_rules
use Rattle.rules.specs.RegisterCalls.{placed}
use Rattle.laws.specs.Histories as device_histories
use Rattle.laws.specs.Histories.{Event, disabling_of}
use Rattle.output.specs.Ledger.{discarding_entry, numbers}
use Rattle.laws.specs.Ledger.{enter, enter_all}
use Rattle.laws.proofs.CountsFromHistory.{none_disabled}
use Rattle.board_rules.specs.declared.Mode.{Mode}
use Rattle.board_rules.specs.declared.Mode.TheVariants.{One, Two}
use Rattle.board_rules.specs.declared.Board.{Board}
use Rattle.board_rules.specs.State.{is_two, kept_of, malformed}
use Rattle.board_rules.specs.BoardCalls as board_calls
use Rattle.board_rules.specs.BoardCalls.{mode_after, write, rearmed_mode, rearm, set_mode}
use Rattle.board_rules.specs.BoardRuns.{one_refusal, run, sample, Both, two_refusal, buffers, turns_of, opened, board, run_two, sample_two}
use Rattle.board_rules.specs.TwoBuffers as buffer_rules
use Rattle.board_rules.specs.TwoBuffers.{part, sample_events, two_step, two_steps}
use Rattle.board_laws.specs.BoardHistories.{Call, a_write, a_rearming, one_buffer, two_buffers, a_run, a_sample, a_run_two, a_sample_two, after, after_all, reached, Happening, on_device, rearmed, mode_set, landing_byte, two_samplings, samplings_of, changes_of, device_events, happenings, happenings_of_all, history, frame_events, tell, tell_all, frames}
use Rattle.board_laws.proofs.TwoKeeps.{keeps_append, two_step_held}
use Rattle.board_laws.proofs.BoardConservation.{board_facts, write_counted, call_keeps, fresh_board_well}
use Rattle.registers.specs.declared.Register.{Register}
use Rattle.board_laws.proofs.AsDevice.{same_byte, two_steps_enable}

-- Some events make of a fresh start what is kept, and tell these frames.
pub record Explained (k : Kept) (fs : List Tale) : Type 0 where
  pub since : List story.Event
  pub keeps : k ≡ keeps start since
  pub tells : fs ≡ story.story [] since

pub story_append : (fs : List Tale) (es more : List story.Event) → story.story fs (es ++ more) ≡ story.story (story.story fs es) more
unfolding story.story
story_append fs [] more = refl
story_append fs (e ∷ es) more = story_append (story.tell fs e) es more

pub explained_on : {k k' : Kept} {fs fs' : List Tale} (es : List story.Event) → Explained k fs → k' ≡ keeps k es → fs' ≡ story.story fs es → Explained k' fs'
explained_on es x kept_of told =
    record {
      since = x.since ++ es;
      keeps = rw (keeps_append start x.since es, kept_of, x.keeps);
      tells = rw (story_append [] x.since es, told, x.tells);
    }

-- Of a board: nothing is to be explained in mode one.
abbrev pub Explains : Device → Mode → List Tale → Type 0
Explains d One fs = Unit {0}
Explains d (Two t) fs = Explained (kept_of d t) fs

-- A list of happenings after another.
pub tell_append : (fs : List Tale) (hs gs : List Happening) → tell_all fs (hs ++ gs) ≡ tell_all (tell_all fs hs) gs
unfolding tell_all
tell_append fs [] gs = refl
tell_append fs (h ∷ hs) gs = tell_append (tell fs h) hs gs

-- Samples over two memories.
pub two_step_kept : (x : buffer_rules.Two) (w : ℕ)
    → let r = two_step x w in
    let d = x.device in
    kept_of r.after.device r.after.turns ≡ keeps (kept_of d x.turns) (sample_events (capture_of d) w (landing_byte r.landing) r.packed)
unfolding two_step with_place
two_step_kept x w =
    let d = x.device in
    let u = turn_rules.oldest_buffer x.turns in
    let r = run_rules.step (placed (turn_rules.oldest_place d.core.output.place x.turns) d) (part u x.buffers) w in
    let k = keeps (kept_of d x.turns) (sample_events (capture_of d) w r.landing r.packed) in
    rw (same_byte u r.landing) (λ i. record { turns = k.turns; place_a = k.place_a; held = two_step_held x w i })

two_steps_explained : (x : buffer_rules.Two) (ws : List ℕ) (fs : List Tale) → Explained (kept_of x.device x.turns) fs
    → let y = two_steps x ws in Explained (kept_of y.device y.turns) (tell_all fs (map on_device (two_samplings x ws)))
unfolding two_steps two_samplings tell_all tell frame_events
two_steps_explained x [] fs h = h
two_steps_explained x (w ∷ ws) fs h =
    let r = two_step x w in
    two_steps_explained r.after ws _ (explained_on (sample_events (capture_of x.device) w (landing_byte r.landing) r.packed) h (two_step_kept x w) refl)

-- A register write. It leaves the place; where ENABLE falls, nothing is held after it.
write_at_place : (d : Device) (r : Option Register) (v : ℕ) → (register_rules.write_at d r v).core.output.place ≡ d.core.output.place
unfolding register_rules.write_at discard holding with_held count_discarded with_counts
write_at_place d None v = refl
write_at_place d (Some r) v =
    either (λ (x : OutputState). x.output.place ≡ d.core.output.place) (register_rules.disables d.core.capture.registers.cr r v) refl refl

write_place : (d : Device) (offset v : ℕ) → (register_rules.write d offset v).device.core.output.place ≡ d.core.output.place
unfolding register_rules.write
write_place d offset v =
    either (λ (x : Device). x.core.output.place ≡ d.core.output.place) (eqb (register_rules.write_refusal d offset v) 0) (write_at_place d (register_at offset) v) refl

after_write : (falls : Bool) (d d' : Device) (m : Mode) (fs : List Tale) → enter_all (numbers d.core.output) (cond falls (device_histories.disabled ∷ []) []) ≡ numbers d'.core.output
    → d'.core.output.place ≡ d.core.output.place → Explains d m fs → Explains d' (mode_after falls m) (tell_all fs (map on_device (cond falls (device_histories.disabled ∷ []) []) ++ []))
unfolding mode_after
after_write falls d d' One fs e p h = tt
after_write true d d' (Two t) fs e p h =
    explained_on (story.discarded ∷ []) h
    (unfold enter_all enter discarding_entry keeps keep in λ i. record { turns = turn_rules.discarded t; place_a = p i; held = (sym e i).held })
    (unfold tell_all tell frame_events story.story in refl)
after_write false d d' (Two t) fs e p h =
    explained_on [] h
    (unfold enter_all keeps in λ i. record { turns = t; place_a = p i; held = (sym e i).held })
    (unfold tell_all story.story in refl)

-- A call that changes nothing.
unchanged : (d : Device) (m : Mode) (fs : List Tale) → Explains d m fs → Explains d m (tell_all fs (map on_device ([] ++ disabling_of d d) ++ []))
unfolding tell_all
unchanged d m fs h = rw (none_disabled d d refl) h

-- Re-arming, and setting the mode: it is accepted with ENABLE 0 alone, and then nothing is held.
rearming_explained : (d : Device) (m : Mode) (fs : List Tale) → Explains d m fs
    → Explains (register_rules.rearmed d) (rearmed_mode m) (tell_all fs (map on_device ([] ++ disabling_of d (register_rules.rearmed d)) ++ (rearmed ∷ [])))
unfolding rearmed_mode register_rules.rearmed with_place
rearming_explained d One fs h = tt
rearming_explained d (Two t) fs h =
    rw (none_disabled d (register_rules.rearmed d) refl)
    (explained_on (story.rearmed ∷ []) h (unfold keeps keep in refl) (unfold tell_all tell story.story in refl))

fresh_explained : (d : Device) (fs : List Tale) → d.core.output.held ≡ 0
    → Explains (register_rules.rearmed d) (Two fresh_turns) (tell_all fs (map on_device ([] ++ disabling_of d (register_rules.rearmed d)) ++ (mode_set ∷ [])))
unfolding register_rules.rearmed with_place tell_all tell
fresh_explained d fs e =
    rw (none_disabled d (register_rules.rearmed d) refl)
    (record { since = []; keeps = unfold keeps start in λ i. record { turns = fresh_turns; place_a = 0; held = e i }; tells = unfold story.story in refl })

set_explained : (m : Mode) (b : Board) (fs : List Tale) → malformed b ≡ false
    → (b.device.core.output.held ≡ 0 → Explains (register_rules.rearmed b.device) m (tell_all fs (map on_device ([] ++ disabling_of b.device (register_rules.rearmed b.device)) ++ (mode_set ∷ []))))
    → Explains b.device b.mode fs
    → let c = set_mode m b in
    Explains c.board.device c.board.mode (tell_all fs (map on_device ([] ++ disabling_of b.device c.board.device) ++ cond (eqb c.number 0) (mode_set ∷ []) []))
unfolding set_mode
set_explained m b fs e fresh h = rw e (go (enabled (capture_of b.device)) refl)
  where
    go : (on : Bool) → enabled (capture_of b.device) ≡ on
        → let n : ℕ = cond on 6 0 in
        let x = cond (eqb n 0) (record { device = register_rules.rearmed b.device; mode = m }) b in
        Explains x.device x.mode (tell_all fs (map on_device ([] ++ disabling_of b.device x.device) ++ cond (eqb n 0) (mode_set ∷ []) []))
    go true is = unchanged b.device b.mode fs h
    go false is = fresh ((board_facts b e).0.output.idle is)

-- Samples over one memory, accepted in mode one alone.
one_explained : (d : Device) (m : Mode) (d' : Device) (n : ℕ) (es : List Event) (fs : List Tale) → Explains d m fs
    → let taken = eqb (cond (is_two m) 16 n) 0 in
    let x = cond {A = Board} taken (record { device = d'; mode = m }) (record { device = d; mode = m }) in
    Explains x.device x.mode (tell_all fs (map on_device (cond taken es [] ++ disabling_of d x.device) ++ []))
one_explained d One d' n es fs h = either (λ (x : Board). (gs : List Tale) → Explains x.device x.mode gs) (eqb n 0) (λ gs. tt) (λ gs. tt) _
one_explained d (Two t) d' n es fs h = unchanged d (Two t) fs h

-- Over two memories, in mode two alone.
two_explained : (d : Device) (m : Mode) (l : Both) (ws : List ℕ) (n : ℕ) (fs : List Tale) → Explains d m fs
    → let b : Board = record { device = d; mode = m } in
    let taken = eqb (cond (not (is_two m)) 16 n) 0 in
    let x = cond taken (board (two_steps (opened b l) ws)) b in
    Explains x.device x.mode (tell_all fs (map on_device (cond taken (two_samplings (opened b l) ws) [] ++ disabling_of d x.device) ++ []))
unfolding turns_of
two_explained d One l ws n fs h = unchanged d One fs h
two_explained d (Two t) l ws n fs h = go (eqb n 0)
  where
    x : buffer_rules.Two
    x = record { device = d; turns = t; buffers = buffers l }

    go : (taken : Bool)
        → let b : Board = record { device = d; mode = Two t } in
        let y = cond taken (board (two_steps x ws)) b in
        Explains y.device y.mode (tell_all fs (map on_device (cond taken (two_samplings x ws) [] ++ disabling_of d y.device) ++ []))
    go true =
        rw (none_disabled d _ (two_steps_enable x ws), append-nil (two_samplings x ws), append-nil (map on_device (two_samplings x ws)))
        (two_steps_explained x ws fs h)
    go false = unchanged d (Two t) fs h

-- Every call, and every list of calls.
pub call_explained : (b : Board) (c : Call) (fs : List Tale) → malformed b ≡ false → Explains b.device b.mode fs
    → Explains (after b c).device (after b c).mode (tell_all fs (happenings b c))
unfolding after happenings device_events samplings_of changes_of
call_explained b (a_write offset value fits) fs e h =
    let d = b.device in
    let r = register_rules.write d offset value in
    unfold write in
    rw e
    (by_cond (λ (x : Board). Explains x.device x.mode (tell_all fs (map on_device ([] ++ disabling_of d x.device) ++ []))) (eqb r.number 0) _ _
    (λ t. unfold board_calls.disabled disabling_of in after_write (board_calls.disabled d r.device) d r.device b.mode fs (write_counted d offset value fits) (write_place d offset value) h)
    (λ t. unchanged d b.mode fs h))
call_explained b a_rearming fs e h = unfold rearm in rw e (rearming_explained b.device b.mode fs h)
call_explained b one_buffer fs e h = set_explained One b fs e (λ z. tt) h
call_explained b two_buffers fs e h = set_explained (Two fresh_turns) b fs e (fresh_explained b.device fs) h
call_explained b (a_run memory begin samples) fs e h =
    unfold run one_refusal in rw e (one_explained b.device b.mode _ (run_rules.run_refusal b.device memory begin samples) _ fs h)
call_explained b (a_sample memory begin w) fs e h =
    unfold sample one_refusal in rw e (one_explained b.device b.mode _ (run_rules.run_refusal b.device memory begin (w ∷ [])) _ fs h)
call_explained b (a_run_two lent samples) fs e h = unfold run_two two_refusal in rw e (two_explained b.device b.mode lent samples _ fs h)
call_explained b (a_sample_two lent w) fs e h = unfold sample_two two_refusal two_steps in rw e (two_explained b.device b.mode lent (w ∷ []) _ fs h)

calls_explained : (b : Board) (cs : List Call) (fs : List Tale) → malformed b ≡ false → Explains b.device b.mode fs
    → Explains (after_all b cs).device (after_all b cs).mode (tell_all fs (happenings_of_all b cs))
unfolding after_all happenings_of_all tell_all
calls_explained b [] fs e h = h
calls_explained b (c ∷ cs) fs e h =
    rw (tell_append fs (happenings b c) (happenings_of_all (after b c) cs))
    (calls_explained (after b c) cs (tell_all fs (happenings b c)) (call_keeps b c e) (call_explained b c fs e h))

-- From a board made with a depth from 1 to 32, in mode two.
module _ (depth : ℕ) (sound : bad_depth depth ≡ false) (cs : List Call) (t : Turns) (two : (reached depth cs).mode ≡ Two t) where
  pub explained : Explained (kept_of (reached depth cs).device t) (frames (history depth cs))
  explained =
      subst (λ (m : Mode). Explains (reached depth cs).device m (frames (history depth cs))) two
      (calls_explained (board_calls.fresh_of depth) cs [] (fresh_board_well depth sound) tt)

  -- A buffer is said to hold a complete frame, of so many words, just if the history says so.
  pub complete_frames : (u : Buffer) → complete_of u (kept_of (reached depth cs).device t) ≡ word_count (complete_in u (frames (history depth cs)))
  complete_frames u = rw (explained.keeps, explained.tells) (complete_is_history explained.since u)

  -- The latest complete frame is the one that the history says.
  pub latest_frame : latest_complete t ≡ which (latest_in (frames (history depth cs)))
  latest_frame = ap (λ (k : Kept). latest_complete k.turns) explained.keeps ∙ latest_is_history explained.since ∙ ap (λ (fs : List Tale). which (latest_in fs)) (sym explained.tells)
