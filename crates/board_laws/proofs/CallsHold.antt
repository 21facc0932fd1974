-- Over every list of calls with one pair of memories and starts handed on: in mode two held words and frame buffers are at all times as the history's frames tell (`Shows`, `calls_show`).
-- The idea: samples over two memories keep it so (SampleHolds), and their frame buffers are the next call's; disabling discards, re-arming tells that nothing stands, setting the mode begins
-- with no frame and no held word. Assumes nothing.
use mathlib.Core.Bool.{Bool, true, false, cond, not, ◌||◌, true≢false}
use mathlib.Core.List.{List, [], ◌∷◌, ◌++◌, map, append-nil}
use mathlib.Core.Path.{◌≡◌, refl, ap, sym, ◌∙◌, subst}
use Prim.Native.Nat.{ℕ}
use native.Mathlib.Omega.{arith}
use lib.Dec.{eqb, ltb}
use lib.ListN.{length, take, drop, length-append}
use lib.Seq.{length-take-le, drop_at}
use borrow.Author.Tests.{ltb-false, le-ltb}
use Rattle.bits.proofs.Booleans.{or_false, by_cond, either}
use Rattle.buffers.specs.Turns.{fresh_turns}
use Rattle.buffers.specs.Story as story
use Rattle.buffers.specs.Story.{Tale, closed_otherwise, armed_anew}
use Rattle.buffers.proofs.Words.{held_words}
use Rattle.registers.specs.Map.{register_at}
use Rattle.std.specs.Prelude.{Option, Some, None}
use Rattle.output.specs.Output.{OutputState, contents, with_held, holding, with_place, discard}
use Rattle.rules.specs.declared.Device.{Device}
use Rattle.rules.specs.State.{capture_of, output_of}
use Rattle.rules.specs.Capture.{enabled}
use Rattle.rules.specs.Run as run_rules
use Rattle.rules.specs.RegisterCalls as register_rules
use Rattle.laws.specs.Histories as device_histories
use Rattle.laws.specs.Histories.{Event, disabling_of}
use Rattle.output.specs.Ledger.{Ledger, discarding_entry, numbers}
use Rattle.laws.specs.Ledger.{enter, enter_all}
use Rattle.laws.proofs.CountsFromHistory.{none_disabled}
use Rattle.board_rules.specs.declared.Mode.{Mode}
use Rattle.board_rules.specs.declared.Mode.TheVariants.{One, Two}
use Rattle.board_rules.specs.declared.Board.{Board}
use Rattle.board_rules.specs.State.{is_two, malformed}
use Rattle.board_rules.specs.BoardCalls as board_calls
use Rattle.board_rules.specs.BoardCalls.{mode_after, write, rearmed_mode, rearm, set_mode}
use Rattle.board_rules.specs.BoardRuns.{one_refusal, run, sample, Lent, Both, refilled, beyond, memories, buffers, filled, two_refusal, turns_of, opened, board, run_two, sample_two}
use Rattle.board_rules.specs.TwoBuffers as buffer_rules
use Rattle.board_rules.specs.TwoBuffers.{Pair, two_steps}
use Rattle.board_laws.specs.BoardHistories.{after, after_all, on_device, rearmed, mode_set, two_samplings, samplings_of, changes_of, device_events, happenings, happenings_of_all, frame_events, tell, tell_all}
use Rattle.board_laws.specs.Handing.{Bare, a_write, a_rearming, one_buffer, two_buffers, a_run, a_sample, a_run_two, a_sample_two, over, with_memories, memories_left, calls, memories_left_by}
use Rattle.board_laws.proofs.BoardConservation.{board_facts, write_counted, call_keeps}
use Rattle.board_laws.proofs.AsDevice.{two_steps_enable}
use Rattle.board_laws.proofs.CompleteFrames.{Explains, tell_append, call_explained}
use Rattle.board_laws.proofs.InBuffers.{Holds, holds_discarded, holds_rearmed}
use Rattle.registers.specs.declared.Register.{Register}
use Rattle.board_laws.proofs.SampleHolds.{two_steps_hold}

-- A start is above its memory's length: then no samples over two memories are accepted.
abbrev pub off : Both → Bool
off l = beyond l.a || beyond l.b

-- Of a device in a mode, and memories. In mode one there is nothing to show.
abbrev pub Shows : Device → Mode → Both → List Tale → Type 0
Shows d One l fs = Unit {0}
Shows d (Two t) l fs = Holds (contents (output_of d)) (buffers l) fs × (off l ≡ true → fs ≡ [])

-- A register write: where ENABLE falls the held words are discarded.
no_contents : (x : OutputState) → x.output.held ≡ 0 → contents x ≡ []
unfolding contents
no_contents x e = rw e

abbrev Emptied : Bool → OutputState → OutputState → Type 0
Emptied falls x y = y.output.held ≡ cond falls 0 x.output.held → contents y ≡ cond falls [] (contents x)

discard_empties : (falls : Bool) (x : OutputState) → Emptied falls x (discard 0 x)
unfolding discard holding with_held
discard_empties true x e = no_contents (discard 0 x) e
discard_empties false x e = no_contents (discard 0 x) refl ∙ sym (no_contents x (sym e))

same_empties : (falls : Bool) (x : OutputState) → Emptied falls x x
same_empties true x e = no_contents x e
same_empties false x e = refl

write_at_empties : (falls : Bool) (d : Device) (r : Option Register) (v : ℕ) → Emptied falls (output_of d) (output_of (register_rules.write_at d r v))
unfolding register_rules.write_at
write_at_empties falls d None v = same_empties falls (output_of d)
write_at_empties falls d (Some r) v =
    either (Emptied falls (output_of d)) (register_rules.disables d.core.capture.registers.cr r v) (discard_empties falls (output_of d)) (same_empties falls (output_of d))

write_empties : (falls : Bool) (d : Device) (offset v : ℕ) → Emptied falls (output_of d) (output_of (register_rules.write d offset v).device)
unfolding register_rules.write
write_empties falls d offset v =
    either (λ (x : Device). Emptied falls (output_of d) (output_of x)) (eqb (register_rules.write_refusal d offset v) 0)
    (write_at_empties falls d (register_at offset) v) (same_empties falls (output_of d))

held_after : (falls : Bool) (d d' : Device) → enter_all (numbers d.core.output) (cond falls (device_histories.disabled ∷ []) []) ≡ numbers d'.core.output
    → d'.core.output.held ≡ cond falls 0 d.core.output.held
unfolding enter_all enter discarding_entry
held_after true d d' e = sym (ap (λ (l : Ledger). l.held) e)
held_after false d d' e = sym (ap (λ (l : Ledger). l.held) e)

write_shows : (falls : Bool) (d d' : Device) (m : Mode) (l : Both) (fs : List Tale) → contents (output_of d') ≡ cond falls [] (contents (output_of d)) → Shows d m l fs
    → Shows d' (mode_after falls m) l (tell_all fs (map on_device (cond falls (device_histories.disabled ∷ []) []) ++ []))
unfolding mode_after tell_all tell frame_events story.story story.tell
write_shows falls d d' One l fs e h = tt
write_shows true d d' (Two t) l fs e h = (rw e (holds_discarded h.0), λ o. ap (map closed_otherwise) (h.1 o))
write_shows false d d' (Two t) l fs e h = (rw e h.0, h.1)

-- A call that changes nothing.
unchanged : (d : Device) (m : Mode) (l : Both) (fs : List Tale) → Shows d m l fs → Shows d m l (tell_all fs (map on_device ([] ++ disabling_of d d) ++ []))
unfolding tell_all
unchanged d m l fs h = rw (none_disabled d d refl) h

-- Re-arming, and setting the mode: it is accepted with ENABLE 0 alone, and then nothing is held.
rearming_shows : (d : Device) (m : Mode) (l : Both) (fs : List Tale) → Shows d m l fs
    → Shows (register_rules.rearmed d) (rearmed_mode m) l (tell_all fs (map on_device ([] ++ disabling_of d (register_rules.rearmed d)) ++ (rearmed ∷ [])))
unfolding rearmed_mode register_rules.rearmed with_place contents tell_all tell story.tell
rearming_shows d One l fs h = tt
rearming_shows d (Two t) l fs h = rw (none_disabled d (register_rules.rearmed d) refl) (holds_rearmed h.0, λ o. ap (map armed_anew) (h.1 o))

nothing_held : (p : Pair) → Holds [] p []
unfolding held_words story.frame_in
nothing_held p = record { words = refl; stands = λ u. tt }

fresh_shows : (d : Device) (l : Both) (fs : List Tale) → d.core.output.held ≡ 0
    → Shows (register_rules.rearmed d) (Two fresh_turns) l (tell_all fs (map on_device ([] ++ disabling_of d (register_rules.rearmed d)) ++ (mode_set ∷ [])))
unfolding register_rules.rearmed with_place tell_all tell
fresh_shows d l fs e =
    rw (none_disabled d (register_rules.rearmed d) refl)
    (subst (λ (vs : List ℕ). Holds vs (buffers l) []) (sym (no_contents (output_of (register_rules.rearmed d)) e)) (nothing_held (buffers l)), λ o. refl)

set_shows : (m : Mode) (b : Board) (l : Both) (fs : List Tale) → malformed b ≡ false
    → (b.device.core.output.held ≡ 0 → Shows (register_rules.rearmed b.device) m l (tell_all fs (map on_device ([] ++ disabling_of b.device (register_rules.rearmed b.device)) ++ (mode_set ∷ []))))
    → Shows b.device b.mode l fs
    → let c = set_mode m b in
    Shows c.board.device c.board.mode l (tell_all fs (map on_device ([] ++ disabling_of b.device c.board.device) ++ cond (eqb c.number 0) (mode_set ∷ []) []))
unfolding set_mode
set_shows m b l fs e fresh h = rw e (go (enabled (capture_of b.device)) refl)
  where
    go : (on : Bool) → enabled (capture_of b.device) ≡ on
        → let n : ℕ = cond on 6 0 in
        let x = cond (eqb n 0) (record { device = register_rules.rearmed b.device; mode = m }) b in
        Shows x.device x.mode l (tell_all fs (map on_device ([] ++ disabling_of b.device x.device) ++ cond (eqb n 0) (mode_set ∷ []) []))
    go true is = unchanged b.device b.mode l fs h
    go false is = fresh ((board_facts b e).0.output.idle is)

-- Samples over one memory, accepted in mode one alone.
one_shows : (d : Device) (m : Mode) (d' : Device) (n : ℕ) (memory : List ℕ) (es : List Event) (l : Both) (fs : List Tale) → Shows d m l fs
    → let taken = eqb (cond (is_two m) 16 n) 0 in
    let x = cond {A = Board} taken (record { device = d'; mode = m }) (record { device = d; mode = m }) in
    Shows x.device x.mode (with_memories (record { a = cond taken memory l.a.memory; b = l.b.memory }) l)
    (tell_all fs (map on_device (cond taken es [] ++ disabling_of d x.device) ++ []))
one_shows d One d' n memory es l fs h =
    either (λ (x : Board). (l : Both) (gs : List Tale) → Shows x.device x.mode l gs) (eqb n 0) (λ l gs. tt) (λ l gs. tt) _ _
one_shows d (Two t) d' n memory es l fs h = unchanged d (Two t) l fs h

-- Over two memories, in mode two alone: the frame buffers of what they leave are those that the samples leave.
module _ (l : Lent) (inside : beyond l ≡ false) (buffer : List ℕ) where
  front : length (take l.start l.memory) ≡ l.start
  front = length-take-le l.start l.memory (ltb-false _ _ inside)

  refilled_buffer : drop l.start (refilled l buffer) ≡ buffer
  refilled_buffer = drop_at (take l.start l.memory) buffer l.start front

  refilled_inside : ltb (length (refilled l buffer)) l.start ≡ false
  refilled_inside = le-ltb (length (refilled l buffer)) l.start (rw (length-append (take l.start l.memory) buffer, front) (omega arith))

filled_buffers : (l : Both) (p : Pair) → off l ≡ false → buffers (with_memories (filled l p) l) ≡ p
filled_buffers l p e =
    let (a, b) = or_false (beyond l.a) (beyond l.b) e in
    λ i. record { a = refilled_buffer l.a a p.a i; b = refilled_buffer l.b b p.b i }

filled_inside : (l : Both) (p : Pair) → off l ≡ false → off (with_memories (filled l p) l) ≡ false
filled_inside l p e = let (a, b) = or_false (beyond l.a) (beyond l.b) e in rw (refilled_inside l.a a p.a, refilled_inside l.b b p.b)

two_shows : (d : Device) (m : Mode) (l : Both) (ws : List ℕ) (n : ℕ) (fs : List Tale) → Explains d m fs → Shows d m l fs
    → let b : Board = record { device = d; mode = m } in
    let number = cond (not (is_two m)) 16 (cond (off l) 9 n) in
    let y = two_steps (opened b l) ws in
    let x = cond (eqb number 0) (board y) b in
    Shows x.device x.mode (with_memories (cond (eqb number 0) (filled l y.buffers) (memories l)) l)
    (tell_all fs (map on_device (cond (eqb number 0) (two_samplings (opened b l) ws) [] ++ disabling_of d x.device) ++ []))
unfolding turns_of
two_shows d One l ws n fs k h = unchanged d One l fs h
two_shows d (Two t) l ws n fs k h = go (off l) (eqb n 0) refl refl
  where
    x : buffer_rules.Two
    x = record { device = d; turns = t; buffers = buffers l }

    go : (away taken : Bool) → off l ≡ away → eqb n 0 ≡ taken
        → let b : Board = record { device = d; mode = Two t } in
        let number = cond (off l) 9 n in
        let y = two_steps x ws in
        let z = cond (eqb number 0) (board y) b in
        Shows z.device z.mode (with_memories (cond (eqb number 0) (filled l y.buffers) (memories l)) l)
        (tell_all fs (map on_device (cond (eqb number 0) (two_samplings x ws) [] ++ disabling_of d z.device) ++ []))
    go true taken away is = rw away (unchanged d (Two t) l fs h)
    go false true away is =
        let y = two_steps x ws in
        rw (away, is, none_disabled d y.device (two_steps_enable x ws), append-nil (two_samplings x ws), append-nil (map on_device (two_samplings x ws))) (
          subst (λ (p : Pair). Holds (contents (output_of y.device)) p (tell_all fs (map on_device (two_samplings x ws)))) (sym (filled_buffers l y.buffers away))
              (two_steps_hold x ws fs k h.0),
          λ o. absurd (true≢false (sym o ∙ filled_inside l y.buffers away)),
        )
    go false false away is = rw (away, is) (unchanged d (Two t) l fs h)

-- Every call, and every list of calls.
call_shows : (b : Board) (l : Both) (q : Bare) (fs : List Tale) → malformed b ≡ false → Explains b.device b.mode fs → Shows b.device b.mode l fs
    → Shows (after b (over l q)).device (after b (over l q)).mode (memories_left b l q) (tell_all fs (happenings b (over l q)))
unfolding over memories_left after happenings device_events samplings_of changes_of
call_shows b l (a_write offset value fits) fs e k h =
    let d = b.device in
    let r = register_rules.write d offset value in
    unfold write in
    rw e
    (by_cond (λ (x : Board). Shows x.device x.mode l (tell_all fs (map on_device ([] ++ disabling_of d x.device) ++ []))) (eqb r.number 0) _ _
    (λ t.
    let falls = board_calls.disabled d r.device in
    let empties = write_empties falls d offset value (held_after falls d r.device (write_counted d offset value fits)) in
    unfold board_calls.disabled disabling_of in write_shows falls d r.device b.mode l fs empties h)
    (λ t. unchanged d b.mode l fs h))
call_shows b l a_rearming fs e k h = unfold rearm in rw e (rearming_shows b.device b.mode l fs h)
call_shows b l one_buffer fs e k h = set_shows One b l fs e (λ z. tt) h
call_shows b l two_buffers fs e k h = set_shows (Two fresh_turns) b l fs e (fresh_shows b.device l fs) h
call_shows b l (a_run samples) fs e k h =
    unfold run one_refusal in rw e (one_shows b.device b.mode _ (run_rules.run_refusal b.device l.a.memory l.a.start samples) _ _ l fs h)
call_shows b l (a_sample w) fs e k h =
    unfold sample one_refusal in rw e (one_shows b.device b.mode _ (run_rules.run_refusal b.device l.a.memory l.a.start (w ∷ [])) _ _ l fs h)
call_shows b l (a_run_two samples) fs e k h = unfold run_two two_refusal in rw e (two_shows b.device b.mode l samples _ fs k h)
call_shows b l (a_sample_two w) fs e k h = unfold sample_two two_refusal two_steps in rw e (two_shows b.device b.mode l (w ∷ []) _ fs k h)

pub calls_show : (b : Board) (l : Both) (qs : List Bare) (fs : List Tale) → malformed b ≡ false → Explains b.device b.mode fs → Shows b.device b.mode l fs
    → let cs = calls b l qs in Shows (after_all b cs).device (after_all b cs).mode (memories_left_by b l qs) (tell_all fs (happenings_of_all b cs))
unfolding calls memories_left_by after_all happenings_of_all tell_all
calls_show b l [] fs e k h = h
calls_show b l (q ∷ qs) fs e k h =
    let c = over l q in
    let b' = after b c in
    rw (tell_append fs (happenings b c) (happenings_of_all b' (calls b' (memories_left b l q) qs)))
    (calls_show b' (memories_left b l q) qs (tell_all fs (happenings b c)) (call_keeps b c e) (call_explained b c fs e k) (call_shows b l q fs e k h))
