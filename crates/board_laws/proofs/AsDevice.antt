-- Every list of calls on a board is, for its device, a list of the device's calls (`device_calls_of_all`): it reaches the same device, with the same events (`as_device`).
-- The idea: a sample over two memories is a placing at the oldest held word's place, a sample over its buffer, and a placing at A's; what a board refuses is no call of the device. Assumes nothing.
use mathlib.Core.Bool.{Bool, true, false, cond, not, ◌||◌}
use mathlib.Core.List.{List, [], ◌∷◌, ◌++◌, map, append_assoc, append-nil}
use Rattle.std.specs.Prelude.{Option, None, Some}
use mathlib.Core.Path.{◌≡◌, refl, ap, sym, ◌∙◌, subst}
use Prim.Native.Nat.{ℕ, ◌+◌, ◌≤◌}
use native.Mathlib.Omega.{arith}
use lib.Dec.{eqb, ltb}
use lib.ListN.{length}
use borrow.Author.Tests.{le-ltb, ltb-false, eqb-true}
use Rattle.bits.proofs.Booleans.{or_false, either, both_false}
use Rattle.buffers.specs.declared.Buffer.{Buffer}
use Rattle.buffers.specs.Turns.{fresh_turns, oldest_buffer, oldest_place}
use Rattle.refusals.specs.Refusals.{◌⇒◌}
use Rattle.refusals.proofs.Accepted.{accepted}
use Rattle.registers.specs.Control.{enable}
use Rattle.samples.specs.Samples.{bad_sample, any_bad}
use Rattle.output.specs.Output.{with_place}
use Rattle.output.specs.WellFormed.{bad_depth}
use Rattle.rules.specs.declared.Device.{Device}
use Rattle.rules.specs.State.{capture_of}
use Rattle.rules.specs.Capture.{enabled}
use Rattle.rules.specs.Run as run_rules
use Rattle.rules.specs.RegisterCalls as register_rules
use Rattle.rules.specs.RegisterCalls.{placed}
use Rattle.rules.proofs.WellFormed.{WellFormed, well_formed}
use Rattle.laws.specs.Histories as device_histories
use Rattle.laws.specs.Histories.{Event, sampled, samplings, accepted_samplings, disabling_of, events_of_all}
use Rattle.laws.proofs.KeepsSample.{step_enable, step_samples}
use Rattle.laws.proofs.KeepsWrites.{placed_ok}
use Rattle.laws.proofs.CountsFromHistory.{none_disabled}
use Rattle.board_rules.specs.declared.Mode.{Mode}
use Rattle.board_rules.specs.declared.Mode.TheVariants.{One, Two}
use Rattle.board_rules.specs.declared.Board.{Board}
use Rattle.board_rules.specs.State.{is_two, malformed}
use Rattle.board_rules.specs.BoardCalls as board_calls
use Rattle.board_rules.specs.BoardCalls.{write, rearm, set_mode}
use Rattle.board_rules.specs.BoardRuns.{one_refusal, run, sample, Both, two_refusal, opened, board, beyond, run_two, sample_two}
use Rattle.board_rules.specs.TwoBuffers as buffer_rules
use Rattle.board_rules.specs.TwoBuffers.{part, landing_in, two_step, two_steps}
use Rattle.board_rules.proofs.WellFormed.{TurnsOk}
use Rattle.board_laws.specs.BoardHistories.{Call, a_write, a_rearming, one_buffer, two_buffers, a_run, a_sample, a_run_two, a_sample_two, after, after_all, reached, Happening, on_device, landing_byte, two_samplings, samplings_of, changes_of, device_events, happenings, happenings_of_all, history, events}
use Rattle.board_laws.proofs.TwoKeeps.{oldest_at_most, two_step_keeps}
use Rattle.board_laws.proofs.BoardConservation.{board_facts, opened_ok, call_keeps, fresh_board_well}

-- The device's calls for some samples over two memories; for a call; and for a list of calls.
unfoldable pub two_calls : buffer_rules.Two → List ℕ → List device_histories.Call
two_calls x [] = []
two_calls x (w ∷ ws) =
    device_histories.a_placing (oldest_place x.device.core.output.place x.turns) ∷
    device_histories.a_sample (part (oldest_buffer x.turns) x.buffers) 0 w ∷
    device_histories.a_placing (two_step x w).after.device.core.output.place ∷
    two_calls (two_step x w).after ws

unfoldable pub device_calls : Board → Call → List device_histories.Call
device_calls b (a_write offset value fits) = device_histories.a_write offset value fits ∷ []
device_calls b a_rearming = device_histories.a_rearming ∷ []
device_calls b one_buffer = cond (eqb (board_calls.one_buffer b).number 0) (device_histories.a_rearming ∷ []) []
device_calls b two_buffers = cond (eqb (board_calls.two_buffers b).number 0) (device_histories.a_rearming ∷ []) []
device_calls b (a_run memory start samples) = cond (is_two b.mode) [] (device_histories.a_run memory start samples ∷ [])
device_calls b (a_sample memory start w) = cond (is_two b.mode) [] (device_histories.a_sample memory start w ∷ [])
device_calls b (a_run_two lent samples) = cond (eqb (two_refusal b lent samples) 0) (two_calls (opened b lent) samples) []
device_calls b (a_sample_two lent w) = cond (eqb (two_refusal b lent (w ∷ [])) 0) (two_calls (opened b lent) (w ∷ [])) []

unfoldable pub device_calls_of_all : Board → List Call → List device_histories.Call
device_calls_of_all b [] = []
device_calls_of_all b (c ∷ cs) = device_calls b c ++ device_calls_of_all (after b c) cs

-- Some calls make of a device this one, with these events.
record Does (d : Device) (cs : List device_histories.Call) (d' : Device) (es : List Event) : Type 0 where
  pub device : device_histories.after_all d cs ≡ d'
  pub events : events_of_all d cs ≡ es

does_none : (d : Device) → Does d [] d []
unfolding device_histories.after_all events_of_all
does_none d = record { device = refl; events = refl }

does_one : {d d' d'' : Device} {es fs : List Event} (c : device_histories.Call) (cs : List device_histories.Call) → device_histories.after d c ≡ d' → device_histories.events d c ≡ es
    → Does d' cs d'' fs → Does d (c ∷ cs) d'' (es ++ fs)
unfolding device_histories.after_all events_of_all
does_one c cs e f h = record { device = rw e h.device; events = rw (f, e, h.events) }

after_append : (d : Device) (cs ds : List device_histories.Call) → device_histories.after_all d (cs ++ ds) ≡ device_histories.after_all (device_histories.after_all d cs) ds
unfolding device_histories.after_all
after_append d [] ds = refl
after_append d (c ∷ cs) ds = after_append (device_histories.after d c) cs ds

events_append : (d : Device) (cs ds : List device_histories.Call)
    → events_of_all d (cs ++ ds) ≡ events_of_all d cs ++ events_of_all (device_histories.after_all d cs) ds
unfolding device_histories.after_all events_of_all
events_append d [] ds = refl
events_append d (c ∷ cs) ds =
    rw (events_append (device_histories.after d c) cs ds) (sym (append_assoc (device_histories.events d c) _ _))

does_append : {d d' d'' : Device} {es fs : List Event} (cs ds : List device_histories.Call) → Does d cs d' es → Does d' ds d'' fs → Does d (cs ++ ds) d'' (es ++ fs)
does_append {d} cs ds h k =
    record { device = rw (after_append d cs ds, h.device) k.device; events = rw (events_append d cs ds, h.device, h.events, k.events) }

-- A placing at a place not above landed; one has no event.
placing : (d : Device) (k : ℕ) → k ≤ d.core.output.counts.landed → device_histories.after d (device_histories.a_placing k) ≡ placed k d
unfolding device_histories.after
placing d k le = rw (le-ltb d.core.output.counts.landed k le)

placing_silent : (d : Device) (k : ℕ) → device_histories.events d (device_histories.a_placing k) ≡ []
unfolding device_histories.events device_histories.samplings_of device_histories.after
placing_silent d k =
    none_disabled d _ (either (λ (x : Device). enable x.core.capture.registers.cr ≡ enable d.core.capture.registers.cr) (ltb d.core.output.counts.landed k) refl refl)

-- A sample that is accepted.
no_refusal : (d : Device) (memory : List ℕ) (w : ℕ) → WellFormed d → any_bad (w ∷ []) ≡ false → d.core.output.counts.samples + 1 ≤ 4294967295
    → run_rules.run_refusal d memory 0 (w ∷ []) ≡ 0
unfolding run_rules.run_refusal
no_refusal d memory w f good few =
    rw (well_formed d f, le-ltb (length memory) 0 (omega arith), good, le-ltb 4294967295 (d.core.output.counts.samples + 1) few)

sampling : (d : Device) (memory : List ℕ) (w : ℕ) → run_rules.run_refusal d memory 0 (w ∷ []) ≡ 0
    → let r = run_rules.step d memory w in
    (device_histories.after d (device_histories.a_sample memory 0 w) ≡ r.device)
    × (device_histories.events d (device_histories.a_sample memory 0 w) ≡ sampled d.core.capture w r.landing r.packed ∷ [])
unfolding device_histories.events device_histories.samplings_of device_histories.after accepted_samplings samplings run_rules.sample
sampling d memory w e = (rw e, rw (e, none_disabled d _ (step_enable d memory w)))

-- Some samples over two memories.
two_step_samples : (x : buffer_rules.Two) (w : ℕ) → (two_step x w).after.device.core.output.counts.samples ≡ x.device.core.output.counts.samples + 1
unfolding two_step with_place
two_step_samples x w = step_samples (placed (oldest_place x.device.core.output.place x.turns) x.device) (part (oldest_buffer x.turns) x.buffers) w

pub same_byte : (u : Buffer) (o : Option ℕ) → landing_byte (landing_in u o) ≡ o
same_byte u None = refl
same_byte u (Some byte) = refl

two_step_does : (x : buffer_rules.Two) (w : ℕ) (ds : List device_histories.Call) (d' : Device) (es : List Event) → WellFormed x.device → TurnsOk x.device.core.output x.turns
    → any_bad (w ∷ []) ≡ false → x.device.core.output.counts.samples + 1 ≤ 4294967295
    → Does (two_step x w).after.device ds d' es
    → let r = two_step x w in
    Does x.device
    (device_histories.a_placing (oldest_place x.device.core.output.place x.turns) ∷
    device_histories.a_sample (part (oldest_buffer x.turns) x.buffers) 0 w ∷
    device_histories.a_placing r.after.device.core.output.place ∷
    ds)
    d'
    (sampled (capture_of x.device) w (landing_byte r.landing) r.packed ∷ es)
unfolding two_step with_place
two_step_does x w ds d' es f t good few h =
    let d = x.device in
    let p = oldest_place d.core.output.place x.turns in
    let low = oldest_at_most d.core.output.counts.landed _ x.turns f.output.place t.place in
    let y = placed p d in
    let m = part (oldest_buffer x.turns) x.buffers in
    let (goes, tells) = sampling y m w (no_refusal y m w (placed_ok p d low f) good few) in
    let back = (two_step_keeps x w f t).0.output.place in
    rw (same_byte (oldest_buffer x.turns) (run_rules.step y m w).landing)
    (does_one _ _ (placing d p low) (placing_silent d p)
    (does_one _ _ goes tells
    (does_one _ _ (placing (run_rules.step y m w).device _ back) (placing_silent _ _) h)))

two_does : (x : buffer_rules.Two) (ws : List ℕ) → WellFormed x.device → TurnsOk x.device.core.output x.turns → any_bad ws ≡ false
    → x.device.core.output.counts.samples + length ws ≤ 4294967295 → Does x.device (two_calls x ws) (two_steps x ws).device (two_samplings x ws)
unfolding two_calls two_steps two_samplings any_bad
two_does x [] f t good few = does_none x.device
two_does x (w ∷ ws) f t good few =
    let (here, later) = or_false (bad_sample w) (any_bad ws) good in
    let (f', t') = two_step_keeps x w f t in
    two_step_does x w _ _ _ f t (both_false _ _ here refl) (omega arith)
    (two_does (two_step x w).after ws f' t' later (omega (arith, two_step_samples x w)))

pub two_steps_enable : (x : buffer_rules.Two) (ws : List ℕ) → enable (two_steps x ws).device.core.capture.registers.cr ≡ enable x.device.core.capture.registers.cr
unfolding two_steps two_step
two_steps_enable x [] = refl
two_steps_enable x (w ∷ ws) =
    two_steps_enable (two_step x w).after ws
    ∙ step_enable (placed (oldest_place x.device.core.output.place x.turns) x.device) (part (oldest_buffer x.turns) x.buffers) w

-- One call of the device, and none, with what disabling adds to the events.
does_single : (d : Device) (c : device_histories.Call) (d' : Device) (es : List Event) → device_histories.after d c ≡ d' → device_histories.samplings_of d c ≡ es
    → Does d (c ∷ []) d' (es ++ disabling_of d d')
unfolding device_histories.after_all events_of_all device_histories.events
does_single d c d' es e f = record { device = e; events = rw (f, e, append-nil (es ++ disabling_of d d')) }

does_nothing : (d : Device) → Does d [] d ([] ++ disabling_of d d)
does_nothing d = rw (none_disabled d d refl) (does_none d)

-- A call of the device's own, refused alike.
refused_alike : (c : Bool) (x : Device) (m : Mode) (b : Board) → cond c x b.device ≡ (cond c (record { device = x; mode = m }) b).device
refused_alike true x m b = refl
refused_alike false x m b = refl

twice : (c : Bool) (x y : Device) → cond c x y ≡ cond c (cond c x y) y
twice true x y = refl
twice false x y = refl

one_does : (b : Board) (two : Bool) (c : device_histories.Call) (n : ℕ) (d' : Device) (es : List Event)
    → device_histories.after b.device c ≡ cond (eqb n 0) d' b.device → device_histories.samplings_of b.device c ≡ cond (eqb n 0) es []
    → let taken = eqb (cond two 16 n) 0 in
    let after_it = (cond taken (record { device = d'; mode = b.mode }) b).device in
    Does b.device (cond two [] (c ∷ [])) after_it (cond taken es [] ++ disabling_of b.device after_it)
one_does b true c n d' es e f = does_nothing b.device
one_does b false c n d' es e f = does_single b.device c _ _ (e ∙ refused_alike (eqb n 0) d' b.mode b) f

-- Re-arming, and setting the mode.
rearming : (d : Device) → WellFormed d → device_histories.after d device_histories.a_rearming ≡ register_rules.rearmed d
unfolding device_histories.after register_rules.rearm
rearming d f = rw (well_formed d f)

set_does : (m : Mode) (b : Board) → malformed b ≡ false
    → let c = set_mode m b in
    Does b.device (cond (eqb c.number 0) (device_histories.a_rearming ∷ []) []) c.board.device ([] ++ disabling_of b.device c.board.device)
unfolding set_mode device_histories.samplings_of
set_does m b e = rw e (go (enabled (capture_of b.device)))
  where
    go : (on : Bool)
        → let n : ℕ = cond on 6 0 in
        let d' = (cond (eqb n 0) (record { device = register_rules.rearmed b.device; mode = m }) b).device in
        Does b.device (cond (eqb n 0) (device_histories.a_rearming ∷ []) []) d' ([] ++ disabling_of b.device d')
    go true = does_nothing b.device
    go false = does_single b.device device_histories.a_rearming _ [] (rearming b.device (board_facts b e).0) refl

-- Over two memories.
run_two_does : (b : Board) (l : Both) (ws : List ℕ) → malformed b ≡ false
    → let taken = eqb (two_refusal b l ws) 0 in
    let d' = (cond taken (board (two_steps (opened b l) ws)) b).device in
    Does b.device (cond taken (two_calls (opened b l) ws) []) d' (cond taken (two_samplings (opened b l) ws) [] ++ disabling_of b.device d')
unfolding two_refusal
run_two_does b l ws e = go (eqb (two_refusal b l ws) 0) refl
  where
    x : buffer_rules.Two
    x = opened b l

    go : (taken : Bool) → eqb (two_refusal b l ws) 0 ≡ taken
        → let d' = (cond taken (board (two_steps x ws)) b).device in
        Does b.device (cond taken (two_calls x ws) []) d' (cond taken (two_samplings x ws) [] ++ disabling_of b.device d')
    go true t =
        let (f, ok) = board_facts b e in
        let tests = malformed b ⇒ 1 ∷ not (is_two b.mode) ⇒ 16 ∷ (beyond l.a || beyond l.b) ⇒ 9 ∷ any_bad ws ⇒ 7 ∷ ltb 4294967295 (b.device.core.output.counts.samples + length ws) ⇒ 8 ∷ [] in
        let (formed, (mode, (short, (good, (few, end))))) = accepted tests (omega arith) (eqb-true _ 0 t) in
        rw (none_disabled b.device _ (two_steps_enable x ws), append-nil (two_samplings x ws))
        (two_does x ws f (opened_ok _ b.mode ok) good (ltb-false _ _ few))
    go false t = does_nothing b.device

-- Every call.
call_does : (b : Board) (c : Call) → malformed b ≡ false → Does b.device (device_calls b c) (after b c).device (device_events b c)
unfolding device_calls after device_events samplings_of device_histories.samplings_of
call_does b (a_write offset value fits) e =
    let c = eqb (register_rules.write_refusal b.device offset value) 0 in
    does_single b.device (device_histories.a_write offset value fits) _ []
    (unfold device_histories.after write register_rules.write in rw e (twice c _ b.device ∙ refused_alike c (cond c _ b.device) _ b)) refl
call_does b a_rearming e = does_single b.device device_histories.a_rearming _ [] (rearming b.device (board_facts b e).0 ∙ (unfold rearm in rw e)) refl
call_does b one_buffer e = set_does One b e
call_does b two_buffers e = set_does (Two fresh_turns) b e
call_does b (a_run memory start samples) e =
    let n = run_rules.run_refusal b.device memory start samples in
    unfold run one_refusal run_rules.run device_histories.after accepted_samplings in
    rw e (one_does b (is_two b.mode) (device_histories.a_run memory start samples) n _ _ (twice (eqb n 0) _ b.device) refl)
call_does b (a_sample memory start w) e =
    unfold sample one_refusal run_rules.sample device_histories.after accepted_samplings in
    rw e (one_does b (is_two b.mode) (device_histories.a_sample memory start w) (run_rules.run_refusal b.device memory start (w ∷ [])) _ _ refl refl)
call_does b (a_run_two lent samples) e = unfold run_two in run_two_does b lent samples e
call_does b (a_sample_two lent w) e = unfold sample_two two_steps in run_two_does b lent (w ∷ []) e

-- Of what happened, the device's events.
all_events : (es : List Event) (hs : List Happening) → events (map on_device es ++ hs) ≡ es ++ events hs
unfolding events
all_events [] hs = refl
all_events (e ∷ es) hs = ap (λ l. e ∷ l) (all_events es hs)

no_events : (b : Board) (c : Call) (hs : List Happening) → events (changes_of b c ++ hs) ≡ events hs
unfolding changes_of events
no_events b (a_write offset value fits) hs = refl
no_events b a_rearming hs = either (λ (l : List Happening). events (l ++ hs) ≡ events hs) (eqb (rearm b).number 0) refl refl
no_events b one_buffer hs = either (λ (l : List Happening). events (l ++ hs) ≡ events hs) (eqb (board_calls.one_buffer b).number 0) refl refl
no_events b two_buffers hs = either (λ (l : List Happening). events (l ++ hs) ≡ events hs) (eqb (board_calls.two_buffers b).number 0) refl refl
no_events b (a_run memory start samples) hs = refl
no_events b (a_sample memory start w) hs = refl
no_events b (a_run_two lent samples) hs = refl
no_events b (a_sample_two lent w) hs = refl

pub call_events : (b : Board) (c : Call) (hs : List Happening) → events (happenings b c ++ hs) ≡ device_events b c ++ events hs
unfolding happenings
call_events b c hs =
    ap events (append_assoc (map on_device (device_events b c)) (changes_of b c) hs) ∙ all_events (device_events b c) (changes_of b c ++ hs) ∙ ap (λ l. device_events b c ++ l) (no_events b c hs)

-- Every list of calls, on a board that is not malformed.
all_do : (b : Board) (cs : List Call) → malformed b ≡ false → Does b.device (device_calls_of_all b cs) (after_all b cs).device (events (happenings_of_all b cs))
unfolding device_calls_of_all after_all happenings_of_all events
all_do b [] e = does_none b.device
all_do b (c ∷ cs) e =
    rw (call_events b c (happenings_of_all (after b c) cs))
    (does_append (device_calls b c) (device_calls_of_all (after b c) cs) (call_does b c e) (all_do (after b c) cs (call_keeps b c e)))

-- From a board made with a depth from 1 to 32.
pub as_device : (depth : ℕ) → bad_depth depth ≡ false → (cs : List Call)
    → let ds = device_calls_of_all (board_calls.fresh_of depth) cs in
    (device_histories.reached depth ds ≡ (reached depth cs).device) × (device_histories.history depth ds ≡ events (history depth cs))
as_device depth sound cs = let h = all_do (board_calls.fresh_of depth) cs (fresh_board_well depth sound) in (h.device, h.events)

-- So what holds of device and history over every list of the device's calls holds of a board's.
pub by_device : (P : Device → List Event → Type 0) (depth : ℕ) → bad_depth depth ≡ false
    → ((ds : List device_histories.Call) → P (device_histories.reached depth ds) (device_histories.history depth ds))
    → (cs : List Call) → P (reached depth cs).device (events (history depth cs))
by_device P depth sound law cs =
    let (d, es) = as_device depth sound cs in
    let ds = device_calls_of_all (board_calls.fresh_of depth) cs in
    subst (λ (x : Device). P x (events (history depth cs))) d (subst (λ (l : List Event). P (device_histories.reached depth ds) l) es (law ds))
