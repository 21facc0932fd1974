-- W2: in mode one each call of a board is the device's own (`one_buffer_as_before`), and a list of the device's calls reaches the same device on a board, which stays in mode one, with the
-- same events (`calls_as_before`). For every device, malformed too.
-- The idea: in mode one a board is malformed just if its device is, so that refusal 1 is the device's, and nothing else is asked. Assumes nothing.
use mathlib.Core.Bool.{Bool, true, false, cond, false≢true}
use mathlib.Core.List.{List, [], ◌∷◌, ◌++◌}
use mathlib.Core.Path.{◌≡◌, refl, ap}
use Prim.Native.Nat.{ℕ}
use lib.Dec.{eqb}
use lib.ListN.{take, drop}
use Rattle.bits.proofs.Booleans.{or_unit}
use Rattle.refusals.specs.Refusals.{◌⇒◌, first, refused, answer}
use Rattle.rules.specs.declared.Device.{Device}
use Rattle.rules.specs.WellFormed as device_clauses
use Rattle.rules.specs.RegisterCalls as register_rules
use Rattle.rules.specs.Run as run_rules
use Rattle.laws.specs.Histories as device_histories
use Rattle.laws.specs.Histories.{accepted_samplings}
use Rattle.board_rules.specs.declared.Board.{Board}
use Rattle.board_rules.specs.State.{malformed}
use Rattle.board_rules.specs.Answers.{Changed, change}
use Rattle.board_rules.specs.BoardCalls.{in_one, read, interrupt, mode_after, write, rearmed_mode, rearm}
use Rattle.board_rules.specs.BoardRuns.{OneRun, OneSample, one_refusal, run, sample}
use Rattle.board_laws.specs.BoardHistories.{Call, after, after_all, samplings_of, device_events, happenings_of_all, events}
use Rattle.board_laws.specs.BoardBefore.{changed_one, ran_one, sampled_one, AsBefore, on_board, without_placings}
use Rattle.board_laws.proofs.AsDevice.{call_events}

-- A board in mode one is malformed just if its device is; a refusal 1 asked before the device's own changes nothing.
one_malformed : (d : Device) → malformed (in_one d) ≡ device_clauses.malformed d
unfolding malformed
one_malformed d = or_unit (device_clauses.malformed d)

asked_again : (m : Bool) (n : ℕ) → cond m 1 (cond m 1 n) ≡ cond m 1 n
asked_again true n = refl
asked_again false n = refl

refused_again : {A : Type 0} (m : Bool) (n : ℕ) (x : A) → cond m (refused 1) (answer (cond m 1 n) x) ≡ answer (cond m 1 n) x
refused_again true n x = refl
refused_again false n x = refl

-- A refused call leaves the board.
left_as : (c : Bool) (d x : Device) → cond {A = Board} c (in_one (cond c x d)) (in_one d) ≡ in_one (cond c x d)
left_as true d x = refl
left_as false d x = refl

chosen : (c : Bool) (d x : Device) → cond {A = Board} c (in_one x) (in_one d) ≡ in_one (cond c x d)
chosen true d x = refl
chosen false d x = refl

one_same_refusal : (d : Device) (memory : List ℕ) (start : ℕ) (samples : List ℕ) → one_refusal (in_one d) memory start samples ≡ run_rules.run_refusal d memory start samples
unfolding one_refusal run_rules.run_refusal
one_same_refusal d memory start samples = rw (one_malformed d) (asked_again (device_clauses.malformed d) _)

-- Each call.
changed_as : (d : Device) (n : ℕ) (x : Device)
    → change n (in_one d) (in_one (cond (eqb n 0) x d)) ≡ changed_one (record { number = n; device = cond (eqb n 0) x d })
changed_as d n x = ap (λ (b : Board). record { number = n; board = b }) (left_as (eqb n 0) d x)

write_before : (d : Device) (offset v : ℕ) → write (in_one d) offset v ≡ changed_one (register_rules.write d offset v)
unfolding write register_rules.write mode_after
write_before d offset v =
    let again : cond (device_clauses.malformed d) 1 (register_rules.write_refusal d offset v) ≡ register_rules.write_refusal d offset v =
    unfold register_rules.write_refusal in asked_again (device_clauses.malformed d) _ in
    rw (one_malformed d, again) (changed_as d (register_rules.write_refusal d offset v) _)

rearm_before : (d : Device) → rearm (in_one d) ≡ changed_one (register_rules.rearm d)
unfolding rearm register_rules.rearm rearmed_mode
rearm_before d = rw (one_malformed d) (go (device_clauses.malformed d))
  where
    go : (m : Bool) → change (first (m ⇒ 1 ∷ [])) (in_one d) (in_one (register_rules.rearmed d)) ≡ record { number = first (m ⇒ 1 ∷ []); board = in_one (cond (eqb (first (m ⇒ 1 ∷ [])) 0) (register_rules.rearmed d) d) }
    go true = refl
    go false = refl

run_before : (d : Device) (memory : List ℕ) (start : ℕ) (samples : List ℕ) → run (in_one d) memory start samples ≡ ran_one (run_rules.run d memory start samples)
unfolding run run_rules.run
run_before d memory start samples = rw (one_same_refusal d memory start samples) (go (eqb (run_rules.run_refusal d memory start samples) 0))
  where
    n : ℕ
    n = run_rules.run_refusal d memory start samples

    go : (taken : Bool)
        → let r = run_rules.steps d (drop start memory) samples in
        let d' = cond taken r.device d in
        let m = cond taken (take start memory ++ r.buffer) memory in
        ◌≡◌ {A = OneRun} (record { number = n; board = cond taken (in_one d') (in_one d); memory = cond taken m memory }) (record { number = n; board = in_one d'; memory = m })
    go true = refl
    go false = refl

sample_before : (d : Device) (memory : List ℕ) (start w : ℕ) → sample (in_one d) memory start w ≡ sampled_one (run_rules.sample d memory start w)
unfolding sample run_rules.sample
sample_before d memory start w =
    let r = run_rules.sample d memory start w in
    rw (one_same_refusal d memory start (w ∷ []))
    (ap (λ (b : Board). record { answer = r.answer; board = b; memory = r.memory }) (chosen (eqb (run_rules.run_refusal d memory start (w ∷ [])) 0) d (run_rules.step d (drop start memory) w).device))

pub one_buffer_as_before : (d : Device) → AsBefore d
one_buffer_as_before d =
    let m = device_clauses.malformed d in
    record {
      write = write_before d;
      read = λ offset. unfold read register_rules.read register_rules.read_refusal in rw (one_malformed d) (refused_again m _ _);
      interrupt = unfold interrupt register_rules.interrupt in rw (one_malformed d) (refused_again m _ _);
      rearm = rearm_before d;
      run = run_before d;
      sample = sample_before d;
    }

-- Every list of calls: some of the device's and some of the board's do the same.
abbrev Alike : Device → List device_histories.Call → List Call → Type 0
Alike d ks cs =
    (after_all (in_one d) cs ≡ in_one (device_histories.after_all d ks)) × (events (happenings_of_all (in_one d) cs) ≡ device_histories.events_of_all d ks)

one_more : (d : Device) (k : device_histories.Call) (c : Call) (ks : List device_histories.Call) (cs : List Call) → after (in_one d) c ≡ in_one (device_histories.after d k)
    → samplings_of (in_one d) c ≡ device_histories.samplings_of d k → Alike (device_histories.after d k) ks cs → Alike d (k ∷ ks) (c ∷ cs)
unfolding after_all device_histories.after_all happenings_of_all device_histories.events_of_all device_histories.events device_events
one_more d k c ks cs same told rest =
    (rw same rest.0, rw (call_events (in_one d) c (happenings_of_all (after (in_one d) c) cs), same, told, rest.1))

same_samplings : (d : Device) (memory : List ℕ) (start : ℕ) (samples : List ℕ)
    → cond (eqb (one_refusal (in_one d) memory start samples) 0) (device_histories.samplings d (drop start memory) samples) [] ≡ accepted_samplings d memory start samples
unfolding accepted_samplings
same_samplings d memory start samples = rw (one_same_refusal d memory start samples)

pub calls_as_before : (d : Device) (ks : List device_histories.Call) → without_placings ks ≡ true
    → (after_all (in_one d) (on_board ks) ≡ in_one (device_histories.after_all d ks))
    × (events (happenings_of_all (in_one d) (on_board ks)) ≡ device_histories.events_of_all d ks)
unfolding on_board without_placings after device_histories.after samplings_of device_histories.samplings_of
calls_as_before d [] e = (unfold after_all device_histories.after_all in refl, unfold happenings_of_all device_histories.events_of_all events in refl)
calls_as_before d (device_histories.a_write offset value fits ∷ ks) e =
    one_more d _ _ ks (on_board ks) (ap (λ (r : Changed). r.board) (write_before d offset value)) refl (calls_as_before (device_histories.after d (device_histories.a_write offset value fits)) ks e)
calls_as_before d (device_histories.a_rearming ∷ ks) e =
    one_more d _ _ ks (on_board ks) (ap (λ (r : Changed). r.board) (rearm_before d)) refl (calls_as_before (device_histories.after d device_histories.a_rearming) ks e)
calls_as_before d (device_histories.a_placing k ∷ ks) e = absurd (false≢true e)
calls_as_before d (device_histories.a_run memory start samples ∷ ks) e =
    one_more d _ _ ks (on_board ks) (ap (λ (r : OneRun). r.board) (run_before d memory start samples)) (same_samplings d memory start samples) (calls_as_before (device_histories.after d (device_histories.a_run memory start samples)) ks e)
calls_as_before d (device_histories.a_sample memory start w ∷ ks) e =
    one_more d _ _ ks (on_board ks) (ap (λ (r : OneSample). r.board) (sample_before d memory start w)) (same_samplings d memory start (w ∷ [])) (calls_as_before (device_histories.after d (device_histories.a_sample memory start w)) ks e)
