-- Samples with two frame buffers as a run over one of them (`follows`): device, turns and buffers follow from the run's device and buffer, sample by sample, as long as turns and place that are read off
-- the counts are those that the events make of them. After a lost word no word is held and none comes any more. Assumes nothing.
use mathlib.Core.Bool.{Bool, false}
use mathlib.Core.List.{List, [], ◌∷◌, ◌++◌}
use Rattle.std.specs.Prelude.{Option, None}
use mathlib.Core.Path.{◌≡◌, refl, sym, ap, ◌∙◌}
use Prim.Native.Nat.{ℕ, zero, suc}
use native.Mathlib.Omega.{arith}
use Rattle.buffers.specs.declared.Buffer.{Buffer}
use Rattle.buffers.specs.declared.Buffer.TheVariants.{A, B}
use Rattle.buffers.specs.declared.Turns.{Turns}
use Rattle.buffers.specs.Turns.{oldest_buffer, oldest_place}
use Rattle.buffers.specs.Kept.{Kept, keeps}
use Rattle.output.specs.Output.{with_place}
use Rattle.output.specs.declared.Packing.{Packing as Packed}
use Rattle.output.specs.declared.Packing.TheVariants.{Nothing as nothing, Completed as completed, Lost as lost}
use Rattle.rules.specs.declared.Capture.{Capture}
use Rattle.rules.specs.declared.Device.{Device}
use Rattle.rules.specs.State.{capture_of}
use Rattle.rules.specs.Sample.{capture_sample}
use Rattle.rules.specs.RegisterCalls.{placed}
use Rattle.rules.specs.Run.{Stepped, step, Ran, steps}
use Rattle.output.specs.Ledger.{Ledger, sample_entry, landing_entry, numbers}
use Rattle.laws.specs.Ledger.{word_entry, error_entry, enter}
use Rattle.laws.proofs.CountsFromHistory.{step_counted}
use Rattle.board_rules.specs.State.{kept_of}
use Rattle.board_rules.specs.TwoBuffers.{landing_event, word_event, frame_event, sample_events, Pair, part, with_part, Two, two_step, two_steps}
use Rattle.board_laws.proofs.TwoKeeps.{keeps_append}
use Rattle.two_buffers.proofs.Idle.{place_after, step_place, idle_landing, idle_step}
use Rattle.two_buffers.proofs.Lasting.{Rests, Silent, Calm}
use Rattle.two_buffers.proofs.Counted.{entered, lost_empty}

-- The inner sample of one with two buffers.
abbrev inner : Two → ℕ → Stepped
inner y w = step (placed (oldest_place y.device.core.output.place y.turns) y.device) (part (oldest_buffer y.turns) y.buffers) w

-- A sample's events where no frame ends.
events_in_turn : (k : Kept) (s : Capture) (w : ℕ) (o : Option ℕ) (q : Packed) → frame_event s (capture_sample s w) ≡ []
    → keeps k (sample_events s w o q) ≡ keeps (keeps k (landing_event o)) (word_event q)
unfolding sample_events keeps
events_in_turn k s w o q e =
    rw (e, keeps_append k (landing_event o) (word_event q ++ []), keeps_append (keeps k (landing_event o)) (word_event q) [])

-- The counts after a sample without ERR.
pub numbers_after : (d : Device) (b : List ℕ) (w : ℕ) → (capture_sample (capture_of d) w).error ≡ false
    → numbers (step d b w).device.core.output ≡ entered (step d b w).landing (step d b w).packed (numbers d.core.output)
unfolding enter error_entry
numbers_after d b w quiet = sym (step_counted d b w) ∙ ap (λ (rises : Bool). error_entry rises (entered (step d b w).landing (step d b w).packed (numbers d.core.output))) quiet

-- One of two buffers, put back.
part_with : (u : Buffer) (m : List ℕ) (p : Pair) → part u (with_part u m p) ≡ m
part_with A m p = refl
part_with B m p = refl

with_with : (u : Buffer) (m n : List ℕ) (p : Pair) → with_part u m (with_part u n p) ≡ with_part u m p
with_with A m n p = refl
with_with B m n p = refl

pub with_own : (u : Buffer) (p : Pair) → with_part u (part u p) p ≡ p
with_own A p = refl
with_own B p = refl

-- Where a run begins nothing is done yet.
pub as_before : (x : Two) {n : ℕ} {s : Turns} {m : Pair} → n ≡ x.device.core.output.place → s ≡ x.turns → m ≡ x.buffers
    → ◌≡◌ {A = Two} (record { device = placed n x.device; turns = s; buffers = m }) x
unfolding with_place
as_before x e f g = rw (e, f, g)

abbrev pub next : Ran → ℕ → Ran
next r w = let s = step r.device r.buffer w in record { device = s.device; buffer = s.buffer }

-- A run over the buffer u; turns and A's next place are read off the counts and the run's next place.
module _ (x : Two) (u : Buffer) (turns_by : Ledger → ℕ → Turns) (place_by : Ledger → ℕ → ℕ) where
  abbrev pub Kept_as : Ledger → ℕ → Kept
  Kept_as l p = record { turns = turns_by l p; place_a = place_by l p; held = l.held }

  -- Device, turns and buffers, by that run.
  abbrev pub run_as : Ran → Two
  run_as r =
      record {
        device = placed (place_by (numbers r.device.core.output) r.device.core.output.place) r.device;
        turns = turns_by (numbers r.device.core.output) r.device.core.output.place;
        buffers = with_part u r.buffer x.buffers;
      }

  -- The inner sample is the one over that buffer, but for the place.
  record Same (r : Ran) (w : ℕ) : Type 0 where
    device : (q : ℕ) → placed q (inner (run_as r) w).device ≡ placed q (step r.device r.buffer w).device
    landing : (inner (run_as r) w).landing ≡ (step r.device r.buffer w).landing
    packed : (inner (run_as r) w).packed ≡ (step r.device r.buffer w).packed
    buffers : with_part (oldest_buffer (run_as r).turns) (inner (run_as r) w).buffer (run_as r).buffers ≡ with_part u (step r.device r.buffer w).buffer x.buffers

  same_idle : (r : Ran) (w : ℕ) → r.device.core.output.held ≡ 0 → Same r w
  unfolding with_place
  same_idle r w e =
      let y = run_as r in
      let o = oldest_buffer y.turns in
      let is = idle_step r.device (part o y.buffers) r.buffer w (oldest_place y.device.core.output.place y.turns) e in
      let (none_lands, stays) = idle_landing r.device r.buffer w e in
      record {
        device = λ q. ap (λ (s : Stepped). placed q s.device) is;
        landing = ap (λ (s : Stepped). s.landing) is ∙ sym none_lands;
        packed = ap (λ (s : Stepped). s.packed) is;
        buffers = ap (λ (s : Stepped). with_part o s.buffer y.buffers) is ∙ with_own o y.buffers ∙ ap (λ (m : List ℕ). with_part u m x.buffers) (sym stays);
      }

  -- With words held the oldest is of that buffer, and lands at the run's place.
  same_held : (r : Ran) (w : ℕ) → oldest_buffer (run_as r).turns ≡ u → oldest_place (run_as r).device.core.output.place (run_as r).turns ≡ r.device.core.output.place → Same r w
  unfolding with_place
  same_held r w oldest at =
      let y = run_as r in
      let is : inner y w ≡ step r.device r.buffer w =
      ap (λ (q : ℕ). step (placed q y.device) (part (oldest_buffer y.turns) y.buffers) w) at
      ∙ ap (λ (v : Buffer). step r.device (part v y.buffers) w) oldest
      ∙ ap (λ (m : List ℕ). step r.device m w) (part_with u r.buffer x.buffers) in
      record {
        device = λ q. ap (λ (s : Stepped). placed q s.device) is;
        landing = ap (λ (s : Stepped). s.landing) is;
        packed = ap (λ (s : Stepped). s.packed) is;
        buffers =
            ap (λ (s : Stepped). with_part (oldest_buffer y.turns) s.buffer y.buffers) is
            ∙ ap (λ (v : Buffer). with_part v (step r.device r.buffer w).buffer y.buffers) oldest
            ∙ with_with u (step r.device r.buffer w).buffer r.buffer x.buffers;
      }

  -- The sample, from that.
  after_is : (r : Ran) (w : ℕ) → Same r w
      → (let R = step r.device r.buffer w in
      let y = run_as r in
      keeps (kept_of y.device y.turns) (sample_events (capture_of r.device) w R.landing R.packed) ≡ Kept_as (numbers R.device.core.output) R.device.core.output.place)
      → (two_step (run_as r) w).after ≡ run_as (next r w)
  unfolding two_step with_place
  after_is r w same e =
      let y = run_as r in
      let v = oldest_buffer y.turns in
      let i = inner y w in
      let R = step r.device r.buffer w in
      let found = kept_of y.device y.turns in
      let s = capture_of r.device in
      let events : keeps found (sample_events s w i.landing i.packed) ≡ Kept_as (numbers R.device.core.output) R.device.core.output.place =
      ap (λ (o : Option ℕ). keeps found (sample_events s w o i.packed)) same.landing ∙ ap (λ (q : Packed). keeps found (sample_events s w R.landing q)) same.packed ∙ e in
      ap (λ (k : Kept). record { device = placed k.place_a i.device; turns = k.turns; buffers = with_part v i.buffer y.buffers }) events
      ∙ ap (λ (d : Device). record { device = d; turns = (run_as (next r w)).turns; buffers = with_part v i.buffer y.buffers }) (same.device _)
      ∙ ap (λ (m : Pair). record { device = (run_as (next r w)).device; turns = (run_as (next r w)).turns; buffers = m }) same.buffers

  kept_next : (r : Ran) (w : ℕ) → (capture_sample (capture_of r.device) w).error ≡ false
      → (let R = step r.device r.buffer w in
      Kept_as (numbers R.device.core.output) R.device.core.output.place
      ≡ Kept_as (entered R.landing R.packed (numbers r.device.core.output)) (place_after R.landing r.device.core.output.place))
  kept_next r w quiet =
      let R = step r.device r.buffer w in
      ap (λ (l : Ledger). Kept_as l R.device.core.output.place) (numbers_after r.device r.buffer w quiet)
      ∙ ap (λ (p : ℕ). Kept_as (entered R.landing R.packed (numbers r.device.core.output)) p) (step_place r.device r.buffer w)

  -- The number of samples tells nothing of the turns.
  module _ (same_turns : (l : Ledger) (p : ℕ) → turns_by (sample_entry l) p ≡ turns_by l p) (same_place : (l : Ledger) (p : ℕ) → place_by (sample_entry l) p ≡ place_by l p) where
    -- No word is held, and none comes.
    quiet_kept : (l : Ledger) (p : ℕ) (o : Option ℕ) (q : Packed) → o ≡ None → q ≡ nothing
        → keeps (keeps (Kept_as l p) (landing_event o)) (word_event q) ≡ Kept_as (entered o q l) (place_after o p)
    unfolding keeps sample_entry landing_entry word_entry
    quiet_kept l p o q e f =
        rw (e, f) (ap (λ (t : Turns). record { turns = t; place_a = place_by l p; held = l.held }) (sym (same_turns l p)) ∙ ap (λ (n : ℕ). record { turns = turns_by (sample_entry l) p; place_a = n; held = l.held }) (sym (same_place l p)))

    module _ (r : Ran) (w : ℕ) (rests : Rests (capture_of r.device) w) (silent : (step r.device r.buffer w).packed ≡ nothing) (empty : r.device.core.output.held ≡ 0) where
      silent_next : (two_step (run_as r) w).after ≡ run_as (next r w)
      unfolding with_place
      silent_next =
          let R = step r.device r.buffer w in
          let o = r.device.core.output in
          after_is r w (same_idle r w empty)
          (events_in_turn (Kept_as (numbers o) o.place) (capture_of r.device) w R.landing R.packed rests.event
          ∙ quiet_kept (numbers o) o.place R.landing R.packed (idle_landing r.device r.buffer w empty).0 silent
          ∙ sym (kept_next r w rests.error))

      silent_held : (next r w).device.core.output.held ≡ 0
      unfolding sample_entry landing_entry word_entry
      silent_held =
          let R = step r.device r.buffer w in
          let l = numbers r.device.core.output in
          ap (λ (n : Ledger). n.held) (numbers_after r.device r.buffer w rests.error)
          ∙ ap (λ (o : Option ℕ). (entered o R.packed l).held) (idle_landing r.device r.buffer w empty).0
          ∙ ap (λ (q : Packed). (entered None q l).held) silent
          ∙ empty

    silent_run : (r : Ran) (ws : List ℕ) → r.device.core.output.held ≡ 0 → Silent r.device r.buffer ws → two_steps (run_as r) ws ≡ run_as (steps r.device r.buffer ws)
    unfolding two_steps steps Silent
    silent_run r [] empty silent = refl
    silent_run r (w ∷ ws) empty silent =
        let (rests, none_comes, rest) = silent in
        ap (λ (y : Two). two_steps y ws) (silent_next r w rests none_comes empty) ∙ silent_run (next r w) ws (silent_held r w rests none_comes empty) rest

    -- While no word is lost: what holds of the run, the oldest word by it, and what a sample's events make of what is kept.
    module _ (On : Ran → Type 0)
        (oldest : (r : Ran) (h : ℕ) → On r → r.device.core.output.held ≡ suc h
        → let l = numbers r.device.core.output in
        let p = r.device.core.output.place in
        (oldest_buffer (turns_by l p) ≡ u) × (oldest_place (place_by l p) (turns_by l p) ≡ p))
        (events : (r : Ran) (w : ℕ) → On r → (capture_sample (capture_of r.device) w).error ≡ false
        → let R = step r.device r.buffer w in
        let l = numbers r.device.core.output in
        let p = r.device.core.output.place in
        (keeps (keeps (Kept_as l p) (landing_event R.landing)) (word_event R.packed) ≡ Kept_as (entered R.landing R.packed l) (place_after R.landing p))
        × (¬ (R.packed ≡ lost) → On (next r w))) where
      same_on : (r : Ran) (w : ℕ) → On r → Same r w
      unfolding with_place
      same_on r w on = go r.device.core.output.held refl
        where
          go : (h : ℕ) → r.device.core.output.held ≡ h → Same r w
          go zero e = same_idle r w e
          go (suc h) e = let (is, at) = oldest r h on e in same_held r w is at

      on_next : (r : Ran) (w : ℕ) → On r → Rests (capture_of r.device) w → (two_step (run_as r) w).after ≡ run_as (next r w)
      unfolding with_place
      on_next r w on rests =
          let R = step r.device r.buffer w in
          let o = r.device.core.output in
          after_is r w (same_on r w on)
          (events_in_turn (Kept_as (numbers o) o.place) (capture_of r.device) w R.landing R.packed rests.event
          ∙ (events r w on rests.error).0
          ∙ sym (kept_next r w rests.error))

      lost_next : (r : Ran) (w : ℕ) → (capture_sample (capture_of r.device) w).error ≡ false → (step r.device r.buffer w).packed ≡ lost → (next r w).device.core.output.held ≡ 0
      lost_next r w quiet e =
          let R = step r.device r.buffer w in
          let l = numbers r.device.core.output in
          ap (λ (n : Ledger). n.held) (numbers_after r.device r.buffer w quiet) ∙ ap (λ (q : Packed). (entered R.landing q l).held) e ∙ lost_empty R.landing l

      -- The law.
      pub follows : (r : Ran) (ws : List ℕ) → On r → Calm r.device r.buffer ws → two_steps (run_as r) ws ≡ run_as (steps r.device r.buffer ws)
      unfolding two_steps steps Calm
      follows r [] on calm = refl
      follows r (w ∷ ws) on calm =
          let (rests, last, rest) = calm in
          ap (λ (y : Two). two_steps y ws) (on_next r w on rests)
          ∙ go (step r.device r.buffer w).packed refl
          (λ kept_of. follows (next r w) ws ((events r w on rests.error).1 kept_of) rest)
          (λ e. silent_run (next r w) ws (lost_next r w rests.error e) (last e))
        where
          go : {P : Type 0} (q : Packed) → (step r.device r.buffer w).packed ≡ q → (¬ ((step r.device r.buffer w).packed ≡ lost) → P) → ((step r.device r.buffer w).packed ≡ lost → P) → P
          go nothing e on_still gone = on_still (λ f. let z : ◌≡◌ {A = ℕ} 0 1 = cc in absurd (omega arith))
          go (completed v) e on_still gone = on_still (λ f. let z : ◌≡◌ {A = ℕ} 0 1 = cc in absurd (omega arith))
          go lost e on_still gone = gone e
