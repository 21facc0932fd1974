-- A stretch in which all held words are of the buffer where words go (`alone`) runs as with that buffer alone (`runs_on`): device, turns and buffers after it follow from the samples run over that buffer,
-- at the place of the first of the words. Assumes nothing.
use mathlib.Core.Bool.{Bool, true, false, cond, false≢true}
use mathlib.Core.List.{List}
use mathlib.Core.Path.{◌≡◌, refl, sym, ap, ◌∙◌}
use Prim.Native.Nat.{ℕ, suc}
use native.Mathlib.Omega.{arith}
use lib.Dec.{ltb}
use Rattle.bits.proofs.Booleans.{and_unit}
use Rattle.registers.specs.Control.{embedded}
use Rattle.buffers.specs.declared.Buffer.{Buffer}
use Rattle.buffers.specs.declared.Turns.{Turns}
use Rattle.buffers.specs.Turns.{oldest_buffer, oldest_place}
use Rattle.buffers.specs.Kept.{keeps}
use Rattle.output.specs.Output.{with_place}
use Rattle.output.specs.declared.Packing.TheVariants.{Lost as lost}
use Rattle.rules.specs.State.{capture_of}
use Rattle.rules.specs.Sample.{capture_sample}
use Rattle.rules.specs.RegisterCalls.{placed}
use Rattle.rules.specs.Run.{step, Ran, steps}
use Rattle.output.specs.Ledger.{Ledger, sample_entry, numbers}
use Rattle.board_rules.specs.TwoBuffers.{landing_event, word_event, part, Two, two_steps}
use Rattle.board_rules.proofs.WellFormed.{TurnsOk}
use Rattle.two_buffers.specs.Stretches.{next_buffer, alone, first_opens, first_place, place_a, turns_by, Lasts}
use Rattle.two_buffers.proofs.Alone.{alone_fresh, single_of, first_waits, none_yet, place_before, turns_before}
use Rattle.two_buffers.proofs.Tagging.{held_turns, oldest_is, lands_at}
use Rattle.two_buffers.proofs.Doing.{doing, switched, first_place_same}
use Rattle.two_buffers.proofs.Idle.{place_after, step_place, idle_landing}
use Rattle.two_buffers.proofs.Counted.{done_by, Grown, Alive, entered, entered_grown, events_done}
use Rattle.two_buffers.proofs.Lasting.{lasts_calm}
use Rattle.two_buffers.proofs.Running.{next, with_own, as_before, numbers_after, run_as, follows}

module _ (x : Two) (single : alone x.device.core.output.held x.turns ≡ true) where
  abbrev u : Buffer
  u = next_buffer x.turns

  abbrev opens : Bool
  opens = first_opens x.device.core.output.held x.turns

  abbrev turns_at : Ledger → ℕ → Turns
  turns_at l p = turns_by u opens x.turns (done_by x.device.core.output.counts l p)

  abbrev place_at : Ledger → ℕ → ℕ
  place_at l p = place_a u (ltb x.device.core.output.counts.landed l.landed) p x.device.core.output.place

  -- Device, turns and buffers, by a run over one buffer.
  abbrev pub run_on : Ran → Two
  run_on r = run_as x u turns_at place_at r

  -- None was lost.
  abbrev Going_on : Ledger → ℕ → Type 0
  Going_on l p = Alive u x.turns opens x.device.core.output.place refl (alone_fresh _ _ single) x.device.core.output.counts l p

  record On (r : Ran) : Type 0 where
    grown : Grown x.device.core.output.counts (numbers r.device.core.output)
    alive : Going_on (numbers r.device.core.output) r.device.core.output.place

  same_turns : (l : Ledger) (p : ℕ) → turns_at (sample_entry l) p ≡ turns_at l p
  unfolding sample_entry
  same_turns l p = refl

  same_place : (l : Ledger) (p : ℕ) → place_at (sample_entry l) p ≡ place_at l p
  unfolding sample_entry
  same_place l p = refl

  -- With words held the oldest is of that buffer.
  turns_are : (l : Ledger) (p h : ℕ) → l.held ≡ suc h → ltb x.device.core.output.counts.discarded l.discarded ≡ false
      → turns_at l p ≡ held_turns u opens (ltb x.device.core.output.counts.landed l.landed) (suc h) p (switched (ltb x.device.core.output.counts.completed l.completed) x.turns)
  unfolding turns_by
  turns_are l p h e none_lost =
      let c = x.device.core.output.counts in
      ap (λ (gone : Bool). turns_by u opens x.turns (doing (ltb c.completed l.completed) (ltb c.landed l.landed) gone l.held p)) none_lost
      ∙ ap (λ (k : ℕ). held_turns u opens (ltb c.landed l.landed) k p (switched (ltb c.completed l.completed) x.turns)) e

  oldest : (r : Ran) (h : ℕ) → On r → r.device.core.output.held ≡ suc h
      → let l = numbers r.device.core.output in
      let p = r.device.core.output.place in
      (oldest_buffer (turns_at l p) ≡ u) × (oldest_place (place_at l p) (turns_at l p) ≡ p)
  oldest r h on e =
      let c = x.device.core.output.counts in
      let a = x.device.core.output.place in
      let l = numbers r.device.core.output in
      let p = r.device.core.output.place in
      let landed = ltb c.landed l.landed in
      let begun = ltb c.completed l.completed in
      let t = switched begun x.turns in
      let shape = turns_are l p h e on.alive.none_lost in (
        ap (λ (s : Turns). oldest_buffer s) shape ∙ oldest_is u opens landed h p t,
        ap (λ (s : Turns). oldest_place (place_at l p) s) shape
            ∙ lands_at u opens landed h p a t (λ f. on.alive.going.first f ∙ ap (λ (n : ℕ). cond opens 0 n) (sym (first_place_same u a begun x.turns))),
      )

  -- A sample's events.
  events : (r : Ran) (w : ℕ) → On r → (capture_sample (capture_of r.device) w).error ≡ false
      → let R = step r.device r.buffer w in
      let l = numbers r.device.core.output in
      let p = r.device.core.output.place in
      (keeps (keeps (record { turns = turns_at l p; place_a = place_at l p; held = l.held }) (landing_event R.landing)) (word_event R.packed)
      ≡ record { turns = turns_at (entered R.landing R.packed l) (place_after R.landing p); place_a = place_at (entered R.landing R.packed l) (place_after R.landing p); held = (entered R.landing R.packed l).held })
      × (¬ (R.packed ≡ lost) → On (next r w))
  events r w on quiet =
      let R = step r.device r.buffer w in
      let l = numbers r.device.core.output in
      let p = r.device.core.output.place in
      let (same, after) = events_done u x.turns opens x.device.core.output.place refl (alone_fresh _ _ single) x.device.core.output.counts R.landing R.packed l p (λ e. (idle_landing r.device r.buffer w e).0) on.grown on.alive in (
        same,
        λ kept.
            record {
              grown = rw (numbers_after r.device r.buffer w quiet) (entered_grown R.landing R.packed _ on.grown);
              alive = rw (numbers_after r.device r.buffer w quiet, step_place r.device r.buffer w) (after kept);
            },
      )

-- Where the stretch begins nothing is done yet.
module _ (x : Two) (single : alone x.device.core.output.held x.turns ≡ true) (turns : TurnsOk x.device.core.output x.turns) where
  abbrev t : Turns
  t = x.turns

  abbrev first_at : ℕ
  first_at = first_place x.device.core.output.held x.device.core.output.place x.turns

  abbrev begin : Ran
  begin = record { device = placed first_at x.device; buffer = part (next_buffer x.turns) x.buffers }

  begins : run_on x single begin ≡ x
  unfolding with_place
  begins =
      let o = x.device.core.output in
      let c = o.counts in
      let u = next_buffer t in
      let opens = first_opens o.held t in
      let is = single_of o.held t single turns.buffers turns.opening in
      let before : turns_by u opens t (doing (ltb c.completed c.completed) (ltb c.landed c.landed) (ltb c.discarded c.discarded) o.held first_at) ≡ t =
      rw (none_yet c.completed, none_yet c.landed, none_yet c.discarded) (turns_before u opens o.held first_at t is.tags is.opening) in
      let place : place_a u (ltb c.landed c.landed) first_at o.place ≡ o.place = rw (none_yet c.landed) (place_before u first_at o.place) in
      as_before x place before (with_own u x.buffers)

  begins_on : On x single begin
  unfolding with_place first_place
  begins_on =
      let o = x.device.core.output in
      let c = o.counts in
      let is = single_of o.held t single turns.buffers turns.opening in
      record {
        grown = record { completed = omega arith; landed = omega arith; discarded = omega arith };
        alive =
            record {
              none_lost = none_yet c.discarded;
              going =
                  rw (none_yet c.completed, none_yet c.landed)
                  (record { held_begun = is.begun; landed_begun = λ e. absurd (false≢true e); waits = λ e b. first_waits o.held t (sym (and_unit _) ∙ e) b; first = λ e. refl });
            };
      }

  -- The law.
  pub runs_on : (ws : List ℕ) → Lasts (embedded x.device.core.capture.registers.cr) x.device.core.capture ws → two_steps x ws ≡ run_on x single (steps (placed first_at x.device) (part (next_buffer t) x.buffers) ws)
  runs_on ws lasts =
      ap (λ (y : Two). two_steps y ws) (sym begins)
      ∙ follows x (u x single) (turns_at x single) (place_at x single) (same_turns x single) (same_place x single) (On x single) (oldest x single) (events x single) begin ws begins_on
      (lasts_calm (placed first_at x.device) (part (next_buffer t) x.buffers) ws lasts)
