-- What a stretch has done, by the counts before and after it (`done_by`): a sample's landing and word make of it what its events make of the turns (`events_done`). The counts only grow.
-- Assumes nothing.
use mathlib.Core.Bool.{Bool, true, false}
use Rattle.std.specs.Prelude.{Option, None, Some}
use mathlib.Core.Path.{◌≡◌, refl}
use Prim.Native.Nat.{ℕ, zero, suc, ◌+◌, ◌≤◌}
use native.Mathlib.Omega.{arith}
use lib.Dec.{ltb}
use borrow.Author.Tests.{lt-ltb}
use Rattle.buffers.specs.declared.Buffer.{Buffer}
use Rattle.buffers.specs.declared.Turns.{Turns}
use Rattle.buffers.specs.Kept.{Kept, keeps}
use Rattle.output.specs.declared.Counts.{Counts}
use Rattle.output.specs.declared.Packing.{Packing as Packed}
use Rattle.output.specs.declared.Packing.TheVariants.{Nothing as nothing, Completed as completed, Lost as lost}
use Rattle.output.specs.Ledger.{Ledger, sample_entry, landing_entry}
use Rattle.laws.specs.Ledger.{word_entry}
use Rattle.board_rules.specs.TwoBuffers.{landing_event, word_event}
use Rattle.two_buffers.specs.Stretches.{next_buffer, Done}
use Rattle.two_buffers.proofs.Doing.{doing, keeping, Going, landing_on, held_on, lost_on}
use Rattle.two_buffers.proofs.Idle.{place_after}

abbrev pub done_by : Counts → Ledger → ℕ → Done
done_by c l p = doing (ltb c.completed l.completed) (ltb c.landed l.landed) (ltb c.discarded l.discarded) l.held p

pub record Grown (c : Counts) (l : Ledger) : Type 0 where
  pub completed : c.completed ≤ l.completed
  pub landed : c.landed ≤ l.landed
  pub discarded : c.discarded ≤ l.discarded

abbrev numbered : ℕ → ℕ → ℕ → ℕ → ℕ → Ledger
numbered n co la di h = record { samples = n; completed = co; landed = la; discarded = di; held = h }

-- The counts grow.
landing_grown : (o : Option ℕ) {c : Counts} (l : Ledger) → Grown c l → Grown c (landing_entry o l)
unfolding landing_entry
landing_grown None l g = g
landing_grown (Some byte) l g = record { completed = g.completed; landed = omega (arith, g.landed); discarded = g.discarded }

word_grown : (q : Packed) {c : Counts} (l : Ledger) → Grown c l → Grown c (word_entry q l)
unfolding word_entry
word_grown nothing l g = g
word_grown (completed v) l g = record { completed = omega (arith, g.completed); landed = g.landed; discarded = g.discarded }
word_grown lost l g = record { completed = omega (arith, g.completed); landed = g.landed; discarded = omega (arith, g.discarded) }

-- The number of held words and the counts after a sample by the pins.
abbrev pub entered : Option ℕ → Packed → Ledger → Ledger
entered o q l = word_entry q (landing_entry o (sample_entry l))

pub entered_grown : (o : Option ℕ) (q : Packed) {c : Counts} (l : Ledger) → Grown c l → Grown c (entered o q l)
unfolding sample_entry
entered_grown o q l g = word_grown q _ (landing_grown o _ (record { completed = g.completed; landed = g.landed; discarded = g.discarded }))

pub lost_empty : (o : Option ℕ) (l : Ledger) → (entered o lost l).held ≡ 0
unfolding word_entry
lost_empty o l = refl

module _ (u : Buffer) (t : Turns) (opens : Bool) (a : ℕ) (is : next_buffer t ≡ u) (fresh : t.begun ≡ false → opens ≡ true) (c : Counts) where
  -- No word was lost.
  pub record Alive (l : Ledger) (p : ℕ) : Type 0 where
    pub none_lost : ltb c.discarded l.discarded ≡ false
    pub going : Going u t opens a is fresh (ltb c.completed l.completed) (ltb c.landed l.landed) l.held p

  abbrev pub kept_by : Ledger → ℕ → Kept
  kept_by l p = keeping u opens a t (done_by c l p)

  -- The landing.
  lands : (byte n co la di h p : ℕ) → c.landed ≤ la → Alive (numbered n co la di (suc h)) p
      → let l = numbered n co la di (suc h) in
      (keeps (kept_by l p) (landing_event (Some byte)) ≡ kept_by (landing_entry (Some byte) l) (p + 1)) × Alive (landing_entry (Some byte) l) (p + 1)
  unfolding keeps landing_entry
  lands byte n co la di h p grown alive =
      let (same, on) = landing_on u t opens a is fresh (ltb c.completed co) (ltb c.landed la) h p alive.going in
      let more = lt-ltb c.landed (la + 1) (omega arith) in
      (rw (alive.none_lost, more) same, record { none_lost = alive.none_lost; going = rw more on })

  landing_done : (o : Option ℕ) (l : Ledger) (p : ℕ) → (l.held ≡ 0 → o ≡ None) → c.landed ≤ l.landed → Alive l p
      → (keeps (kept_by l p) (landing_event o) ≡ kept_by (landing_entry o l) (place_after o p)) × Alive (landing_entry o l) (place_after o p)
  unfolding keeps landing_entry
  landing_done None l p idle grown alive = (refl, alive)
  landing_done (Some byte) l p idle grown alive = go l.held refl
    where
      go : (h : ℕ) → l.held ≡ h
          → (keeps (kept_by l p) (landing_event (Some byte)) ≡ kept_by (landing_entry (Some byte) l) (p + 1)) × Alive (landing_entry (Some byte) l) (p + 1)
      go zero e = let z = idle e in let z : ◌≡◌ {A = ℕ} 0 1 = cc in absurd (omega arith)
      go (suc h) e = rw e (lands byte l.samples l.completed l.landed l.discarded h p grown (record { none_lost = alive.none_lost; going = rw e at alive.going }))

  -- The word.
  held_done : (v : ℕ) (l : Ledger) (p : ℕ) → c.completed ≤ l.completed → Alive l p
      → (keeps (kept_by l p) (word_event (completed v)) ≡ kept_by (word_entry (completed v) l) p) × Alive (word_entry (completed v) l) p
  unfolding keeps word_entry
  held_done v l p grown alive =
      let (same, on) = held_on u t opens a is fresh v (ltb c.completed l.completed) (ltb c.landed l.landed) l.held p alive.going in
      let more = lt-ltb c.completed (l.completed + 1) (omega arith) in
      (rw (alive.none_lost, more) same, record { none_lost = alive.none_lost; going = rw more on })

  lost_done : (l : Ledger) (p : ℕ) → c.completed ≤ l.completed → c.discarded ≤ l.discarded → Alive l p
      → keeps (kept_by l p) (word_event lost) ≡ kept_by (word_entry lost l) p
  unfolding keeps word_entry
  lost_done l p grown less alive =
      rw (alive.none_lost, lt-ltb c.completed (l.completed + 1) (omega arith), lt-ltb c.discarded (l.discarded + (l.held + 1)) (omega arith))
      (lost_on u t opens a is fresh (ltb c.completed l.completed) (ltb c.landed l.landed) l.held p alive.going)

  -- A sample's.
  pub events_done : (o : Option ℕ) (q : Packed) (l : Ledger) (p : ℕ) → (l.held ≡ 0 → o ≡ None) → Grown c l → Alive l p
      → (keeps (keeps (kept_by l p) (landing_event o)) (word_event q) ≡ kept_by (entered o q l) (place_after o p)) × (¬ (q ≡ lost) → Alive (entered o q l) (place_after o p))
  unfolding sample_entry keeps word_entry
  events_done o q l p idle g alive =
      let n = sample_entry l in
      let (same, on) = landing_done o n p idle g.landed (record { none_lost = alive.none_lost; going = alive.going }) in
      let g' = landing_grown o n (record { completed = g.completed; landed = g.landed; discarded = g.discarded }) in
      rw same (go q g' on)
    where
      go : (q : Packed) → let m = landing_entry o (sample_entry l) in let p' = place_after o p in Grown c m → Alive m p'
          → (keeps (kept_by m p') (word_event q) ≡ kept_by (word_entry q m) p') × (¬ (q ≡ lost) → Alive (word_entry q m) p')
      go nothing g on = (refl, λ e. on)
      go (completed v) g on = let (same, after) = held_done v (landing_entry o (sample_entry l)) (place_after o p) g.completed on in (same, λ e. after)
      go lost g on = (lost_done (landing_entry o (sample_entry l)) (place_after o p) g.completed g.discarded on, λ e. absurd (e refl))
