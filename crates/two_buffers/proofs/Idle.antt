-- One sample: the place of the next word after it (`step_place`); without room no word lands (`full_landing`); with no word held place and frame buffer play no part (`idle_step`); and a lost word ends the words of a stretch
-- (`lost_still`, `lost_closed`). Assumes nothing.
use mathlib.Core.Bool.{Bool, true, false, cond, ◌&&◌, beq}
use mathlib.Core.List.{List, [], ◌∷◌}
use Rattle.std.specs.Prelude.{Option, None, Some}
use mathlib.Core.Path.{◌≡◌, refl, ap, ◌∙◌}
use Prim.Native.Nat.{ℕ, ◌+◌}
use native.Mathlib.Omega.{arith}
use lib.Dec.{ltb}
use lib.ListN.{take}
use Rattle.bits.proofs.Booleans.{and_unit, either}
use Rattle.registers.specs.Control.{snapshot, enable, embedded, vspol}
use Rattle.samples.specs.Samples.{vsync_pin, bus_grant}
use Rattle.output.specs.declared.Fate.{Fate}
use Rattle.output.specs.declared.Fate.TheVariants.{Held, Lost}
use Rattle.output.specs.Output.{OutputState, contents, push, with_held, holding, with_counts, with_place, count_sample, count_word, count_discarded, count_landed, room, Granted, no_landing, lands, oldest_lands, grant, Offered, offer, discard, counted}
use Rattle.output.specs.declared.Packing.TheVariants.{Nothing as nothing, Lost as lost}
use Rattle.rules.specs.declared.Capture.{Capture}
use Rattle.rules.specs.declared.Frame.TheVariants.{Closed}
use Rattle.rules.specs.declared.Device.{Device}
use Rattle.rules.specs.State.{capture_of, output_of, raise, clear_capture, close_frame, with_registers, with_frame, with_partial}
use Rattle.rules.specs.Capture.{Captured, flagged}
use Rattle.rules.specs.Sample.{capture_sample}
use Rattle.rules.specs.RegisterCalls.{placed}
use Rattle.rules.specs.Run.{Completed, lose_frame, after_word, complete, after_grant, step}
use Rattle.laws.proofs.KeepsSample.{by_word}
use Rattle.two_buffers.proofs.Calm.{Still, still_sample, word_calms}

-- The place of the next word: after a landing it is the one behind.
abbrev pub place_after : Option ℕ → ℕ → ℕ
place_after None p = p
place_after (Some byte) p = p + 1

Placed : OutputState → Granted → Type 0
Placed x g = g.state.output.place ≡ place_after g.landing x.output.place

oldest_place : (vs : List ℕ) (x : OutputState) (b : List ℕ) → Placed x (oldest_lands vs x b)
unfolding Placed oldest_lands no_landing lands holding with_held count_landed with_place with_counts
oldest_place [] x b = refl
oldest_place (v ∷ vs) x b = either {x = lands v vs x.output b} {y = no_landing x b} (Placed x) (room x.output.place b) refl refl

grant_place : (granted on : Bool) (x : OutputState) (b : List ℕ) → Placed x (grant granted on x b)
unfolding Placed grant no_landing
grant_place granted on x b = either {y = no_landing x b} (Placed x) (granted && on) (oldest_place (contents x) x b) refl

offer_place : (v : ℕ) (x : OutputState) → (offer v x).state.output.place ≡ x.output.place
unfolding offer holding with_held count_word with_counts
offer_place v x = either (λ (r : Offered). r.state.output.place ≡ x.output.place) (ltb x.output.held x.output.depth) refl refl

complete_place : (o : Option ℕ) (c : Captured) (x : OutputState) → (complete o c x).device.core.output.place ≡ x.output.place
unfolding discard holding with_held count_discarded with_counts
complete_place o c x = by_word (λ (d : Device). d.core.output.place ≡ x.output.place) o c x refl (λ e. refl) (λ v. offer_place v x) (λ v. offer_place v x)

pub step_place : (d : Device) (b : List ℕ) (w : ℕ) → (step d b w).device.core.output.place ≡ place_after (step d b w).landing d.core.output.place
unfolding step after_grant counted count_sample with_counts Placed
step_place d b w = complete_place _ _ _ ∙ grant_place (bus_grant w) (enable d.core.capture.registers.cr) (counted (output_of d)) b

-- With no word held none lands.
grant_idle : (granted on : Bool) (x : OutputState) (b : List ℕ) → x.output.held ≡ 0 → grant granted on x b ≡ no_landing x b
unfolding grant contents oldest_lands
grant_idle granted on x b e =
    either (λ (g : Granted). g ≡ no_landing x b) (granted && on) (ap (λ (n : ℕ). oldest_lands (take n x.slots) x b) e) refl

-- Without room none lands either.
oldest_full : (vs : List ℕ) (x : OutputState) (b : List ℕ) → room x.output.place b ≡ false → oldest_lands vs x b ≡ no_landing x b
unfolding oldest_lands
oldest_full [] x b e = refl
oldest_full (v ∷ vs) x b e = rw e

grant_full : (granted on : Bool) (x : OutputState) (b : List ℕ) → room x.output.place b ≡ false → grant granted on x b ≡ no_landing x b
unfolding grant
grant_full granted on x b e = either (λ (g : Granted). g ≡ no_landing x b) (granted && on) (oldest_full (contents x) x b e) refl

-- Rule 9 leaves the place, and does not read it.
abbrev placed_output : ℕ → OutputState → OutputState
placed_output q x = record { output = with_place q x.output; slots = x.slots }

word_placed : (v q : ℕ) (c : Captured) (x : OutputState)
    → complete (Some v) c (placed_output q x) ≡ record { device = placed q (complete (Some v) c x).device; packed = (complete (Some v) c x).packed }
unfolding complete offer after_word holding with_held with_place contents count_word count_discarded with_counts discard
word_placed v q c x = go (ltb x.output.held x.output.depth)
  where
    word : Offered → Completed
    word r = after_word r.fate v c r.state

    held : OutputState → Offered
    held y = record { state = holding (y.output.held + 1) (push v (contents y)) (count_word y.output); fate = Held }

    gone : OutputState → Offered
    gone y = record { state = record { output = count_word y.output; slots = y.slots }; fate = Lost }

    go : (b : Bool) → let y = placed_output q x in word (cond b (held y) (gone y)) ≡ record { device = placed q (word (cond b (held x) (gone x))).device; packed = (word (cond b (held x) (gone x))).packed }
    go true = refl
    go false = refl

complete_placed : (o : Option ℕ) (q : ℕ) (c : Captured) (x : OutputState)
    → complete o c (placed_output q x) ≡ record { device = placed q (complete o c x).device; packed = (complete o c x).packed }
unfolding complete holding with_held with_place count_discarded with_counts discard
complete_placed None q c x = go c.error
  where
    go : (b : Bool) → let y = placed_output q x in ◌≡◌ {A = Completed} (record { device = record { core = record { capture = flagged c; output = (cond b (discard 0 y) y).output }; slots = (cond b (discard 0 y) y).slots }; packed = nothing })
        (record { device = placed q (record { core = record { capture = flagged c; output = (cond b (discard 0 x) x).output }; slots = (cond b (discard 0 x) x).slots }); packed = nothing })
    go true = refl
    go false = refl
complete_placed (Some v) q c x = word_placed v q c x

pub idle_landing : (d : Device) (b : List ℕ) (w : ℕ) → d.core.output.held ≡ 0 → ((step d b w).landing ≡ None) × ((step d b w).buffer ≡ b)
unfolding step counted count_sample with_counts no_landing
idle_landing d b w e = rw (grant_idle (bus_grant w) (enable d.core.capture.registers.cr) (counted (output_of d)) b e) (refl, refl)

pub full_landing : (d : Device) (b : List ℕ) (w : ℕ) → room d.core.output.place b ≡ false → ((step d b w).landing ≡ None) × ((step d b w).buffer ≡ b)
unfolding step counted count_sample with_counts no_landing
full_landing d b w e = rw (grant_full (bus_grant w) (enable d.core.capture.registers.cr) (counted (output_of d)) b e) (refl, refl)

pub idle_step : (d : Device) (b b' : List ℕ) (w q : ℕ) → d.core.output.held ≡ 0
    → step (placed q d) b w ≡ record { device = placed q (step d b' w).device; buffer = b; landing = None; packed = (step d b' w).packed }
unfolding step after_grant counted count_sample with_counts no_landing with_place
idle_step d b b' w q e =
    let s = capture_of d in
    let on = enable s.registers.cr in
    rw (grant_idle (bus_grant w) on (counted (output_of (placed q d))) b e, grant_idle (bus_grant w) on (counted (output_of d)) b' e)
    (ap (λ (r : Completed). record { device = r.device; buffer = b; landing = None; packed = r.packed }) (complete_placed (capture_sample s w).word q (capture_sample s w) (counted (output_of d))))

-- A sample while no frame is open and none starts.
flagged_still : (blank : Bool) (c : Captured) → Still blank c.state → Still blank (flagged c)
unfolding flagged raise with_registers
flagged_still blank c still = either (Still blank) c.due (record { closed = still.closed; none_starts = still.none_starts }) still

pub complete_still : (blank : Bool) (o : Option ℕ) (c : Captured) (x : OutputState) → o ≡ None → Still blank c.state
    → ((complete o c x).packed ≡ nothing) × Still blank (complete o c x).device.core.capture
unfolding complete
complete_still blank o c x e still = rw e (refl, flagged_still blank c still)

module _ (blank : Bool) (d : Device) (b : List ℕ) (w : ℕ) (plain : embedded d.core.capture.registers.cr ≡ false)
    (level : beq (vsync_pin w) (vspol d.core.capture.registers.cr) ≡ blank) where
  pub still_step : Still blank d.core.capture → ((step d b w).packed ≡ nothing) × Still blank (step d b w).device.core.capture
  unfolding step after_grant
  still_step still =
      let (none_comes, after) = still_sample blank d.core.capture w plain level still in
      complete_still blank (capture_sample d.core.capture w).word (capture_sample d.core.capture w) _ none_comes after

-- After a lost word.
lose_still : (s : Capture) → s.syncs.vsync ≡ false → Still false (lose_frame s)
unfolding lose_frame close_frame with_partial with_frame clear_capture raise with_registers
lose_still s e =
    let same = either (λ (t : Capture). t.syncs.vsync ≡ false) (snapshot s.registers.cr) e e in
    record { closed = refl; none_starts = and_unit _ ∙ same }

complete_lost : (P : Capture → Type 0) (o : Option ℕ) (c : Captured) (x : OutputState) → ((v : ℕ) → o ≡ Some v → P (lose_frame c.state)) → (complete o c x).packed ≡ lost
    → P (complete o c x).device.core.capture
unfolding complete after_word
complete_lost P None c x calm e = let z : ◌≡◌ {A = ℕ} 0 1 = cc in absurd (omega arith)
complete_lost P (Some v) c x calm e = go (offer v x).fate e
  where
    go : (f : Fate) → (after_word f v c (offer v x).state).packed ≡ lost → P (after_word f v c (offer v x).state).device.core.capture
    go Held e = let z : ◌≡◌ {A = ℕ} 0 1 = cc in absurd (omega arith)
    go Lost e = calm v refl

pub lost_still : (d : Device) (b : List ℕ) (w : ℕ) → embedded d.core.capture.registers.cr ≡ false → beq (vsync_pin w) (vspol d.core.capture.registers.cr) ≡ false
    → (step d b w).packed ≡ lost → Still false (step d b w).device.core.capture
unfolding step after_grant
lost_still d b w plain level e =
    let s = d.core.capture in
    complete_lost (Still false) (capture_sample s w).word (capture_sample s w) _ (λ v is. lose_still (capture_sample s w).state (word_calms false s w plain level v is)) e

pub lost_closed : (d : Device) (b : List ℕ) (w : ℕ) → (step d b w).packed ≡ lost → (step d b w).device.core.capture.frame ≡ Closed
unfolding step after_grant lose_frame close_frame with_partial with_frame
lost_closed d b w e =
    let s = d.core.capture in complete_lost (λ (t : Capture). t.frame ≡ Closed) (capture_sample s w).word (capture_sample s w) _ (λ v is. refl) e
