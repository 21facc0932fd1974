-- The device's counts are those of its history: samples, completed, landed, discarded and held, over every depth and every list of calls.
-- The idea: rule 1 makes of the counts what the landing says, and rule 9 what the word says; of the calls without samples only disabling changes them. No device has
-- to be well-formed for it. Assumes nothing.
use mathlib.Core.Bool.{Bool, true, false, cond, not, ◌&&◌}
use mathlib.Core.List.{List, [], ◌∷◌, ◌++◌}
use Rattle.std.specs.Prelude.{Option, None, Some}
use mathlib.Core.Path.{◌≡◌, refl, ap, ◌∙◌}
use Prim.Native.Nat.{ℕ}
use native.Mathlib.Omega.{arith}
use lib.Dec.{eqb, ltb}
use lib.ListN.{drop}
use Rattle.bits.proofs.Booleans.{by_cond, either}
use Rattle.registers.specs.Control.{enable}
use Rattle.registers.specs.Map.{register_at}
use Rattle.registers.specs.declared.Register.TheVariants.{Control, Status, RawStatus, InterruptEnable, MaskedStatus, InterruptClear, EmbeddedCode, EmbeddedUnmask, WindowStart, WindowSize}
use Rattle.refusals.specs.Refusals.{◌⇒◌, first}
use Rattle.samples.specs.Samples.{bus_grant}
use Rattle.output.specs.Output.{OutputState, with_held, holding, with_counts, with_place, count_sample, count_word, count_discarded, fresh_output, Offered, offer, discard, counted}
use Rattle.output.proofs.Entered.{grant_landed, discard_entered}
use Rattle.rules.specs.Capture.{Captured}
use Rattle.rules.specs.declared.Device.{Device}
use Rattle.rules.specs.State.{output_of, fresh_of, with_cr, with_ris, with_ier, with_cwstrt, with_cwsize, with_escr, with_esur, with_registers}
use Rattle.rules.specs.RegisterCalls.{write_control, clear_flags, write_register, write_at, write_refusal, write, placed, rearmed, rearm}
use Rattle.rules.specs.Run.{after_word, complete, after_grant, step, steps, run_refusal, run, sample}
use Rattle.rules.specs.WellFormed.{malformed}
use Rattle.laws.specs.Histories.{Call, a_write, a_rearming, a_placing, a_run, a_sample, after, after_all, reached, Event, sampled, disabled, samplings, accepted_samplings, samplings_of, disabling_of, events, events_of_all, history}
use Rattle.output.specs.Ledger.{Ledger, blank, sample_entry, numbers}
use Rattle.laws.specs.Ledger.{word_entry, error_entry, enter, enter_all, ledger}
use Rattle.laws.proofs.Errors.{no_word_in_error}
use Rattle.registers.specs.declared.Register.{Register}
use Rattle.laws.proofs.KeepsSample.{step_enable}

-- Rule 9.
held_or_lost : (v : ℕ) (c : Captured) (x : OutputState) → let a = complete (Some v) c x in word_entry a.packed (numbers x.output) ≡ numbers a.device.core.output
unfolding complete after_word offer word_entry holding with_held discard count_word count_discarded with_counts
held_or_lost v c x =
    either
    (λ (r : Offered). let a = after_word r.fate v c r.state in word_entry a.packed (numbers x.output) ≡ numbers a.device.core.output)
    (ltb x.output.held x.output.depth)
    refl
    refl

emptied : (rises : Bool) (x : OutputState) → error_entry rises (numbers x.output) ≡ numbers (cond rises (discard 0 x) x).output
unfolding error_entry
emptied true x = discard_entered x
emptied false x = refl

complete_counted : (o : Option ℕ) (c : Captured) (x : OutputState) → (c.error ≡ true → o ≡ None)
    → error_entry c.error (word_entry (complete o c x).packed (numbers x.output)) ≡ numbers (complete o c x).device.core.output
unfolding complete word_entry error_entry
complete_counted None c x alone = emptied c.error x
complete_counted (Some v) c x alone = ap (λ rises. error_entry rises (word_entry (complete (Some v) c x).packed (numbers x.output))) (without_error c.error v alone) ∙ held_or_lost v c x
  where
    without_error : (rises : Bool) (v : ℕ) → (rises ≡ true → Some v ≡ None) → rises ≡ false
    without_error false v h = refl
    without_error true v h = let e = h refl in let z : ◌≡◌ {A = ℕ} 0 1 = cc in absurd (omega arith)

pub step_counted : (d : Device) (b : List ℕ) (w : ℕ)
    → enter (numbers d.core.output) (sampled d.core.capture w (step d b w).landing (step d b w).packed) ≡ numbers (step d b w).device.core.output
unfolding step after_grant counted count_sample with_counts enter sample_entry
step_counted d b w =
    rw (grant_landed (bus_grant w) (enable d.core.capture.registers.cr) (counted (output_of d)) b) (complete_counted _ _ _ (no_word_in_error d.core.capture w))

-- Some events make of the numbers of d those of d'.
abbrev Tell : List Event → Device → Device → Type 0
Tell es d d' = enter_all (numbers d.core.output) es ≡ numbers d'.core.output

steps_counted : (d : Device) (b ws : List ℕ) → Tell (samplings d b ws) d (steps d b ws).device
unfolding steps samplings enter_all
steps_counted d b [] = refl
steps_counted d b (w ∷ ws) = rw (step_counted d b w, enter_all) (steps_counted (step d b w).device (step d b w).buffer ws)

-- Samples leave ENABLE.
pub steps_enable : (d : Device) (b ws : List ℕ) → enable (steps d b ws).device.core.capture.registers.cr ≡ enable d.core.capture.registers.cr
unfolding steps
steps_enable d b [] = refl
steps_enable d b (w ∷ ws) = steps_enable (step d b w).device (step d b w).buffer ws ∙ step_enable d b w

-- Where ENABLE stays, nothing is disabled.
pub none_disabled : (d d' : Device) → enable d'.core.capture.registers.cr ≡ enable d.core.capture.registers.cr → disabling_of d d' ≡ []
unfolding disabling_of
none_disabled d d' same = rw same (go (enable d.core.capture.registers.cr))
  where
    go : (b : Bool) → cond (b && not b) (disabled ∷ []) [] ≡ []
    go true = refl
    go false = refl

-- Register writes: CR alone disables.
control_counted : (falls : Bool) (x : OutputState) → enter_all (numbers x.output) (cond falls (disabled ∷ []) []) ≡ numbers (cond falls (discard 0 x) x).output
unfolding enter_all enter
control_counted true x = discard_entered x
control_counted false x = refl

write_at_counted : (d : Device) (r : Option Register) (v : ℕ) → Tell (disabling_of d (write_at d r v)) d (write_at d r v)
unfolding write_at write_register write_control disabling_of with_registers with_cr with_ier clear_flags with_ris with_cwstrt with_cwsize with_escr with_esur enter_all
write_at_counted d None v = rw (none_disabled d d refl)
write_at_counted d (Some Control) v = control_counted (enable d.core.capture.registers.cr && not (enable v)) (output_of d)
write_at_counted d (Some Status) v = rw (none_disabled d _ refl)
write_at_counted d (Some RawStatus) v = rw (none_disabled d _ refl)
write_at_counted d (Some InterruptEnable) v = rw (none_disabled d _ refl)
write_at_counted d (Some MaskedStatus) v = rw (none_disabled d _ refl)
write_at_counted d (Some InterruptClear) v = rw (none_disabled d _ refl)
write_at_counted d (Some EmbeddedCode) v = rw (none_disabled d _ refl)
write_at_counted d (Some EmbeddedUnmask) v = rw (none_disabled d _ refl)
write_at_counted d (Some WindowStart) v = rw (none_disabled d _ refl)
write_at_counted d (Some WindowSize) v = rw (none_disabled d _ refl)

-- The events of two lists are entered one list after the other.
enter_append : (l : Ledger) (es fs : List Event) → enter_all l (es ++ fs) ≡ enter_all (enter_all l es) fs
unfolding enter_all
enter_append l [] fs = refl
enter_append l (e ∷ es) fs = enter_append (enter l e) es fs

-- Runs and single samples, accepted or refused.
samples_counted : (accepted : Bool) (d : Device) (b ws : List ℕ)
    → let d' = cond accepted (steps d b ws).device d in Tell (cond accepted (samplings d b ws) [] ++ disabling_of d d') d d'
unfolding enter_all
samples_counted true d b ws = rw (none_disabled d _ (steps_enable d b ws), enter_append) (steps_counted d b ws)
samples_counted false d b ws = rw (none_disabled d d refl)

-- Every call, and every list of calls.
pub call_counted : (d : Device) (c : Call) → Tell (events d c) d (after d c)
unfolding events samplings_of accepted_samplings samplings after write rearm rearmed with_place run sample steps enter_all
call_counted d (a_write offset value fits) =
    by_cond (λ (x : Device). Tell (disabling_of d x) d x) (eqb (write_refusal d offset value) 0) _ _
    (λ e. write_at_counted d (register_at offset) value)
    (λ e. rw (none_disabled d d refl))
call_counted d a_rearming =
    by_cond (λ (x : Device). Tell (disabling_of d x) d x) (eqb (first (malformed d ⇒ 1 ∷ [])) 0) _ _
    (λ e. rw (none_disabled d (rearmed d) refl))
    (λ e. rw (none_disabled d d refl))
call_counted d (a_placing k) =
    by_cond (λ (x : Device). Tell (disabling_of d x) d x) (ltb d.core.output.counts.landed k) _ _
    (λ e. rw (none_disabled d d refl))
    (λ e. rw (none_disabled d (placed k d) refl))
call_counted d (a_run memory start samples) = samples_counted (eqb (run_refusal d memory start samples) 0) d (drop start memory) samples
call_counted d (a_sample memory start w) = samples_counted (eqb (run_refusal d memory start (w ∷ [])) 0) d (drop start memory) (w ∷ [])

calls_counted : (d : Device) (cs : List Call) → Tell (events_of_all d cs) d (after_all d cs)
unfolding events_of_all after_all enter_all
calls_counted d [] = refl
calls_counted d (c ∷ cs) = rw (enter_append, call_counted d c) (calls_counted (after d c) cs)

-- The ledger of the history has the device's numbers.
pub counts_from_history : (depth : ℕ) (cs : List Call) → ledger (history depth cs) ≡ numbers (reached depth cs).core.output
unfolding fresh_of fresh_output holding with_held blank
counts_from_history depth cs = calls_counted (fresh_of depth) cs
