-- The depth is fixed when a device is made (W9): no call changes it. Assumes nothing.
use mathlib.Core.List.{List, [], ◌∷◌}
use mathlib.Core.Path.{◌≡◌, refl, ◌∙◌}
use Prim.Native.Nat.{ℕ}
use lib.Dec.{eqb, ltb}
use lib.ListN.{drop}
use Rattle.bits.proofs.Booleans.{either}
use Rattle.registers.specs.Map.{register_at}
use Rattle.std.specs.Prelude.{Option, Some, None}
use Rattle.refusals.specs.Refusals.{◌⇒◌, first}
use Rattle.samples.specs.Samples.{bus_grant}
use Rattle.output.specs.Output.{OutputState, with_held, holding, with_counts, with_place, count_sample, count_discarded, fresh_output, discard, counted}
use Rattle.output.proofs.Untouched.{grant_untouched, offer_untouched}
use Rattle.rules.specs.declared.Device.{Device}
use Rattle.rules.specs.State.{output_of, fresh_of}
use Rattle.rules.specs.RegisterCalls.{disables, write_at, write_refusal, write, rearmed, rearm}
use Rattle.rules.specs.Run.{after_grant, step, steps, run_refusal, run, sample}
use Rattle.rules.specs.WellFormed.{malformed}
use Rattle.laws.specs.Histories.{Call, a_write, a_rearming, a_placing, a_run, a_sample, after, reached}
use Rattle.laws.proofs.KeepsSample.{by_word}
use Rattle.registers.specs.declared.Register.{Register}
use Rattle.laws.proofs.Conservation.{calls_keep}

abbrev Has : ℕ → Device → Type 0
Has depth d = d.core.output.depth ≡ depth

step_depth : (d : Device) (b : List ℕ) (w : ℕ) → Has d.core.output.depth (step d b w).device
unfolding step after_grant counted count_sample with_counts discard holding with_held count_discarded
step_depth d b w =
    let granted = (grant_untouched (bus_grant w) _ (counted (output_of d)) b).depth in
    by_word (Has d.core.output.depth) _ _ _ granted (λ e. granted) (λ v. (offer_untouched v _).depth ∙ granted) (λ v. (offer_untouched v _).depth ∙ granted)

steps_depth : (d : Device) (b ws : List ℕ) → Has d.core.output.depth (steps d b ws).device
unfolding steps
steps_depth d b [] = refl
steps_depth d b (w ∷ ws) = steps_depth (step d b w).device (step d b w).buffer ws ∙ step_depth d b w

write_at_depth : (d : Device) (r : Option Register) (v : ℕ) → Has d.core.output.depth (write_at d r v)
unfolding write_at discard holding with_held count_discarded with_counts
write_at_depth d None v = refl
write_at_depth d (Some r) v = either (λ (x : OutputState). x.output.depth ≡ d.core.output.depth) (disables d.core.capture.registers.cr r v) refl refl

call_depth : (depth : ℕ) (d : Device) (c : Call) → Has depth d → Has depth (after d c)
unfolding after write rearm rearmed with_place run sample
call_depth depth d (a_write offset value fits) h =
    either (Has depth) (eqb (write_refusal d offset value) 0) (write_at_depth d (register_at offset) value ∙ h) h
call_depth depth d a_rearming h = either (Has depth) (eqb (first (malformed d ⇒ 1 ∷ [])) 0) h h
call_depth depth d (a_placing k) h = either (Has depth) (ltb d.core.output.counts.landed k) h h
call_depth depth d (a_run memory start samples) h =
    either (Has depth) (eqb (run_refusal d memory start samples) 0) (steps_depth d (drop start memory) samples ∙ h) h
call_depth depth d (a_sample memory start w) h =
    either (Has depth) (eqb (run_refusal d memory start (w ∷ [])) 0) (step_depth d (drop start memory) w ∙ h) h

-- The device has the depth that it was made with.
pub depth_stays : (depth : ℕ) (cs : List Call) → (reached depth cs).core.output.depth ≡ depth
unfolding fresh_of fresh_output holding with_held
depth_stays depth cs = calls_keep (Has depth) (call_depth depth) (fresh_of depth) cs refl
