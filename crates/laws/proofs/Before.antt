-- What a request leaves as it was, for every device and every list of samples, in registers, flags, held words, counts, frame buffer and answers after each sample:
-- with ESS 0 all is as it was before W6 (`with_ess_0_as_before_W6`); without JPEG too as it was before W4 (`without_jpeg_as_before_W4`), and without CROP as it was before W1
-- (`without_crop_as_before_W1`). The idea: without JPEG no word is padded, and no sample changes JPEG or CROP. Assumes nothing.
use mathlib.Core.Bool.{Bool, true, false, ◌&&◌}
use mathlib.Core.List.{List, [], ◌∷◌}
use Rattle.std.specs.Prelude.{Option, None, Some}
use mathlib.Core.Path.{◌≡◌, refl, ◌∙◌}
use Prim.Native.Nat.{ℕ}
use Rattle.bits.proofs.Booleans.{either}
use Rattle.registers.specs.Control.{crop, jpeg, embedded}
use Rattle.samples.specs.Samples.{pixel_data, bus_grant}
use Rattle.output.specs.Output.{OutputState, grant, counted}
use Rattle.rules.specs.declared.Syncs.{Syncs}
use Rattle.rules.specs.declared.Scan.{Scan}
use Rattle.rules.specs.declared.Frame.{Frame}
use Rattle.rules.specs.declared.Frame.TheVariants.{Closed, Open}
use Rattle.rules.specs.declared.Capture.{Capture}
use Rattle.rules.specs.declared.Device.{Device}
use Rattle.rules.specs.State.{capture_of, output_of, raise, with_ris, with_registers, with_pins}
use Rattle.rules.specs.Capture.{Captured, no_word, working_edge, enabled, remember_pins, blanking, sync_flags, frame_rises, frame_due, end_of, frame_closes}
use Rattle.rules.specs.Sample.{edge, capture_sample}
use Rattle.rules.specs.Unpadded.{unpadded_end, unpadded_edge, unpadded_sample}
use Rattle.rules.specs.Run.{complete, after_grant, step}
use Rattle.laws.specs.Before.{ends_before_W1, frame_end_before_W1, at_edge_before_W1, capture_sample_before_W1, capture_sample_before_W6, complete_before_W6, step_by, step_before_W1, step_before_W4, step_before_W6, stepped_by}
use Rattle.laws.proofs.RegisterValues.{same_crop, same_jpeg, same_embedded, half_setup}
use Rattle.laws.proofs.Kept.{sync_flags_kept}
use Rattle.laws.proofs.KeepsSample.{step_half}
use Rattle.laws.proofs.Errors.{no_error_by_pins}
use Rattle.laws.proofs.Unpadded.{none_without_jpeg}
use Rattle.laws.proofs.UnpaddedSample.{step_unpadded}

-- W6. Where ERR does not rise rule 9 is as it was.
rule_9_before : (o : Option ℕ) (c : Captured) (x : OutputState) → c.error ≡ false → complete o c x ≡ complete_before_W6 o c x
unfolding complete complete_before_W6
rule_9_before None c x quiet = rw quiet
rule_9_before (Some v) c x quiet = refl

-- With ESS 0 a sample goes by the sync pins, and no sample changes ESS.
by_pins : (s : Capture) (w : ℕ) → embedded s.registers.cr ≡ false → capture_sample s w ≡ capture_sample_before_W6 s w
unfolding capture_sample edge capture_sample_before_W6
by_pins s w plain = rw plain

step_by_pins : (d : Device) (b : List ℕ) (w : ℕ) → embedded d.core.capture.registers.cr ≡ false → step d b w ≡ step_before_W6 d b w
unfolding step after_grant step_by
step_by_pins d b w plain =
    let s = capture_of d in
    rw (rule_9_before (capture_sample s w).word (capture_sample s w) (grant (bus_grant w) (enabled s) (counted (output_of d)) b).state (no_error_by_pins s w plain), by_pins s w plain)

pub with_ess_0_as_before_W6 : (d : Device) (b ws : List ℕ) → embedded d.core.capture.registers.cr ≡ false → stepped_by step d b ws ≡ stepped_by step_before_W6 d b ws
unfolding stepped_by
with_ess_0_as_before_W6 d b [] plain = refl
with_ess_0_as_before_W6 d b (w ∷ ws) plain =
    let r = step d b w in
    let plain_stays = same_embedded _ _ (half_setup _ _ (step_half d b w)) in
    rw (← step_by_pins d b w plain, with_ess_0_as_before_W6 r.device r.buffer ws (plain_stays ∙ plain))

-- W4. A sample that pads no word raises no ERR.
quiet_unpadded : (s : Capture) (w : ℕ) → (unpadded_sample s w).error ≡ false
unfolding unpadded_sample unpadded_edge no_word
quiet_unpadded s w = either (λ (c : Captured). c.error ≡ false) (working_edge s w && enabled s) refl refl

step_without_jpeg : (d : Device) (b : List ℕ) (w : ℕ) → embedded d.core.capture.registers.cr ≡ false → jpeg d.core.capture.registers.cr ≡ false
    → step d b w ≡ step_before_W4 d b w
unfolding step_by
step_without_jpeg d b w plain e =
    let s = capture_of d in
    let c = unpadded_sample s w in
    step_unpadded d b w plain (none_without_jpeg s w e)
    ∙ rw (rule_9_before c.word c (grant (bus_grant w) (enabled s) (counted (output_of d)) b).state (quiet_unpadded s w))

-- Every list of samples. No sample changes JPEG or ESS.
pub without_jpeg_as_before_W4 : (d : Device) (b ws : List ℕ) → embedded d.core.capture.registers.cr ≡ false → jpeg d.core.capture.registers.cr ≡ false
    → stepped_by step d b ws ≡ stepped_by step_before_W4 d b ws
unfolding stepped_by
without_jpeg_as_before_W4 d b [] plain e = refl
without_jpeg_as_before_W4 d b (w ∷ ws) plain e =
    let r = step d b w in
    let plain_stays = same_embedded _ _ (half_setup _ _ (step_half d b w)) in
    let same = same_jpeg _ _ (half_setup _ _ (step_half d b w)) in
    rw (← step_without_jpeg d b w plain e, without_jpeg_as_before_W4 r.device r.buffer ws (plain_stays ∙ plain) (same ∙ e))

-- W1. With CROP 0 FRAME rises where VSYNC blanks.
uncropped_rises : (s : Capture) (f : Scan) (now : Syncs) → crop s.registers.cr ≡ false → frame_rises s f now ≡ now.vsync
unfolding frame_rises
uncropped_rises s f now e = rw e

-- Rule 4, in an open frame and in every state.
open_end : (taken vsync hsync : Bool) (f : Scan) (s : Capture) → s.frame ≡ Open taken f → crop s.registers.cr ≡ false
    → unpadded_end s (record { hsync = hsync; vsync = vsync }) ≡ frame_end_before_W1 s (record { hsync = hsync; vsync = vsync })
unfolding unpadded_end frame_closes frame_due end_of frame_end_before_W1 ends_before_W1 raise with_registers with_ris
open_end true true hsync f s in_f e = rw (in_f, uncropped_rises _ f _ e)
open_end true false hsync f s in_f e = rw (in_f, uncropped_rises _ f _ e)
open_end false true hsync f s in_f e = rw in_f
open_end false false hsync f s in_f e = rw in_f

frame_end_before : (f : Frame) (s : Capture) (now : Syncs) → s.frame ≡ f → crop s.registers.cr ≡ false → unpadded_end s now ≡ frame_end_before_W1 s now
unfolding unpadded_end frame_closes frame_due end_of frame_end_before_W1 ends_before_W1
frame_end_before Closed s now in_f e = rw in_f
frame_end_before (Open taken f) s now in_f e = open_end taken now.vsync now.hsync f s in_f e

-- A sample. Rule 3 leaves CROP.
edge_without_crop : (s : Capture) (now : Syncs) (x : ℕ) → crop s.registers.cr ≡ false → unpadded_edge s now x ≡ at_edge_before_W1 s now x
unfolding unpadded_edge at_edge_before_W1
edge_without_crop s now x e =
    let kept = same_crop _ _ (half_setup _ _ (sync_flags_kept s now).half) in
    rw (frame_end_before (sync_flags s now).frame (sync_flags s now) now refl (kept ∙ e))

step_without_crop : (d : Device) (b : List ℕ) (w : ℕ) → crop d.core.capture.registers.cr ≡ false → step_before_W4 d b w ≡ step_before_W1 d b w
unfolding step_by unpadded_sample capture_sample_before_W1 remember_pins with_pins
step_without_crop d b w e = let s = capture_of d in rw (edge_without_crop (remember_pins w s) (blanking s w) (pixel_data w) e)

-- Every list of samples. No sample changes CROP.
pub without_crop_as_before_W1 : (d : Device) (b ws : List ℕ) → embedded d.core.capture.registers.cr ≡ false → jpeg d.core.capture.registers.cr ≡ false → crop d.core.capture.registers.cr ≡ false
    → stepped_by step d b ws ≡ stepped_by step_before_W1 d b ws
unfolding stepped_by
without_crop_as_before_W1 d b [] plain e u = refl
without_crop_as_before_W1 d b (w ∷ ws) plain e u =
    let r = step d b w in
    let plain_stays = same_embedded _ _ (half_setup _ _ (step_half d b w)) in
    let jpeg_stays = same_jpeg _ _ (half_setup _ _ (step_half d b w)) in
    let crop_stays = same_crop _ _ (half_setup _ _ (step_half d b w)) in
    rw (← step_without_crop d b w u, ← step_without_jpeg d b w plain e, without_crop_as_before_W1 r.device r.buffer ws (plain_stays ∙ plain) (jpeg_stays ∙ e) (crop_stays ∙ u))
