-- A sample keeps a well-formed device well-formed, and its FIFO laid out; it counts one sample, and leaves CR but for CAPTURE.
-- The idea: the sample is counted first, which leaves room for one line, one pixel and one word more. Assumes nothing.
use mathlib.Core.Bool.{true}
use mathlib.Core.List.{List}
use Rattle.std.specs.Prelude.{Option, None, Some}
use mathlib.Core.Path.{◌≡◌, refl, sym, ◌∙◌}
use Prim.Native.Nat.{ℕ, ◌+◌, ◌/◌, ◌<◌}
use native.Mathlib.Omega.{arith}
use lib.Dec.{ltb}
use borrow.Author.Tests.{ltb-true}
use Rattle.registers.specs.Control.{snapshot, enable}
use Rattle.samples.specs.Samples.{bus_grant}
use Rattle.output.specs.declared.Fate.{Fate}
use Rattle.output.specs.declared.Fate.TheVariants.{Held, Lost}
use Rattle.output.specs.Output.{holding, with_held, contents, count_word, count_discarded, OutputState, count_sample, with_counts, grant, Offered, offer, discard, counted}
use Rattle.output.specs.WellFormed.{Laid}
use Rattle.output.proofs.WellFormed.{OutputOk, enabling_ok, count_sample_ok, grant_ok, held_ok, lost_ok, discard_ok}
use Rattle.output.proofs.Untouched.{grant_untouched, offer_untouched, discard_laid}
use Rattle.rules.specs.declared.Capture.{Capture}
use Rattle.rules.specs.declared.Device.{Device}
use Rattle.rules.specs.State.{device, capture_of, output_of, with_cr, with_ris, with_registers, with_pins, with_frame, with_partial, raise, clear_capture, close_frame}
use Rattle.rules.specs.Capture.{Captured, flagged, remember_pins}
use Rattle.rules.specs.Sample.{capture_sample, next_capture}
use Rattle.rules.specs.Run.{lose_frame, after_word, complete, after_grant, step}
use Rattle.bits.proofs.Booleans.{by_cond, either}
use Rattle.rules.proofs.WellFormed.{CaptureOk, WellFormed}
use Rattle.bits.proofs.Raised.{lowered_half}
use Rattle.laws.proofs.RegisterValues.{half_enable}
use Rattle.laws.proofs.CaptureParts.{raise_ok, clear_capture_ok, close_frame_ok}
use Rattle.laws.proofs.Kept.{flagged_kept}
use Rattle.laws.proofs.Sampled.{sample_left, sample_ok, word_enabled, next_half, next_enable}

-- Rule 9: OVR rises, the frame closes, and with CM 1 CAPTURE is cleared.
lose_frame_ok : {n : ℕ} {s : Capture} → CaptureOk n s → CaptureOk n (lose_frame s)
unfolding lose_frame
lose_frame_ok {n} {s} h =
    let up = raise_ok 1 (omega arith) h in
    close_frame_ok (either (CaptureOk n) (snapshot s.registers.cr) (clear_capture_ok up) up)

-- Rule 9, with a word more to be counted.
full_word_ok : (v : ℕ) (c : Captured) (x : OutputState) → x.output.counts.completed < x.output.counts.samples
    → enable (flagged c).registers.cr ≡ true → CaptureOk x.output.counts.samples c.state → OutputOk true x → WellFormed (complete (Some v) c x).device
unfolding complete offer after_word holding with_held discard count_word count_discarded with_counts
full_word_ok v c x more on h q =
    by_cond (λ (r : Offered). WellFormed (after_word r.fate v c r.state).device) (ltb x.output.held x.output.depth) _ _
    (λ t. record { capture = (flagged_kept c).ok _ h; output = rw on (held_ok q more v (ltb-true x.output.held x.output.depth t)) })
    (λ t. record { capture = lose_frame_ok h; output = lost_ok q more v })

complete_ok : (o : Option ℕ) (c : Captured) (x : OutputState) → x.output.counts.completed < x.output.counts.samples
    → ((v : ℕ) → o ≡ Some v → enable (flagged c).registers.cr ≡ true)
    → CaptureOk x.output.counts.samples c.state → OutputOk (enable (flagged c).registers.cr) x → WellFormed (complete o c x).device
unfolding complete discard holding with_held count_discarded with_counts
complete_ok None c x more on h q =
    either (λ (y : OutputState). WellFormed (device (flagged c) y)) c.error
    (record { capture = (flagged_kept c).ok _ h; output = discard_ok q 0 x.output q.depth q.completed q.place (omega (arith, q.equation)) })
    (record { capture = (flagged_kept c).ok _ h; output = q })
complete_ok (Some v) c x more on h q = full_word_ok v c x more (on v refl) h (rw (on v refl) at q)

pub step_keeps : (d : Device) (buffer : List ℕ) (w : ℕ) → WellFormed d → WellFormed (step d buffer w).device
unfolding step after_grant counted count_sample with_counts next_capture
step_keeps d buffer w h =
    let s = capture_of d in
    let e = enable s.registers.cr in
    let x = counted (output_of d) in
    let g = grant (bus_grant w) e x buffer in
    let same = next_enable s w in
    let leaves = grant_untouched (bus_grant w) e x buffer in
    let q : OutputOk e g.state = grant_ok (count_sample_ok h.output) (bus_grant w) e buffer in
    complete_ok (capture_sample s w).word (capture_sample s w) g.state
    (rw (leaves.samples, leaves.completed) (omega (arith, h.output.completed)))
    (λ v is. same ∙ word_enabled s w v is)
    (rw leaves.samples (sample_ok w h.capture))
    (enabling_ok q (λ off. sym same ∙ off))

-- What holds of the device without a full word, where ERR rose (W6), with a word that is held and with one that is lost, holds after rule 9.
pub by_word : (P : Device → Type 0) (o : Option ℕ) (c : Captured) (x : OutputState) → P (device (flagged c) x) → (c.error ≡ true → P (device (flagged c) (discard 0 x)))
    → ((v : ℕ) → P (device (flagged c) (offer v x).state))
    → ((v : ℕ) → P (device (lose_frame c.state) (discard 1 (offer v x).state))) → P (complete o c x).device
unfolding complete after_word
by_word P None c x nothing emptied held lost = by_cond (λ (y : OutputState). P (device (flagged c) y)) c.error _ _ emptied (λ e. nothing)
by_word P (Some v) c x nothing emptied held lost = go (offer v x).fate
  where
    go : (f : Fate) → P (after_word f v c (offer v x).state).device
    go Held = held v
    go Lost = lost v

-- The FIFO stays laid out in the slots.
pub counted_laid : {x : OutputState} → Laid x → Laid (counted x)
unfolding counted count_sample with_counts contents
counted_laid l = record { fits = l.fits; within = l.within; slots = l.slots }

complete_laid : (o : Option ℕ) (c : Captured) (x : OutputState) → Laid x → Laid (output_of (complete o c x).device)
complete_laid o c x l =
    by_word (λ (d : Device). Laid (output_of d)) o c x l (λ e. discard_laid 0 x l.within) (λ v. (offer_untouched v x).laid l) (λ v. discard_laid 1 (offer v x).state ((offer_untouched v x).laid l).within)

pub step_laid : (d : Device) (buffer : List ℕ) (w : ℕ) → Laid (output_of d) → Laid (output_of (step d buffer w).device)
unfolding step after_grant counted
step_laid d buffer w l = complete_laid _ _ _ ((grant_untouched (bus_grant w) _ (counted (output_of d)) buffer).laid (counted_laid l))

-- One sample more is counted.
complete_samples : (o : Option ℕ) (c : Captured) (x : OutputState)
    → (complete o c x).device.core.output.counts.samples ≡ x.output.counts.samples
unfolding discard holding with_held count_discarded with_counts
complete_samples o c x =
    let same : (v : ℕ) → (offer v x).state.output.counts.samples ≡ x.output.counts.samples = λ v. (offer_untouched v x).samples in
    by_word (λ (d : Device). d.core.output.counts.samples ≡ x.output.counts.samples) o c x refl (λ e. refl) same same

pub step_samples : (d : Device) (buffer : List ℕ) (w : ℕ)
    → (step d buffer w).device.core.output.counts.samples ≡ d.core.output.counts.samples + 1
unfolding step after_grant counted count_sample with_counts
step_samples d buffer w =
    complete_samples _ _ _ ∙ (grant_untouched (bus_grant w) (enable d.core.capture.registers.cr) (counted (output_of d)) buffer).samples

-- CR stays but for CAPTURE, and so ENABLE stays.
lose_frame_half : (s : Capture) → (lose_frame s).registers.cr / 2 ≡ s.registers.cr / 2
unfolding lose_frame close_frame with_frame with_partial clear_capture raise with_registers with_cr with_ris
lose_frame_half s = either (λ (t : Capture). t.registers.cr / 2 ≡ s.registers.cr / 2) (snapshot s.registers.cr) (lowered_half _) refl

pub step_half : (d : Device) (b : List ℕ) (w : ℕ) → (step d b w).device.core.capture.registers.cr / 2 ≡ d.core.capture.registers.cr / 2
unfolding step after_grant next_capture remember_pins with_pins
step_half d b w =
    let s = d.core.capture in
    let same = next_half s w in
    by_word (λ (e : Device). e.core.capture.registers.cr / 2 ≡ s.registers.cr / 2) _ _ _ same (λ e. same) (λ v. same) (λ v. lose_frame_half _ ∙ (sample_left s w).half)

pub step_enable : (d : Device) (b : List ℕ) (w : ℕ) → enable (step d b w).device.core.capture.registers.cr ≡ enable d.core.capture.registers.cr
step_enable d b w = half_enable _ _ (step_half d b w)
