-- Samples that pad no word (W4): those without JPEG, those at which VSYNC does not blank, and those without a datum waiting. Of a sample that pads one, the word, that FRAME is due
-- (`sample_padded`), and that none waits after it. Assumes nothing.
use mathlib.Core.Bool.{Bool, true, false, cond, not, ◌&&◌, beq, false≢true}
use mathlib.Core.List.{List}
use Rattle.std.specs.Prelude.{Option, None, Some}
use mathlib.Core.Path.{◌≡◌, refl, ap, ◌∙◌}
use Prim.Native.Nat.{ℕ}
use native.Mathlib.Omega.{arith}
use lib.Dec.{ltb}
use Rattle.bits.proofs.Booleans.{and_zero, or_true, either}
use Rattle.registers.specs.Control.{crop, jpeg, embedded, vspol}
use Rattle.samples.specs.Samples.{pixel_data, vsync_pin, bus_grant}
use Rattle.output.specs.Output.{grant, counted}
use Rattle.rules.specs.declared.Syncs.{Syncs}
use Rattle.rules.specs.declared.Frame.{Frame}
use Rattle.rules.specs.declared.Frame.TheVariants.{Closed, Open}
use Rattle.rules.specs.declared.Capture.{Capture}
use Rattle.rules.specs.declared.Device.{Device}
use Rattle.rules.specs.State.{capture_of, output_of, close_frame, with_frame, with_partial, raise, with_ris, with_registers, with_pins, with_syncs}
use Rattle.rules.specs.Capture.{no_word, flagged, working_edge, enabled, remember_pins, blanking, any_blanks, vsync_flag, line_flag, sync_flags, frame_rises, frame_due, padded, frame_closes, frame_pads, padded_at, frame_end, frame_start, pixel_edge, either_word, at_edge}
use Rattle.rules.specs.Sample.{edge, capture_sample}
use Rattle.rules.specs.Run.{lose_frame, after_grant, step}
use Rattle.laws.proofs.Kept.{flagged_kept, early_kept}
use Rattle.laws.proofs.KeepsSample.{by_word}
use Rattle.laws.proofs.Moved.{no_pixel}

-- Rules 2 and 3 leave what a frame's end pads.
raise_padded : (k : ℕ) (f : Frame) (s : Capture) → padded f (raise k s) ≡ padded f s
unfolding raise with_registers with_ris padded
raise_padded k Closed s = refl
raise_padded k (Open taken f) s = refl

raise_pads : (k : ℕ) (s : Capture) (at : Syncs) → frame_pads (raise k s) at ≡ frame_pads s at
unfolding frame_pads raise with_registers with_ris
raise_pads k s at = ap (λ (o : Option ℕ). cond at.vsync o None) (raise_padded k s.frame s)

flags_pad : (s : Capture) (now at : Syncs) → frame_pads (sync_flags s now) at ≡ frame_pads s at
unfolding sync_flags line_flag vsync_flag
flags_pad s now at =
    let t = vsync_flag s now in
    let first = either (λ (u : Capture). frame_pads u at ≡ frame_pads s at) (not s.syncs.vsync && now.vsync) (raise_pads 3 s at) refl in
    either (λ (u : Capture). frame_pads u at ≡ frame_pads s at) (not t.syncs.hsync && now.hsync) (raise_pads 4 t at ∙ first) first

seen_padded : (w : ℕ) (f : Frame) (s : Capture) → padded f (remember_pins w s) ≡ padded f s
unfolding remember_pins with_pins padded
seen_padded w Closed s = refl
seen_padded w (Open taken f) s = refl

seen_pads : (w : ℕ) (s : Capture) (at : Syncs) → frame_pads (remember_pins w s) at ≡ frame_pads s at
unfolding frame_pads remember_pins with_pins
seen_pads w s at = ap (λ (o : Option ℕ). cond at.vsync o None) (seen_padded w s.frame s)

pub pads_seen : (s : Capture) (w : ℕ) (now : Syncs) → frame_pads (sync_flags (remember_pins w s) now) now ≡ frame_pads s now
pads_seen s w now = flags_pad (remember_pins w s) now now ∙ seen_pads w s now

-- Where none is padded at a frame's end.
none_padded : (s : Capture) (w : ℕ) → padded s.frame s ≡ None → padded_at s w ≡ None
unfolding padded_at frame_pads
none_padded s w e =
    rw e (either (λ (o : Option ℕ). o ≡ None) (working_edge s w && enabled s) (either (λ (o : Option ℕ). o ≡ None) (blanking s w).vsync refl refl) refl)

-- Without JPEG.
unpadded : (f : Frame) (s : Capture) → jpeg s.registers.cr ≡ false → padded f s ≡ None
unfolding padded
unpadded Closed s e = refl
unpadded (Open taken f) s e = rw (e, and_zero taken)

pub none_without_jpeg : (s : Capture) (w : ℕ) → jpeg s.registers.cr ≡ false → padded_at s w ≡ None
none_without_jpeg s w e = none_padded s w (unpadded s.frame s e)

-- Where VSYNC does not blank.
pub none_unless_vsync : (s : Capture) (w : ℕ) → beq (vsync_pin w) (vspol s.registers.cr) ≡ false → padded_at s w ≡ None
unfolding padded_at frame_pads blanking
none_unless_vsync s w e = rw e (either (λ (o : Option ℕ). o ≡ None) (working_edge s w && enabled s) refl refl)

-- Where no datum waits: and where VSYNC blanks as well none waits after the sample.
no_data : (f : Frame) (s : Capture) → s.partial.count ≡ 0 → padded f s ≡ None
unfolding padded
no_data Closed s e = refl
no_data (Open taken f) s e = rw (e, and_zero (taken && jpeg s.registers.cr))

pub none_without_data : (s : Capture) (w : ℕ) → s.partial.count ≡ 0 → padded_at s w ≡ None
none_without_data s w e = none_padded s w (no_data s.frame s e)

edge_without_data : (s : Capture) (now : Syncs) (x : ℕ) → now.vsync ≡ true → s.partial.count ≡ 0 → (at_edge s now x).state.partial.count ≡ 0
unfolding at_edge frame_end pixel_edge with_syncs no_word
edge_without_data s now x blanks none_waits =
    let u = frame_start (frame_closes (sync_flags s now) now) now in
    let some_blanks : any_blanks now ≡ true = rw blanks (or_true now.hsync) in
    rw (no_pixel u.frame u now x some_blanks) (omega (arith, (early_kept s now).fewer, none_waits))

sample_without_data : (s : Capture) (w : ℕ) → embedded s.registers.cr ≡ false → beq (vsync_pin w) (vspol s.registers.cr) ≡ true → s.partial.count ≡ 0
    → (capture_sample s w).state.partial.count ≡ 0
unfolding capture_sample edge remember_pins with_pins no_word blanking
sample_without_data s w plain blanks none_waits = rw plain (go (working_edge s w && enabled s))
  where
    go : (goes_on : Bool) → (cond goes_on (at_edge (remember_pins w s) (blanking s w) (pixel_data w)) (no_word (remember_pins w s))).state.partial.count ≡ 0
    go true = edge_without_data (remember_pins w s) (blanking s w) (pixel_data w) blanks none_waits
    go false = none_waits

pub step_without_data : (d : Device) (b : List ℕ) (w : ℕ) → embedded d.core.capture.registers.cr ≡ false → beq (vsync_pin w) (vspol d.core.capture.registers.cr) ≡ true
    → d.core.capture.partial.count ≡ 0 → (step d b w).device.core.capture.partial.count ≡ 0
unfolding step after_grant lose_frame close_frame with_partial with_frame
step_without_data d b w plain blanks none_waits =
    let s = capture_of d in
    let c = capture_sample s w in
    let none_left = sample_without_data s w plain blanks none_waits in
    let same : (flagged c).partial.count ≡ 0 = omega (arith, (flagged_kept c).fewer, none_left) in
    by_word (λ (e : Device). e.core.capture.partial.count ≡ 0) c.word c (grant (bus_grant w) (enabled s) (counted (output_of d)) b).state same (λ e. same) (λ v. same) (λ v. refl)

-- Of a sample that pads a word.
flags_cr : (s : Capture) (now : Syncs) → (sync_flags s now).registers.cr ≡ s.registers.cr
unfolding sync_flags line_flag vsync_flag raise with_registers with_ris
flags_cr s now =
    let t = vsync_flag s now in
    let first = either (λ (u : Capture). u.registers.cr ≡ s.registers.cr) (not s.syncs.vsync && now.vsync) refl refl in
    either (λ (u : Capture). u.registers.cr ≡ s.registers.cr) (not t.syncs.hsync && now.hsync) first first

all_true : (taken compressed more : Bool) (bits v : ℕ) → cond (taken && compressed && more) (Some bits) None ≡ Some v → (taken ≡ true) × (compressed ≡ true)
all_true true true more bits v e = (refl, refl)
all_true true false more bits v e = let z : ◌≡◌ {A = ℕ} 0 1 = cc in absurd (omega arith)
all_true false compressed more bits v e = let z : ◌≡◌ {A = ℕ} 0 1 = cc in absurd (omega arith)

uncropped : (compressed cropped : Bool) → compressed && cropped ≡ false → compressed ≡ true → cropped ≡ false
uncropped true cropped e is = e
uncropped false cropped e is = absurd (false≢true is)

due_padded : (f : Frame) (s : Capture) (now : Syncs) (v : ℕ) → jpeg s.registers.cr && crop s.registers.cr ≡ false → now.vsync ≡ true → padded f s ≡ Some v
    → frame_due f s now ≡ true
unfolding padded frame_due frame_rises
due_padded Closed s now v alone blanks e = let z : ◌≡◌ {A = ℕ} 0 1 = cc in absurd (omega arith)
due_padded (Open taken f) s now v alone blanks e =
    let (taking, compressed) = all_true taken (jpeg s.registers.cr) (ltb 0 s.partial.count) _ v e in
    rw (taking, uncropped (jpeg s.registers.cr) (crop s.registers.cr) alone compressed, blanks)

pads_at_vsync : (vsync : Bool) (o : Option ℕ) (v : ℕ) → cond vsync o None ≡ Some v → (vsync ≡ true) × (o ≡ Some v)
pads_at_vsync true o v e = (refl, e)
pads_at_vsync false o v e = let z : ◌≡◌ {A = ℕ} 0 1 = cc in absurd (omega arith)

seen_alone : (s : Capture) (w : ℕ) → jpeg s.registers.cr && crop s.registers.cr ≡ false
    → jpeg (remember_pins w s).registers.cr && crop (remember_pins w s).registers.cr ≡ false
unfolding remember_pins with_pins
seen_alone s w e = e

frame_pads_by : (t : Capture) (now : Syncs) (v : ℕ) → frame_pads t now ≡ Some v → cond now.vsync (padded t.frame t) None ≡ Some v
unfolding frame_pads
frame_pads_by t now v e = e

edge_padded : (s : Capture) (now : Syncs) (x v : ℕ) → jpeg s.registers.cr && crop s.registers.cr ≡ false
    → frame_pads (sync_flags s now) now ≡ Some v
    → at_edge s now x ≡ record { state = with_syncs now (frame_start (frame_closes (sync_flags s now) now) now); word = Some v; due = true; error = false }
unfolding at_edge frame_end pixel_edge no_word either_word
edge_padded s now x v alone pads =
    let t = sync_flags s now in
    let u = frame_start (frame_closes t now) now in
    let (blanks, word) = pads_at_vsync now.vsync (padded t.frame t) v (frame_pads_by t now v pads) in
    let some_blanks : any_blanks now ≡ true = rw blanks (or_true now.hsync) in
    rw (pads, no_pixel u.frame u now x some_blanks, due_padded t.frame t now v (rw (flags_cr s now) alone) blanks word)

pub sample_padded : (s : Capture) (w v : ℕ) → embedded s.registers.cr ≡ false → jpeg s.registers.cr && crop s.registers.cr ≡ false → padded_at s w ≡ Some v
    → capture_sample s w ≡ (let now = blanking s w in record { state = with_syncs now (frame_start (frame_closes (sync_flags (remember_pins w s) now) now) now); word = Some v; due = true; error = false })
unfolding padded_at capture_sample edge
sample_padded s w v plain alone e =
    let (goes_on, pads) = pads_at_vsync (working_edge s w && enabled s) (frame_pads s (blanking s w)) v e in
    rw (goes_on, plain) (edge_padded (remember_pins w s) (blanking s w) (pixel_data w) v (seen_alone s w alone) (pads_seen s w (blanking s w) ∙ pads))
