-- A sample that pads no word (W4): once rule 9 has answered it is one of `unpadded_sample` (`step_unpadded`), which leaves a well-formed state well-formed.
-- The idea: where FRAME is due a sync blanks, so that there is no word at all and FRAME may as well rise before. Assumes nothing.
use mathlib.Core.Bool.{Bool, true, false, cond, not, ◌&&◌, ◌||◌, false≢true}
use mathlib.Core.List.{List}
use Rattle.std.specs.Prelude.{None}
use mathlib.Core.Path.{◌≡◌, refl, ap, ◌∙◌}
use Prim.Native.Nat.{ℕ, ◌+◌}
use native.Mathlib.Omega.{arith}
use lib.Dec.{leb}
use Rattle.bits.proofs.Booleans.{and_true, either}
use Rattle.registers.specs.Control.{capture, crop, embedded, snapshot}
use Rattle.samples.specs.Samples.{pixel_data, bus_grant}
use Rattle.output.specs.Output.{OutputState, grant, counted}
use Rattle.rules.specs.declared.Syncs.{Syncs}
use Rattle.rules.specs.declared.Frame.{Frame}
use Rattle.rules.specs.declared.Frame.TheVariants.{Closed, Open}
use Rattle.rules.specs.declared.Capture.{Capture}
use Rattle.rules.specs.declared.Device.{Device}
use Rattle.rules.specs.CropWindow.{lines_to_window_end}
use Rattle.rules.specs.State.{capture_of, output_of, raise, clear_capture, close_frame, with_cr, with_ris, with_registers, with_pins, with_syncs, with_frame, with_rate, with_partial}
use Rattle.rules.specs.Capture.{Captured, no_word, flagged, working_edge, enabled, remember_pins, blanking, any_blanks, sync_flags, window_ended, hsync_after_window, frame_rises, frame_due, end_of, frame_closes, frame_pads, padded_at, frame_end, next_rate, takes, open_frame, starts, start_of, frame_start, pixel_in, pixel_edge, either_word, at_edge}
use Rattle.rules.specs.Sample.{edge, capture_sample}
use Rattle.rules.specs.Unpadded.{unpadded_end, unpadded_edge, unpadded_sample}
use Rattle.rules.specs.Run.{Completed, complete, after_grant, step}
use Rattle.rules.proofs.WellFormed.{CaptureOk}
use Rattle.laws.proofs.CaptureParts.{pins_syncs_ok}
use Rattle.laws.proofs.Kept.{Kept, then, sync_flags_kept, flagged_kept, frame_closes_kept, frame_start_kept}
use Rattle.laws.proofs.Moved.{no_pixel, pixel_in_moved}
use Rattle.laws.proofs.Unpadded.{pads_seen}

-- Where FRAME is due a sync blanks.
rises_blanks : (cropped ended reached hsync vsync : Bool) → cond cropped (not ended && ((reached && hsync) || vsync)) vsync ≡ true → hsync || vsync ≡ true
rises_blanks cropped ended reached true vsync e = refl
rises_blanks cropped ended reached false true e = refl
rises_blanks true true reached false false e = e
rises_blanks true false true false false e = e
rises_blanks true false false false false e = e
rises_blanks false ended reached false false e = e

due_blanks : (f : Frame) (s : Capture) (now : Syncs) → frame_due f s now ≡ true → any_blanks now ≡ true
unfolding frame_due frame_rises hsync_after_window
due_blanks Closed s now e = absurd (false≢true e)
due_blanks (Open taken f) s now e =
    rises_blanks (crop s.registers.cr) (window_ended s f) (leb (lines_to_window_end s.registers) f.lines) now.hsync now.vsync
    (and_true taken (frame_rises s f now) e).1

-- Rule 4's end and rule 5 leave a flag that was raised before them.
end_raised : (f : Frame) (s : Capture) → end_of f (raise 0 s) ≡ raise 0 (end_of f s)
unfolding end_of close_frame with_partial with_frame clear_capture raise with_registers with_cr with_ris
end_raised Closed s = refl
end_raised (Open taken f) s = go (taken && snapshot s.registers.cr)
  where
    go : (clears : Bool) → close_frame (cond clears (clear_capture (raise 0 s)) (raise 0 s)) ≡ raise 0 (close_frame (cond clears (clear_capture s) s))
    go true = refl
    go false = refl

closes_raised : (s : Capture) (now : Syncs) → frame_closes (raise 0 s) now ≡ raise 0 (frame_closes s now)
unfolding frame_closes raise with_registers with_ris
closes_raised s now = go now.vsync
  where
    go : (vsync : Bool) → cond vsync (end_of s.frame (raise 0 s)) (raise 0 s) ≡ raise 0 (cond vsync (end_of s.frame s) s)
    go true = end_raised s.frame s
    go false = refl

start_raised : (f : Frame) (now : Syncs) (s : Capture) → start_of f now (raise 0 s) ≡ raise 0 (start_of f now s)
unfolding start_of starts open_frame next_rate takes with_rate with_frame raise with_registers with_ris
start_raised Closed now s = go (capture s.registers.cr && s.syncs.vsync && not now.vsync)
  where
    go : (b : Bool) → cond b (open_frame (raise 0 s)) (raise 0 s) ≡ raise 0 (cond b (open_frame s) s)
    go true = refl
    go false = refl
start_raised (Open taken f) now s = refl

-- The rules 4 to 8 at a working edge, and rule 9.
abbrev now_and_then : Captured → OutputState → Completed
now_and_then c y = complete c.word c y

edge_unpadded : (due : Bool) (s : Capture) (now : Syncs) (x : ℕ) (y : OutputState) → frame_due s.frame s now ≡ due → frame_pads s now ≡ None
    → let p = pixel_edge (frame_start (frame_closes s now) now) now x in
    let q = pixel_edge (frame_start (frame_closes (cond due (raise 0 s) s) now) now) now x in
    now_and_then (record { state = with_syncs now p.state; word = either_word (frame_pads s now) p.word; due = due; error = false }) y
    ≡ now_and_then (record { state = with_syncs now q.state; word = q.word; due = false; error = false }) y
unfolding either_word complete flagged no_word pixel_edge frame_start with_syncs raise with_registers with_ris
edge_unpadded false s now x y is e = rw e
edge_unpadded true s now x y is e =
    rw (
      e,
      closes_raised s now,
      start_raised (raise 0 (frame_closes s now)).frame now (frame_closes s now),
      no_pixel (frame_start (frame_closes s now) now).frame (frame_start (frame_closes s now) now) now x (due_blanks s.frame s now is),
      no_pixel (raise 0 (frame_start (frame_closes s now) now)).frame (raise 0 (frame_start (frame_closes s now) now)) now x (due_blanks s.frame s now is),
    )

-- A sample that pads no word, with ESS 0 (W6). Rule 3 leaves what is padded.
sample_unpadded : (s : Capture) (w : ℕ) (y : OutputState) → embedded s.registers.cr ≡ false → padded_at s w ≡ None
    → now_and_then (capture_sample s w) y ≡ now_and_then (unpadded_sample s w) y
unfolding capture_sample edge unpadded_sample at_edge unpadded_edge frame_end unpadded_end padded_at
sample_unpadded s w y plain e = rw plain (go (working_edge s w && enabled s) e)
  where
    seen : Capture
    seen = remember_pins w s

    go : (goes_on : Bool) → cond goes_on (frame_pads s (blanking s w)) None ≡ None
        → now_and_then (cond goes_on (at_edge seen (blanking s w) (pixel_data w)) (no_word seen)) y
        ≡ now_and_then (cond goes_on (unpadded_edge seen (blanking s w) (pixel_data w)) (no_word seen)) y
    go true e = edge_unpadded _ (sync_flags seen (blanking s w)) (blanking s w) (pixel_data w) y refl (pads_seen s w (blanking s w) ∙ e)
    go false e = refl

pub step_unpadded : (d : Device) (b : List ℕ) (w : ℕ) → embedded d.core.capture.registers.cr ≡ false → padded_at (capture_of d) w ≡ None
    → let s = capture_of d in
    let g = grant (bus_grant w) (enabled s) (counted (output_of d)) b in
    let c = now_and_then (unpadded_sample s w) g.state in
    step d b w ≡ record { device = c.device; buffer = g.buffer; landing = g.landing; packed = c.packed }
unfolding step after_grant
step_unpadded d b w plain e =
    let s = capture_of d in
    let g = grant (bus_grant w) (enabled s) (counted (output_of d)) b in
    ap (λ (c : Completed). record { device = c.device; buffer = g.buffer; landing = g.landing; packed = c.packed }) (sample_unpadded s w g.state plain e)

-- Such a sample leaves a well-formed state well-formed.
pub unpadded_end_kept : (s : Capture) (now : Syncs) → Kept s (unpadded_end s now)
unfolding unpadded_end flagged
unpadded_end_kept s now =
    let c : Captured = record { state = s; word = None; due = frame_due s.frame s now; error = false } in
    then (flagged_kept c) (frame_closes_kept (flagged c) now)

unpadded_edge_ok : {n : ℕ} (s : Capture) (now : Syncs) (x : ℕ) → CaptureOk n s → CaptureOk (n + 1) (unpadded_edge s now x).state
unfolding unpadded_edge pixel_edge with_syncs with_pins
unpadded_edge_ok {n} s now x h =
    let t = unpadded_end (sync_flags s now) now in
    let u = frame_start t now in
    let early = then (then (sync_flags_kept s now) (unpadded_end_kept (sync_flags s now) now)) (frame_start_kept t now) in
    pins_syncs_ok (pixel_in u.frame u now x).state.pins now (omega arith) ((pixel_in_moved u.frame u now x refl).ok n (early.ok n h))

pub unpadded_sample_ok : {n : ℕ} {s : Capture} (w : ℕ) → CaptureOk n s → CaptureOk (n + 1) (unpadded_sample s w).state
unfolding unpadded_sample remember_pins with_pins with_syncs no_word
unpadded_sample_ok {n} {s} w h =
    let seen : CaptureOk n (remember_pins w s) = pins_syncs_ok (remember_pins w s).pins s.syncs (omega arith) h in
    let later : CaptureOk (n + 1) (remember_pins w s) = pins_syncs_ok (remember_pins w s).pins s.syncs (omega arith) h in
    either (λ (c : Captured). CaptureOk (n + 1) c.state) (working_edge s w && enabled s) (unpadded_edge_ok (remember_pins w s) (blanking s w) (pixel_data w) seen) later
