-- FRAME and the window's last line (request W1), over every depth and every list of calls, with writes between the samples, at every moment: the test `window_ended` is what the history of the
-- open frame says (`window_ended_is_history`), and FRAME is due at most once in a frame (`frame_due_once`), just once in a taken one that
-- rule 4 ends (`frame_due_at_the_end`; with ESS 1, W6, `frame_due_at_the_end_code`).
-- The idea: each sample and each write keeps the history told (`FrameEdges`, `FrameCodes`), no write changes window or CROP while a frame is open, and a moment is the end of a list of calls
-- (`Moments`). Assumes nothing.
use mathlib.Core.Bool.{Bool, true, false, cond, not, ◌&&◌}
use mathlib.Core.List.{List, [], ◌∷◌, ◌++◌}
use Rattle.std.specs.Prelude.{Option, Some, None}
use mathlib.Core.Path.{◌≡◌, refl}
use Prim.Native.Nat.{ℕ, ◌≤◌}
use native.Mathlib.Omega.{arith}
use lib.Dec.{eqb, ltb}
use lib.ListN.{drop}
use borrow.Author.Tests.{eqb-true}
use Rattle.bits.proofs.Booleans.{and_unit, by_cond, either}
use Rattle.registers.specs.Control.{embedded, enable}
use Rattle.codes.specs.declared.Meaning.TheVariants.{FrameEnd}
use Rattle.codes.specs.Bytes.{is_code}
use Rattle.codes.specs.Meaning.{meaning}
use Rattle.registers.specs.Map.{register_at}
use Rattle.registers.specs.declared.Register.TheVariants.{Control, Status, RawStatus, InterruptEnable, MaskedStatus, InterruptClear, EmbeddedCode, EmbeddedUnmask, WindowStart, WindowSize}
use Rattle.refusals.specs.Refusals.{◌⇒◌, first}
use Rattle.refusals.proofs.Accepted.{accepted}
use Rattle.samples.specs.Samples.{pixel_data}
use Rattle.output.specs.WellFormed.{bad_depth}
use Rattle.rules.specs.declared.Registers.{Registers}
use Rattle.rules.specs.declared.Pins.{Pins}
use Rattle.rules.specs.declared.Syncs.{Syncs}
use Rattle.rules.specs.declared.Scan.{Scan}
use Rattle.rules.specs.declared.Frame.{Frame}
use Rattle.rules.specs.declared.Frame.TheVariants.{Closed, Open}
use Rattle.rules.specs.declared.Capture.{Capture}
use Rattle.rules.specs.declared.Device.{Device}
use Rattle.rules.specs.State.{fresh_of, fresh_capture, raise, with_cr, with_ris, with_ier, with_cwstrt, with_cwsize, with_escr, with_esur, with_registers, with_pins, with_syncs, with_frame, with_rate, with_partial, with_waiting, close_frame}
use Rattle.rules.specs.Capture.{Captured, no_word, working_edge, enabled, remember_pins, blanking, window_ended, hsync_after_window, frame_rises, frame_due, starts, flagged, at_edge}
use Rattle.rules.specs.Codes.{at_byte}
use Rattle.rules.specs.Sample.{byte_of, edge, capture_sample}
use Rattle.rules.specs.RegisterCalls.{changes_setup, fixed_at, register_tests, enabling, disabling, switch_enable, capture_rises, switch_capture, write_control, clear_flags, write_register, write_at, write_refusal, write, rearmed, rearm}
use Rattle.output.specs.declared.Packing.{Packing as Packed}
use Rattle.rules.specs.Run.{lose_frame, after_grant, step, steps, run_refusal, run, sample}
use Rattle.rules.specs.WellFormed.{malformed}
use Rattle.rules.proofs.WellFormed.{CaptureOk, facts}
use Rattle.laws.specs.Histories.{Call, a_write, a_rearming, a_placing, a_run, a_sample, after, after_all, reached, Event, sampled, samplings, accepted_samplings, samplings_of, disabling_of, events, events_of_all, history}
use Rattle.laws.specs.FrameHistory.{FrameHistory, no_history, edge_starts, edge_entry, byte_entry, sampling_entry, frame_entry, frame_entries, frame_history}
use Rattle.laws.proofs.RegisterValues.{same_crop}
use Rattle.laws.proofs.KeepsSample.{by_word}
use Rattle.laws.proofs.WriteControl.{closed_frame, setup_stays}
use Rattle.laws.proofs.Keeps.{fresh_well_formed}
use Rattle.laws.proofs.Conservation.{call_keeps}
use Rattle.laws.proofs.Moments.{at_moment, at_sample}
use Rattle.laws.proofs.FrameCodes.{pins_byte_entry, at_byte_told, frame_end_risen}
use Rattle.registers.specs.declared.Register.{Register}
use Rattle.laws.proofs.FrameEdges.{Told, once, none_told, blanks, at_edge_told, ends_risen}

-- A sample. The remembered levels play no part.
same_entry : (f : Frame) (s : Capture) (p : Pins) (now : Syncs) (h : FrameHistory) → s.frame ≡ f → edge_entry h (with_pins p s) now ≡ edge_entry h s now
unfolding edge_entry edge_starts frame_due with_pins window_ended hsync_after_window frame_rises starts
same_entry Closed s p now h e = rw e
same_entry (Open taken f) s p now h e = rw e

sample_told : (s : Capture) (w : ℕ) (h : FrameHistory) → Told s h → Told (capture_sample s w).state (sampling_entry h s w)
unfolding capture_sample edge no_word remember_pins with_pins sampling_entry
sample_told s w h told = go (working_edge s w && enabled s) (embedded s.registers.cr)
  where
    go : (goes_on coded : Bool)
        → Told (cond goes_on (cond coded (at_byte (remember_pins w s) (byte_of w)) (at_edge (remember_pins w s) (blanking s w) (pixel_data w))) (no_word (remember_pins w s))).state
        (cond goes_on (cond coded (byte_entry h s (byte_of w)) (edge_entry h s (blanking s w))) h)
    go true true = rw (← pins_byte_entry s (remember_pins w s).pins (byte_of w) h) (at_byte_told (remember_pins w s) (byte_of w) h told)
    go true false = rw (← same_entry s.frame s (remember_pins w s).pins (blanking s w) h refl) (at_edge_told (remember_pins w s) (blanking s w) (pixel_data w) h told)
    go false coded = told

-- FRAME plays no part.
flagged_told : (c : Captured) (h : FrameHistory) → Told c.state h → Told (flagged c) h
unfolding flagged raise with_registers with_ris
flagged_told c h told = either (λ (s : Capture). Told s h) c.due told told

step_told : (d : Device) (b : List ℕ) (w : ℕ) (h : FrameHistory) (landing : Option ℕ) (packed : Packed) → Told d.core.capture h
    → Told (step d b w).device.core.capture (frame_entry h (sampled d.core.capture w landing packed))
unfolding step after_grant frame_entry lose_frame close_frame with_frame with_partial
step_told d b w h landing packed told =
    let s = d.core.capture in
    let h' = sampling_entry h s w in
    let after = sample_told s w h told in
    let flagged = flagged_told (capture_sample s w) h' after in
    by_word (λ (e : Device). Told e.core.capture h') _ _ _ flagged (λ e. flagged) (λ v. flagged) (λ v. once (capture_sample s w).state h' after)

steps_told : (d : Device) (b ws : List ℕ) (h : FrameHistory) → Told d.core.capture h
    → Told (steps d b ws).device.core.capture (frame_entries h (samplings d b ws))
unfolding steps samplings frame_entries
steps_told d b [] h told = told
steps_told d b (w ∷ ws) h told = steps_told (step d b w).device (step d b w).buffer ws _ (step_told d b w h _ _ told)

-- A write of CR: where ENABLE is and stays 1, CROP stays; else no frame is open after it.
control_told : {n : ℕ} (s : Capture) (v : ℕ) (h : FrameHistory) → CaptureOk n s → enable s.registers.cr && changes_setup s.registers.cr v ≡ false
    → Told s h → Told (write_control v s) h
unfolding write_control switch_capture switch_enable enabling disabling close_frame with_registers with_cr with_syncs with_frame with_rate with_partial with_waiting
control_told s v h ok free told =
    let P : Capture → Type 0 = λ t. Told (with_registers (with_cr v t.registers) t) h in
    let rated : (t : Capture) → P t → P (switch_capture (capture_rises v s) t) = λ t p. either P (capture_rises v s) p p in
    let cr = s.registers.cr in
    rated _
    (by_cond P (enable cr) _ _
    (λ on.
    by_cond P (enable v) _ _
    (λ stays. rw (same_crop v cr (setup_stays cr v free on)) told)
    (λ falls. once s h told))
    (λ off. either P (enable v) (once s h told) (none_told (with_registers (with_cr v s.registers) s) h (closed_frame s.frame (ok.idle off).0) (once s h told))))

-- A write of the window or of the codes, with ENABLE 0 alone: no frame is open.
window_told : {n : ℕ} (s : Capture) (r : Registers) (h : FrameHistory) → CaptureOk n s → enable s.registers.cr && true ≡ false → Told s h → Told (with_registers r s) h
unfolding with_registers
window_told s r h ok free told =
    let off : enable s.registers.cr ≡ false = rw (and_unit (enable s.registers.cr)) at free in
    none_told (with_registers r s) h (closed_frame s.frame (ok.idle off).0) (once s h told)

write_at_told : {n : ℕ} (d : Device) (r : Option Register) (v : ℕ) (h : FrameHistory) → CaptureOk n d.core.capture → fixed_at d.core.capture.registers.cr r v ≡ false
    → Told d.core.capture h → Told (write_at d r v).core.capture h
unfolding write_at write_register with_registers with_ier clear_flags with_ris
write_at_told d None v h ok free told = told
write_at_told d (Some Control) v h ok free told = control_told d.core.capture v h ok free told
write_at_told d (Some Status) v h ok free told = told
write_at_told d (Some RawStatus) v h ok free told = told
write_at_told d (Some InterruptEnable) v h ok free told = told
write_at_told d (Some MaskedStatus) v h ok free told = told
write_at_told d (Some InterruptClear) v h ok free told = told
write_at_told d (Some EmbeddedCode) v h ok free told = window_told d.core.capture (with_escr v d.core.capture.registers) h ok free told
write_at_told d (Some EmbeddedUnmask) v h ok free told = window_told d.core.capture (with_esur v d.core.capture.registers) h ok free told
write_at_told d (Some WindowStart) v h ok free told = window_told d.core.capture (with_cwstrt v d.core.capture.registers) h ok free told
write_at_told d (Some WindowSize) v h ok free told = window_told d.core.capture (with_cwsize v d.core.capture.registers) h ok free told

write_told : (d : Device) (offset v : ℕ) (h : FrameHistory) → malformed d ≡ false → Told d.core.capture h → Told (write d offset v).device.core.capture h
unfolding write write_refusal
write_told d offset v h formed told =
    let tests = malformed d ⇒ 1 ∷ register_tests d.core.capture.registers.cr (register_at offset) v in
    by_cond (λ (e : Device). Told e.core.capture h) (eqb (first tests) 0) _ _
    (λ zero.
    let (well, (there, (writable, (reserved, (supported, (free, end)))))) = accepted tests (omega arith) (eqb-true _ 0 zero) in
    write_at_told d (register_at offset) v h (facts d formed).capture free told)
    (λ refused. told)

-- Disabling is no entry.
entries_append : (h : FrameHistory) (es fs : List Event) → frame_entries h (es ++ fs) ≡ frame_entries (frame_entries h es) fs
unfolding frame_entries
entries_append h [] fs = refl
entries_append h (e ∷ es) fs = entries_append (frame_entry h e) es fs

disabling_told : (d d' : Device) (h : FrameHistory) → frame_entries h (disabling_of d d') ≡ h
unfolding frame_entries frame_entry disabling_of
disabling_told d d' h =
    either (λ (es : List Event). frame_entries h es ≡ h) (enable d.core.capture.registers.cr && not (enable d'.core.capture.registers.cr)) refl refl

-- Every call, and every list of calls.
samples_told : (taken : Bool) (d : Device) (b ws : List ℕ) (h : FrameHistory) → Told d.core.capture h
    → Told (cond taken (steps d b ws).device d).core.capture (frame_entries h (cond taken (samplings d b ws) []))
unfolding frame_entries
samples_told true d b ws h told = steps_told d b ws h told
samples_told false d b ws h told = told

call_told : (d : Device) (c : Call) (h : FrameHistory) → malformed d ≡ false → Told d.core.capture h → Told (after d c).core.capture (frame_entries h (events d c))
unfolding events samplings_of accepted_samplings after rearm rearmed run sample step steps frame_entries
call_told d (a_write offset value fits) h formed told = rw (disabling_told d (write d offset value).device h) (write_told d offset value h formed told)
call_told d a_rearming h formed told = rw (disabling_told d (rearm d).device h) (either (λ (e : Device). Told e.core.capture h) (eqb (first (malformed d ⇒ 1 ∷ [])) 0) told told)
call_told d (a_placing k) h formed told = rw (disabling_told d (after d (a_placing k)) h) (either (λ (e : Device). Told e.core.capture h) (ltb d.core.output.counts.landed k) told told)
call_told d (a_run memory start samples) h formed told =
    rw (entries_append, disabling_told d (run d memory start samples).device _)
    (samples_told (eqb (run_refusal d memory start samples) 0) d (drop start memory) samples h told)
call_told d (a_sample memory start w) h formed told =
    rw (entries_append, disabling_told d (sample d memory start w).device _)
    (samples_told (eqb (run_refusal d memory start (w ∷ [])) 0) d (drop start memory) (w ∷ []) h told)

calls_told : (d : Device) (cs : List Call) (h : FrameHistory) → malformed d ≡ false → Told d.core.capture h
    → Told (after_all d cs).core.capture (frame_entries h (events_of_all d cs))
unfolding after_all events_of_all frame_entries
calls_told d [] h formed told = told
calls_told d (c ∷ cs) h formed told = rw entries_append (calls_told (after d c) cs _ (call_keeps d c formed) (call_told d c h formed told))

-- From a device made with a depth from 1 to 32, after every list of calls.
history_told : (depth : ℕ) → bad_depth depth ≡ false → (cs : List Call) → Told (reached depth cs).core.capture (frame_history (history depth cs))
unfolding fresh_of fresh_capture no_history
history_told depth sound cs = calls_told (fresh_of depth) cs no_history (fresh_well_formed depth sound) (omega arith)

-- And at every moment: es are the events of the history so far, and fs those to come.
module _ (depth : ℕ) (sound : bad_depth depth ≡ false) (cs : List Call) (es fs : List Event) where
  -- FRAME is due at most once in a frame.
  pub frame_due_once : history depth cs ≡ es ++ fs → (frame_history es).due ≤ 1
  frame_due_once = at_moment (fresh_of depth) cs es fs (λ l. (frame_history l).due ≤ 1) (λ cs. once (reached depth cs).core.capture (frame_history (history depth cs)) (history_told depth sound cs))

  -- At a sample, which finds s.
  module _ (s : Capture) (w : ℕ) (landing : Option ℕ) (packed : Packed) (now : history depth cs ≡ es ++ (sampled s w landing packed ∷ fs)) where
    found_told : Told s (frame_history es)
    found_told = at_sample (fresh_of depth) cs es fs (λ t l. Told t (frame_history l)) (history_told depth sound) s w landing packed now

    entered : frame_history (es ++ (sampled s w landing packed ∷ [])) ≡ sampling_entry (frame_history es) s w
    unfolding frame_entries frame_entry
    entered = entries_append no_history es (sampled s w landing packed ∷ [])

    -- The test that rule 4 makes of the lines begun and of HSYNC at the last working edge is what the history of the open frame says.
    pub window_ended_is_history : (taken : Bool) (f : Scan) → s.frame ≡ Open taken f → window_ended s f ≡ (frame_history es).ended
    unfolding window_ended
    window_ended_is_history taken f e = (rw e at found_told).0

    -- In a taken frame that VSYNC ends here FRAME has been due just once then, here or before; and so in one that a frame end code ends (W6).
    pub frame_due_at_the_end : (f : Scan) → embedded s.registers.cr ≡ false → s.frame ≡ Open true f → working_edge s w && enabled s ≡ true → (blanking s w).vsync ≡ true
        → (frame_history (es ++ (sampled s w landing packed ∷ []))).due ≡ 1
    unfolding sampling_entry
    frame_due_at_the_end f plain e goes_on ends =
        let blank : blanking s w ≡ blanks (blanking s w).hsync true = λ i. record { hsync = (blanking s w).hsync; vsync = ends i } in
        rw (entered, goes_on, plain, blank) (ends_risen true f s (blanking s w).hsync (frame_history es) e found_told)

    pub frame_due_at_the_end_code : (f : Scan) → embedded s.registers.cr ≡ true → s.frame ≡ Open true f → working_edge s w && enabled s ≡ true
        → is_code s.waiting ≡ true → meaning s.registers.escr s.registers.esur (byte_of w) ≡ FrameEnd
        → (frame_history (es ++ (sampled s w landing packed ∷ []))).due ≡ 1
    unfolding sampling_entry byte_entry
    frame_due_at_the_end_code f coded e goes_on last ends =
        rw (entered, goes_on, coded, last, ends) (frame_end_risen true f s (frame_history es) e found_told)
