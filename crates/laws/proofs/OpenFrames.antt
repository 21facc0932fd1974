-- In an open frame VSYNC does not blank, over every depth and every list of calls (`open_frame_runs`): what `lost_at_once` asks for (W6). The idea: where VSYNC blanks, by its pin or by a frame end code, no frame
-- is open after the edge; a write that opens none leaves the rest. Assumes nothing.
use mathlib.Core.Bool.{Bool, true, false, cond}
use mathlib.Core.List.{List, [], ◌∷◌}
use mathlib.Core.Path.{◌≡◌, refl}
use Prim.Native.Nat.{ℕ}
use lib.Dec.{eqb, ltb}
use lib.ListN.{drop}
use Rattle.bits.proofs.Booleans.{either}
use Rattle.registers.specs.Control.{enable}
use Rattle.registers.specs.Map.{register_at}
use Rattle.registers.specs.declared.Register.TheVariants.{Control, Status, RawStatus, InterruptEnable, MaskedStatus, InterruptClear, EmbeddedCode, EmbeddedUnmask, WindowStart, WindowSize}
use Rattle.std.specs.Prelude.{Option, Some, None}
use Rattle.refusals.specs.Refusals.{◌⇒◌, first}
use Rattle.samples.specs.Samples.{pixel_data}
use Rattle.codes.specs.declared.Waiting.TheVariants.{Zero}
use Rattle.codes.specs.declared.Meaning.{Meaning}
use Rattle.codes.specs.Bytes.{waiting_count, is_code, waiting_after, released}
use Rattle.codes.specs.Meaning.{meaning}
use Rattle.rules.specs.declared.Syncs.{Syncs}
use Rattle.rules.specs.declared.Frame.{Frame}
use Rattle.rules.specs.declared.Frame.TheVariants.{Closed, Open}
use Rattle.rules.specs.declared.Capture.{Capture}
use Rattle.rules.specs.declared.Device.{Device}
use Rattle.rules.specs.State.{fresh_of, fresh_capture, raise, close_frame, with_cr, with_ris, with_ier, with_cwstrt, with_cwsize, with_escr, with_esur, with_registers, with_pins, with_syncs, with_frame, with_rate, with_partial, with_waiting}
use Rattle.rules.specs.Capture.{Captured, no_word, flagged, remember_pins, blanking, end_of, frame_closes, at_edge}
use Rattle.rules.specs.Codes.{arrived, byte_in, taken_out, frame_opens, line_opens, closes, errs, at_code, at_byte}
use Rattle.rules.specs.Sample.{byte_of, capture_sample}
use Rattle.rules.specs.RegisterCalls.{enabling, disabling, switch_enable, capture_rises, switch_capture, write_control, clear_flags, write_register, write_at, write_refusal, write, rearmed, rearm}
use Rattle.rules.specs.Run.{lose_frame, after_grant, step, steps, run_refusal, run, sample}
use Rattle.rules.specs.WellFormed.{malformed}
use Rattle.laws.specs.Histories.{Call, a_write, a_rearming, a_placing, a_run, a_sample, after, reached}
use Rattle.laws.specs.Seeking.{RunsIn, Runs}
use Rattle.laws.proofs.KeepsSample.{by_word}
use Rattle.laws.proofs.Conservation.{calls_keep}
use Rattle.laws.proofs.FrameEdges.{blanks, at_edge_closed}
use Rattle.laws.proofs.FrameCodes.{each_same}
use Rattle.registers.specs.declared.Register.{Register}
use Rattle.laws.proofs.ByCode.{by_code, by_sample}

-- Whatever the frame, where VSYNC does not blank; whatever it is, where no frame is open.
runs_on : (f : Frame) → RunsIn f false
runs_on Closed = tt
runs_on (Open taken f) = refl

none_runs : (f : Frame) (vsync : Bool) → f ≡ Closed → RunsIn f vsync
none_runs f vsync e = rw e tt

-- By the sync pins.
at_edge_runs : (s : Capture) (now : Syncs) (x : ℕ) → Runs (at_edge s now x).state
unfolding at_edge with_syncs
at_edge_runs s now x = go now.vsync
  where
    go : (vsync : Bool) → let t = (at_edge s (blanks now.hsync vsync) x).state in RunsIn t.frame t.syncs.vsync
    go true = none_runs (at_edge s (blanks now.hsync true) x).state.frame true (at_edge_closed s now.hsync x)
    go false = runs_on (at_edge s (blanks now.hsync false) x).state.frame

-- By codes.
opens_runs : (s : Capture) → Runs (frame_opens s)
unfolding frame_opens with_syncs
opens_runs s = runs_on (frame_opens s).frame

errs_runs : (s : Capture) → Runs (errs s).state
unfolding errs close_frame with_frame with_partial with_syncs raise with_registers with_ris
errs_runs s = tt

end_closed : (f : Frame) (s : Capture) → s.frame ≡ f → (end_of f s).frame ≡ Closed
unfolding end_of close_frame with_partial with_frame
end_closed Closed s e = e
end_closed (Open taken f) s e = refl

closes_runs : (s : Capture) (now : Syncs) → Runs (closes s now).state
unfolding closes frame_closes with_syncs
closes_runs s now = go now.vsync _
  where
    go : (vsync : Bool) (t : Capture) → RunsIn (cond vsync (end_of t.frame t) t).frame vsync
    go true t = none_runs _ true (end_closed t.frame t refl)
    go false t = runs_on t.frame

code_runs : (m : Meaning) (s : Capture) → Runs s → Runs (at_code m s).state
unfolding no_word line_opens with_syncs with_frame
code_runs m s runs = by_code (λ c. Runs c.state) s runs (closes_runs s) (errs_runs s) (λ e. opens_runs s) (λ taken f e. refl) (λ e. none_runs _ true e) m

byte_in_runs : (f : Frame) (s : Capture) (x : ℕ) → s.frame ≡ f → RunsIn f s.syncs.vsync → Runs (byte_in f s x).state
unfolding byte_in no_word with_waiting with_frame
byte_in_runs Closed s x e runs = none_runs _ _ e
byte_in_runs (Open taken f) s x e runs =
    let still = waiting_after s.waiting x in
    let same = each_same (with_waiting still (with_frame (Open taken (arrived f)) s)) taken (arrived f) (released s.waiting x) (waiting_count still) in
    either (λ (c : Captured). Runs c.state) s.syncs.hsync (rw e runs) (rw (same.frame, same.syncs) runs)

out_runs : (f : Frame) (s : Capture) → s.frame ≡ f → RunsIn f s.syncs.vsync → Runs (taken_out f s)
unfolding taken_out with_frame
out_runs Closed s e runs = none_runs _ _ e
out_runs (Open taken f) s e runs = either (λ (t : Capture). Runs t) s.syncs.hsync (rw e runs) runs

at_byte_runs : (s : Capture) (x : ℕ) → Runs s → Runs (at_byte s x).state
unfolding at_byte with_waiting with_syncs with_frame
at_byte_runs s x runs =
    let t = taken_out s.frame s in
    let m = meaning s.registers.escr s.registers.esur x in
    either (λ (c : Captured). Runs c.state) (is_code s.waiting)
    (code_runs m (with_waiting Zero t) (out_runs s.frame s refl runs))
    (byte_in_runs s.frame s x refl runs)

-- A sample.
sample_runs : (s : Capture) (w : ℕ) → Runs s → Runs (capture_sample s w).state
unfolding no_word remember_pins with_pins
sample_runs s w runs = by_sample (λ c. Runs c.state) s w (at_byte_runs (remember_pins w s) (byte_of w) runs) (at_edge_runs (remember_pins w s) (blanking s w) (pixel_data w)) runs

flagged_runs : (c : Captured) → Runs c.state → Runs (flagged c)
unfolding flagged raise with_registers with_ris
flagged_runs c runs = either (λ (s : Capture). Runs s) c.due runs runs

lost_runs : (s : Capture) → Runs (lose_frame s)
unfolding lose_frame close_frame with_frame with_partial
lost_runs s = tt

step_runs : (d : Device) (b : List ℕ) (w : ℕ) → Runs d.core.capture → Runs (step d b w).device.core.capture
unfolding step after_grant
step_runs d b w runs =
    let c = capture_sample d.core.capture w in
    let after = flagged_runs c (sample_runs d.core.capture w runs) in
    by_word (λ (e : Device). Runs e.core.capture) _ _ _ after (λ e. after) (λ v. after) (λ v. lost_runs c.state)

steps_run : (d : Device) (b ws : List ℕ) → Runs d.core.capture → Runs (steps d b ws).device.core.capture
unfolding steps
steps_run d b [] runs = runs
steps_run d b (w ∷ ws) runs = steps_run (step d b w).device (step d b w).buffer ws (step_runs d b w runs)

-- Writes.
control_runs : (v : ℕ) (s : Capture) → Runs s → Runs (write_control v s)
unfolding write_control switch_capture switch_enable enabling disabling close_frame with_registers with_cr with_syncs with_frame with_rate with_partial with_waiting
control_runs v s runs =
    let P : Capture → Type 0 = λ t. Runs t in
    let same = either P (enable s.registers.cr) (either P (enable v) runs tt) (either P (enable v) tt runs) in
    either P (capture_rises v s) same same

write_at_runs : (d : Device) (r : Option Register) (v : ℕ) → Runs d.core.capture → Runs (write_at d r v).core.capture
unfolding write_at write_register with_registers with_ier clear_flags with_ris with_cwstrt with_cwsize with_escr with_esur
write_at_runs d None v runs = runs
write_at_runs d (Some Control) v runs = control_runs v d.core.capture runs
write_at_runs d (Some Status) v runs = runs
write_at_runs d (Some RawStatus) v runs = runs
write_at_runs d (Some InterruptEnable) v runs = runs
write_at_runs d (Some MaskedStatus) v runs = runs
write_at_runs d (Some InterruptClear) v runs = runs
write_at_runs d (Some EmbeddedCode) v runs = runs
write_at_runs d (Some EmbeddedUnmask) v runs = runs
write_at_runs d (Some WindowStart) v runs = runs
write_at_runs d (Some WindowSize) v runs = runs

-- Every call, and every list of calls.
call_runs : (d : Device) (c : Call) → Runs d.core.capture → Runs (after d c).core.capture
unfolding after write rearm rearmed run sample
call_runs d (a_write offset value fits) runs =
    either (λ (e : Device). Runs e.core.capture) (eqb (write_refusal d offset value) 0) (write_at_runs d (register_at offset) value runs) runs
call_runs d a_rearming runs = either (λ (e : Device). Runs e.core.capture) (eqb (first (malformed d ⇒ 1 ∷ [])) 0) runs runs
call_runs d (a_placing k) runs = either (λ (e : Device). Runs e.core.capture) (ltb d.core.output.counts.landed k) runs runs
call_runs d (a_run memory start samples) runs =
    either (λ (e : Device). Runs e.core.capture) (eqb (run_refusal d memory start samples) 0) (steps_run d (drop start memory) samples runs) runs
call_runs d (a_sample memory start w) runs =
    either (λ (e : Device). Runs e.core.capture) (eqb (run_refusal d memory start (w ∷ [])) 0) (step_runs d (drop start memory) w runs) runs

pub open_frame_runs : (depth : ℕ) (cs : List Call) → Runs (reached depth cs).core.capture
unfolding fresh_of fresh_capture
open_frame_runs depth cs = calls_keep (λ d. Runs d.core.capture) call_runs (fresh_of depth) cs tt
