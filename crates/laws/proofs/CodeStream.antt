-- With ESS 1 and ENABLE 1 (W6), for every device, frame buffer and list of samples: the codes and data that the rules act on, in order, and the bytes that wait in the end are those of the cut of the bytes
-- that waited before and then those at the working edges (`stream_is_cut`), so that no byte is lost or doubled (`no_byte_lost`); and what acting on them is (`acts_by_code`, `acts_by_data`).
-- The idea: rule by rule what waits is set by the byte alone, and byte by byte the pieces are the cut's (`whole_after`). Assumes nothing.
use mathlib.Core.Bool.{Bool, true, false, cond, ◌&&◌}
use mathlib.Core.List.{List, [], ◌∷◌, ◌++◌, map}
use mathlib.Core.Path.{◌≡◌, refl, ap, ◌∙◌}
use Prim.Native.Nat.{ℕ}
use Rattle.bits.proofs.Booleans.{either}
use Rattle.registers.specs.Control.{snapshot, pckpol, embedded}
use Rattle.samples.specs.Samples.{clock_pin, bus_grant}
use Rattle.codes.specs.declared.Waiting.TheVariants.{Zero}
use Rattle.codes.specs.Bytes.{waiting_bytes, is_code, waiting_after, released, a_datum, a_code, pieces_of, Cut, in_front, by_bytes, cut, bytes_of}
use Rattle.codes.specs.Meaning.{meaning}
use Rattle.codes.proofs.Bytes.{whole_after, nothing_lost}
use Rattle.output.specs.Output.{grant, counted}
use Rattle.rules.specs.declared.Capture.{Capture}
use Rattle.rules.specs.declared.Device.{Device}
use Rattle.rules.specs.State.{capture_of, output_of, raise, clear_capture, close_frame, with_cr, with_ris, with_registers, with_pins, with_frame, with_partial, with_waiting}
use Rattle.rules.specs.Capture.{Captured, flagged, working_edge, enabled, remember_pins}
use Rattle.rules.specs.Codes.{byte_in, taken_out, at_code, at_byte}
use Rattle.rules.specs.Sample.{byte_of, edge, capture_sample}
use Rattle.rules.specs.Run.{lose_frame, after_grant, step, steps}
use Rattle.laws.specs.CodeStream.{edge_bytes, acted_at, acted_on}
use Rattle.laws.proofs.RegisterValues.{half_setup, same_embedded, same_pckpol}
use Rattle.laws.proofs.Sampled.{sample_left}
use Rattle.laws.proofs.KeepsSample.{by_word, step_half, step_enable}
use Rattle.laws.proofs.DataBytes.{step_waits}

-- The levels that a sample leaves remembered are its own.
flagged_clock : (c : Captured) → (flagged c).pins.clock ≡ c.state.pins.clock
unfolding flagged raise with_registers with_ris
flagged_clock c = either (λ (t : Capture). t.pins.clock ≡ c.state.pins.clock) c.due refl refl

lost_clock : (s : Capture) → (lose_frame s).pins.clock ≡ s.pins.clock
unfolding lose_frame close_frame with_frame with_partial clear_capture raise with_registers with_cr with_ris
lost_clock s = either (λ (t : Capture). t.pins.clock ≡ s.pins.clock) (snapshot s.registers.cr) refl refl

step_clock : (d : Device) (b : List ℕ) (w : ℕ) → (step d b w).device.core.capture.pins.clock ≡ clock_pin w
unfolding step after_grant remember_pins with_pins
step_clock d b w =
    let s = capture_of d in
    let c = capture_sample s w in
    let here : c.state.pins.clock ≡ clock_pin w = ap (λ p. p.clock) (sample_left s w).pins ∙ remembered s in
    let same = flagged_clock c ∙ here in
    by_word (λ (e : Device). e.core.capture.pins.clock ≡ clock_pin w) c.word c (grant (bus_grant w) (enabled s) (counted (output_of d)) b).state
    same (λ e. same) (λ v. same) (λ v. lost_clock c.state ∙ here)
  where
    remembered : (s : Capture) → (remember_pins w s).pins.clock ≡ clock_pin w
    remembered s = refl

-- So the bytes at the working edges are the same, whatever else the samples changed.
same_bytes : (s t : Capture) (ws : List ℕ) → pckpol s.registers.cr ≡ pckpol t.registers.cr → s.pins.clock ≡ t.pins.clock → edge_bytes s ws ≡ edge_bytes t ws
unfolding edge_bytes working_edge remember_pins with_pins
same_bytes s t [] e f = refl
same_bytes s t (w ∷ ws) e f = rw (e, f, same_bytes (remember_pins w s) (remember_pins w t) ws e refl)

later_bytes : (d : Device) (b : List ℕ) (w : ℕ) (ws : List ℕ) → edge_bytes (step d b w).device.core.capture ws ≡ edge_bytes (remember_pins w (capture_of d)) ws
unfolding remember_pins with_pins
later_bytes d b w ws = same_bytes _ _ ws (same_pckpol _ _ (half_setup _ _ (step_half d b w))) (step_clock d b w)

-- Byte by byte.
by_bytes_read : (d : Device) (b ws : List ℕ) → embedded d.core.capture.registers.cr ≡ true → enabled (capture_of d) ≡ true
    → record { pieces = acted_on d b ws; waits = (steps d b ws).device.core.capture.waiting } ≡ by_bytes d.core.capture.waiting (edge_bytes (capture_of d) ws)
unfolding acted_on acted_at steps edge_bytes by_bytes
by_bytes_read d b [] coded on = refl
by_bytes_read d b (w ∷ ws) coded on =
    let d' = (step d b w).device in
    let b' = (step d b w).buffer in
    let rest = by_bytes_read d' b' ws (same_embedded _ _ (half_setup _ _ (step_half d b w)) ∙ coded) (step_enable d b w ∙ on) in
    go (working_edge (capture_of d) w) refl (rw (later_bytes d b w ws, step_waits d b w coded) at rest)
  where
    s : Capture
    s = capture_of d

    later : Cut
    later = record { pieces = acted_on (step d b w).device (step d b w).buffer ws; waits = (steps (step d b w).device (step d b w).buffer ws).device.core.capture.waiting }

    go : (edge : Bool) → working_edge s w ≡ edge
        → later ≡ by_bytes (cond (working_edge s w && enabled s) (waiting_after s.waiting (byte_of w)) s.waiting) (edge_bytes (remember_pins w s) ws)
        → in_front (acted_at s w) later ≡ by_bytes s.waiting (cond (working_edge s w) (byte_of w ∷ []) [] ++ edge_bytes (remember_pins w s) ws)
    go true e rest = rw (e, on) (rw (e, on) at (ap (in_front (pieces_of s.waiting (byte_of w))) rest))
    go false e rest = rw e (rw e at rest)

module _ (d : Device) (b ws : List ℕ) (coded : embedded d.core.capture.registers.cr ≡ true) (on : enabled (capture_of d) ≡ true) where
  pub stream_is_cut : record { pieces = acted_on d b ws; waits = (steps d b ws).device.core.capture.waiting } ≡ cut (waiting_bytes d.core.capture.waiting ++ edge_bytes (capture_of d) ws)
  stream_is_cut = by_bytes_read d b ws coded on ∙ whole_after d.core.capture.waiting (edge_bytes (capture_of d) ws)

  pub no_byte_lost : bytes_of (acted_on d b ws) ++ waiting_bytes (steps d b ws).device.core.capture.waiting ≡ waiting_bytes d.core.capture.waiting ++ edge_bytes (capture_of d) ws
  no_byte_lost = ap (λ (c : Cut). bytes_of c.pieces ++ waiting_bytes c.waits) stream_is_cut ∙ nothing_lost (waiting_bytes d.core.capture.waiting ++ edge_bytes (capture_of d) ws)

-- What acting is. A code: it is obeyed by its meaning, with the bytes that waited taken out of their line. Data: a byte more, and those that it releases.
module _ (s : Capture) (w : ℕ) (coded : embedded s.registers.cr ≡ true) (goes_on : working_edge s w && enabled s ≡ true) where
  pub acts_by_code : is_code s.waiting ≡ true
      → let t = remember_pins w s in
      (acted_at s w ≡ a_code (byte_of w) ∷ []) × (capture_sample s w ≡ at_code (meaning s.registers.escr s.registers.esur (byte_of w)) (with_waiting Zero (taken_out s.frame t)))
  unfolding acted_at pieces_of capture_sample edge at_byte remember_pins with_pins
  acts_by_code last = (rw (goes_on, last), rw (goes_on, coded, last))

  pub acts_by_data : is_code s.waiting ≡ false
      → (acted_at s w ≡ map a_datum (released s.waiting (byte_of w))) × (capture_sample s w ≡ byte_in s.frame (remember_pins w s) (byte_of w))
  unfolding acted_at pieces_of capture_sample edge at_byte remember_pins with_pins
  acts_by_data more = (rw (goes_on, more), rw (goes_on, coded, more))
