-- Register writes and re-arming keep a well-formed device well-formed.
-- The idea: an accepted write has passed refusals 4 to 6, and these are what well-formedness asks of the register. Assumes nothing.
use mathlib.Core.Bool.{false, cond, not, ◌&&◌}
use mathlib.Core.List.{[], ◌∷◌}
use mathlib.Core.Path.{◌≡◌, refl, sym, ◌∙◌}
use Prim.Native.Nat.{ℕ, ◌^◌, ◌≤◌, ◌<◌}
use native.Mathlib.Nat.{sub-le, le_trans}
use native.Mathlib.Omega.{arith}
use lib.Dec.{eqb, ltb}
use borrow.Author.Tests.{ltb-false, eqb-true, not-false}
use Rattle.bits.specs.Bits.{field}
use Rattle.registers.specs.Control.{enable}
use Rattle.registers.specs.Map.{reserved_set, register_at}
use Rattle.registers.specs.declared.Register.TheVariants.{Control, Status, RawStatus, InterruptEnable, MaskedStatus, InterruptClear, EmbeddedCode, EmbeddedUnmask, WindowStart, WindowSize}
use Rattle.std.specs.Prelude.{Option, Some, None}
use Rattle.rules.specs.declared.Capture.{Capture}
use Rattle.rules.specs.declared.Device.{Device}
use Rattle.rules.specs.State.{with_cr, with_ris, with_ier, with_cwstrt, with_cwsize, with_escr, with_esur, with_registers, device, capture_of, output_of}
use Rattle.output.specs.Output.{OutputState, with_held, holding, with_counts, count_discarded, with_place, discard}
use Rattle.output.proofs.WellFormed.{enabling_ok, discard_ok}
use Rattle.refusals.specs.Refusals.{◌⇒◌, first}
use Rattle.rules.specs.WellFormed.{malformed, excluded}
use Rattle.rules.specs.RegisterCalls.{reserved_at, unsupported_at, fixed_at, register_tests, write_refusal, write_control, clear_flags, write_register, write_at, write, placed, rearmed, rearm}
use Rattle.bits.proofs.Booleans.{and_false_left, not_is_true, by_cond, either}
use Rattle.rules.proofs.WellFormed.{CaptureOk, WellFormed, facts, well_formed}
use Rattle.laws.proofs.RegisterValues.{allowed, not_excluded}
use Rattle.laws.proofs.CaptureParts.{registers_ok}
use Rattle.refusals.proofs.Accepted.{accepted}
use Rattle.registers.specs.declared.Register.{Register}
use Rattle.laws.proofs.WriteControl.{write_control_ok}

-- The capture state after a write that leaves CR.
module _ {n : ℕ} (v : ℕ) (s : Capture) (h : CaptureOk n s) where
  write_enable_ok : v < 2 ^ 32 → reserved_set InterruptEnable v ≡ false → CaptureOk n (with_registers (with_ier v s.registers) s)
  unfolding with_ier
  write_enable_ok small reserved =
      let (cr, (ier, rest)) = allowed s.registers h.allowed in
      let e : field 31 5 v ≡ 0 = eqb-true (field 31 5 v) 0 (not-false _ reserved) in
      registers_ok (with_ier v s.registers) refl refl (not_excluded _ (cr, (reserved, rest))) h.ris (omega arith) h

  write_clear_ok : CaptureOk n (with_registers (clear_flags v s.registers) s)
  unfolding clear_flags with_ris excluded
  write_clear_ok = registers_ok (clear_flags v s.registers) refl refl h.allowed (le_trans (sub-le _ _) h.ris) h.ier h

  write_start_ok : reserved_set WindowStart v ≡ false → CaptureOk n (with_registers (with_cwstrt v s.registers) s)
  unfolding with_cwstrt
  write_start_ok reserved =
      let (cr, (ier, (start, rest))) = allowed s.registers h.allowed in
      registers_ok (with_cwstrt v s.registers) refl refl (not_excluded _ (cr, (ier, (reserved, rest)))) h.ris h.ier h

  write_size_ok : reserved_set WindowSize v ≡ false → CaptureOk n (with_registers (with_cwsize v s.registers) s)
  unfolding with_cwsize
  write_size_ok reserved =
      let (cr, (ier, (start, (size, rest)))) = allowed s.registers h.allowed in
      registers_ok (with_cwsize v s.registers) refl refl (not_excluded _ (cr, (ier, (start, (reserved, rest))))) h.ris h.ier h

  -- ESCR and ESUR have no reserved bits (W6).
  write_code_ok : CaptureOk n (with_registers (with_escr v s.registers) s)
  unfolding with_escr excluded
  write_code_ok = registers_ok (with_escr v s.registers) refl refl h.allowed h.ris h.ier h

  write_unmask_ok : CaptureOk n (with_registers (with_esur v s.registers) s)
  unfolding with_esur excluded
  write_unmask_ok = registers_ok (with_esur v s.registers) refl refl h.allowed h.ris h.ier h

-- A capture state put into the device, with the same ENABLE.
capture_ok : (s : Capture) (d : Device) → enable s.registers.cr ≡ enable d.core.capture.registers.cr
    → CaptureOk d.core.output.counts.samples s → WellFormed d → WellFormed (device s (output_of d))
capture_ok s d same c w = record { capture = c; output = enabling_ok w.output (λ off. sym same ∙ off) }

-- CR written, and the held words discarded where ENABLE falls.
control_ok : (d : Device) (v : ℕ) → CaptureOk d.core.output.counts.samples (write_control v (capture_of d)) → WellFormed d
    → WellFormed (write_at d (Some Control) v)
unfolding write_at write_register write_control discard holding with_held count_discarded with_counts with_registers with_cr
control_ok d v c w =
    let q = w.output in
    by_cond (λ (x : OutputState). WellFormed (device (write_control v (capture_of d)) x)) (enable d.core.capture.registers.cr && not (enable v)) _ _
    (λ falls. record { capture = c; output = discard_ok q 0 d.core.output q.depth q.completed q.place (omega (arith, q.equation)) })
    (λ stays. record { capture = c; output = enabling_ok q (λ off. and_false_left _ _ stays (not_is_true (enable v) off)) })

write_at_ok : (d : Device) (r : Option Register) (v : ℕ) → v < 2 ^ 32 → reserved_at r v ≡ false → unsupported_at r v ≡ false
    → fixed_at d.core.capture.registers.cr r v ≡ false → WellFormed d → WellFormed (write_at d r v)
unfolding write_at write_register with_ier with_cwstrt with_cwsize with_escr with_esur clear_flags with_ris with_registers
write_at_ok d None v small a b c w = w
write_at_ok d (Some Control) v small a b c w = control_ok d v (write_control_ok v a b d.core.capture w.capture c) w
write_at_ok d (Some Status) v small a b c w = w
write_at_ok d (Some RawStatus) v small a b c w = w
write_at_ok d (Some InterruptEnable) v small a b c w = capture_ok _ d refl (write_enable_ok v d.core.capture w.capture small a) w
write_at_ok d (Some MaskedStatus) v small a b c w = w
write_at_ok d (Some InterruptClear) v small a b c w = capture_ok _ d refl (write_clear_ok v d.core.capture w.capture) w
write_at_ok d (Some EmbeddedCode) v small a b c w = capture_ok _ d refl (write_code_ok v d.core.capture w.capture) w
write_at_ok d (Some EmbeddedUnmask) v small a b c w = capture_ok _ d refl (write_unmask_ok v d.core.capture w.capture) w
write_at_ok d (Some WindowStart) v small a b c w = capture_ok _ d refl (write_start_ok v d.core.capture w.capture a) w
write_at_ok d (Some WindowSize) v small a b c w = capture_ok _ d refl (write_size_ok v d.core.capture w.capture a) w

accepted_ok : (d : Device) (offset v : ℕ) → v < 2 ^ 32 → write_refusal d offset v ≡ 0 → WellFormed d → WellFormed (write_at d (register_at offset) v)
unfolding write_refusal
accepted_ok d offset v small e w =
    let tests = malformed d ⇒ 1 ∷ register_tests d.core.capture.registers.cr (register_at offset) v in
    let (formed, (there, (writable, (reserved, (supported, (free, end)))))) = accepted tests (omega arith) e in
    write_at_ok d (register_at offset) v small reserved supported free w

pub write_keeps : (d : Device) (offset v : ℕ) → v < 2 ^ 32 → malformed d ≡ false → malformed (write d offset v).device ≡ false
unfolding write
write_keeps d offset v small e =
    by_cond (λ (x : Device). malformed x ≡ false) (eqb (write_refusal d offset v) 0) _ _
    (λ t. well_formed _ (accepted_ok d offset v small (eqb-true _ 0 t) (facts d e)))
    (λ t. e)

-- Another place, at most landed; re-arming sets it to 0.
pub placed_ok : (k : ℕ) (d : Device) → k ≤ d.core.output.counts.landed → WellFormed d → WellFormed (placed k d)
unfolding with_place
placed_ok k d le w =
    let q = w.output in
    record {
      capture = w.capture;
      output = record { depth = q.depth; held = q.held; clear = q.clear; idle = q.idle; completed = q.completed; place = le; equation = q.equation };
    }

pub placing_keeps : (d : Device) (k : ℕ) → malformed d ≡ false → malformed (cond (ltb d.core.output.counts.landed k) d (placed k d)) ≡ false
placing_keeps d k e =
    by_cond (λ (x : Device). malformed x ≡ false) (ltb d.core.output.counts.landed k) _ _
    (λ t. e)
    (λ t. well_formed _ (placed_ok k d (ltb-false _ k t) (facts d e)))

pub rearmed_ok : (d : Device) → WellFormed d → WellFormed (rearmed d)
unfolding rearmed
rearmed_ok d w = placed_ok 0 d (omega arith) w

pub rearm_keeps : (d : Device) → malformed d ≡ false → malformed (rearm d).device ≡ false
unfolding rearm
rearm_keeps d e =
    either (λ (x : Device). malformed x ≡ false) (eqb (first (malformed d ⇒ 1 ∷ [])) 0) (well_formed _ (rearmed_ok d (facts d e))) e
