-- An accepted write of CR keeps a well-formed capture state.
-- The idea: where ENABLE is and stays 1 the setup stays, and else the write leaves the state at rest, for which every setup will do. Assumes nothing.
use mathlib.Core.Bool.{Bool, true, false, cond, ◌&&◌, true≢false}
use mathlib.Core.Path.{◌≡◌, refl, sym, ◌∙◌}
use Prim.Native.Nat.{ℕ, ◌≤◌}
use native.Mathlib.Nat.{mul-zero}
use native.Mathlib.Omega.{arith}
use lib.Pow.{pow_pos}
use borrow.Author.Tests.{eqb-true, not-false}
use Rattle.bits.specs.Bits.{field}
use Rattle.registers.specs.Control.{edm, enable, unsupported}
use Rattle.registers.specs.Map.{reserved_set}
use Rattle.registers.specs.declared.Register.TheVariants.{Control}
use Rattle.rules.specs.declared.Frame.{Frame}
use Rattle.rules.specs.declared.Frame.TheVariants.{Closed, Open}
use Rattle.rules.specs.declared.Capture.{Capture}
use Rattle.rules.specs.State.{is_open, close_frame, with_cr, with_registers, with_syncs, with_frame, with_rate, with_partial, with_waiting}
use Rattle.rules.specs.WellFormed.{excluded, unused_bits}
use Rattle.rules.specs.RegisterCalls.{changes_setup, enabling, disabling, switch_enable, capture_rises, switch_capture, write_control}
use Rattle.bits.proofs.Booleans.{or_false, and_false, by_cond, either}
use Rattle.rules.proofs.WellFormed.{CaptureOk}
use Rattle.laws.proofs.RegisterValues.{allowed_cr}
use Rattle.laws.proofs.Packing.{used, unused}
use Rattle.laws.proofs.CaptureParts.{registers_ok}
use Rattle.laws.proofs.Kept.{period_positive}
use Rattle.packing.proofs.Lanes.{per_word_positive}

-- At rest: no frame open, no partial word, the rate counter 0.
record Rest (s : Capture) : Type 0 where
  closed : s.frame ≡ Closed
  count : s.partial.count ≡ 0
  bits : s.partial.bits ≡ 0
  rate : s.rate ≡ 0

-- Then every allowed setup will do.
rest_ok : {n : ℕ} (s : Capture) → excluded s.registers ≡ false → s.registers.ris ≤ 31 → s.registers.ier ≤ 31
    → Rest s → CaptureOk n s
rest_ok s allowed ris ier r =
    record {
      unused = unused s (rw r.bits (pow_pos _));
      short = rw r.count (per_word_positive (edm s.registers.cr));
      allowed = allowed;
      ris = ris;
      ier = ier;
      idle = λ off. (rw r.closed, r.count, r.rate);
      inside = λ pos. absurd (omega arith);
      rate = rw r.rate (period_positive s.registers.cr);
      lines = rw r.closed (omega arith);
      pixels = rw r.closed (omega arith);
    }

pub closed_frame : (f : Frame) → is_open f ≡ false → f ≡ Closed
closed_frame Closed e = refl
closed_frame (Open taken f) e = absurd (true≢false e)

-- A well-formed state with ENABLE 0 is at rest.
idle_rest : {n : ℕ} (s : Capture) → CaptureOk n s → enable s.registers.cr ≡ false → Rest s
idle_rest s h off =
    let (closed, count, rate) = h.idle off in
    let b = rw (count, mul-zero _) at (used s h.unused) in
    record { closed = closed_frame s.frame closed; count = count; bits = omega arith; rate = rate }

-- The rate counter set to 0.
rate_zero_ok : {n : ℕ} {s : Capture} → CaptureOk n s → CaptureOk n (with_rate 0 s)
unfolding with_rate unused_bits
rate_zero_ok h =
    record {
      unused = h.unused;
      short = h.short;
      allowed = h.allowed;
      ris = h.ris;
      ier = h.ier;
      idle = λ off. ((h.idle off).0, (h.idle off).1, refl);
      inside = h.inside;
      rate = omega arith;
      lines = h.lines;
      pixels = h.pixels;
    }

-- CR written, and nothing else.
abbrev put : ℕ → Capture → Capture
put v s = with_registers (with_cr v s.registers) s

-- CR written to t, which the switch of ENABLE has left, after the switch of CAPTURE.
abbrev Written : ℕ → ℕ → Bool → Capture → Type 0
Written n v rises t = CaptureOk n (put v (switch_capture rises t))

-- Where ENABLE is 1 an accepted write leaves the setup.
pub setup_stays : (cr v : ℕ) → enable cr && changes_setup cr v ≡ false → enable cr ≡ true → field 13 1 v ≡ field 13 1 cr
unfolding changes_setup
setup_stays cr v e on = sym (eqb-true _ _ (not-false _ (or_false _ _ (and_false _ _ e on)).0))

module _ {n : ℕ} (v : ℕ) (reserved : reserved_set Control v ≡ false) (supported : unsupported v ≡ false) (s : Capture) (h : CaptureOk n s) where
  put_rest : (t : Capture) → t.registers ≡ s.registers → Rest t → CaptureOk n (put v t)
  unfolding with_registers with_cr
  put_rest t same r =
      rest_ok (put v t) (allowed_cr v t.registers reserved supported (rw same h.allowed)) (rw same h.ris) (rw same h.ier)
      (record { closed = r.closed; count = r.count; bits = r.bits; rate = r.rate })

  rest_written : (rises : Bool) (t : Capture) → t.registers ≡ s.registers → Rest t → Written n v rises t
  unfolding switch_capture with_rate
  rest_written rises t same r =
      either (λ (u : Capture). CaptureOk n (put v u)) rises
      (put_rest (with_rate 0 t) same (record { closed = r.closed; count = r.count; bits = r.bits; rate = refl }))
      (put_rest t same r)

  -- ENABLE was 1: it stays 1, or it falls.
  steady_written : (rises : Bool) → enable v ≡ enable s.registers.cr → field 13 1 v ≡ field 13 1 s.registers.cr → Written n v rises s
  unfolding switch_capture with_rate with_cr
  steady_written rises on setup =
      let r = with_cr v s.registers in
      let e = allowed_cr v s.registers reserved supported h.allowed in
      either (λ (u : Capture). CaptureOk n (put v u)) rises
      (registers_ok r on setup e h.ris h.ier (rate_zero_ok h))
      (registers_ok r on setup e h.ris h.ier h)

  was_on : (rises : Bool) → enable s.registers.cr ≡ true → field 13 1 v ≡ field 13 1 s.registers.cr
      → Written n v rises (cond (enable v) s (disabling s))
  unfolding disabling close_frame with_rate with_frame with_partial with_waiting
  was_on rises on setup =
      by_cond (Written n v rises) (enable v) _ _
      (λ stays. steady_written rises (stays ∙ sym on) setup)
      (λ falls. rest_written rises (disabling s) refl (record { closed = refl; count = refl; bits = refl; rate = refl }))

  -- ENABLE was 0: it rises, or it stays 0.
  was_off : (rises : Bool) → Rest s → Written n v rises (cond (enable v) (enabling s) s)
  unfolding enabling with_rate with_frame with_syncs with_waiting
  was_off rises r =
      either (Written n v rises) (enable v)
      (rest_written rises (enabling s) refl (record { closed = refl; count = r.count; bits = r.bits; rate = refl }))
      (rest_written rises s refl r)

  pub write_control_ok : enable s.registers.cr && changes_setup s.registers.cr v ≡ false → CaptureOk n (write_control v s)
  unfolding write_control switch_enable
  write_control_ok e =
      let rises = capture_rises v s in
      by_cond (Written n v rises) (enable s.registers.cr) _ _
      (λ on. was_on rises on (setup_stays s.registers.cr v e on))
      (λ off. was_off rises (idle_rest s h off))
