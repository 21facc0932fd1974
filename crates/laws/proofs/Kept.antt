-- Rules 3 to 5, at a working edge before its pixel (`Kept`): a well-formed capture state stays so, CR stays but for CAPTURE, OVR, ERR and the pins stay, and no
-- datum is packed.
-- The idea: rule 4 alone changes CR, by clearing CAPTURE; the flags raised are not OVR or ERR; a partial word is kept or dropped. Assumes nothing.
use mathlib.Core.Bool.{true, not, ◌&&◌, true≢false}
use mathlib.Core.Path.{◌≡◌, refl, sym, ◌∙◌}
use Prim.Native.Nat.{ℕ, ◌/◌, ◌≤◌, ◌<◌}
use native.Mathlib.Nat.{mod-lt}
use native.Mathlib.Omega.{arith}
use lib.Dec.{eqb}
use Rattle.bits.specs.Bits.{bit}
use Rattle.registers.specs.Control.{capture, snapshot, fcrc, enable}
use Rattle.rules.specs.declared.Syncs.{Syncs}
use Rattle.rules.specs.declared.Frame.{Frame}
use Rattle.rules.specs.declared.Frame.TheVariants.{Closed, Open}
use Rattle.rules.specs.declared.Capture.{Capture}
use Rattle.rules.specs.State.{with_cr, with_ris, with_registers, with_frame, with_rate, with_partial, raise, clear_capture, close_frame}
use Rattle.rules.specs.Capture.{Captured, flagged, vsync_flag, line_flag, sync_flags, end_of, frame_closes, rate_period, next_rate, open_frame, starts, start_of, frame_start}
use Rattle.rules.specs.WellFormed.{unused_bits}
use Rattle.bits.proofs.Booleans.{and_true, by_cond, either}
use Rattle.rules.proofs.WellFormed.{CaptureOk}
use Rattle.bits.proofs.Raised.{raised_other, lowered_half}
use Rattle.laws.proofs.RegisterValues.{allowed, capture_enable}
use Rattle.laws.proofs.CaptureParts.{none_partial, raise_ok, clear_capture_ok, close_frame_ok}

pub record Kept (s t : Capture) : Type 0 where
  pub ok : (n : ℕ) → CaptureOk n s → CaptureOk n t
  pub half : t.registers.cr / 2 ≡ s.registers.cr / 2
  pub overrun : bit 1 t.registers.ris ≡ bit 1 s.registers.ris
  pub error : bit 2 t.registers.ris ≡ bit 2 s.registers.ris
  pub pins : t.pins ≡ s.pins
  pub fewer : t.partial.count ≤ s.partial.count

pub kept : (s : Capture) → Kept s s
kept s = record { ok = λ n h. h; half = refl; overrun = refl; error = refl; pins = refl; fewer = omega arith }

pub then : {s t u : Capture} → Kept s t → Kept t u → Kept s u
then a b =
    record {
      ok = λ n h. b.ok n (a.ok n h);
      half = b.half ∙ a.half;
      overrun = b.overrun ∙ a.overrun;
      error = b.error ∙ a.error;
      pins = b.pins ∙ a.pins;
      fewer = omega arith;
    }

-- A flag other than OVR and ERR.
raise_kept : (k : ℕ) (s : Capture) → k ≤ 4 → ¬ (1 ≡ k) → ¬ (2 ≡ k) → Kept s (raise k s)
unfolding raise with_registers with_ris
raise_kept k s flag not_1 not_2 =
    let r = s.registers.ris in
    record { ok = λ n h. raise_ok k flag h; half = refl; overrun = raised_other 1 k r not_1; error = raised_other 2 k r not_2; pins = refl; fewer = omega arith }

-- Rule 3.
vsync_flag_kept : (s : Capture) (now : Syncs) → Kept s (vsync_flag s now)
unfolding vsync_flag
vsync_flag_kept s now =
    either (Kept s) (not s.syncs.vsync && now.vsync) (raise_kept 3 s (omega arith) (omega arith) (omega arith)) (kept s)

line_flag_kept : (s : Capture) (now : Syncs) → Kept s (line_flag s now)
unfolding line_flag
line_flag_kept s now =
    either (Kept s) (not s.syncs.hsync && now.hsync) (raise_kept 4 s (omega arith) (omega arith) (omega arith)) (kept s)

pub sync_flags_kept : (s : Capture) (now : Syncs) → Kept s (sync_flags s now)
unfolding sync_flags
sync_flags_kept s now = then (vsync_flag_kept s now) (line_flag_kept _ now)

-- Rules 4 and 9: with CM 1 CAPTURE is cleared.
clear_capture_kept : (s : Capture) → Kept s (clear_capture s)
unfolding clear_capture with_registers with_cr
clear_capture_kept s = record { ok = λ n h. clear_capture_ok h; half = lowered_half s.registers.cr; overrun = refl; error = refl; pins = refl; fewer = omega arith }

-- Rule 4.
close_frame_kept : (s : Capture) → Kept s (close_frame s)
unfolding close_frame with_frame with_partial
close_frame_kept s = record { ok = λ n h. close_frame_ok h; half = refl; overrun = refl; error = refl; pins = refl; fewer = omega arith }

end_of_kept : (f : Frame) (s : Capture) → Kept s (end_of f s)
unfolding end_of
end_of_kept Closed s = kept s
end_of_kept (Open taken f) s =
    then (either (Kept s) (taken && snapshot s.registers.cr) (clear_capture_kept s) (kept s)) (close_frame_kept _)

pub frame_closes_kept : (s : Capture) (now : Syncs) → Kept s (frame_closes s now)
unfolding frame_closes
frame_closes_kept s now = either (Kept s) now.vsync (end_of_kept s.frame s) (kept s)

-- FRAME, where it is due.
pub flagged_kept : (c : Captured) → Kept c.state (flagged c)
unfolding flagged
flagged_kept c = either (Kept c.state) c.due (raise_kept 0 c.state (omega arith) (omega arith) (omega arith)) (kept _)

-- Rule 5. A frame starts with CAPTURE 1, and so with ENABLE 1.
pub period_positive : (cr : ℕ) → 0 < rate_period cr
unfolding rate_period
period_positive cr =
    either (λ p. 0 < p) (eqb (fcrc cr) 0) (omega arith) (either (λ p. 0 < p) (eqb (fcrc cr) 1) (omega arith) (omega arith))

pub next_rate_fits : (s : Capture) → s.rate < rate_period s.registers.cr → next_rate s < rate_period s.registers.cr
unfolding next_rate
next_rate_fits s h =
    either (λ x. x < rate_period s.registers.cr) (snapshot s.registers.cr) h (mod-lt _ (period_positive s.registers.cr))

capture_on : {n : ℕ} {s : Capture} → CaptureOk n s → capture s.registers.cr ≡ true → enable s.registers.cr ≡ true
capture_on {s = s} h c = capture_enable s.registers.cr (allowed s.registers h.allowed).1.1.1.1.0 c

open_frame_kept : (s : Capture) → s.frame ≡ Closed → capture s.registers.cr ≡ true → Kept s (open_frame s)
unfolding open_frame with_rate with_frame unused_bits
open_frame_kept s closed c =
    record {
      ok =
          λ n h.
          record {
            unused = h.unused;
            short = h.short;
            allowed = h.allowed;
            ris = h.ris;
            ier = h.ier;
            idle = λ off. absurd (true≢false (sym (capture_on h c) ∙ off));
            inside = λ pos. absurd (omega (arith, none_partial s.frame s.partial.count h.inside (rw closed)));
            rate = next_rate_fits s h.rate;
            lines = omega arith;
            pixels = omega arith;
          };
      half = refl;
      overrun = refl;
      error = refl;
      pins = refl;
      fewer = omega arith;
    }

start_of_kept : (f : Frame) (now : Syncs) (s : Capture) → s.frame ≡ f → Kept s (start_of f now s)
unfolding start_of starts
start_of_kept Closed now s closed =
    by_cond (Kept s) (capture s.registers.cr && s.syncs.vsync && not now.vsync) _ _
    (λ t. open_frame_kept s closed (and_true _ _ (and_true _ _ t).0).0)
    (λ t. kept s)
start_of_kept (Open taken f) now s in_f = kept s

pub frame_start_kept : (s : Capture) (now : Syncs) → Kept s (frame_start s now)
unfolding frame_start
frame_start_kept s now = start_of_kept s.frame now s refl

-- Rules 3 to 5.
pub early_kept : (s : Capture) (now : Syncs) → Kept s (frame_start (frame_closes (sync_flags s now) now) now)
early_kept s now = then (sync_flags_kept s now) (then (frame_closes_kept _ now) (frame_start_kept _ now))
