-- A well-formed capture state stays so when one of its parts changes: pins and syncs, registers, partial word, frame.
-- The idea: one law for each part, by the facts that read it; the others are handed on. Assumes nothing.
use mathlib.Core.Bool.{Bool, true, false, true≢false, false≢true}
use mathlib.Core.Path.{◌≡◌, refl, sym, ◌∙◌}
use Prim.Native.Nat.{ℕ, zero, suc, ◌*◌, ◌^◌, ◌≤◌, ◌<◌}
use native.Mathlib.Omega.{arith}
use lib.Pow.{pow_pos}
use Rattle.bits.specs.Bits.{field, lowered, raised}
use Rattle.registers.specs.Control.{edm, enable}
use Rattle.rules.specs.declared.Registers.{Registers}
use Rattle.rules.specs.declared.Pins.{Pins}
use Rattle.rules.specs.declared.Syncs.{Syncs}
use Rattle.rules.specs.declared.Scan.{Scan}
use Rattle.rules.specs.declared.Frame.{Frame}
use Rattle.rules.specs.declared.Frame.TheVariants.{Closed, Open}
use Rattle.rules.specs.declared.Partial.{Partial}
use Rattle.rules.specs.declared.Capture.{Capture}
use Rattle.rules.specs.State.{is_open, is_taken, with_cr, with_ris, with_registers, with_pins, with_syncs, with_frame, with_partial, raise, clear_capture, close_frame}
use Rattle.packing.specs.Packing.{width, per_word}
use Rattle.packing.proofs.Lanes.{per_word_positive}
use Rattle.rules.specs.Capture.{rate_period}
use Rattle.rules.specs.WellFormed.{unused_bits, excluded}
use Rattle.rules.proofs.WellFormed.{CaptureOk}
use Rattle.laws.proofs.RegisterValues.{raised_fits, lowered_enable, lowered_setup, lowered_allowed, same_fcrc, same_edm}
use Rattle.laws.proofs.Packing.{unused}

-- Other pins, other remembered syncs, a larger bound.
pub pins_syncs_ok : {m n : ℕ} {s : Capture} (p : Pins) (y : Syncs) → m ≤ n → CaptureOk m s → CaptureOk n (with_pins p (with_syncs y s))
unfolding with_pins with_syncs unused_bits
pins_syncs_ok p y le h =
    record {
      unused = h.unused;
      short = h.short;
      allowed = h.allowed;
      ris = h.ris;
      ier = h.ier;
      idle = h.idle;
      inside = h.inside;
      rate = h.rate;
      lines = omega arith;
      pixels = omega arith;
    }

-- Other registers, with the same ENABLE and the same bits 13:1 of CR.
pub registers_ok : {n : ℕ} {s : Capture} (r : Registers)
    → enable r.cr ≡ enable s.registers.cr → field 13 1 r.cr ≡ field 13 1 s.registers.cr
    → excluded r ≡ false → r.ris ≤ 31 → r.ier ≤ 31
    → CaptureOk n s → CaptureOk n (with_registers r s)
unfolding with_registers unused_bits rate_period
registers_ok {s = s} r on setup allowed ris ier h =
    let bits = same_edm r.cr s.registers.cr setup in
    let fcrc = same_fcrc r.cr s.registers.cr setup in
    record {
      unused = rw bits h.unused;
      short = rw bits h.short;
      allowed = allowed;
      ris = ris;
      ier = ier;
      idle = λ off. h.idle (sym on ∙ off);
      inside = h.inside;
      rate = rw fcrc h.rate;
      lines = h.lines;
      pixels = h.pixels;
    }

-- With no frame open there is no partial word.
pub none_partial : (f : Frame) (c : ℕ) → (0 < c → is_taken f ≡ true) → is_open f ≡ false → c ≡ 0
none_partial Closed zero inside e = refl
none_partial Closed (suc c) inside e = absurd (false≢true (inside (omega arith)))
none_partial (Open taken f) c inside e = absurd (true≢false e)

-- Another partial word, within its data and inside a taken frame.
pub partial_ok : {n : ℕ} {s : Capture} (p : Partial)
    → p.bits < 2 ^ (width (edm s.registers.cr) * p.count) → p.count < per_word (edm s.registers.cr)
    → (0 < p.count → is_taken s.frame ≡ true)
    → CaptureOk n s → CaptureOk n (with_partial p s)
unfolding with_partial
partial_ok {s = s} p used short inside h =
    record {
      unused = unused _ used;
      short = short;
      allowed = h.allowed;
      ris = h.ris;
      ier = h.ier;
      idle = λ off. ((h.idle off).0, none_partial s.frame p.count inside (h.idle off).0, (h.idle off).2);
      inside = inside;
      rate = h.rate;
      lines = h.lines;
      pixels = h.pixels;
    }

-- Another place in the open frame.
pub scan_ok : {m n : ℕ} {s : Capture} (taken : Bool) (f g : Scan) → s.frame ≡ Open taken f → g.lines ≤ n → g.pixels ≤ n
    → CaptureOk m s → CaptureOk n (with_frame (Open taken g) s)
unfolding with_frame unused_bits
scan_ok taken f g in_f gl gp h =
    record {
      unused = h.unused;
      short = h.short;
      allowed = h.allowed;
      ris = h.ris;
      ier = h.ier;
      idle = λ off. absurd (true≢false (rw in_f at (h.idle off).0));
      inside = λ pos. rw in_f at (h.inside pos);
      rate = h.rate;
      lines = gl;
      pixels = gp;
    }

pub raise_ok : {n : ℕ} {s : Capture} (k : ℕ) → k ≤ 4 → CaptureOk n s → CaptureOk n (raise k s)
unfolding raise with_ris excluded
raise_ok {s = s} k flag h =
    let r = with_ris (raised k s.registers.ris) s.registers in
    registers_ok r refl refl h.allowed (raised_fits k s.registers.ris flag h.ris) h.ier h

pub clear_capture_ok : {n : ℕ} {s : Capture} → CaptureOk n s → CaptureOk n (clear_capture s)
unfolding clear_capture with_cr
clear_capture_ok {s = s} h =
    let cr = s.registers.cr in
    let r = with_cr (lowered 0 cr) s.registers in
    registers_ok r (lowered_enable cr) (lowered_setup cr) (lowered_allowed s.registers h.allowed) h.ris h.ier h

pub close_frame_ok : {n : ℕ} {s : Capture} → CaptureOk n s → CaptureOk n (close_frame s)
unfolding close_frame with_partial with_frame
close_frame_ok h =
    record {
      unused = unused _ (pow_pos _);
      short = per_word_positive _;
      allowed = h.allowed;
      ris = h.ris;
      ier = h.ier;
      idle = λ off. (refl, refl, (h.idle off).2);
      inside = λ pos. absurd (omega arith);
      rate = h.rate;
      lines = omega arith;
      pixels = omega arith;
    }
