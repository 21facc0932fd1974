-- A device that is not malformed, as facts, and the way back. The facts are in two parts, as the rules are: the capture state, given a
-- bound on its lines and pixels, and FIFO, place and counts. Assumes nothing.
use mathlib.Core.Bool.{Bool, true, false, not}
use mathlib.Core.List.{List, [], ◌∷◌}
use mathlib.Core.Path.{◌≡◌}
use Prim.Native.Nat.{ℕ, ◌≤◌, ◌<◌}
use native.Mathlib.Omega.{arith}
use lib.Dec.{ltb}
use lib.ListN.{drop}
use borrow.Author.Tests.{ltb-true, ltb-false, leb-false, eqb-true, le-ltb, lt-leb, eq-eqb, lt-ltb, not-true, not-false}
use Rattle.registers.specs.Control.{edm, enable}
use Rattle.rules.specs.declared.Capture.{Capture}
use Rattle.rules.specs.declared.Device.{Device}
use Rattle.packing.specs.Packing.{per_word}
use Rattle.output.specs.WellFormed.{all_zero, bad_fifo, bad_place, bad_counts}
use Rattle.output.proofs.WellFormed.{OutputOk}
use Rattle.rules.specs.State.{output_of, is_open, is_taken}
use Rattle.rules.specs.Capture.{rate_period}
use Rattle.bits.specs.Tests.{one_holds}
use Rattle.rules.specs.WellFormed.{lines, pixels, unused_bits, full_partial, excluded, bad_flags, active_disabled, partial_outside, bad_rate, above_samples, malformed, clauses}
use Rattle.bits.proofs.Booleans.{or_false, both_false, and_false, imp_and_false, not_is_false, not_is_true, None, none, none_any}

-- The capture state's share, with lines and pixels at most n.
pub record CaptureOk (n : ℕ) (s : Capture) : Type 0 where
  pub unused : unused_bits s ≡ false
  pub short : s.partial.count < per_word (edm s.registers.cr)
  pub allowed : excluded s.registers ≡ false
  pub ris : s.registers.ris ≤ 31
  pub ier : s.registers.ier ≤ 31
  pub idle : enable s.registers.cr ≡ false → (is_open s.frame ≡ false) × (s.partial.count ≡ 0) × (s.rate ≡ 0)
  pub inside : 0 < s.partial.count → is_taken s.frame ≡ true
  pub rate : s.rate < rate_period s.registers.cr
  pub lines : lines s.frame ≤ n
  pub pixels : pixels s.frame ≤ n

-- With the share of FIFO, place and counts.
pub record WellFormed (d : Device) : Type 0 where
  pub capture : CaptureOk d.core.output.counts.samples d.core.capture
  pub output : OutputOk (enable d.core.capture.registers.cr) (output_of d)

-- What must not be while ENABLE is 0.
idles : Device → List Bool
idles d = is_open d.core.capture.frame ∷ ltb 0 d.core.output.held ∷ ltb 0 d.core.capture.partial.count ∷ ltb 0 d.core.capture.rate ∷ []

above : Device → List Bool
above d =
    ltb d.core.output.counts.samples (lines d.core.capture.frame) ∷
    ltb d.core.output.counts.samples (pixels d.core.capture.frame) ∷
    ltb d.core.output.counts.samples d.core.output.counts.completed ∷
    []

idle : (d : Device) → active_disabled d ≡ false → enable d.core.capture.registers.cr ≡ false → None (idles d)
unfolding active_disabled idles
idle d e off =
    none (idles d) (and_false (not (enable d.core.capture.registers.cr)) (one_holds (idles d)) e (not_is_true _ off))

is_zero : (n : ℕ) → ltb 0 n ≡ false → n ≡ 0
is_zero n e = let h : n ≤ 0 = ltb-false 0 n e in omega arith

pub facts : (d : Device) → malformed d ≡ false → WellFormed d
unfolding malformed bad_fifo full_partial bad_flags partial_outside bad_rate above_samples bad_place bad_counts idles above
facts d e =
    let n = none (clauses d) e in
    let fifo = or_false (ltb d.core.output.depth d.core.output.held) (not (all_zero (drop d.core.output.held d.slots))) n.0 in
    let flags = or_false (ltb 31 d.core.capture.registers.ris) (ltb 31 d.core.capture.registers.ier) n.1.1.1.1.0 in
    let off = idle d n.1.1.1.1.1.0 in
    let counted = none (above d) n.1.1.1.1.1.1.1.1.0 in
    record {
      capture =
          record {
            unused = n.1.0;
            short = leb-false _ _ n.1.1.0;
            allowed = n.1.1.1.0;
            ris = ltb-false _ _ flags.0;
            ier = ltb-false _ _ flags.1;
            idle = λ x. ((off x).0, is_zero _ (off x).1.1.0, is_zero _ (off x).1.1.1.0);
            inside = λ h. not-false _ (and_false _ _ n.1.1.1.1.1.1.0 (lt-ltb 0 _ h));
            rate = leb-false _ _ n.1.1.1.1.1.1.1.0;
            lines = ltb-false _ _ counted.0;
            pixels = ltb-false _ _ counted.1.0;
          };
      output =
          record {
            depth = n.1.1.1.1.1.1.1.1.1.1.1.0;
            held = ltb-false _ _ fifo.0;
            clear = not-false _ fifo.1;
            idle = λ x. is_zero _ (off x).1.0;
            completed = ltb-false _ _ counted.1.1.0;
            place = ltb-false _ _ n.1.1.1.1.1.1.1.1.1.0;
            equation = eqb-true _ _ (not-false _ n.1.1.1.1.1.1.1.1.1.1.0);
          };
    }

zero_test : (n : ℕ) → n ≡ 0 → ltb 0 n ≡ false
zero_test n h = le-ltb 0 n (omega arith)

pub well_formed : (d : Device) → WellFormed d → malformed d ≡ false
unfolding malformed bad_fifo full_partial bad_flags active_disabled partial_outside bad_rate above_samples bad_place bad_counts idles above
well_formed d w =
    let c = w.capture in
    let q = w.output in
    let off : enable d.core.capture.registers.cr ≡ false → None (idles d) =
    λ x. ((c.idle x).0, (zero_test _ (q.idle x), (zero_test _ (c.idle x).1, (zero_test _ (c.idle x).2, tt)))) in
    let counted = none_any (above d) (le-ltb _ _ c.lines, (le-ltb _ _ c.pixels, (le-ltb _ _ q.completed, tt))) in
    let last : None (drop 8 (clauses d)) = (counted, (le-ltb _ _ q.place, (not_is_false _ (eq-eqb _ _ q.equation), (q.depth, tt)))) in
    let idle = imp_and_false _ _ (λ x. none_any (idles d) (off (not-true _ x))) in
    let inside = imp_and_false _ _ (λ x. not_is_false _ (c.inside (ltb-true 0 _ x))) in
    let middle : None (drop 5 (clauses d)) = (idle, (inside, (lt-leb _ _ c.rate, last))) in
    let flags = both_false _ _ (le-ltb _ _ c.ris) (le-ltb _ _ c.ier) in
    let fifo = both_false _ _ (le-ltb _ _ q.held) (not_is_false _ q.clear) in
    none_any (clauses d) (fifo, (c.unused, (lt-leb _ _ c.short, (c.allowed, (flags, middle)))))
