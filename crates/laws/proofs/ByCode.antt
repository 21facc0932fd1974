-- What holds of the few things that a code can do holds of what it does (`by_code`); and of a sample, of its three ways (`by_sample`). Assumes nothing.
use mathlib.Core.Bool.{Bool, false, not, ◌&&◌, true≢false}
use mathlib.Core.Path.{◌≡◌, refl}
use Prim.Native.Nat.{ℕ}
use borrow.Author.Tests.{not-true}
use Rattle.bits.proofs.Booleans.{and_true, by_cond, either}
use Rattle.registers.specs.Control.{embedded}
use Rattle.samples.specs.Samples.{pixel_data}
use Rattle.codes.specs.declared.Meaning.{Meaning}
use Rattle.codes.specs.declared.Meaning.TheVariants.{FrameEnd, FrameStart, LineEnd, LineStart, Unmatched}
use Rattle.codes.specs.Meaning.{by_line_starts}
use Rattle.rules.specs.declared.Syncs.{Syncs}
use Rattle.rules.specs.declared.Scan.{Scan}
use Rattle.rules.specs.declared.Frame.{Frame}
use Rattle.rules.specs.declared.Frame.TheVariants.{Closed, Open}
use Rattle.rules.specs.declared.Capture.{Capture}
use Rattle.rules.specs.State.{is_open, with_syncs}
use Rattle.rules.specs.Capture.{Captured, no_word, working_edge, enabled, remember_pins, blanking, at_edge}
use Rattle.rules.specs.Codes.{in_line, seeks, frame_opens, line_opens, closes, errs, line_start, obeyed, sought, at_code, at_byte, line_ended, frame_ended}
use Rattle.rules.specs.Sample.{byte_of, edge, capture_sample}

closed_when : (f : Frame) → is_open f ≡ false → f ≡ Closed
closed_when Closed e = refl
closed_when (Open taken f) e = absurd (true≢false e)

module _ (P : Captured → Type 0) (s : Capture) (nothing : P (no_word s)) (closed : (now : Syncs) → P (closes s now)) (erred : P (errs s))
    (opened : s.frame ≡ Closed → P (no_word (frame_opens s))) (lined : (taken : Bool) (f : Scan) → s.frame ≡ Open taken f → P (no_word (line_opens taken f s)))
    (found : s.frame ≡ Closed → P (no_word (with_syncs frame_ended s))) where
  by_line_start : (f : Frame) → s.frame ≡ f → P (line_start f s)
  unfolding line_start
  by_line_start Closed e = either P (by_line_starts s.registers.escr) (opened e) erred
  by_line_start (Open taken f) e = either P (in_line s) erred (lined taken f e)

  by_meaning : (m : Meaning) → P (obeyed m s)
  unfolding obeyed
  by_meaning FrameEnd = either P (is_open s.frame) (closed frame_ended) nothing
  by_meaning FrameStart = by_cond P (is_open s.frame) _ _ (λ t. erred) (λ t. opened (closed_when s.frame t))
  by_meaning LineEnd = either P (in_line s) (closed line_ended) erred
  by_meaning LineStart = by_line_start s.frame refl
  by_meaning Unmatched = nothing

  by_search : (m : Meaning) → s.frame ≡ Closed → P (no_word (sought m s))
  unfolding sought
  by_search FrameEnd e = either (λ (t : Capture). P (no_word t)) (by_line_starts s.registers.escr) (found e) nothing
  by_search FrameStart e = opened e
  by_search LineEnd e = nothing
  by_search LineStart e = nothing
  by_search Unmatched e = nothing

  pub by_code : (m : Meaning) → P (at_code m s)
  unfolding at_code seeks
  by_code m =
      by_cond P (not (is_open s.frame) && not s.syncs.vsync) _ _
      (λ t. by_search m (closed_when s.frame (not-true _ (and_true _ _ t).0)))
      (λ t. by_meaning m)

pub by_sample : (P : Captured → Type 0) (s : Capture) (w : ℕ) → P (at_byte (remember_pins w s) (byte_of w)) → P (at_edge (remember_pins w s) (blanking s w) (pixel_data w))
    → P (no_word (remember_pins w s)) → P (capture_sample s w)
unfolding capture_sample edge
by_sample P s w coded plain over = either P (working_edge s w && enabled s) (either P (embedded s.registers.cr) coded plain) over
