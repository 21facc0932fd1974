-- Samples by the sync pins while VSYNC keeps its level. Where it does not blank no frame ends, and after a word no frame starts (`word_calms`); with no frame open and none to start the
-- samples complete no word (`still_sample`). Assumes nothing.
use mathlib.Core.Bool.{Bool, true, false, cond, not, ◌&&◌, beq, false≢true}
use mathlib.Core.List.{[]}
use Rattle.std.specs.Prelude.{Option, None, Some}
use mathlib.Core.Path.{◌≡◌, refl, sym, ap, ◌∙◌, subst}
use Prim.Native.Nat.{ℕ, ◌+◌}
use native.Mathlib.Omega.{arith}
use lib.Dec.{ltb}
use Rattle.bits.proofs.Booleans.{either}
use Rattle.registers.specs.Control.{capture, embedded, vspol, edm}
use Rattle.samples.specs.Samples.{vsync_pin, pixel_data}
use Rattle.packing.specs.Packing.{per_word}
use Rattle.rules.specs.declared.Syncs.{Syncs}
use Rattle.rules.specs.declared.Scan.{Scan}
use Rattle.rules.specs.declared.Frame.{Frame}
use Rattle.rules.specs.declared.Frame.TheVariants.{Closed, Open}
use Rattle.rules.specs.declared.Capture.{Capture}
use Rattle.rules.specs.State.{is_open, with_ris, with_registers, with_pins, with_syncs, with_frame, with_partial}
use Rattle.rules.specs.Capture.{Captured, no_word, working_edge, enabled, remember_pins, blanking, any_blanks, sync_flags, padded, end_of, frame_closes, frame_pads, frame_end, starts, start_of, frame_start, next_pixel, captured, pack, pixel, pixel_in, pixel_edge, either_word, at_edge}
use Rattle.rules.specs.Sample.{edge, capture_sample}
use Rattle.laws.proofs.Errors.{no_error_by_pins}
use Rattle.laws.proofs.FrameEdges.{sync_flags_flagged}
use Rattle.board_rules.specs.TwoBuffers.{frame_event}

-- No frame is open, and by the pins none starts while VSYNC keeps blanking or not.
pub record Still (blank : Bool) (s : Capture) : Type 0 where
  pub closed : s.frame ≡ Closed
  pub none_starts : s.syncs.vsync && not blank ≡ false

-- Rule 3 leaves frame and syncs.
record Flags (s t : Capture) : Type 0 where
  frame : t.frame ≡ s.frame
  syncs : t.syncs ≡ s.syncs

flags : (s : Capture) (now : Syncs) → Flags s (sync_flags s now)
unfolding with_registers with_ris
flags s now = let f = sync_flags_flagged s now in record { frame = ap (λ (t : Capture). t.frame) f.is; syncs = ap (λ (t : Capture). t.syncs) f.is }

-- At a working edge with no frame open and none to start.
none_ends : (f : Frame) (s : Capture) → f ≡ Closed → (end_of f s ≡ s) × (padded f s ≡ None)
unfolding end_of padded
none_ends f s e = rw e (refl, refl)

closed_ends : (s : Capture) (now : Syncs) → s.frame ≡ Closed → (frame_closes s now ≡ s) × (frame_pads s now ≡ None)
unfolding frame_closes frame_pads
closed_ends s now e =
    let (ends, pads) = none_ends s.frame s e in
    (either (λ (t : Capture). t ≡ s) now.vsync ends refl, either (λ (o : Option ℕ). o ≡ None) now.vsync pads refl)

not_started : (c v n : Bool) → v && not n ≡ false → c && v && not n ≡ false
not_started true v n e = e
not_started false v n e = refl

closed_stays : (s : Capture) (now : Syncs) → s.frame ≡ Closed → s.syncs.vsync && not now.vsync ≡ false → frame_start s now ≡ s
unfolding frame_start start_of starts
closed_stays s now e none_starts = rw (e, not_started (capture s.registers.cr) s.syncs.vsync now.vsync none_starts)

closed_pixel : (s : Capture) (now : Syncs) (x : ℕ) → s.frame ≡ Closed → pixel_edge s now x ≡ no_word s
unfolding pixel_edge pixel_in
closed_pixel s now x e = rw e

not_both : (b : Bool) → b && not b ≡ false
not_both true = refl
not_both false = refl

edge_still : (s : Capture) (now : Syncs) (x : ℕ) → Still now.vsync s → let c = at_edge s now x in (c.word ≡ None) × Still now.vsync c.state
unfolding at_edge frame_end no_word either_word with_syncs
edge_still s now x still =
    let t = sync_flags s now in
    let f = flags s now in
    let closed = f.frame ∙ still.closed in
    let (ends, pads) = closed_ends t now closed in
    rw (ends, pads, closed_stays t now closed (ap (λ (y : Syncs). y.vsync && not now.vsync) f.syncs ∙ still.none_starts), closed_pixel t now x closed)
    (refl, record { closed = closed; none_starts = not_both now.vsync })

-- At a working edge where VSYNC does not blank: an open frame stays open.
pixel_open : (s : Capture) (taken : Bool) (f : Scan) (x : ℕ) → is_open (pixel s taken f x).state.frame ≡ true
unfolding pixel pack no_word with_frame with_partial
pixel_open s taken f x =
    let P : Captured → Type 0 = λ c. is_open c.state.frame ≡ true in
    either P (captured s taken (next_pixel s f)) (either P (ltb (s.partial.count + 1) (per_word (edm s.registers.cr))) refl refl) refl

open_pixel : (f : Frame) (s : Capture) (now : Syncs) (x : ℕ) → s.frame ≡ f → is_open f ≡ true → is_open (pixel_in f s now x).state.frame ≡ true
unfolding pixel_in no_word
open_pixel Closed s now x e is = absurd (false≢true is)
open_pixel (Open taken f) s now x e is = either (λ (c : Captured). is_open c.state.frame ≡ true) (any_blanks now) (ap is_open e) (pixel_open s taken f x)

open_starts : (f : Frame) (s : Capture) (now : Syncs) → is_open f ≡ true → start_of f now s ≡ s
unfolding start_of
open_starts Closed s now is = absurd (false≢true is)
open_starts (Open taken f) s now is = refl

not_closing : (s : Capture) (now : Syncs) → now.vsync ≡ false → frame_closes s now ≡ s
unfolding frame_closes
not_closing s now e = ap (λ (b : Bool). cond b (end_of s.frame s) s) e

edge_open : (s : Capture) (now : Syncs) (x : ℕ) → now.vsync ≡ false → is_open s.frame ≡ true → is_open (at_edge s now x).state.frame ≡ true
unfolding at_edge frame_end frame_start pixel_edge with_syncs
edge_open s now x e is =
    let t = sync_flags s now in
    let still = ap is_open (flags s now).frame ∙ is in
    rw (not_closing t now e, open_starts t.frame t now still) (open_pixel t.frame t now x refl still)

-- The end of a frame that was not open, or still is.
no_end : (f g : Bool) → (f ≡ true → g ≡ true) → f && not g ≡ false
no_end true g on = rw (on refl)
no_end false g on = refl

pub no_event : (s : Capture) (c : Captured) → c.error ≡ false → (is_open s.frame ≡ true → is_open c.state.frame ≡ true) → frame_event s c ≡ []
unfolding frame_event
no_event s c calm on = rw (calm, no_end (is_open s.frame) (is_open c.state.frame) on)

-- A sample.
module _ (blank : Bool) (s : Capture) (w : ℕ) (plain : embedded s.registers.cr ≡ false) (level : beq (vsync_pin w) (vspol s.registers.cr) ≡ blank) where
  pub still_sample : Still blank s → let c = capture_sample s w in (c.word ≡ None) × Still blank c.state
  unfolding capture_sample edge no_word remember_pins with_pins blanking
  still_sample still =
      let seen : Still blank (remember_pins w s) = record { closed = still.closed; none_starts = still.none_starts } in
      rw plain
      (either (λ (c : Captured). (c.word ≡ None) × Still blank c.state) (working_edge s w && enabled s)
      (subst (λ (b : Bool). Still b (remember_pins w s) → let c = at_edge (remember_pins w s) (blanking s w) (pixel_data w) in (c.word ≡ None) × Still b c.state) level
      (edge_still (remember_pins w s) (blanking s w) (pixel_data w))
      seen)
      (refl, seen))

  pub still_event : Still blank s → frame_event s (capture_sample s w) ≡ []
  still_event still = no_event s _ (no_error_by_pins s w plain) (λ is. absurd (false≢true (sym (ap is_open still.closed) ∙ is)))

  pub going_event : blank ≡ false → frame_event s (capture_sample s w) ≡ []
  unfolding capture_sample edge no_word remember_pins with_pins blanking
  going_event off =
      no_event s _ (no_error_by_pins s w plain)
      (rw plain (either (λ (c : Captured). is_open s.frame ≡ true → is_open c.state.frame ≡ true) (working_edge s w && enabled s) (edge_open (remember_pins w s) (blanking s w) (pixel_data w) (level ∙ off)) (λ is. is)))

  pub word_calms : (v : ℕ) → (capture_sample s w).word ≡ Some v → (capture_sample s w).state.syncs.vsync ≡ blank
  unfolding capture_sample edge no_word remember_pins with_pins blanking at_edge with_syncs
  word_calms v =
      rw plain
      (either (λ (c : Captured). c.word ≡ Some v → c.state.syncs.vsync ≡ blank) (working_edge s w && enabled s) (λ is. level) (λ is. let z : ◌≡◌ {A = ℕ} 0 1 = cc in absurd (omega arith)))
