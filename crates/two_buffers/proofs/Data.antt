-- Samples with ESS 1 whose byte begins no code, where none waits (W6): no frame ends and ERR does not rise (`datum-calm`), and with no frame open no word comes and none opens
-- (`closed_step`). The idea: such a byte is a datum. Assumes nothing.
use mathlib.Core.Bool.{Bool, true, false, ◌&&◌}
use mathlib.Core.List.{List, [], ◌∷◌}
use Rattle.std.specs.Prelude.{None}
use mathlib.Core.Path.{◌≡◌, refl, ap}
use Prim.Native.Nat.{ℕ}
use Rattle.bits.proofs.Booleans.{and_zero, either}
use Rattle.registers.specs.Control.{embedded}
use Rattle.codes.specs.declared.Waiting.TheVariants.{Zero}
use Rattle.codes.specs.Bytes.{waiting_count, is_code, waiting_after, released}
use Rattle.rules.specs.declared.Scan.{Scan}
use Rattle.rules.specs.declared.Frame.{Frame}
use Rattle.rules.specs.declared.Frame.TheVariants.{Closed, Open}
use Rattle.rules.specs.declared.Capture.{Capture}
use Rattle.rules.specs.declared.Device.{Device}
use Rattle.rules.specs.State.{is_open, with_pins, with_frame, with_waiting}
use Rattle.rules.specs.Capture.{Captured, no_word, working_edge, enabled, remember_pins}
use Rattle.rules.specs.Codes.{arrived, each_datum, byte_in, at_byte}
use Rattle.rules.specs.Sample.{byte_of, edge, capture_sample}
use Rattle.output.specs.declared.Packing.TheVariants.{Nothing as nothing}
use Rattle.rules.specs.Run.{after_grant, step}
use Rattle.laws.proofs.FrameCodes.{each_same}
use Rattle.board_rules.specs.TwoBuffers.{frame_event}
use Rattle.two_buffers.proofs.Calm.{no_event}
use Rattle.two_buffers.proofs.Idle.{complete_still}

-- A byte that is not the last of a code: ERR does not rise, and an open frame stays open.
each_calm : (s : Capture) (taken : Bool) (f : Scan) (xs : List ℕ) (still : ℕ) → (each_datum s taken f xs still).error ≡ false
unfolding each_datum no_word
each_calm s taken f [] still = refl
each_calm s taken f (x ∷ xs) still = refl

abbrev Stays : Capture → Captured → Type 0
Stays s c = (c.error ≡ false) × (is_open s.frame ≡ true → is_open c.state.frame ≡ true)

byte_stays : (f : Frame) (s : Capture) (x : ℕ) → s.frame ≡ f → Stays s (byte_in f s x)
unfolding byte_in no_word with_waiting with_frame
byte_stays Closed s x e = (refl, λ is. is)
byte_stays (Open taken f) s x e =
    let still = waiting_after s.waiting x in
    let t = with_waiting still (with_frame (Open taken (arrived f)) s) in
    let xs = released s.waiting x in
    either (Stays s) s.syncs.hsync
    (refl, λ is. is)
    (each_calm t taken (arrived f) xs (waiting_count still), λ is. ap is_open (each_same t taken (arrived f) xs (waiting_count still)).frame)

-- With no frame open it brings nothing.
closed_byte : (f : Frame) (s : Capture) (x : ℕ) → f ≡ Closed → s.frame ≡ Closed → ((byte_in f s x).word ≡ None) × ((byte_in f s x).state.frame ≡ Closed)
unfolding byte_in no_word with_waiting
closed_byte f s x e closed = rw e (refl, closed)

-- A sample.
module _ (s : Capture) (w : ℕ) (coded : embedded s.registers.cr ≡ true) (none_waits : s.waiting ≡ Zero) where
  datum_stays : Stays s (capture_sample s w)
  unfolding capture_sample edge at_byte no_word remember_pins with_pins
  datum_stays =
      let plain : is_code s.waiting ≡ false = rw none_waits refl in
      rw coded (either (Stays s) (working_edge s w && enabled s) (rw plain (byte_stays s.frame (remember_pins w s) (byte_of w) refl)) (refl, λ is. is))

  pub datum_error : (capture_sample s w).error ≡ false
  datum_error = datum_stays.0

  pub datum_event : frame_event s (capture_sample s w) ≡ []
  datum_event = no_event s _ datum_stays.0 datum_stays.1

  closed_datum : s.frame ≡ Closed → ((capture_sample s w).word ≡ None) × ((capture_sample s w).state.frame ≡ Closed)
  unfolding capture_sample edge at_byte no_word remember_pins with_pins
  closed_datum closed =
      let plain : is_code s.waiting ≡ false = rw none_waits refl in
      rw coded
      (either (λ (c : Captured). (c.word ≡ None) × (c.state.frame ≡ Closed)) (working_edge s w && enabled s)
      (rw plain (closed_byte s.frame (remember_pins w s) (byte_of w) closed closed))
      (refl, closed))

pub closed_step : (d : Device) (b : List ℕ) (w : ℕ) → embedded d.core.capture.registers.cr ≡ true → d.core.capture.waiting ≡ Zero → d.core.capture.frame ≡ Closed
    → ((step d b w).packed ≡ nothing) × ((step d b w).device.core.capture.frame ≡ Closed)
unfolding step after_grant
closed_step d b w coded none_waits closed =
    let s = d.core.capture in
    let c = capture_sample s w in
    let (no_word_comes, stays) = closed_datum s w coded none_waits closed in
    let (packs, still) = complete_still true c.word c _ no_word_comes (record { closed = stays; none_starts = and_zero c.state.syncs.vsync }) in
    (packs, still.closed)
