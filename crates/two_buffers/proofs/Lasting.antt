-- Samples that last (`Lasts`) end no frame, let ERR not rise, and bring no word after a lost one (`lasts_calm`), from a device and frame buffer on. The idea: a lost word closes the frame, and with no
-- frame open data bring nothing, and neither do samples by the pins while VSYNC keeps its level. Assumes nothing.
use mathlib.Core.Bool.{Bool, true, false, beq, true≢false}
use mathlib.Core.List.{List, [], ◌∷◌}
use mathlib.Core.Path.{◌≡◌, refl, ap, ◌∙◌}
use Prim.Native.Nat.{ℕ}
use native.Mathlib.Omega.{arith}
use Rattle.bits.proofs.Booleans.{and_zero}
use Rattle.registers.specs.Control.{embedded, vspol}
use Rattle.samples.specs.Samples.{vsync_pin}
use Rattle.codes.specs.declared.Waiting.TheVariants.{Zero}
use Rattle.rules.specs.declared.Capture.{Capture}
use Rattle.rules.specs.declared.Frame.{Frame}
use Rattle.rules.specs.declared.Frame.TheVariants.{Closed, Open}
use Rattle.rules.specs.declared.Device.{Device}
use Rattle.rules.specs.State.{capture_of, is_open}
use Rattle.rules.specs.Sample.{capture_sample}
use Rattle.output.specs.declared.Packing.TheVariants.{Nothing as nothing, Lost as lost}
use Rattle.rules.specs.Run.{step}
use Rattle.laws.proofs.RegisterValues.{half_setup, same_embedded, same_vspol}
use Rattle.laws.proofs.KeepsSample.{step_half}
use Rattle.laws.proofs.Errors.{no_error_by_pins}
use Rattle.laws.proofs.DataBytes.{data_waits}
use Rattle.board_rules.specs.TwoBuffers.{frame_event}
use Rattle.sampling.specs.DataBytes.{NoneBegins}
use Rattle.two_buffers.specs.Stretches.{AllBlank, Lasts}
use Rattle.two_buffers.proofs.Calm.{Still, still_event, going_event}
use Rattle.two_buffers.proofs.Idle.{still_step, lost_still, lost_closed}
use Rattle.two_buffers.proofs.Data.{datum_error, datum_event, closed_step}

-- A sample at which ERR does not rise and no frame ends.
pub record Rests (s : Capture) (w : ℕ) : Type 0 where
  pub error : (capture_sample s w).error ≡ false
  pub event : frame_event s (capture_sample s w) ≡ []

-- Such samples that complete no word; and such that complete none after a lost one.
unfoldable pub Silent : Device → List ℕ → List ℕ → Type 0
Silent d b [] = Unit {0}
Silent d b (w ∷ ws) = Rests (capture_of d) w × ((step d b w).packed ≡ nothing) × Silent (step d b w).device (step d b w).buffer ws

unfoldable pub Calm : Device → List ℕ → List ℕ → Type 0
Calm d b [] = Unit {0}
Calm d b (w ∷ ws) =
    Rests (capture_of d) w × ((step d b w).packed ≡ lost → Silent (step d b w).device (step d b w).buffer ws) × Calm (step d b w).device (step d b w).buffer ws

silent_calm : (d : Device) (b ws : List ℕ) → Silent d b ws → Calm d b ws
unfolding Silent Calm
silent_calm d b [] silent = tt
silent_calm d b (w ∷ ws) silent =
    let (rests, none_comes, rest) = silent in
    (rests, λ e. let z : ◌≡◌ {A = ℕ} 0 1 = cc in absurd (omega arith), silent_calm (step d b w).device (step d b w).buffer ws rest)

-- ESS and VSPOL stay.
step_embedded : (d : Device) (b : List ℕ) (w : ℕ) → embedded (step d b w).device.core.capture.registers.cr ≡ embedded d.core.capture.registers.cr
step_embedded d b w = same_embedded _ _ (half_setup _ _ (step_half d b w))

step_vspol : (d : Device) (b : List ℕ) (w : ℕ) → vspol (step d b w).device.core.capture.registers.cr ≡ vspol d.core.capture.registers.cr
step_vspol d b w = same_vspol _ _ (half_setup _ _ (step_half d b w))

-- By the pins.
still_silent : (blank polarity : Bool) (d : Device) (b ws : List ℕ) → embedded d.core.capture.registers.cr ≡ false → vspol d.core.capture.registers.cr ≡ polarity
    → Still blank d.core.capture → AllBlank blank polarity ws → Silent d b ws
unfolding Silent AllBlank
still_silent blank polarity d b [] plain same still levels = tt
still_silent blank polarity d b (w ∷ ws) plain same still levels =
    let s = d.core.capture in
    let level = ap (λ (p : Bool). beq (vsync_pin w) p) same ∙ levels.0 in
    let (none_comes, after) = still_step blank d b w plain level still in (
      record { error = no_error_by_pins s w plain; event = still_event blank s w plain level still },
      none_comes,
      still_silent blank polarity (step d b w).device (step d b w).buffer ws (step_embedded d b w ∙ plain) (step_vspol d b w ∙ same) after levels.1,
    )

level_calm : (polarity : Bool) (d : Device) (b ws : List ℕ) → embedded d.core.capture.registers.cr ≡ false → vspol d.core.capture.registers.cr ≡ polarity
    → AllBlank false polarity ws → Calm d b ws
unfolding Calm AllBlank
level_calm polarity d b [] plain same levels = tt
level_calm polarity d b (w ∷ ws) plain same levels =
    let s = d.core.capture in
    let level = ap (λ (p : Bool). beq (vsync_pin w) p) same ∙ levels.0 in
    let plain' = step_embedded d b w ∙ plain in
    let same' = step_vspol d b w ∙ same in (
      record { error = no_error_by_pins s w plain; event = going_event false s w plain level refl },
      λ e. still_silent false polarity (step d b w).device (step d b w).buffer ws plain' same' (lost_still d b w plain level e) levels.1,
      level_calm polarity (step d b w).device (step d b w).buffer ws plain' same' levels.1,
    )

-- Data.
closed_silent : (d : Device) (b ws : List ℕ) → embedded d.core.capture.registers.cr ≡ true → d.core.capture.waiting ≡ Zero → d.core.capture.frame ≡ Closed
    → NoneBegins ws → Silent d b ws
unfolding Silent NoneBegins
closed_silent d b [] coded none_waits closed all = tt
closed_silent d b (w ∷ ws) coded none_waits closed all =
    let s = d.core.capture in
    let (none_comes, stays) = closed_step d b w coded none_waits closed in (
      record { error = datum_error s w coded none_waits; event = datum_event s w coded none_waits },
      none_comes,
      closed_silent (step d b w).device (step d b w).buffer ws (step_embedded d b w ∙ coded) (data_waits d b w coded none_waits all.0) stays all.1,
    )

data_calm : (d : Device) (b ws : List ℕ) → embedded d.core.capture.registers.cr ≡ true → d.core.capture.waiting ≡ Zero → NoneBegins ws → Calm d b ws
unfolding Calm NoneBegins
data_calm d b [] coded none_waits all = tt
data_calm d b (w ∷ ws) coded none_waits all =
    let s = d.core.capture in
    let coded' = step_embedded d b w ∙ coded in
    let none_waits' = data_waits d b w coded none_waits all.0 in (
      record { error = datum_error s w coded none_waits; event = datum_event s w coded none_waits },
      λ e. closed_silent (step d b w).device (step d b w).buffer ws coded' none_waits' (lost_closed d b w e) all.1,
      data_calm (step d b w).device (step d b w).buffer ws coded' none_waits' all.1,
    )

-- All of them.
closed_is : (f : Frame) → is_open f ≡ false → f ≡ Closed
closed_is Closed e = refl
closed_is (Open taken f) e = absurd (true≢false e)

pub lasts_calm : (d : Device) (b ws : List ℕ) → Lasts (embedded d.core.capture.registers.cr) d.core.capture ws → Calm d b ws
lasts_calm d b ws = go (embedded d.core.capture.registers.cr) refl
  where
    s : Capture
    s = d.core.capture

    at_level : (blank : Bool) → embedded s.registers.cr ≡ false → AllBlank blank (vspol s.registers.cr) ws → (blank ≡ true → is_open s.frame ≡ false) → Calm d b ws
    at_level true plain levels idle =
        silent_calm d b ws (still_silent true (vspol s.registers.cr) d b ws plain refl (record { closed = closed_is s.frame (idle refl); none_starts = and_zero s.syncs.vsync }) levels)
    at_level false plain levels idle = level_calm (vspol s.registers.cr) d b ws plain refl levels

    go : (coded : Bool) → embedded s.registers.cr ≡ coded → Lasts coded s ws → Calm d b ws
    go true coded lasts = data_calm d b ws coded lasts.0 lasts.1
    go false plain lasts = at_level lasts.blank plain lasts.levels lasts.idle
