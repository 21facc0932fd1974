-- Stretches of samples that pad no word (W4): every one without JPEG, and those of `stretch`. The idea: where VSYNC does not blank no frame ends, and where it blanks and no datum waits
-- none comes to wait. Assumes nothing.
use mathlib.Core.Bool.{Bool, true, false, ◌&&◌, beq, false≢true}
use mathlib.Core.List.{List, [], ◌∷◌}
use mathlib.Core.Path.{◌≡◌, refl, sym, ◌∙◌}
use Prim.Native.Nat.{ℕ, ◌+◌, ◌≤◌, ◌<◌}
use native.Mathlib.Omega.{arith}
use lib.Dec.{ltb}
use lib.ListN.{length, take}
use borrow.Author.Tests.{ltb-false}
use Rattle.bits.proofs.Booleans.{by_cond, and_unit}
use Rattle.registers.specs.Control.{jpeg, embedded, vspol}
use Rattle.samples.specs.Samples.{vsync_pin, level_run}
use Rattle.samples.proofs.Levels.{AtLevel, run_level, run_within}
use Rattle.rules.specs.declared.Device.{Device}
use Rattle.rules.specs.State.{capture_of}
use Rattle.rules.specs.Run.{step}
use Rattle.laws.proofs.RegisterValues.{half_setup, same_jpeg, same_embedded, same_vspol}
use Rattle.laws.proofs.KeepsSample.{step_half}
use Rattle.laws.proofs.Unpadded.{none_without_jpeg, none_unless_vsync, none_without_data, step_without_data}
use Rattle.sampling.specs.Kinds.{Each}
use Rattle.sampling.specs.Unpadded.{Plain, Unpadded, stretch}

-- ESS stays.
step_plain : (d : Device) (b : List ℕ) (w : ℕ) → embedded d.core.capture.registers.cr ≡ false → embedded (step d b w).device.core.capture.registers.cr ≡ false
step_plain d b w e = same_embedded _ _ (half_setup _ _ (step_half d b w)) ∙ e

pub without_jpeg : (d : Device) (b ws : List ℕ) → embedded d.core.capture.registers.cr ≡ false → jpeg d.core.capture.registers.cr ≡ false → Unpadded d b ws
unfolding Each
without_jpeg d b [] plain e = tt
without_jpeg d b (w ∷ ws) plain e =
    ((plain, none_without_jpeg (capture_of d) w e), without_jpeg (step d b w).device (step d b w).buffer ws (step_plain d b w plain) (same_jpeg _ _ (half_setup _ _ (step_half d b w)) ∙ e))

beq_same : (a : Bool) → beq a a ≡ true
beq_same true = refl
beq_same false = refl

-- Samples at which VSYNC has a level pad no word where it does not blank at that level, or no datum waits.
step_vspol : (d : Device) (b : List ℕ) (w : ℕ) → vspol (step d b w).device.core.capture.registers.cr ≡ vspol d.core.capture.registers.cr
step_vspol d b w = same_vspol _ _ (half_setup _ _ (step_half d b w))

quiet : (level : Bool) (d : Device) (b ws : List ℕ) → embedded d.core.capture.registers.cr ≡ false → AtLevel level ws → beq level (vspol d.core.capture.registers.cr) ≡ false → Unpadded d b ws
unfolding AtLevel Each
quiet level d b [] plain all e = tt
quiet level d b (w ∷ ws) plain all e =
    ((plain, none_unless_vsync (capture_of d) w (rw all.0 e)), quiet level (step d b w).device (step d b w).buffer ws (step_plain d b w plain) all.1 (rw (step_vspol d b w) e))

blanked : (level : Bool) (d : Device) (b ws : List ℕ) → embedded d.core.capture.registers.cr ≡ false → AtLevel level ws → beq level (vspol d.core.capture.registers.cr) ≡ true
    → d.core.capture.partial.count ≡ 0 → Unpadded d b ws
unfolding AtLevel Each
blanked level d b [] plain all e none_waits = tt
blanked level d b (w ∷ ws) plain all e none_waits = (
  (plain, none_without_data (capture_of d) w none_waits),
  blanked level (step d b w).device (step d b w).buffer ws (step_plain d b w plain) all.1 (rw (step_vspol d b w) e) (step_without_data d b w plain (rw all.0 e) none_waits),
)

at_level : (level : Bool) (d : Device) (b ws : List ℕ) → embedded d.core.capture.registers.cr ≡ false → AtLevel level ws
    → (beq level (vspol d.core.capture.registers.cr) ≡ true → d.core.capture.partial.count ≡ 0) → Unpadded d b ws
at_level level d b ws plain all waits = go (beq level (vspol d.core.capture.registers.cr)) refl
  where
    go : (blanks : Bool) → beq level (vspol d.core.capture.registers.cr) ≡ blanks → Unpadded d b ws
    go true e = blanked level d b ws plain all e (waits e)
    go false e = quiet level d b ws plain all e

-- The stretch from a sample that pads none.
no_wait : (n : ℕ) (blanks : Bool) → ltb 0 n && blanks ≡ false → blanks ≡ true → n ≡ 0
no_wait n true e is = let none : ltb 0 n ≡ false = sym (and_unit (ltb 0 n)) ∙ e in omega (arith, ltb-false 0 n none)
no_wait n false e is = absurd (false≢true is)

alone : (d : Device) (b : List ℕ) (w : ℕ) → Plain (capture_of d) w → Unpadded d b (w ∷ [])
unfolding Each
alone d b w e = (e, tt)

module _ (d : Device) (b rest : List ℕ) {w : ℕ} {ws : List ℕ} (is : rest ≡ w ∷ ws) where
  pub stretch_within : let n = stretch rest 0 d.core.capture.partial.count (vspol d.core.capture.registers.cr) in (0 < n) × (n ≤ length rest)
  unfolding stretch level_run
  stretch_within =
      let level = vsync_pin w in
      rw is
      (by_cond (λ (n : ℕ). (0 < n) × (n ≤ length (w ∷ ws))) (ltb 0 d.core.capture.partial.count && beq level (vspol d.core.capture.registers.cr))
      (0 + 1) (0 + level_run level (w ∷ ws))
      (λ e. (omega arith, omega arith))
      (λ e. (rw (beq_same level) (omega arith), omega (arith, run_within level (w ∷ ws)))))

  pub stretch_unpadded : Plain (capture_of d) w → Unpadded d b (take (stretch rest 0 d.core.capture.partial.count (vspol d.core.capture.registers.cr)) rest)
  unfolding stretch
  stretch_unpadded first =
      let level = vsync_pin w in
      let polarity = vspol d.core.capture.registers.cr in
      let waiting = d.core.capture.partial.count in
      rw is
      (by_cond (λ (n : ℕ). Unpadded d b (take n (w ∷ ws))) (ltb 0 waiting && beq level polarity) (0 + 1) (0 + level_run level (w ∷ ws))
      (λ e. alone d b w first)
      (λ e.
      let so_many : 0 + level_run level (w ∷ ws) ≡ level_run level (w ∷ ws) = omega arith in
      rw so_many (at_level level d b (take (level_run level (w ∷ ws)) (w ∷ ws)) first.0 (run_level level (w ∷ ws)) (no_wait waiting (beq level polarity) e))))
