-- Each kind of sample is what the rules say of it: the laws of the kinds. Assumes nothing.
use mathlib.Core.List.{List}
use mathlib.Core.Path.{◌≡◌, refl}
use Prim.Native.Nat.{ℕ}
use Rattle.rules.specs.declared.Device.{Device}
use Rattle.rules.specs.State.{capture_of}
use Rattle.rules.specs.Sample.{capture_sample}
use Rattle.rules.specs.Unpadded.{unpadded_sample}
use Rattle.rules.specs.Run.{after_grant, step}
use Rattle.rules.proofs.WellFormed.{WellFormed}
use Rattle.laws.proofs.RegisterValues.{uncropped}
use Rattle.laws.proofs.Unpadded.{sample_padded}
use Rattle.laws.proofs.UnpaddedSample as laws
use Rattle.capture.specs.Answers.{ended}
use Rattle.sampling.specs.Kinds.{Pads, padded, Coded, IsDatum, stepped_as}
use Rattle.sampling.specs.Unpadded.{Plain}

pub unpadded_step : (d : Device) (b : List ℕ) (w : ℕ) → WellFormed d → Plain (capture_of d) w → step d b w ≡ stepped_as (unpadded_sample (capture_of d) w) d b w
unfolding stepped_as
unpadded_step d b w well (plain, none) = laws.step_unpadded d b w plain none

pub padded_step : (d : Device) (b : List ℕ) (w : ℕ) → WellFormed d → Pads (capture_of d) w → step d b w ≡ stepped_as (padded (capture_of d) w) d b w
unfolding stepped_as step after_grant ended
padded_step d b w well (plain, pads) =
    rw (sample_padded (capture_of d) w d.core.capture.partial.bits plain (uncropped d.core.capture.registers well.capture.allowed) pads)

pub coded_step : (d : Device) (b : List ℕ) (w : ℕ) → WellFormed d → Coded (capture_of d) w → step d b w ≡ stepped_as (capture_sample (capture_of d) w) d b w
unfolding stepped_as step after_grant
coded_step d b w well coded = refl

pub datum_step : (d : Device) (b : List ℕ) (w : ℕ) → WellFormed d → IsDatum (capture_of d) w → step d b w ≡ stepped_as (capture_sample (capture_of d) w) d b w
datum_step d b w well datum = coded_step d b w well datum.0
