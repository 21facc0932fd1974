-- What an accepted run knows, and that a word lands within the frame buffer. Assumes nothing.
use mathlib.Core.Bool.{Bool, false}
use mathlib.Core.List.{List}
use mathlib.Core.Path.{◌≡◌, sym}
use Rattle.std.specs.Prelude.{Some}
use Prim.Native.Nat.{ℕ, ◌+◌, ◌≤◌, ◌<◌, ◌^◌}
use native.Mathlib.Omega.{arith}
use lib.Dec.{ltb}
use lib.ListN.{length}
use borrow.Author.Tests.{ltb-false}
use Rattle.samples.specs.Samples.{bus_grant}
use Rattle.run_refusals.specs.RunRefusals.{refusal_of}
use Rattle.run_refusals.proofs.Passed.{passed}
use Rattle.output.specs.Output.{counted}
use Rattle.output.proofs.Granting.{landing_in}
use Rattle.rules.specs.declared.Device.{Device}
use Rattle.rules.specs.State.{output_of}
use Rattle.rules.specs.Capture.{enabled}
use Rattle.rules.specs.WellFormed.{malformed}
use Rattle.rules.specs.Run.{step, run_refusal}

pub record AcceptedRun (d : Device) (memory : List ℕ) (start : ℕ) (samples : List ℕ) : Type 0 where
  pub well : malformed d ≡ false
  pub within : start ≤ length memory
  pub fits : d.core.output.counts.samples + length samples < 2 ^ 32

pub accepted_run : (d : Device) (memory : List ℕ) (start : ℕ) (samples : List ℕ) → run_refusal d memory start samples ≡ 0
    → AcceptedRun d memory start samples
unfolding run_refusal
accepted_run d memory start samples e =
    let p = passed (malformed d) (ltb (length memory) start) d.core.output.counts.samples samples e in
    record { well = p.well; within = ltb-false _ _ p.within; fits = omega (arith, p.fits) }

-- The refusal of a run, from the value of the test for malformed devices.
pub refusal_by : (d : Device) (memory : List ℕ) (start : ℕ) (samples : List ℕ) {bad : Bool} {n : ℕ} → bad ≡ malformed d
    → n ≡ refusal_of bad (ltb (length memory) start) d.core.output.counts.samples samples
    → run_refusal d memory start samples ≡ n
unfolding run_refusal
refusal_by d memory start samples is e = rw (← is) (sym e)

-- A word lands within the frame buffer.
pub landing_within : (buffer : List ℕ) (b : ℕ) (d : Device) (w : ℕ) → (step d buffer w).landing ≡ Some b → b < length buffer
unfolding step
landing_within buffer b d w = landing_in buffer b (bus_grant w) (enabled d.core.capture) (counted (output_of d))
