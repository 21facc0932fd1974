-- A device is well-formed when made with a depth from 1 to 32, and a run of samples and a single sample keep it so.
-- The idea: each sample does (KeepsSample), so all of them do, by induction; a refused call leaves the device as it was. Assumes nothing.
use mathlib.Core.Bool.{false}
use mathlib.Core.List.{List, [], ◌∷◌, ◌++◌}
use mathlib.Core.Path.{◌≡◌, refl}
use Prim.Native.Nat.{ℕ}
use native.Mathlib.Omega.{arith}
use lib.Dec.{eqb}
use borrow.Author.Tests.{le-ltb}
use lib.ListN.{drop}
use Rattle.rules.specs.declared.Device.{Device}
use Rattle.output.specs.WellFormed.{bad_depth}
use Rattle.rules.specs.State.{fresh_of}
use Rattle.rules.specs.WellFormed.{malformed}
use Rattle.rules.proofs.EveryRule.{every_rule}
use Rattle.rules.specs.Run.{step, steps, run_refusal, run, sample}
use Rattle.bits.proofs.Booleans.{either}
use Rattle.rules.proofs.WellFormed.{WellFormed, facts, well_formed}
use Rattle.laws.proofs.KeepsSample.{step_keeps}

pub fresh_well_formed : (depth : ℕ) → bad_depth depth ≡ false → malformed (fresh_of depth) ≡ false
unfolding every_rule
fresh_well_formed depth sound = rw (le-ltb depth 0 (omega arith), sound)

-- Samples one after the other: those of two lists are those of the second after those of the first.
pub steps_append : (d : Device) (b xs ys : List ℕ) → steps d b (xs ++ ys) ≡ steps (steps d b xs).device (steps d b xs).buffer ys
unfolding steps
steps_append d b [] ys = refl
steps_append d b (w ∷ ws) ys = steps_append (step d b w).device (step d b w).buffer ws ys

pub steps_keep : (d : Device) (buffer samples : List ℕ) → WellFormed d → WellFormed (steps d buffer samples).device
unfolding steps
steps_keep d buffer [] h = h
steps_keep d buffer (w ∷ ws) h = steps_keep (step d buffer w).device (step d buffer w).buffer ws (step_keeps d buffer w h)

pub run_keeps : (d : Device) (memory : List ℕ) (start : ℕ) (samples : List ℕ) → malformed d ≡ false
    → malformed (run d memory start samples).device ≡ false
unfolding run
run_keeps d memory start samples e =
    either (λ (x : Device). malformed x ≡ false) (eqb (run_refusal d memory start samples) 0)
    (well_formed _ (steps_keep d (drop start memory) samples (facts d e)))
    e

pub sample_keeps : (d : Device) (memory : List ℕ) (start w : ℕ) → malformed d ≡ false
    → malformed (sample d memory start w).device ≡ false
unfolding sample
sample_keeps d memory start w e =
    either (λ (x : Device). malformed x ≡ false) (eqb (run_refusal d memory start (w ∷ [])) 0)
    (well_formed _ (step_keeps d (drop start memory) w (facts d e)))
    e
