-- An accepted run has passed its tests. Assumes nothing.
use mathlib.Core.Bool.{Bool, false}
use mathlib.Core.List.{List, ◌∷◌}
use mathlib.Core.Path.{◌≡◌}
use Prim.Native.Nat.{ℕ, ◌+◌, ◌≤◌}
use native.Mathlib.Omega.{arith}
use lib.ListN.{length}
use borrow.Author.Tests.{ltb-false}
use Rattle.refusals.specs.Refusals.{◌⇒◌}
use Rattle.refusals.proofs.Accepted.{accepted}
use Rattle.samples.specs.Samples.{any_bad}
use Rattle.run_refusals.specs.RunRefusals.{run_tests, refusal_of}

pub record Passed (bad beyond : Bool) (counted : ℕ) (samples : List ℕ) : Type 0 where
  pub well : bad ≡ false
  pub within : beyond ≡ false
  pub good : any_bad samples ≡ false
  pub fits : counted + length samples ≤ 4294967295

pub passed : (bad beyond : Bool) (counted : ℕ) (samples : List ℕ) → refusal_of bad beyond counted samples ≡ 0 → Passed bad beyond counted samples
passed bad beyond counted samples e =
    let (well, (within, (good, (fits, end)))) = accepted (bad ⇒ 1 ∷ run_tests beyond counted samples) (omega arith) e in
    record { well = well; within = within; good = good; fits = ltb-false _ _ fits }
