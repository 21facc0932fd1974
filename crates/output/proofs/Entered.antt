-- Rule 1 makes of the counts what its landing enters, and discarding the held words what that enters. Assumes nothing.
use mathlib.Core.Bool.{Bool, ◌&&◌}
use mathlib.Core.List.{List, [], ◌∷◌}
use mathlib.Core.Path.{◌≡◌, refl}
use native.Mathlib.Nat.{add-zero}
use Prim.Native.Nat.{ℕ}
use Rattle.bits.proofs.Booleans.{either}
use Rattle.output.specs.Output.{OutputState, contents, with_held, holding, with_counts, with_place, count_discarded, count_landed, room, Granted, no_landing, lands, oldest_lands, grant, discard}
use Rattle.output.specs.Ledger.{landing_entry, discarding_entry, numbers}

Landed : OutputState → Granted → Type 0
Landed x g = landing_entry g.landing (numbers x.output) ≡ numbers g.state.output

oldest_landed : (x : OutputState) (vs buffer : List ℕ) → Landed x (oldest_lands vs x buffer)
unfolding Landed landing_entry oldest_lands lands no_landing holding with_held count_landed with_place with_counts
oldest_landed x [] buffer = refl
oldest_landed x (v ∷ vs) buffer =
    either {x = lands v vs x.output buffer} {y = no_landing x buffer} (Landed x) (room x.output.place buffer) refl refl

pub grant_landed : (granted on : Bool) (x : OutputState) (buffer : List ℕ) → let g = grant granted on x buffer in landing_entry g.landing (numbers x.output) ≡ numbers g.state.output
unfolding Landed landing_entry grant no_landing
grant_landed granted on x buffer = either {y = no_landing x buffer} (Landed x) (granted && on) (oldest_landed x (contents x) buffer) refl

pub discard_entered : (x : OutputState) → discarding_entry (numbers x.output) ≡ numbers (discard 0 x).output
unfolding discarding_entry discard holding with_held count_discarded with_counts
discard_entered x = rw add-zero
