-- Rule 1 where the bus grants and ENABLE is 1, by the number held and the room for the oldest word; and that a word lands within the frame buffer. Assumes nothing.
use mathlib.Core.Bool.{Bool, true, false, ◌&&◌}
use mathlib.Core.List.{List, [], ◌∷◌}
use Rattle.std.specs.Prelude.{Some}
use mathlib.Core.Path.{◌≡◌, ap, ◌∙◌}
use Prim.Native.Nat.{ℕ, ◌+◌, ◌*◌, ◌≤◌, ◌<◌}
use native.Mathlib.Omega.{arith}
use lib.ListN.{length, get_or}
use borrow.Author.Tests.{leb-true}
use Rattle.bits.proofs.Booleans.{by_cond, either}
use Rattle.output.specs.Output.{OutputState, contents, pop, room, Granted, no_landing, lands, oldest_lands, grant}
use Rattle.output.specs.WellFormed.{Laid}
use Rattle.output.proofs.Contents.{oldest_first}

module _ (x : OutputState) (buffer : List ℕ) where
  pub grant_lands : Laid x → 0 < x.output.held → room x.output.place buffer ≡ true
      → grant true true x buffer ≡ lands (get_or x.slots 0 0) (pop (contents x)) x.output buffer
  unfolding grant
  grant_lands l pos space = ap (λ (vs : List ℕ). oldest_lands vs x buffer) (oldest_first x l pos) ∙ unfold oldest_lands in rw space

  pub grant_no_room : Laid x → 0 < x.output.held → room x.output.place buffer ≡ false → grant true true x buffer ≡ no_landing x buffer
  unfolding grant
  grant_no_room l pos space = ap (λ (vs : List ℕ). oldest_lands vs x buffer) (oldest_first x l pos) ∙ unfold oldest_lands in rw space

  pub grant_empty : x.output.held ≤ 0 → grant true true x buffer ≡ no_landing x buffer
  unfolding grant contents oldest_lands
  grant_empty None = let z : x.output.held ≡ 0 = omega arith in rw z

pub has_room : (k : ℕ) (buffer : List ℕ) → room k buffer ≡ true → 4 * k + 4 ≤ length buffer
unfolding room
has_room k buffer e = leb-true _ _ e

-- A word lands within the frame buffer.
module _ (buffer : List ℕ) (b : ℕ) where
  Within : Granted → Type 0
  Within g = g.landing ≡ Some b → b < length buffer

  nowhere : (x : OutputState) → Within (no_landing x buffer)
  unfolding Within no_landing
  nowhere x e = let z : ◌≡◌ {A = ℕ} 0 1 = cc in absurd (omega arith)

  oldest_within : (vs : List ℕ) (x : OutputState) → Within (oldest_lands vs x buffer)
  unfolding oldest_lands Within lands
  oldest_within [] x = nowhere x
  oldest_within (v ∷ vs) x =
      by_cond Within (room x.output.place buffer) _ _
      (λ space e. let at : b ≡ 4 * x.output.place = cc in omega (arith, has_room x.output.place buffer space))
      (λ full. nowhere x)

  pub landing_in : (granted enabled : Bool) (x : OutputState) → (grant granted enabled x buffer).landing ≡ Some b → b < length buffer
  unfolding grant Within
  landing_in granted enabled x = either Within (granted && enabled) (oldest_within (contents x) x) (nowhere x)
