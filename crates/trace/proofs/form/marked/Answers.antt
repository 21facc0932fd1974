-- `trace::form::marked` meets its contract.
use mathlib.Core.List.{List, [], ◌∷◌}
use mathlib.Core.Path.{◌≡◌, refl, ◌∙◌}
use Prim.Native.Nat.{ℕ}
use native.Mathlib.Omega.{arith}
use Rattle.std.proofs.lemmas.Bool.Decides.{nat_tests}
use lib.Dec.{eqb}
use lib.ListN.{take}
use Rattle.std.specs.List.{starts_with}
use Rattle.trace_format.specs.Format.{mark}
use Rattle.trace_format.specs.Reading.{same}
use Rattle.trace.proofs.form.marked.Goals as goal

flip : (x y : ℕ) → eqb x y ≡ eqb y x
flip x y = grind (arith, nat_tests)

-- The two ways to compare the first three bytes.
mark_first : (f : List ℕ) → starts_with eqb f mark ≡ same (take 3 f) mark
unfolding same
mark_first [] = refl
mark_first (a ∷ []) = rw (flip 0x46 a)
mark_first (a ∷ b ∷ []) = rw (flip 0x46 a, flip 0x47 b)
mark_first (a ∷ b ∷ c ∷ f) = rw (flip 0x46 a, flip 0x47 b, flip 0x54 c)

pub returns : goal.returns
returns c = c.starts_with.ensures.value ∙ mark_first c.args.file.now
