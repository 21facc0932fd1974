-- The clauses of "Malformed" (document 01) that speak of FIFO, place and counts alone.
use Rattle.std.specs.Prelude.{Bool, true, not, ◌&&◌, ◌||◌, List, [], ◌∷◌, ◌≡◌, ℕ, ◌+◌, ◌≤◌, eqb, ltb, drop}
use Rattle.output.specs.declared.Output.{Output}
use Rattle.output.specs.Output.{OutputState, slot_count, contents, laid}

unfoldable pub all_zero : List ℕ → Bool
all_zero [] = true
all_zero (x ∷ xs) = eqb x 0 && all_zero xs

-- W9: a depth outside 1 to 32.
unfoldable pub bad_depth : ℕ → Bool
bad_depth depth = eqb depth 0 || ltb slot_count depth

-- More held than the depth (W9); an unused FIFO slot not 0, up to the last one.
unfoldable pub bad_fifo : OutputState → Bool
bad_fifo x = ltb x.output.depth x.output.held || not (all_zero (drop x.output.held x.slots))

-- Place above landed.
unfoldable pub bad_place : Output → Bool
bad_place o = ltb o.counts.landed o.place

-- The equation of counts broken: completed = landed + held + discarded, of whole numbers.
unfoldable pub bad_counts : Output → Bool
bad_counts o = not (eqb o.counts.completed (o.counts.landed + o.held + o.counts.discarded))

-- A FIFO that is its contents laid out, with at most as many words as the depth: what the functions over lent slots ask. One that is not malformed is
-- (proofs/Contents, `not_malformed_laid`).
pub record Laid (x : OutputState) : Type 0 where
  pub fits : x.output.held ≤ x.output.depth
  pub within : x.output.depth ≤ slot_count
  pub slots : x.slots ≡ laid (contents x)
