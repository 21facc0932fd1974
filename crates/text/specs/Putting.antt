-- Text put into a lent buffer from a byte on: as much of it as fits.
use Rattle.std.specs.Prelude.{List, ℕ, ◌+◌, ◌-◌, min, length}
use Rattle.std.proofs.lemmas.List.Edits.{sets}

-- The place behind what was put, and the buffer that is left.
pub record Put : Type 0 where
  pub place : ℕ
  pub buffer : List ℕ

abbrev pub putting : ℕ → List ℕ → Put
putting place buffer = record { place = place; buffer = buffer }

unfoldable pub put : List ℕ → ℕ → List ℕ → Put
put text at buffer = record { place = at + min (length text) (length buffer - at); buffer = sets buffer at text }
