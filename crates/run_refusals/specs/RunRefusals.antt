-- The refusals of a run of some samples, or of one (document 01, "Refusal numbers"), whatever module takes them: by whether its device is malformed, whether a start byte
-- lies beyond its memory, and how many samples it has counted.
use Rattle.std.specs.Prelude.{Bool, List, [], ◌∷◌, ℕ, ◌+◌, ltb, length}
use Rattle.refusals.specs.Refusals.{Test, ◌⇒◌, first}
use Rattle.samples.specs.Samples.{any_bad}

-- Refusals 9, 7, 8.
abbrev pub run_tests : Bool → ℕ → List ℕ → List Test
run_tests beyond counted samples = beyond ⇒ 9 ∷ any_bad samples ⇒ 7 ∷ ltb 4294967295 (counted + length samples) ⇒ 8 ∷ []

-- Refusals 1, 9, 7, 8.
abbrev pub refusal_of : Bool → Bool → ℕ → List ℕ → ℕ
refusal_of bad beyond counted samples = first (bad ⇒ 1 ∷ run_tests beyond counted samples)
