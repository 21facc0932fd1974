-- How many words the data that one byte releases fill (W6), one after the other as `each_datum` takes them.
use Rattle.std.specs.Prelude.{Bool, List, [], ◌∷◌, ℕ, ◌+◌, length, Option, None, Some}
use Rattle.rules.specs.declared.Scan.{Scan}
use Rattle.rules.specs.declared.Capture.{Capture}
use Rattle.rules.specs.Codes.{before, datum}

abbrev pub one_if : Option ℕ → ℕ
one_if None = 0
one_if (Some v) = 1

unfoldable pub words_filled : Capture → Bool → Scan → List ℕ → ℕ → ℕ
words_filled s taken f [] still = 0
words_filled s taken f (x ∷ xs) still =
    let c = datum s taken (before (length xs + still) f) x in
    one_if c.word + words_filled c.state taken f xs still
