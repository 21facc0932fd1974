-- `full_word::complete_coded` meets its contract. Assumes nothing.
use mathlib.Core.Path.{◌∙◌}
use Rattle.rules.specs.Run.{complete}
use Rattle.full_word.proofs.Fates.{word_coded}
use Rattle.full_word.proofs.complete_coded.Goals as goal

pub returns-in-Some : goal.returns-in-Some
unfolding complete
returns-in-Some c = rw c.in-Some.is (c.padded_word.ensures ∙ word_coded _ _ _ c.if-c-2.true)

pub returns-in-Some-2 : goal.returns-in-Some-2
unfolding complete
returns-in-Some-2 c = rw c.in-Some-2.is (c.full_word.ensures ∙ word_coded _ _ _ c.if-c-2.false)
