-- `sampling::steps` meets its contract. Assumes nothing.
use mathlib.Core.Path.{sym, ◌∙◌}
use Rattle.full_word.specs.Answers.{device}
use Rattle.sampling.proofs.Stretches.{without_jpeg}
use Rattle.sampling.proofs.steps.Goals as goal

pub steps_of-requires-clause-kind : goal.steps_of-requires-clause-kind
steps_of-requires-clause-kind c = let a = c.args in
    without_jpeg (device a.d a.slots.now) a.buffer.now a.samples.now (sym c.embedded.ensures ∙ c.if-embedded.false) (sym c.jpeg.ensures ∙ c.if-jpeg.false)
