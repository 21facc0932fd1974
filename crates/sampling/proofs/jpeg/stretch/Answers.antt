-- `sampling::jpeg::stretch` meets its contract. Assumes nothing.
use mathlib.Core.Path.{sym, ◌∙◌}
use Rattle.sampling.specs.Unpadded.{stretch}
use Rattle.sampling.proofs.jpeg.stretch.Goals as goal

pub returns-then-may_pad : goal.returns-then-may_pad
unfolding stretch
returns-then-may_pad c = rw (sym c.may_pad.ensures ∙ c.if-may_pad.true)

pub returns : goal.returns
unfolding stretch
returns c = rw (sym c.may_pad.ensures ∙ c.if-may_pad.false) c.level_end.ensures
