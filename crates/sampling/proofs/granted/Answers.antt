-- `sampling::granted` meets its contract. Assumes nothing.
use mathlib.Core.Path.{sym, ◌∙◌}
use Rattle.output.specs.Output.{grant}
use Rattle.sampling.proofs.granted.Goals as goal

pub returns : goal.returns
unfolding grant
returns c = rw (sym c.bus_grant.ensures ∙ c.if-bus_grant.false) (c.no_landing.ensures _ _)
