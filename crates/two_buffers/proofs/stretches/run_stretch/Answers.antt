-- `two_buffers::stretches::run_stretch` meets its contract. Assumes nothing.
use mathlib.Core.Path.{sym, ◌∙◌}
use Rattle.two_buffers.proofs.Stretching.{behind_else}
use Rattle.two_buffers.proofs.stretches.run_stretch.Goals as goal

pub run_behind-requires-clause-b_value : goal.run_behind-requires-clause-b_value
run_behind-requires-clause-b_value c = behind_else _ _ _ _ c.requires.b_value (sym c.alone.ensures ∙ c.if-alone.false)
