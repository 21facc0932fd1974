-- `two_buffers::error_at` meets its contract. Assumes nothing.
use mathlib.Core.Path.{sym, ◌∙◌}
use Rattle.laws.proofs.Errors.{no_error_by_pins}
use Rattle.two_buffers.proofs.error_at.Goals as goal

pub returns-else-embedded : goal.returns-else-embedded
returns-else-embedded c = rw c.if-embedded.false (sym (no_error_by_pins c.args.s c.args.w (sym c.embedded.ensures ∙ c.if-embedded.false)))
