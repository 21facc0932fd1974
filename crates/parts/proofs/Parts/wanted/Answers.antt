-- `Parts::wanted` meets its contract.
use Rattle.std.proofs.Common.{arith, sym, ◌∙◌}
use Rattle.file_rules.proofs.Header.{wants_within}
use Rattle.parts.proofs.Parts.wanted.Goals as goal

pub overflow_sub-result-2 : goal.overflow_sub-result-2
overflow_sub-result-2 c = let low = rw c.header_length-header.ensures.value at c.if-self-header.false in omega (arith, c.whole.ensures.value, (wants_within _ _ (sym c.wants.ensures ∙ c.if-not-wants.false) low).1)
