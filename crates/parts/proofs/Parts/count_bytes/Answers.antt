-- `Parts::count_bytes` meets its contract.
use Rattle.std.proofs.Common.{arith, sym, ◌∙◌}
use Rattle.parts.proofs.Stretch.{none_taken, is_refused, counted}
use Rattle.file_rules.proofs.Taking.{unwanted}
use Rattle.file_rules.proofs.Header.{wants_within}
use Rattle.parts.proofs.Parts.count_bytes.Goals as goal

pub returns-then-not-wants-clause-by_index : goal.returns-then-not-wants-clause-by_index
returns-then-not-wants-clause-by_index c = λ start memory bs e. sym (unwanted start _ bs (sym c.wants.ensures ∙ c.if-not-wants.true))

pub returns-then-is_ok-clause-by_index : goal.returns-then-is_ok-clause-by_index
returns-then-is_ok-clause-by_index c = λ start memory bs e. none_taken start _ bs e

pub returns-then-self-header_length-clause-by_index : goal.returns-then-self-header_length-clause-by_index
returns-then-self-header_length-clause-by_index c = λ start memory bs e. none_taken start _ bs e

pub overflow_sub-whole : goal.overflow_sub-whole
overflow_sub-whole c = let low = rw c.header_length.ensures.value at c.if-self-header_length.false in omega (arith, c.whole.ensures.value, (wants_within _ _ (sym c.wants.ensures ∙ c.if-not-wants.false) low).1)

pub returns-clause-by_index : goal.returns-clause-by_index
returns-clause-by_index c = λ start memory bs e. rw (← e) (counted start _ _ _ _ _ memory bs (sym c.wants.ensures ∙ c.if-not-wants.false) (rw c.header_length.ensures.value at c.if-self-header_length.false) (is_refused _ (sym c.is_ok.ensures.value ∙ c.if-is_ok.false)) (omega (arith, e, c.min-bytes.ensures, c.whole.ensures.value)))
