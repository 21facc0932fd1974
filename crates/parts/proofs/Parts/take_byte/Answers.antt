-- `Parts::take_byte` meets its contract.
use Rattle.std.proofs.Common.{arith, sym, ◌∙◌}
use Rattle.file_rules.proofs.Header.{header_ten, wants_within}
use Rattle.parts.proofs.Parts.take_byte.Goals as goal

pub header_byte-requires : goal.header_byte-requires
header_byte-requires c = omega (arith, c.if-self-header_length.true, c.header_length.ensures.value, header_ten c.args.self.now.head)

pub overflow_add-self : goal.overflow_add-self
overflow_add-self c = let low = rw c.header_length.ensures.value at c.if-self-header_length.false in omega (arith, c.whole-whole.ensures.value, c.whole-whole.ensures.upper_bound, (wants_within _ _ (sym c.wants.ensures ∙ c.if-not-wants.false) low).1)
