-- `run_refusals::refusal_of` meets its contract. Assumes nothing.
use borrow.Author.Tests.{le-ltb, lt-ltb}
use Rattle.run_refusals.proofs.refusal_of.Goals as goal

pub returns-then-any_bad : goal.returns-then-any_bad
returns-then-any_bad c = rw (
  c.if-bad.false,
  le-ltb _ _ c.if-memory-start.false,
  ← c.any_bad.ensures,
  c.if-any_bad.true,
)

pub returns-then-too_many : goal.returns-then-too_many
returns-then-too_many c = rw (
  c.if-bad.false,
  le-ltb _ _ c.if-memory-start.false,
  ← c.any_bad.ensures,
  c.if-any_bad.false,
  ← c.too_many.ensures,
  c.if-too_many.true,
)

pub returns : goal.returns
returns c = rw (
  c.if-bad.false,
  le-ltb _ _ c.if-memory-start.false,
  ← c.any_bad.ensures,
  c.if-any_bad.false,
  ← c.too_many.ensures,
  c.if-too_many.false,
)

pub returns-then-bad : goal.returns-then-bad
returns-then-bad c = rw c.if-bad.true

pub returns-then-memory-start : goal.returns-then-memory-start
returns-then-memory-start c = rw (c.if-bad.false, lt-ltb _ _ c.if-memory-start.true)
