-- `turning::latest_complete` meets its contract. Assumes nothing.
use borrow.Author.Rules.{rules}
use Rattle.buffers.specs.Turns.{latest_complete}
use Rattle.turning.proofs.latest_complete.Goals as goal

pub returns-then-is_complete : goal.returns-then-is_complete
unfolding latest_complete
returns-then-is_complete c = rw (← c.known.ensures, ← c.is_complete.ensures, c.if-is_complete.true)

pub known-requires-2 : goal.known-requires-2
unfolding latest_complete
known-requires-2 c = search rules

pub is_complete-requires-2 : goal.is_complete-requires-2
unfolding latest_complete
is_complete-requires-2 c = search rules

pub returns-then-is_complete-2 : goal.returns-then-is_complete-2
unfolding latest_complete
returns-then-is_complete-2 c = rw (
  ← c.known.ensures,
  ← c.is_complete.ensures,
  c.if-is_complete.false,
  ← c.other-before.ensures,
  ← c.known-2.ensures,
  ← c.is_complete-2.ensures,
  c.if-is_complete-2.true,
)

pub returns : goal.returns
unfolding latest_complete
returns c = rw (
  ← c.known.ensures,
  ← c.is_complete.ensures,
  c.if-is_complete.false,
  ← c.other-before.ensures,
  ← c.known-2.ensures,
  ← c.is_complete-2.ensures,
  c.if-is_complete-2.false,
)
