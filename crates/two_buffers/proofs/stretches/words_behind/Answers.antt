-- `two_buffers::stretches::words_behind` meets its contract. Assumes nothing.
use borrow.Author.Tests.{tests}
use native.Mathlib.Omega.{arith}
use Rattle.std.proofs.Common.{rules}
use Rattle.two_buffers.specs.Stretches.{words_behind}
use Rattle.two_buffers.proofs.Behind.{tags_sub, tags_fit, opening_fit}
use Rattle.two_buffers.proofs.stretches.words_behind.Goals as goal

pub overflow_sub-more : goal.overflow_sub-more
overflow_sub-more c = tags_sub _ _ _ c.tags_in.ensures c.tags_in-2.ensures (omega (arith, c.requires.0))

pub overflow_add-t : goal.overflow_add-t
overflow_add-t c = omega (arith, tags_fit _ _ _ _ c.tags_in.ensures c.tags_in-2.ensures (omega (arith, c.requires.0)) c.requires.1 c.requires.2)

pub overflow_add-t-2 : goal.overflow_add-t-2
overflow_add-t-2 c = omega (arith, opening_fit _ _ _ c.opening_behind.ensures (omega (arith, c.requires.0, c.requires.1)) c.requires.3)

pub returns : goal.returns
unfolding words_behind
returns c = search (rules, tests)
