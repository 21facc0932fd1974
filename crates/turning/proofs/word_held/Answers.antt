-- `turning::word_held` meets its contract. Assumes nothing.
-- A first word changes no tag.
use mathlib.Core.Bool.{Bool, true, false, cond, not}
use mathlib.Core.Path.{◌≡◌, refl, ◌∙◌}
use Prim.Native.Nat.{ℕ}
use borrow.Author.Rules.{rules}
use Rattle.buffers.specs.declared.Turns.{Turns}
use Rattle.buffers.specs.Turns.{other, with_turn, first_word, word_held}
use Rattle.turning.proofs.word_held.Goals as goal

same-tags : (b : Bool) (t u : Turns) → u.in_b ≡ t.in_b → u.opening ≡ t.opening →
    ((cond b t u).in_b ≡ t.in_b) × ((cond b t u).opening ≡ t.opening)
same-tags true t u e f = (refl, refl)
same-tags false t u e f = (e, f)

tags : (t : Turns) → ((first_word t).in_b ≡ t.in_b) × ((first_word t).opening ≡ t.opening)
unfolding first_word with_turn
tags t = same-tags t.begun t (with_turn (other t.turn) true t) refl refl

-- A test that is turned round.
not-cond : (b : Bool) (x y : ℕ) → cond (not b) x y ≡ cond b y x
not-cond true x y = refl
not-cond false x y = refl

pub marked-in_b-requires : goal.marked-in_b-requires
unfolding word_held
marked-in_b-requires c = rw (c.first_word-u.ensures, (tags c.args.t).0) (search rules)

pub marked-opening-requires : goal.marked-opening-requires
unfolding word_held
marked-opening-requires c = rw (c.first_word-u.ensures, (tags c.args.t).1) (search rules)

pub returns : goal.returns
unfolding word_held
returns c = rw (
  ← c.first_word-u.ensures,
  ← c.is_b.ensures,
  ← c.marked-in_b.ensures,
  ← (c.marked-opening.ensures ∙ not-cond c.args.t.begun _ _),
  ← c.with_tags.ensures,
)
