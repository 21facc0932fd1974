-- A word that was in leaves within a window of enough grants (`in_time`), so a word that comes finds room (`room`).
-- What is held after the last leave came within the window, which holds at most d words with the one that comes.
use Prim.Native.Nat.{ℕ, ◌+◌, ◌≤◌, ◌<◌}
use mathlib.Core.Path.{◌≡◌, ap, ◌∙◌}
use mathlib.Core.List.{List, [], ◌∷◌, ◌++◌}
use native.Mathlib.Omega.{arith}
use lib.ListN.{length, length-append}
use Rattle.queue.specs.Queue.{Input, Queue, leave, sample, from, grants, words}
use Rattle.queue.proofs.Steps.{leaves, arrives}
use Rattle.queue.proofs.Flow.{flow, words_append, from_append}

module _ {A : Type 0} where
  -- what was in before d grants has left after them
  pub in_time : (d : ℕ) (q : Queue A) (bs : List (Input A)) → length q.held ≤ d → d ≤ grants bs →
      length q.left + length q.held ≤ length (from d q bs).left
  in_time d q bs h g = omega (arith, (flow d q bs).busy)

  -- what has left after a last sample has left before its word arrives
  last_left : (d : ℕ) (q : Queue A) (bs : List (Input A)) (x : Input A) → (from d q (bs ++ x ∷ [])).left ≡ (leave x (from d q bs)).left
  unfolding from sample
  last_left d q bs x = rw from_append (arrives d x (leave x (from d q bs))).left

  -- a word that comes at x finds room, if what was in at q has left by then and at most d words came since
  pub room : (d : ℕ) (q : Queue A) (bs : List (Input A)) (x : Input A) →
      1 ≤ length (words (x ∷ [])) → length (words (bs ++ x ∷ [])) ≤ d →
      length q.left + length q.held ≤ length (from d q (bs ++ x ∷ [])).left →
      length (leave x (from d q bs)).held < d
  room d q bs x one few left =
      let w = ap length (words_append bs (x ∷ [])) ∙ length-append (words bs) (words (x ∷ [])) in
      let e = ap length (last_left d q bs x) in
      omega (arith, (flow d q bs).counts, (leaves x (from d q bs)).total)
