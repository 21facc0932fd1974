-- A run of samples: the counts, the order, and that while a word waits no grant is idle (`busy`).
-- One sample has these facts, and two runs hand them on to the run of both.
use Prim.Native.Nat.{ℕ, ◌+◌, ◌≤◌, min}
use mathlib.Core.Path.{◌≡◌, refl, sym, ap}
use mathlib.Core.Bool.{Bool}
use Rattle.std.specs.Prelude.{Option, None, Some}
use mathlib.Core.List.{List, [], ◌∷◌, ◌++◌, append_assoc, append-nil}
use native.Mathlib.Omega.{arith}
use lib.ListN.{length, length-append}
use Rattle.queue.specs.Queue.{Input, Queue, start, leave, sample, from, after, grants, words}
use Rattle.queue.proofs.Steps.{leaves, arrives}

module _ {A : Type 0} where
  pub grants_append : (xs ys : List (Input A)) → grants (xs ++ ys) ≡ grants xs + grants ys
  unfolding grants
  grants_append [] ys = omega arith
  grants_append (x ∷ xs) ys = omega (arith, grants_append xs ys)

  words_cons : (g : Bool) (w : Option A) (xs ys : List (Input A)) → words (xs ++ ys) ≡ words xs ++ words ys →
      let x : Input A = record { grant = g; word = w } in words (x ∷ (xs ++ ys)) ≡ words (x ∷ xs) ++ words ys
  unfolding words
  words_cons g None xs ys e = e
  words_cons g (Some v) xs ys e = ap {B = List A} (λ ws. v ∷ ws) e

  pub words_append : (xs ys : List (Input A)) → words (xs ++ ys) ≡ words xs ++ words ys
  unfolding words
  words_append [] ys = refl
  words_append (x ∷ xs) ys = words_cons x.grant x.word xs ys (words_append xs ys)

  pub from_append : (d : ℕ) (q : Queue A) (xs ys : List (Input A)) → from d q (xs ++ ys) ≡ from d (from d q xs) ys
  unfolding from
  from_append d q [] ys = refl
  from_append d q (x ∷ xs) ys = from_append d (sample d q x) xs ys

  pub after_snoc : (d : ℕ) (xs : List (Input A)) (x : Input A) → after d (xs ++ x ∷ []) ≡ sample d (after d xs) x
  unfolding from
  after_snoc d xs x = from_append d start xs (x ∷ [])

-- What a run of samples xs that leads from the queue q to the queue r does.
pub record Flow {A : Type 0} (d : ℕ) (q : Queue A) (xs : List (Input A)) (r : Queue A) : Type 0 where
  pub keeps : length q.left + length q.held ≤ length r.left + length r.held
  pub counts : length r.left + length r.held ≤ length q.left + length q.held + length (words xs)
  pub busy : length q.left + min (grants xs) (length q.held) ≤ length r.left
  pub most : length r.left ≤ length q.left + grants xs
  pub fits : length q.held ≤ d → length r.held ≤ d
  pub lost : q.lost ≤ r.lost
  pub order : r.lost ≡ q.lost → r.left ++ r.held ≡ q.left ++ q.held ++ words xs

module _ {A : Type 0} where
  none_yet : (d : ℕ) (q : Queue A) → Flow d q [] q
  unfolding words grants
  none_yet d q =
      record {
        keeps = omega arith;
        counts = omega arith;
        busy = omega arith;
        most = omega arith;
        fits = λ h. h;
        lost = omega arith;
        order = λ e. sym (append-nil _);
      }

  one : (d : ℕ) (q : Queue A) (x : Input A) → Flow d q (x ∷ []) (sample d q x)
  unfolding sample grants
  one d q x =
      let l = leaves x q in
      let a = arrives d x (leave x q) in
      let n = ap length a.left in
      record {
        keeps = omega arith;
        counts = omega arith;
        busy = omega arith;
        most = omega arith;
        fits = λ h. a.fits (omega arith);
        lost = omega arith;
        order = λ e. rw (← l.order) (a.order (omega arith));
      }

  both : (d : ℕ) (q r t : Queue A) (xs ys : List (Input A)) → Flow d q xs r → Flow d r ys t → Flow d q (xs ++ ys) t
  both d q r t xs ys f g =
      let w = ap length (words_append xs ys) in
      let n = length-append (words xs) (words ys) in
      let m = grants_append xs ys in
      record {
        keeps = omega arith;
        counts = omega arith;
        busy = omega arith;
        most = omega arith;
        fits = λ h. g.fits (f.fits h);
        lost = omega arith;
        order = λ e. rw (words_append xs ys, ← append_assoc (q.left ++ q.held) (words xs), ← f.order (omega arith)) (g.order (omega arith));
      }

  pub flow : (d : ℕ) (q : Queue A) (xs : List (Input A)) → Flow d q xs (from d q xs)
  unfolding from
  flow d q [] = none_yet d q
  flow d q (x ∷ xs) = both d q (sample d q x) (from d (sample d q x) xs) (x ∷ []) xs (one d q x) (flow d (sample d q x) xs)

  -- Without any premise: the held words fit, and if none is lost then all words are there, in order.
  pub queue_law : (d : ℕ) (xs : List (Input A)) →
      (length (after d xs).held ≤ d) × ((after d xs).lost ≡ 0 → (after d xs).left ++ (after d xs).held ≡ words xs)
  unfolding start
  queue_law d xs = let f = flow d start xs in (f.fits (omega arith), λ e. f.order e)
