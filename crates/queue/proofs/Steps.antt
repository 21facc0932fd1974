-- What leaves and what arrives at one sample: the counts, and the order of the words.
-- By cases on the grant and the held words, and on the arriving word and the test for room.
use Prim.Native.Nat.{ℕ, ◌+◌, ◌≤◌, ◌<◌, min}
use mathlib.Core.Path.{◌≡◌, refl, sym}
use mathlib.Core.Bool.{Bool, true, false, cond}
use Rattle.std.specs.Prelude.{Option, None, Some}
use mathlib.Core.List.{List, [], ◌∷◌, ◌++◌, append_assoc, append-nil}
use native.Mathlib.Omega.{arith}
use lib.ListN.{length, length-append}
use lib.Dec.{ltb}
use borrow.Author.Tests.{ltb-true, ltb-false}
use Rattle.queue.specs.Queue.{Input, Queue, leave, arrive, words}

-- A grant moves one word, if one is held, from the held words to those that left.
pub record Leaves {A : Type 0} (x : Input A) (q r : Queue A) : Type 0 where
  pub lost : r.lost ≡ q.lost
  pub order : r.left ++ r.held ≡ q.left ++ q.held
  pub left : length r.left ≡ length q.left + min (cond x.grant 1 0) (length q.held)
  pub total : length r.left + length r.held ≡ length q.left + length q.held

leaves_by : {A : Type 0} (g : Bool) (w : Option A) (l h : List A) (n : ℕ) →
    let x : Input A = record { grant = g; word = w } in
    let q : Queue A = record { left = l; held = h; lost = n } in Leaves x q (leave x q)
unfolding leave
leaves_by false w l h n = record { lost = refl; order = refl; left = omega arith; total = refl }
leaves_by true w l [] n = record { lost = refl; order = refl; left = omega arith; total = refl }
leaves_by true w l (v ∷ vs) n =
    record {
      lost = refl;
      order = append_assoc l (v ∷ []) vs;
      left = rw length-append (omega arith);
      total = rw length-append (omega arith);
    }

pub leaves : {A : Type 0} (x : Input A) (q : Queue A) → Leaves x q (leave x q)
leaves x q = leaves_by x.grant x.word q.left q.held q.lost

-- A word that arrives is taken in at the end, or lost if there is no room.
pub record Arrives {A : Type 0} (d : ℕ) (x : Input A) (q r : Queue A) : Type 0 where
  pub left : r.left ≡ q.left
  pub keeps : length q.held ≤ length r.held
  pub counts : length r.held ≤ length q.held + length (words (x ∷ []))
  pub fits : length q.held ≤ d → length r.held ≤ d
  pub lost : q.lost ≤ r.lost
  pub room : (1 ≤ length (words (x ∷ [])) → length q.held < d) → r.lost ≡ q.lost
  pub order : r.lost ≡ q.lost → r.left ++ r.held ≡ q.left ++ q.held ++ words (x ∷ [])

arrives_by : {A : Type 0} (d : ℕ) (g : Bool) (w : Option A) (q : Queue A) →
    let x : Input A = record { grant = g; word = w } in Arrives d x q (arrive d x q)
unfolding arrive words
arrives_by d g None q =
    record {
      left = refl;
      keeps = omega arith;
      counts = omega arith;
      fits = λ h. h;
      lost = omega arith;
      room = λ h. refl;
      order = λ e. sym (append-nil _);
    }
arrives_by {A} d g (Some v) q = go (ltb (length q.held) d) refl
  where
    x : Input A
    x = record { grant = g; word = Some v }

    taken : Queue A
    taken = record { left = q.left; held = q.held ++ v ∷ []; lost = q.lost }

    refused : Queue A
    refused = record { left = q.left; held = q.held; lost = q.lost + 1 }

    go : (b : Bool) → ltb (length q.held) d ≡ b → Arrives d x q (cond b taken refused)
    go true e =
        record {
          left = refl;
          keeps = rw length-append (omega arith);
          counts = rw length-append (omega arith);
          fits = λ h. rw length-append (omega (arith, ltb-true));
          lost = omega arith;
          room = λ h. refl;
          order = λ z. sym (append_assoc q.left q.held (v ∷ []));
        }
    go false e =
        record {
          left = refl;
          keeps = omega arith;
          counts = omega arith;
          fits = λ h. h;
          lost = omega arith;
          room = λ h. omega (arith, ltb-false, h (omega arith));
          order = λ z. absurd (omega arith);
        }

pub arrives : {A : Type 0} (d : ℕ) (x : Input A) (q : Queue A) → Arrives d x q (arrive d x q)
arrives d x q = arrives_by d x.grant x.word q
