-- The theorem: with enough grants and words far enough apart, no word is lost and each leaves in time, in order.
-- By induction on the samples: each word that comes finds room, so none is lost, and what has come has been taken in.
use Prim.Native.Nat.{ℕ, suc, ◌+◌, ◌*◌, ◌-◌, ◌≤◌, ◌<◌}
use mathlib.Core.Path.{◌≡◌, refl, sym, ap, subst}
use Rattle.std.specs.Prelude.{Some}
use mathlib.Core.List.{List, [], ◌∷◌, ◌++◌, append_assoc, append-nil}
use native.Mathlib.Nat.{one-le-mul}
use native.Mathlib.Decide.{dec_le}
use native.Mathlib.Omega.{arith}
use lib.ListN.{length, take, drop, length-append, length-drop, take-append-drop}
use lib.Seq.{append_snoc, take-add}
use Rattle.queue.specs.Queue.{Input, start, leave, sample, from, after, grants, words, Granted, Spaced, Served}
use Rattle.queue.proofs.Steps.{leaves, arrives}
use Rattle.queue.proofs.Flow.{from_append, grants_append, queue_law}
use Rattle.queue.proofs.Windows.{few_words, enough_grants}
use Rattle.queue.proofs.Room.{in_time, room}

module _ {A : Type 0} (d s : ℕ) where
  -- a word that comes within the first d * s samples
  early : (ys zs : List (Input A)) (x : Input A) → 1 ≤ length (words (x ∷ [])) → Spaced s (ys ++ x ∷ zs) → suc (length ys) ≤ d * s →
      length (leave x (after d ys)).held < d
  unfolding start
  early ys zs x one p h =
      room d start ys x one (few_words d s [] (ys ++ x ∷ []) zs (rw append_snoc p) (rw length-append (omega arith))) (omega arith)

  -- a word that comes last in a full window
  late : (ps bs zs : List (Input A)) (x : Input A) → 1 ≤ length (words (x ∷ [])) →
      Granted d s (ps ++ (bs ++ x ∷ zs)) → Spaced s (ps ++ (bs ++ x ∷ zs)) → suc (length bs) ≡ d * s →
      length (leave x (after d (ps ++ bs))).held < d
  late ps bs zs x one g p h =
      let e : length (bs ++ x ∷ []) ≡ d * s = rw length-append (omega arith) in
      let few = few_words d s ps (bs ++ x ∷ []) zs (rw append_snoc p) (omega arith) in
      let many = enough_grants d s ps (bs ++ x ∷ []) zs (rw append_snoc g) e in
      rw from_append (room d (after d ps) bs x one few (in_time d (after d ps) (bs ++ x ∷ []) (queue_law d ps).0 many))

  module _ (d1 : 1 ≤ d) (s1 : 1 ≤ s) where
    -- a word that comes at any sample
    finds : (ys zs : List (Input A)) (x : Input A) → 1 ≤ length (words (x ∷ [])) → Granted d s (ys ++ x ∷ zs) → Spaced s (ys ++ x ∷ zs) →
        length (leave x (after d ys)).held < d
    finds ys zs x one g p = go (dec_le (d * s) (length ys))
      where
        go : Dec (d * s ≤ length ys) → length (leave x (after d ys)).held < d
        go (no h) = early ys zs x one p (omega arith)
        go (yes h) =
            let t : ℕ = suc (length ys) - d * s in
            let e = take-append-drop t ys in
            let e' : take t ys ++ (drop t ys ++ x ∷ zs) ≡ ys ++ x ∷ zs = rw (← append_assoc (take t ys) (drop t ys), e) in
            rw e at (late (take t ys) (drop t ys) zs x one (rw e' g) (rw e' p) (rw length-drop (omega (arith, one-le-mul d1 s1))))

    -- a sample keeps what is lost at 0, and so does a list of samples
    none_lost : (ys zs rest : List (Input A)) → Granted d s (ys ++ (zs ++ rest)) → Spaced s (ys ++ (zs ++ rest)) →
        (after d ys).lost ≡ 0 → (after d (ys ++ zs)).lost ≡ 0
    unfolding from sample
    none_lost ys [] rest g p e = rw append-nil e
    none_lost ys (x ∷ zs) rest g p e =
        let l = (leaves x (after d ys)).lost in
        let a = (arrives d x (leave x (after d ys))).room (λ one. finds ys (zs ++ rest) x one g p) in
        let step : (after d (ys ++ x ∷ [])).lost ≡ 0 = rw from_append (omega arith) in
        rw append_snoc at (none_lost (ys ++ x ∷ []) zs rest (rw append_snoc g) (rw append_snoc p) step)

one_word : {A : Type 0} (x : Input A) (v : A) → x.word ≡ Some v → 1 ≤ length (words (x ∷ []))
unfolding words
one_word x v e = rw e (omega arith)

-- A word that comes finds room: after what leaves at its sample, fewer than d words are held.
pub finds_room : {A : Type 0} (d s : ℕ) (ys : List (Input A)) (x : Input A) (zs : List (Input A)) (v : A) →
    1 ≤ d → 1 ≤ s → Granted d s (ys ++ x ∷ zs) → Spaced s (ys ++ x ∷ zs) → x.word ≡ Some v →
    length (leave x (after d ys)).held < d
finds_room d s ys x zs v d1 s1 g p e = finds d s d1 s1 ys zs x (one_word x v e) g p

module _ {A : Type 0} (d s : ℕ) (xs : List (Input A)) (d1 : 1 ≤ d) (s1 : 1 ≤ s) (g : Granted d s xs) (p : Spaced s xs) where
  keeps_all : (n : ℕ) → (after d (take n xs)).lost ≡ 0
  unfolding from start
  keeps_all n =
      let c = sym (take-append-drop n xs) in
      none_lost d s d1 s1 [] (take n xs) (drop n xs) (subst (Granted d s) c g) (subst (Spaced s) c p) refl

  all_there : (n : ℕ) → (after d (take n xs)).left ++ (after d (take n xs)).held ≡ words (take n xs)
  all_there n = (queue_law d (take n xs)).1 (keeps_all n)

  deadline : (n t : ℕ) → t + d * s ≤ n → n ≤ length xs → length (words (take t xs)) ≤ length (after d (take n xs)).left
  deadline n t h k =
      let m : ℕ = n - (t + d * s) in
      let e : n ≡ t + (d * s + m) = omega arith in
      let q = after d (take t xs) in
      let bs = take (d * s) (drop t xs) in
      let cs = take m (drop (d * s) (drop t xs)) in
      let many : d ≤ grants (bs ++ cs) = omega (arith, grants_append bs cs, g t (omega arith)) in
      let came = ap length (all_there t) in
      let gone = in_time d q (bs ++ cs) (queue_law d (take t xs)).0 many in
      rw (e, take-add t (d * s + m) xs, take-add (d * s) m (drop t xs), from_append) (omega (arith, length-append q.left q.held))

-- With d grants in each d * s samples and words at least s samples apart, nothing is lost and each word leaves in time, in order.
pub served : {A : Type 0} (d s : ℕ) (xs : List (Input A)) → 1 ≤ d → 1 ≤ s → Granted d s xs → Spaced s xs → (n : ℕ) → Served d s xs n
served d s xs d1 s1 g p n =
    record {
      nothing_lost = keeps_all d s xs d1 s1 g p n;
      in_order = all_there d s xs d1 s1 g p n;
      fits = (queue_law d (take n xs)).0;
      in_time = deadline d s xs d1 s1 g p n;
    }
