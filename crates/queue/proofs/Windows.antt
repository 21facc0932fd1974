-- The premises, read for a part bs of the inputs ps ++ (bs ++ cs) in place of a window by its numbers.
-- A window that begins with bs is bs and some of cs; k windows of s samples hold at most k words (`sparse`).
use Prim.Native.Nat.{ℕ, zero, suc, ◌+◌, ◌*◌, ◌-◌, ◌≤◌}
use mathlib.Core.Path.{◌≡◌, refl}
use mathlib.Core.List.{List, ◌++◌}
use native.Mathlib.Nat.{zero-mul, suc-mul, add_comm}
use native.Mathlib.Omega.{arith}
use lib.ListN.{length, take, drop, length-append}
use lib.Seq.{take-add, drop-drop, take_at, drop_at, take-append-add}
use Rattle.queue.specs.Queue.{Input, grants, words, Granted, Spaced}
use Rattle.queue.proofs.Flow.{words_append}

module _ {A : Type 0} where
  words_count : (xs ys : List (Input A)) → length (words (xs ++ ys)) ≡ length (words xs) + length (words ys)
  words_count xs ys = rw words_append (length-append (words xs) (words ys))

  -- k * s consecutive samples hold at most k words
  sparse : (s : ℕ) (xs : List (Input A)) → Spaced s xs → (k m : ℕ) → length (words (take (k * s) (drop m xs))) ≤ k
  unfolding words
  sparse s xs p zero m = rw zero-mul (omega arith)
  sparse s xs p (suc k) m =
      let sum = words_count (take s (drop m xs)) (take (k * s) (drop (m + s) xs)) in
      rw (suc-mul, add_comm (k * s) s, take-add, drop-drop) (omega (arith, p m, sparse s xs p k (m + s)))

  pub few_words : (k s : ℕ) (ps bs cs : List (Input A)) → Spaced s (ps ++ (bs ++ cs)) → length bs ≤ k * s → length (words bs) ≤ k
  few_words k s ps bs cs p h =
      let m : ℕ = k * s - length bs in
      let e : k * s ≡ length bs + m = omega arith in
      let few = rw (drop_at ps (bs ++ cs) (length ps) refl, e, take-append-add bs cs m) at (sparse s (ps ++ (bs ++ cs)) p k (length ps)) in
      omega (arith, words_count bs (take m cs))

  pub enough_grants : (d s : ℕ) (ps bs cs : List (Input A)) → Granted d s (ps ++ (bs ++ cs)) → length bs ≡ d * s → d ≤ grants bs
  enough_grants d s ps bs cs g e =
      let within : length ps + d * s ≤ length (ps ++ (bs ++ cs)) = omega (arith, length-append ps (bs ++ cs), length-append bs cs) in
      rw (drop_at ps (bs ++ cs) (length ps) refl, take_at bs cs (d * s) e) at (g (length ps) within)
