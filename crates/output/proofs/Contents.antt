-- A FIFO that is not malformed is its contents laid out in the slots; what the slots hold after a word has left and after one was taken in. Assumes nothing.
use mathlib.Core.Bool.{true, false, not}
use mathlib.Core.List.{List, [], ◌∷◌, ◌++◌}
use mathlib.Core.Path.{◌≡◌, refl, sym, ap, ◌∙◌}
use Prim.Native.Nat.{ℕ, zero, suc, ◌+◌, ◌-◌, ◌≤◌, ◌<◌}
use native.Mathlib.Omega.{arith}
use lib.Dec.{eqb, ltb}
use lib.ListN.{length, take, drop, set, get_or, replicate, length-append, length-drop, length-take, length-replicate, take-append-drop}
use lib.Seq.{take_at, drop_at, drop-append-add, length-take-le, set-append_seam, append_snoc}
use borrow.Author.Tests.{eqb-true, ltb-false, not-false}
use Rattle.bits.proofs.Booleans.{and_true, or_false}
use Rattle.output.specs.declared.Output.{Output}
use Rattle.output.specs.Output.{slot_count, OutputState, contents, laid, with_held, holding, pop, push}
use Rattle.output.specs.WellFormed.{all_zero, bad_depth, bad_fifo, Laid}

-- What is held is what was laid out.
pub contents_holding : (n : ℕ) (vs : List ℕ) (o : Output) → length vs ≡ n → contents (holding n vs o) ≡ vs
unfolding contents holding with_held laid
contents_holding n vs o e = take_at vs _ n e

pub holding_laid : (n : ℕ) (vs : List ℕ) (o : Output) → length vs ≡ n → n ≤ o.depth → o.depth ≤ slot_count → Laid (holding n vs o)
unfolding holding with_held
holding_laid n vs o e fits within = record { fits = fits; within = within; slots = ap laid (sym (contents_holding n vs o e)) }

zeros : (l : List ℕ) → all_zero l ≡ true → l ≡ replicate (length l) 0
unfolding all_zero
zeros [] e = refl
zeros (x ∷ xs) e =
    let (h, rest) = and_true (eqb x 0) (all_zero xs) e in
    rw (eqb-true x 0 h) (ap (λ (r : List ℕ). 0 ∷ r) (zeros xs rest))

zeros_clear : (n : ℕ) → all_zero (replicate n 0) ≡ true
unfolding all_zero
zeros_clear zero = refl
zeros_clear (suc n) = zeros_clear n

-- Behind the held words the slots are 0.
zeros_drop : (k n : ℕ) → all_zero (drop k (replicate n 0)) ≡ true
unfolding all_zero
zeros_drop zero n = zeros_clear n
zeros_drop (suc k) zero = refl
zeros_drop (suc k) (suc n) = zeros_drop k n

pub clear_behind : (n : ℕ) (vs : List ℕ) → length vs ≤ n → all_zero (drop n (laid vs)) ≡ true
unfolding laid
clear_behind n vs le =
    let more : length vs + (n - length vs) ≡ n = omega arith in
    let zs : List ℕ = replicate (slot_count - length vs) 0 in
    ap (λ (k : ℕ). all_zero (drop k (vs ++ zs))) (sym more) ∙ rw (drop-append-add vs zs (n - length vs)) (zeros_drop (n - length vs) (slot_count - length vs))

-- A FIFO that is not malformed is its contents laid out.
pub not_malformed_laid : (x : OutputState) → length x.slots ≡ slot_count → bad_fifo x ≡ false → bad_depth x.output.depth ≡ false → Laid x
unfolding bad_fifo bad_depth laid contents
not_malformed_laid x all e sound =
    let n = x.output.held in
    let (h, z) = or_false (ltb x.output.depth n) (not (all_zero (drop n x.slots))) e in
    let fits : n ≤ x.output.depth = ltb-false _ _ h in
    let within : x.output.depth ≤ slot_count = ltb-false _ _ (or_false (eqb x.output.depth 0) (ltb slot_count x.output.depth) sound).1 in
    let front : length (take n x.slots) ≡ n = length-take-le n x.slots (omega arith) in
    let rest : length (drop n x.slots) ≡ slot_count - length (take n x.slots) = rw (length-drop, front, all) in
    record {
      fits = fits;
      within = within;
      slots =
          sym (take-append-drop n x.slots) ∙
          ap (λ (r : List ℕ). take n x.slots ++ r) (zeros _ (not-false _ z) ∙ ap (λ (k : ℕ). replicate k 0) rest);
    }

module _ (x : OutputState) (l : Laid x) where
  pub all_slots : length x.slots ≡ slot_count
  unfolding laid contents
  all_slots =
      let n : ℕ = length (take x.output.held x.slots) in
      let e = rw (length-append, length-replicate) at (ap length l.slots) in
      omega (arith, length-take x.output.held x.slots, l.fits, l.within)

  pub held_length : length (contents x) ≡ x.output.held
  unfolding contents
  held_length = length-take-le _ _ (omega (arith, l.fits, l.within, all_slots))

  -- A word is taken in behind the others, where a slot is free.
  pub taken_in : (v : ℕ) → x.output.held < slot_count → set x.slots x.output.held v ≡ laid (push v (contents x))
  unfolding laid
  taken_in v space = go (contents x) held_length l.slots
    where
      go : (vs : List ℕ) → length vs ≡ x.output.held → x.slots ≡ laid vs → set x.slots x.output.held v ≡ laid (push v vs)
      go vs n e =
          let k : ℕ = slot_count - length (vs ++ v ∷ []) in
          let one : slot_count - length vs ≡ suc k = rw length-append (omega arith) in
          rw (e, ← n, one, set-append_seam vs 0 (replicate k 0) v) (sym (append_snoc vs v (replicate k 0)))

  -- The oldest word, in slot 0, leaves.
  pub oldest_first : 0 < x.output.held → contents x ≡ get_or x.slots 0 0 ∷ pop (contents x)
  unfolding laid
  oldest_first pos = go (contents x) held_length l.slots
    where
      go : (vs : List ℕ) → length vs ≡ x.output.held → x.slots ≡ laid vs → vs ≡ get_or x.slots 0 0 ∷ pop vs
      go [] n e = absurd (omega arith)
      go (v ∷ vs) n e = rw e

  pub moved_down : 0 < x.output.held → take (x.output.held - 1) (drop 1 x.slots) ++ 0 ∷ drop x.output.held x.slots ≡ laid (pop (contents x))
  unfolding laid
  moved_down pos = go (contents x) held_length l.slots
    where
      go : (vs : List ℕ) → length vs ≡ x.output.held → x.slots ≡ laid vs
          → take (x.output.held - 1) (drop 1 x.slots) ++ 0 ∷ drop x.output.held x.slots ≡ laid (pop vs)
      go [] n e = absurd (omega arith)
      go (v ∷ vs) n e =
          let k : ℕ = slot_count - length (v ∷ vs) in
          let one : slot_count - length vs ≡ suc k = omega (arith, l.fits, l.within) in
          rw (e, one, take_at vs (replicate k 0) (x.output.held - 1) (omega arith), drop_at (v ∷ vs) (replicate k 0) x.output.held n)
