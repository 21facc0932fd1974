-- The samples of a file, one at a time, in pieces, and from its bytes; and what the decoding loop keeps.
use mathlib.Core.Bool.{Bool, true, false, cond}
use mathlib.Core.List.{List, ◌∷◌, ◌++◌}
use mathlib.Core.Path.{◌≡◌, refl, sym, ap, ◌∙◌}
use Prim.Native.Nat.{ℕ, zero, suc, ◌+◌, ◌*◌, ◌/◌, ◌≤◌, ◌<◌, min}
use native.Mathlib.Nat.{zero-add}
use native.Mathlib.Numerals.{add-one}
use native.Mathlib.Omega.{arith}
use lib.Dec.{eqb}
use lib.ListN.{length, get_or, set, take, drop, length-append, length-drop}
use lib.Seq.{sets, drop-drop, take-suc, take_at, drop_at, length-take-le, take_all, take-take}
use borrow.Author.Tests.{ne_eqb}
use denote.Ref.{Bor}
use Rattle.std.specs.List.{enumerate_from}
use Rattle.std.proofs.lemmas.List.{drop-take}
use Rattle.std.proofs.lemmas.List.FromFn.{get_or-enumerate_from, length-enumerate_from}
use Rattle.std.specs.Prelude.{Some, None, Result, Ok}
use Rattle.std.specs.Slice.Iter.{chunks_exact_rest, chunks_exact_size, chunks_exact_steps}
use Rattle.std.specs.declared.slice.ChunksExact.{ChunksExact}
use Rattle.std.proofs.lemmas.Iterator.{YieldsList}
use Rattle.std.proofs.lemmas.Iterator.Splits.{YieldsList-from_shown_while}
use Rattle.numbers.specs.Numbers.{number_at}
use Rattle.refusals.specs.declared.Refusal.{Refusal}
use Rattle.samples.specs.Samples.{any_bad}
use Rattle.trace_format.specs.Reading.{sample_start, sample_at, samples_from}
use Rattle.trace.specs.Decoding.{samples_in, how_many, many, the_end, refused, samples_at}
use Rattle.trace.specs.Answers.{samples}
use Rattle.trace_format.specs.Format.{sample_size}
use Rattle.numbers.proofs.Putting.{sets_append, put_over}

-- Samples one after the other, whatever their bits.
pub samples_in_length : (n : ℕ) (r : List ℕ) → length (samples_in n r) ≡ n
unfolding samples_in
samples_in_length zero r = refl
samples_in_length (suc n) r = ap suc (samples_in_length n (drop sample_size r))

-- One more sample, put behind those at the front of an array.
pub put_on : (array₀ array all : List ℕ) (k w d : ℕ) → array ≡ sets array₀ 0 (take k all) → k < length all → w ≡ get_or all k d → set array k w ≡ sets array₀ 0 (take (k + 1) all)
put_on array₀ array all k w d front inside e =
    let long : length (take k all) ≡ k = length-take-le k all (omega arith) in
    rw (add-one, take-suc all k d inside, sets_append, long, zero-add, front, e)

-- The place and the sample that one turn of a loop over numbered samples has.
pub turn_is : (all : List ℕ) (k i w : ℕ) → k < length (enumerate_from 0 all) → ◌≡◌ {A = ℕ × ℕ} (i, w) (get_or (enumerate_from 0 all) k (i, w)) → (k < length all) × (i ≡ k) × (w ≡ get_or all k w)
turn_is all k i w h e =
    let inside : k < length all = omega (arith, length-enumerate_from 0 all) in
    let at = e ∙ get_or-enumerate_from 0 all k (i, w) inside in
    (inside, ap (λ (p : ℕ × ℕ). p.0) at ∙ zero-add k, ap (λ (p : ℕ × ℕ). p.1) at)

-- Three bytes at a time are the samples.
number_front : (x r : List ℕ) → length x ≡ sample_size → number_at (x ++ r) 0 sample_size ≡ number_at x 0 sample_size
unfolding number_at
number_front x r three = rw (take_at x r sample_size three, take_all sample_size x (omega (arith, three)))

samples_front : (x r : List ℕ) → length x ≡ sample_size → samples_in (length (x ++ r) / sample_size) (x ++ r) ≡ number_at x 0 sample_size ∷ samples_in (length r / sample_size) r
unfolding samples_in
samples_front x r three =
    let one : length (x ++ r) / sample_size ≡ suc (length r / sample_size) = omega (arith, length-append x r) in
    rw (one, number_front x r three, drop_at x r sample_size three)

pub in_threes : {s : ChunksExact ℕ} (bytes : List ℕ) → chunks_exact_rest s ≡ bytes → chunks_exact_size s ≡ sample_size
    → YieldsList chunks_exact_steps (λ (x : Bor (List ℕ)). number_at x.now 0 sample_size) s (samples_in (length bytes / sample_size) bytes)
in_threes {s} bytes e three = rw (← e) (YieldsList-from_shown_while chunks_exact_steps (λ (x : Bor (List ℕ)). number_at x.now 0 sample_size) shown (λ s. chunks_exact_size s ≡ sample_size) none some s three)
  where
    shown : ChunksExact ℕ → List ℕ
    shown s = samples_in (length (chunks_exact_rest s) / sample_size) (chunks_exact_rest s)

    none : (s t : ChunksExact ℕ) → chunks_exact_size s ≡ sample_size → chunks_exact_steps s None t → length (shown s) ≡ 0
    none s t three step = samples_in_length _ _ ∙ omega (arith, step.1.0)

    some : (s : ChunksExact ℕ) (x : Bor (List ℕ)) (t : ChunksExact ℕ) → chunks_exact_size s ≡ sample_size → chunks_exact_steps s (Some x) t → (chunks_exact_size t ≡ sample_size) × (shown s ≡ number_at x.now 0 sample_size ∷ shown t)
    some s x t three step = (step.0 ∙ three, rw step.1.0 (samples_front x.now (chunks_exact_rest t) (step.1.1 ∙ three)))

pub samples_here : (f : List ℕ) (n k : ℕ) → samples_in n (drop (sample_start f k) f) ≡ samples_from f k n
unfolding samples_in samples_from sample_at number_at
samples_here f zero k = refl
samples_here f (suc n) k =
    let next : sample_start f k + sample_size ≡ sample_start f (suc k) = omega arith in
    rw (drop-drop sample_size (sample_start f k) f, next, samples_here f n (suc k))

-- The bytes of n samples are enough for them.
pub samples_take : (n : ℕ) (r : List ℕ) → sample_size * n ≤ length r → samples_in n (take (sample_size * n) r) ≡ samples_in n r
unfolding samples_in number_at
samples_take zero r h = refl
samples_take (suc n) r h =
    let m : sample_size * suc n ≡ sample_size + sample_size * n = omega arith in
    rw (m, take-take sample_size (sample_size + sample_size * n) r (omega arith), drop-take sample_size (sample_size * n) r) (ap (λ (l : List ℕ). number_at r 0 sample_size ∷ l) (samples_take n (drop sample_size r) (rw length-drop (omega arith))))

-- What samples many at a time answer: how many, or refusal 7 where one is bad.
module _ (bytes : List ℕ) (at most room n : ℕ) (is : n ≡ how_many bytes at most room) where
  pub one_bad : any_bad (samples_in n (drop at bytes)) ≡ true → refused 7 ≡ samples_at bytes at most room
  unfolding samples_at samples_in any_bad
  one_bad bad = rw (← is) (go n bad)
    where
      go : (m : ℕ) → any_bad (samples_in m (drop at bytes)) ≡ true → refused 7 ≡ cond (eqb m 0) the_end (cond (any_bad (samples_in m (drop at bytes))) (refused 7) (many m))
      go zero e = cc
      go (suc m) e = rw (ne_eqb (suc m) 0 (λ z. absurd (omega arith)), e)

  pub all_good : any_bad (samples_in n (drop at bytes)) ≡ false → samples (Ok n) ≡ samples_at bytes at most room
  unfolding samples_at
  all_good good = rw (← is) (go n good)
    where
      go : (m : ℕ) → any_bad (samples_in m (drop at bytes)) ≡ false → samples (Ok m) ≡ cond (eqb m 0) the_end (cond (any_bad (samples_in m (drop at bytes))) (refused 7) (many m))
      go zero e = refl
      go (suc m) e = rw (ne_eqb (suc m) 0 (λ z. absurd (omega arith)), e)

-- The samples from a byte on, put at the front of an array: how many they are, the array, and its front.
pub at_front : (bytes rest array array' : List ℕ) (at most m n : ℕ) → rest ≡ drop at bytes → m ≡ min (length array) most → n ≡ min m (length rest / sample_size)
    → array' ≡ sets array 0 (samples_in (length (take (sample_size * n) rest) / sample_size) (take (sample_size * n) rest))
    → (n ≡ how_many bytes at most (length array)) × (array' ≡ sets array 0 (samples_in n (drop at bytes))) × (take n array' ≡ samples_in n (drop at bytes))
unfolding how_many
at_front bytes rest array array' at most m n r e f put =
    let long : length (take (sample_size * n) rest) ≡ sample_size * n = length-take-le (sample_size * n) rest (omega arith) in
    let some : length (take (sample_size * n) rest) / sample_size ≡ n = omega (arith, long) in
    let same : samples_in (length (take (sample_size * n) rest) / sample_size) (take (sample_size * n) rest) ≡ samples_in n (drop at bytes) = rw some (rw (← r) (samples_take n rest (omega arith))) in
    let front : array' ≡ sets array 0 (samples_in n (drop at bytes)) = put ∙ ap (λ (l : List ℕ). sets array 0 l) same in
    let l = samples_in_length n (drop at bytes) in (
      omega (arith, rw r at f, length-drop at bytes),
      front,
      rw (front, put_over array (samples_in n (drop at bytes)) n l (omega arith)) (take_at (samples_in n (drop at bytes)) (drop n array) n l),
    )

-- Of so many samples, how many there are, and that none is bad.
pub record Many (bytes : List ℕ) (at most room n : ℕ) : Type 0 where
  pub is : n ≡ how_many bytes at most room
  pub good : any_bad (samples_in n (drop at bytes)) ≡ false

no_samples : (r : List ℕ) → any_bad (samples_in 0 r) ≡ false
unfolding samples_in any_bad
no_samples r = refl

end_only : (m : ℕ) (b : Bool) → (m ≡ 0 → ⊥) → the_end ≡ cond (eqb m 0) the_end (cond b (refused 7) (many m)) → ⊥
end_only m true some e = let k = rw (ne_eqb m 0 some) at e in cc
end_only m false some e = let k = rw (ne_eqb m 0 some) at e in cc

some_samples : (n m : ℕ) (b : Bool) → (n ≡ 0 → ⊥) → samples (Ok n) ≡ cond b (refused 7) (many m) → (n ≡ m) × (b ≡ false)
some_samples zero m b some e = absurd (some refl)
some_samples (suc n) m true some e = cc
some_samples (suc n) m false some e = (cc, refl)

pub so_many : (bytes : List ℕ) (at most room n : ℕ) → samples (Ok n) ≡ samples_at bytes at most room → Many bytes at most room n
unfolding samples_at
so_many bytes at most room n e = go n (how_many bytes at most room) refl e
  where
    go : (n m : ℕ) → m ≡ how_many bytes at most room → samples (Ok n) ≡ cond (eqb m 0) the_end (cond (any_bad (samples_in m (drop at bytes))) (refused 7) (many m)) → Many bytes at most room n
    go zero zero is e = record { is = is; good = no_samples (drop at bytes) }
    go (suc n) zero is e = cc
    go zero (suc m) is e = absurd (end_only (suc m) _ (λ z. absurd (omega arith)) e)
    go (suc n) (suc m) is e =
        let (same, good) = some_samples (suc n) (suc m) _ (λ z. absurd (omega arith)) (rw (ne_eqb (suc m) 0 (λ z. absurd (omega arith))) at e) in
        record { is = same ∙ is; good = rw same good }

-- The same of the code's answer, taken apart.
pub taken_apart : (bytes : List ℕ) (at most room : ℕ) (r : Result ℕ Refusal) (n : ℕ) → r ≡ Ok n → samples r ≡ samples_at bytes at most room → Many bytes at most room n
taken_apart bytes at most room r n e told = so_many bytes at most room n (sym (ap samples e) ∙ told)
