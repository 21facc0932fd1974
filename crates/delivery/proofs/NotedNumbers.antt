-- Noted words and their numbers: those of some samples are those of the first and then of the others (`noted_append`); up to a word's sample it and those before it are noted (`numbered`);
-- and what is noted at the last sample (`last_noted`). By induction on the samples. Assumes nothing.
use mathlib.Core.Bool.{Bool}
use mathlib.Core.List.{List, [], ◌∷◌, ◌++◌, append_assoc}
use Rattle.std.specs.Prelude.{Option, None, Some}
use mathlib.Core.Path.{◌≡◌, refl, sym, ap, ◌∙◌}
use Prim.Native.Nat.{ℕ, zero, suc, ◌+◌, ◌≤◌, ◌<◌}
use native.Mathlib.Omega.{arith}
use lib.ListN.{length, take, length-append}
use borrow.Author.Tests.{eq-eqb, ne_eqb}
use Rattle.rules.specs.declared.Capture.{Capture}
use Rattle.rules.specs.Sample.{capture_sample, next_capture}
use Rattle.delivery.specs.Noted.{Turn, word_turn, next_turn, Noted, note, noted, noted_at}
use Rattle.delivery.proofs.Inputs.{captures}
use Rattle.delivery.proofs.Following.{answered}

-- The turn after some samples.
unfoldable pub turned : Bool → Turn → Capture → List ℕ → Turn
turned two t s [] = t
turned two t s (w ∷ ws) = turned two (next_turn two t s (capture_sample s w)) (next_capture s w) ws

pub turned_append : (two : Bool) (t : Turn) (s : Capture) (xs ys : List ℕ) → turned two t s (xs ++ ys) ≡ turned two (turned two t s xs) (captures s xs) ys
unfolding turned captures
turned_append two t s [] ys = refl
turned_append two t s (w ∷ ws) ys = turned_append two (next_turn two t s (capture_sample s w)) (next_capture s w) ws ys

pub noted_append : (n : ℕ) (two : Bool) (t : Turn) (s : Capture) (xs ys : List ℕ)
    → noted n two t s (xs ++ ys) ≡ noted n two t s xs ++ noted (n + length xs) two (turned two t s xs) (captures s xs) ys
unfolding noted turned captures
noted_append n two t s [] ys = let e : n + 0 ≡ n = omega arith in rw e
noted_append n two t s (w ∷ ws) ys =
    let e : n + suc (length ws) ≡ n + 1 + length ws = omega arith in
    rw (e, noted_append (n + 1) two _ (next_capture s w) ws ys) (sym (append_assoc (note (n + 1) _ _) _ _))

-- A word noted after others, `before`: its number, and that up to its sample those and the word itself are noted.
abbrev Numbered : ℕ → (ℕ → List Noted) → List Noted → Noted → Type 0
Numbered n first before w = (n < w.sample) × ((k : ℕ) → w.sample ≤ n + k → length before < length (first k))

pub numbered : (n : ℕ) (two : Bool) (t : Turn) (s : Capture) (xs : List ℕ) (before : List Noted) (w : Noted) (after : List Noted)
    → noted n two t s xs ≡ before ++ w ∷ after → Numbered n (λ k. noted n two t s (take k xs)) before w
unfolding noted note
numbered n two t s [] before w after e = absurd (omega (arith, simp length-append at (ap length e)))
numbered n two t s (x ∷ xs) before w after e =
    let (later, far) = go (capture_sample s x).word before (λ rest. numbered (n + 1) two u (next_capture s x) xs rest w after) e in
    (later, reach later far)
  where
    u : Turn
    u = next_turn two t s (capture_sample s x)

    next : ℕ → List Noted
    next k = noted (n + 1) two u (next_capture s x) (take k xs)

    go : (o : Option ℕ) (before : List Noted)
        → ((rest : List Noted) → noted (n + 1) two u (next_capture s x) xs ≡ rest ++ w ∷ after → Numbered (n + 1) next rest w)
        → note (n + 1) (word_turn two t) o ++ noted (n + 1) two u (next_capture s x) xs ≡ before ++ w ∷ after
        → (n < w.sample) × ((k : ℕ) → w.sample ≤ n + suc k → length before < length (note (n + 1) (word_turn two t) o ++ next k))
    go None before ih e = let (later, far) = ih before e in (omega arith, λ k h. far k (omega arith))
    go (Some v) [] ih e = let at : w.sample ≡ n + 1 = cc in (omega arith, λ k h. omega arith)
    go (Some v) (b ∷ rest) ih e = let (later, far) = ih rest (cc) in (omega arith, λ k h. omega (arith, far k (omega arith)))

    reach : n < w.sample → ((k : ℕ) → w.sample ≤ n + suc k → length before < length (note (n + 1) (word_turn two t) (capture_sample s x).word ++ next k))
        → (k : ℕ) → w.sample ≤ n + k → length before < length (noted n two t s (take k (x ∷ xs)))
    reach later far zero h = absurd (omega arith)
    reach later far (suc k) h = far k h

-- An entry with a smaller number is passed over.
pass_note : (k m : ℕ) (t : Turn) (o : Option ℕ) (rest : List Noted) → m < k → noted_at k (note m t o ++ rest) ≡ noted_at k rest
unfolding note noted_at
pass_note k m t None rest h = refl
pass_note k m t (Some v) rest h = rw (ne_eqb m k (omega arith))

at_own : (k : ℕ) (t : Turn) (o : Option ℕ) → noted_at k (note k t o ++ []) ≡ answered o
unfolding note noted_at
at_own k t None = refl
at_own k t (Some v) = rw (eq-eqb k k refl)

pub last_noted : (n : ℕ) (two : Bool) (t : Turn) (s : Capture) (xs : List ℕ) (w : ℕ)
    → noted_at (n + length xs + 1) (noted n two t s (xs ++ w ∷ [])) ≡ answered (capture_sample (captures s xs) w).word
unfolding noted captures
last_noted n two t s [] w = let e : n + 0 ≡ n = omega arith in rw e (at_own (n + 1) (word_turn two t) (capture_sample s w).word)
last_noted n two t s (x ∷ xs) w =
    let e : n + suc (length xs) ≡ n + 1 + length xs = omega arith in
    rw e (pass_note _ (n + 1) (word_turn two t) (capture_sample s x).word _ (omega arith) ∙ last_noted (n + 1) two _ (next_capture s x) xs w)
