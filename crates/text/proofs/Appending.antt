-- Text put behind text is put there as one. Assumes nothing.
use mathlib.Core.List.{List, [], ◌∷◌, ◌++◌}
use mathlib.Core.Path.{◌≡◌, refl, sym, ap, ◌∙◌}
use Prim.Native.Nat.{ℕ, suc, ◌+◌, ◌-◌, ◌≤◌, ◌<◌, min}
use native.Mathlib.Numerals.{add-one}
use native.Mathlib.Decide.{dec_le}
use native.Mathlib.Omega.{arith}
use lib.ListN.{length, get_or, set, drop, length-append, drop_of_length-le}
use lib.Seq.{sets, length-sets, set_out, drop-cons}
use Rattle.numbers.proofs.Putting.{sets_append}
use Rattle.text.specs.Putting.{Put, put}

sets_out : (l : List ℕ) (i : ℕ) (bs : List ℕ) → length l ≤ i → sets l i bs ≡ l
sets_out l i [] past = refl
sets_out l i (b ∷ bs) past = rw (set_out l i b past) (sets_out l (suc i) bs (omega arith))

-- The place behind some text.
abbrev behind : ℕ → ℕ → ℕ → ℕ
behind n at room = at + min n (room - at)

buffers : (xs ys : List ℕ) (at : ℕ) (l : List ℕ) → sets l at (xs ++ ys) ≡ sets (sets l at xs) (behind (length xs) at (length l)) ys
buffers xs ys at l = sets_append l at xs ys ∙ go (dec_le (at + length xs) (length l))
  where
    go : Dec (at + length xs ≤ length l) → sets (sets l at xs) (at + length xs) ys ≡ sets (sets l at xs) (behind (length xs) at (length l)) ys
    go (yes fits) =
        let same : at + length xs ≡ behind (length xs) at (length l) = omega arith in
        rw same
    go (no over) =
        sets_out (sets l at xs) (at + length xs) ys (rw length-sets (omega arith))
        ∙ sym (sets_out (sets l at xs) (behind (length xs) at (length l)) ys (rw length-sets (omega arith)))

pub put_append : (xs ys : List ℕ) (at : ℕ) (l : List ℕ) → put (xs ++ ys) at l ≡ put ys (put xs at l).place (put xs at l).buffer
unfolding put
put_append xs ys at l =
    let place : behind (length (xs ++ ys)) at (length l) ≡ behind (length ys) (behind (length xs) at (length l)) (length (sets l at xs)) = rw (length-append, length-sets) (omega arith) in
    let buffer = buffers xs ys at l in
    λ i. record { place = place i; buffer = buffer i }

-- Nothing put, and one byte.
pub put_none : (at : ℕ) (l : List ℕ) → put [] at l ≡ record { place = at; buffer = l }
unfolding put
put_none at l =
    let place : behind 0 at (length l) ≡ at = omega arith in
    rw place

pub put_one : (b at : ℕ) (l : List ℕ) → at < length l → put (b ∷ []) at l ≡ record { place = at + 1; buffer = set l at b }
unfolding put
put_one b at l fits =
    let place : behind 1 at (length l) ≡ at + 1 = omega arith in
    rw place

pub put_full : (b at : ℕ) (l : List ℕ) → length l ≤ at → put (b ∷ []) at l ≡ record { place = at; buffer = l }
unfolding put
put_full b at l past =
    let place : behind 1 at (length l) ≡ at = omega arith in
    rw (place, set_out l at b past)

-- Bytes one at a time: one further, and none left.
module _ (bytes : List ℕ) (i place : ℕ) (l : List ℕ) (all : Put) (left : put (drop i bytes) place l ≡ all) where
  pub put_on : (place' : ℕ) (l' : List ℕ) → i < length bytes → ◌≡◌ {A = Put} (record { place = place'; buffer = l' }) (put (get_or bytes i 0 ∷ []) place l) → put (drop (i + 1) bytes) place' l' ≡ all
  put_on place' l' more put_here =
      let rest : put (get_or bytes i 0 ∷ drop (suc i) bytes) place l ≡ all = rw (drop-cons bytes i 0 more) at left in
      let parted = put_append (get_or bytes i 0 ∷ []) (drop (suc i) bytes) place l in
      rw add-one (ap (λ (p : Put). put (drop (suc i) bytes) p.place p.buffer) put_here ∙ sym parted ∙ rest)

  pub put_over : length bytes ≤ i → ◌≡◌ {A = Put} (record { place = place; buffer = l }) all
  put_over past = sym (put_none place l) ∙ (rw (drop_of_length-le bytes past) at left)

-- One byte behind some text.
pub put_behind : (xs : List ℕ) (b at : ℕ) (l : List ℕ) (place : ℕ) (l' : List ℕ) → ◌≡◌ {A = Put} (record { place = place; buffer = l' }) (put xs at l) → put (b ∷ []) place l' ≡ put (xs ++ (b ∷ [])) at l
put_behind xs b at l place l' before = ap (λ (p : Put). put (b ∷ []) p.place p.buffer) before ∙ sym (put_append xs (b ∷ []) at l)

-- Text and then more of it.
pub put_then : (xs ys : List ℕ) (at : ℕ) (l : List ℕ) (place : ℕ) (l' : List ℕ) (end : ℕ) (l'' : List ℕ) → ◌≡◌ {A = Put} (record { place = place; buffer = l' }) (put xs at l)
    → ◌≡◌ {A = Put} (record { place = end; buffer = l'' }) (put ys place l') → ◌≡◌ {A = Put} (record { place = end; buffer = l'' }) (put (xs ++ ys) at l)
put_then xs ys at l place l' end l'' first more = more ∙ ap (λ (p : Put). put ys p.place p.buffer) first ∙ sym (put_append xs ys at l)

-- The place is within the buffer, whose length stays.
pub put_within : (xs : List ℕ) (at : ℕ) (l : List ℕ) (place : ℕ) (l' : List ℕ) → ◌≡◌ {A = Put} (record { place = place; buffer = l' }) (put xs at l) → at ≤ length l → place ≤ length l'
unfolding put
put_within xs at l place l' is within =
    let same : length l' ≡ length l = ap (λ (p : Put). length p.buffer) is ∙ length-sets l at xs in
    omega (arith, ap (λ (p : Put). p.place) is)
