-- Byte by byte, the same pieces come as from the cut of the whole list, and the same bytes wait; no byte is lost or doubled.
-- The idea: what waits stands in front of the bytes that come, and one byte more is one step of the cut. Assumes nothing.
use mathlib.Core.Bool.{Bool, true, false, cond, true≢false}
use mathlib.Core.List.{List, [], ◌∷◌, ◌++◌, map, append_assoc}
use mathlib.Core.Path.{◌≡◌, refl, sym, ap}
use Prim.Native.Nat.{ℕ, ◌+◌, ◌≤◌}
use native.Mathlib.Omega.{arith}
use lib.Dec.{eqb}
use lib.ListN.{length}
use borrow.Author.Tests.{eqb-true}
use Rattle.codes.specs.declared.Waiting.{Waiting}
use Rattle.codes.specs.declared.Waiting.TheVariants.{Zero, One, Two, Three}
use Rattle.codes.specs.Bytes.{waiting_bytes, waiting_count, is_code, waiting_after, released, Piece, a_datum, a_code, pieces_of, in_front, by_bytes, cut, piece_bytes, bytes_of}

-- A byte is 0, FF or another one.
by_byte : (P : Bool → Bool → Type 0) (x : ℕ) → (x ≡ 0 → P true false) → (x ≡ 0xFF → P false true) → (eqb x 0 ≡ false → eqb x 0xFF ≡ false → P false false)
    → P (eqb x 0) (eqb x 0xFF)
by_byte P x zeros ones other = go (eqb x 0) (eqb x 0xFF) refl refl
  where
    go : (a b : Bool) → eqb x 0 ≡ a → eqb x 0xFF ≡ b → P a b
    go true true e f = absurd (omega (arith, eqb-true x 0 e, eqb-true x 0xFF f))
    go true false e f = zeros (eqb-true x 0 e)
    go false true e f = ones (eqb-true x 0xFF f)
    go false false e f = other e f

-- One byte: what it releases and what waits then are the bytes that waited and itself.
pub one_byte_count : (k : Waiting) (x : ℕ) → is_code k ≡ false → length (released k x) + waiting_count (waiting_after k x) ≡ waiting_count k + 1
unfolding released waiting_after
one_byte_count Zero x e =
    by_byte (λ a b. length (cond b [] (x ∷ [])) + waiting_count (cond b One Zero) ≡ 1) x (λ z. refl) (λ z. refl) (λ z y. refl)
one_byte_count One x e =
    by_byte (λ a b. length (cond a [] (cond b (0xFF ∷ []) (0xFF ∷ x ∷ []))) + waiting_count (cond a Two (cond b One Zero)) ≡ 2) x (λ z. refl) (λ z. refl) (λ z y. refl)
one_byte_count Two x e =
    by_byte (λ a b. length (cond a [] (cond b (0xFF ∷ 0 ∷ []) (0xFF ∷ 0 ∷ x ∷ []))) + waiting_count (cond a Three (cond b One Zero)) ≡ 3) x (λ z. refl) (λ z. refl) (λ z y. refl)
one_byte_count Three x e = absurd (true≢false e)

pub few_released : (k : Waiting) (x : ℕ) → length (released k x) ≤ 3
unfolding released
few_released Zero x = omega (arith, one_byte_count Zero x refl)
few_released One x = omega (arith, one_byte_count One x refl)
few_released Two x = omega (arith, one_byte_count Two x refl)
few_released Three x = omega arith

pub one_byte : (k : Waiting) (x : ℕ) → waiting_bytes k ++ (x ∷ []) ≡ bytes_of (pieces_of k x) ++ waiting_bytes (waiting_after k x)
unfolding released waiting_after pieces_of bytes_of
one_byte Zero x =
    by_byte (λ a b. x ∷ [] ≡ bytes_of (map a_datum (cond b [] (x ∷ []))) ++ waiting_bytes (cond b One Zero)) x
    (λ z. refl)
    (λ z. ap (λ y. y ∷ []) z)
    (λ z y. refl)
one_byte One x =
    by_byte (λ a b. 0xFF ∷ x ∷ [] ≡ bytes_of (map a_datum (cond a [] (cond b (0xFF ∷ []) (0xFF ∷ x ∷ [])))) ++ waiting_bytes (cond a Two (cond b One Zero))) x
    (λ z. ap (λ y. 0xFF ∷ y ∷ []) z)
    (λ z. ap (λ y. 0xFF ∷ y ∷ []) z)
    (λ z y. refl)
one_byte Two x =
    by_byte (λ a b. 0xFF ∷ 0 ∷ x ∷ [] ≡ bytes_of (map a_datum (cond a [] (cond b (0xFF ∷ 0 ∷ []) (0xFF ∷ 0 ∷ x ∷ [])))) ++ waiting_bytes (cond a Three (cond b One Zero))) x
    (λ z. ap (λ y. 0xFF ∷ 0 ∷ y ∷ []) z)
    (λ z. ap (λ y. 0xFF ∷ 0 ∷ y ∷ []) z)
    (λ z y. refl)
one_byte Three x = refl

bytes_append : (ps qs : List Piece) → bytes_of (ps ++ qs) ≡ bytes_of ps ++ bytes_of qs
unfolding bytes_of
bytes_append [] qs = refl
bytes_append (p ∷ ps) qs = rw (bytes_append ps qs) (sym (append_assoc (piece_bytes p) (bytes_of ps) (bytes_of qs)))

-- Many bytes, where some wait: none is lost or doubled.
pub nothing_lost_after : (k : Waiting) (bs : List ℕ) → bytes_of (by_bytes k bs).pieces ++ waiting_bytes (by_bytes k bs).waits ≡ waiting_bytes k ++ bs
unfolding by_bytes bytes_of
nothing_lost_after Zero [] = refl
nothing_lost_after One [] = refl
nothing_lost_after Two [] = refl
nothing_lost_after Three [] = refl
nothing_lost_after k (x ∷ xs) =
    rw (
      bytes_append (pieces_of k x) (by_bytes (waiting_after k x) xs).pieces,
      append_assoc (bytes_of (pieces_of k x)) (bytes_of (by_bytes (waiting_after k x) xs).pieces) (waiting_bytes (by_bytes (waiting_after k x) xs).waits),
      nothing_lost_after (waiting_after k x) xs,
      ← append_assoc (bytes_of (pieces_of k x)) (waiting_bytes (waiting_after k x)) xs,
      ← one_byte k x,
    )
    (append_assoc (waiting_bytes k) (x ∷ []) xs)

-- A first byte that begins no code, and two or three that begin none.
not_one : (a : ℕ) (bs : List ℕ) → eqb a 0xFF ≡ false → cut (a ∷ bs) ≡ in_front (a_datum a ∷ []) (cut bs)
unfolding cut
not_one a [] e = rw e
not_one a (b ∷ []) e = rw e
not_one a (b ∷ c ∷ []) e = rw e
not_one a (b ∷ c ∷ d ∷ bs) e = rw e

not_two : (b : ℕ) (bs : List ℕ) → eqb b 0 ≡ false → cut (0xFF ∷ b ∷ bs) ≡ in_front (a_datum 0xFF ∷ []) (cut (b ∷ bs))
unfolding cut
not_two b [] e = rw e
not_two b (c ∷ []) e = rw e
not_two b (c ∷ d ∷ bs) e = rw e

not_three : (c : ℕ) (bs : List ℕ) → eqb c 0 ≡ false → cut (0xFF ∷ 0 ∷ c ∷ bs) ≡ in_front (a_datum 0xFF ∷ []) (cut (0 ∷ c ∷ bs))
unfolding cut
not_three c [] e = rw e
not_three c (d ∷ bs) e = rw e

-- One byte more is one step of the cut.
cut_step : (k : Waiting) (x : ℕ) (xs : List ℕ) → cut (waiting_bytes k ++ (x ∷ xs)) ≡ in_front (pieces_of k x) (cut (waiting_bytes (waiting_after k x) ++ xs))
unfolding released waiting_after pieces_of
cut_step Zero x xs =
    by_byte (λ a b. cut (x ∷ xs) ≡ in_front (map a_datum (cond b [] (x ∷ []))) (cut (waiting_bytes (cond b One Zero) ++ xs))) x
    (λ z. not_one x xs (rw z))
    (λ z. ap (λ y. cut (y ∷ xs)) z)
    (λ z y. not_one x xs y)
cut_step One x xs =
    by_byte (λ a b. cut (0xFF ∷ x ∷ xs) ≡ in_front (map a_datum (cond a [] (cond b (0xFF ∷ []) (0xFF ∷ x ∷ [])))) (cut (waiting_bytes (cond a Two (cond b One Zero)) ++ xs))) x
    (λ z. ap (λ y. cut (0xFF ∷ y ∷ xs)) z)
    (λ z. rw z (not_two 0xFF xs refl))
    (λ z y. rw (not_two x xs z, not_one x xs y))
cut_step Two x xs =
    by_byte (λ a b. cut (0xFF ∷ 0 ∷ x ∷ xs) ≡ in_front (map a_datum (cond a [] (cond b (0xFF ∷ 0 ∷ []) (0xFF ∷ 0 ∷ x ∷ [])))) (cut (waiting_bytes (cond a Three (cond b One Zero)) ++ xs))) x
    (λ z. ap (λ y. cut (0xFF ∷ 0 ∷ y ∷ xs)) z)
    (λ z. rw (z, not_three 0xFF xs refl) (ap (in_front (a_datum 0xFF ∷ [])) (not_one 0 (0xFF ∷ xs) refl)))
    (λ z y. rw (not_three x xs z, not_one 0 (x ∷ xs) refl, not_one x xs y))
cut_step Three x xs = unfold cut in refl

pub whole_after : (k : Waiting) (bs : List ℕ) → by_bytes k bs ≡ cut (waiting_bytes k ++ bs)
unfolding by_bytes cut
whole_after Zero [] = refl
whole_after One [] = refl
whole_after Two [] = refl
whole_after Three [] = refl
whole_after k (x ∷ xs) = rw (whole_after (waiting_after k x) xs) (sym (cut_step k x xs))

-- The bytes of a list give, one by one, the pieces of its cut, and leave the same bytes waiting.
pub whole : (bs : List ℕ) → by_bytes Zero bs ≡ cut bs
whole bs = whole_after Zero bs

-- The bytes of the pieces, each code as FF 00 00 XY, and the bytes that wait are the list.
pub nothing_lost : (bs : List ℕ) → bytes_of (cut bs).pieces ++ waiting_bytes (cut bs).waits ≡ bs
nothing_lost bs = rw (← whole bs) (nothing_lost_after Zero bs)

-- FF 00 00 FF 00 00 AB: the XY FF begins no code. FF FF 00 00 10: the second FF does. FF 00 FF 00: the first two are data, and FF 00 waits.
pub cases : (cut (0xFF ∷ 0 ∷ 0 ∷ 0xFF ∷ 0 ∷ 0 ∷ 0xAB ∷ []) ≡ record { pieces = a_code 0xFF ∷ a_datum 0 ∷ a_datum 0 ∷ a_datum 0xAB ∷ []; waits = Zero })
    × (cut (0xFF ∷ 0xFF ∷ 0 ∷ 0 ∷ 0x10 ∷ []) ≡ record { pieces = a_datum 0xFF ∷ a_code 0x10 ∷ []; waits = Zero })
    × (cut (0xFF ∷ 0 ∷ 0xFF ∷ 0 ∷ []) ≡ record { pieces = a_datum 0xFF ∷ a_datum 0 ∷ []; waits = Two })
unfolding cut
cases = (refl, refl, refl)
