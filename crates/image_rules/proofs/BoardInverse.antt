-- A board and its image give each other back: `board_of` and `image_of` are inverse, on boards with all their slots and on images that encode one. Assumes nothing.
use mathlib.Core.Bool.{true}
use mathlib.Core.List.{List, [], ◌∷◌, ◌++◌, append-nil}
use mathlib.Core.Path.{◌≡◌, refl, ◌∙◌}
use Prim.Native.Nat.{ℕ, zero, suc, ◌+◌, ◌≤◌}
use native.Mathlib.Omega.{arith}
use native.Mathlib.Nat.{zero-add}
use lib.Dec.{eqb, leb}
use lib.ListN.{length, take, drop, get_or, length-append, length-take, length-drop, take-append-drop, drop_of_length-le}
use lib.Seq.{take_all, take-length, take_at, drop_at, paste}
use borrow.Author.Tests.{leb-true, eqb-true, ne_eqb}
use Rattle.bits.proofs.Booleans.{and_true}
use Rattle.buffers.specs.declared.Buffer.{Buffer}
use Rattle.buffers.specs.declared.Buffer.TheVariants.{A, B}
use Rattle.buffers.specs.declared.Content.{Content}
use Rattle.buffers.specs.declared.Content.TheVariants.{Nothing, Landing, Complete}
use Rattle.board_rules.specs.declared.Mode.{Mode}
use Rattle.board_rules.specs.declared.Mode.TheVariants.{One, Two}
use Rattle.board_rules.specs.declared.Board.{Board}
use Rattle.output.specs.Output.{slot_count}
use Rattle.image_rules.specs.Image.{image_words}
use Rattle.image_rules.specs.Image as image
use Rattle.image_rules.proofs.Inverse.{flag_back, flag_fits, word_back, elements, elements_first, image_size}
use Rattle.image_rules.proofs.Inverse as inverse
use Rattle.image_rules.specs.BoardImage.{buffer_word, content_word, mode_words, image_of, zeros_encode, turns_encode, mode_encodes, encodes, buffer_of, content_of, mode_of, board_of}

-- Two parts put into words, one behind the other, are all of them.
pub put_both : (l a b : List ℕ) (n : ℕ) → length a ≡ n → length l ≡ n + length b → paste (paste l 0 a (length a)) n b (length b) ≡ a ++ b
put_both l a b n e f =
    let first : paste l 0 a (length a) ≡ a ++ drop n l = rw (take-length a, zero-add, e) in
    let size : length (a ++ drop n l) ≤ n + length b = rw (length-append a (drop n l), length-drop n l) (omega arith) in
    rw (first, take_at a (drop n l) n e, take-length b, drop_of_length-le (a ++ drop n l) size, append-nil)

-- A buffer and its word.
buffer_back : (u : Buffer) → buffer_of (buffer_word u) ≡ u
unfolding buffer_of
buffer_back A = refl
buffer_back B = refl

buffer_fits : (u : Buffer) → leb (buffer_word u) 1 ≡ true
buffer_fits A = refl
buffer_fits B = refl

buffer_word_back : (x : ℕ) → leb x 1 ≡ true → buffer_word (buffer_of x) ≡ x
unfolding buffer_of
buffer_word_back zero e = refl
buffer_word_back (suc zero) e = refl
buffer_word_back (suc (suc x)) e = absurd (omega (arith, leb-true (suc (suc x)) 1 e))

-- What is known of the frame in a buffer, and its word.
content_back : (c : Content) → content_of (content_word c) ≡ c
unfolding content_of
content_back Nothing = refl
content_back Landing = refl
content_back Complete = refl

content_fits : (c : Content) → leb (content_word c) 2 ≡ true
content_fits Nothing = refl
content_fits Landing = refl
content_fits Complete = refl

content_word_back : (x : ℕ) → leb x 2 ≡ true → content_word (content_of x) ≡ x
unfolding content_of
content_word_back zero e = refl
content_word_back (suc zero) e = refl
content_word_back (suc (suc zero)) e = refl
content_word_back (suc (suc (suc x))) e = absurd (omega (arith, leb-true (suc (suc (suc x))) 2 e))

-- A mode and its nine words.
mode_back : (m : Mode) → mode_of (mode_words m) ≡ m
unfolding mode_of
mode_back One = refl
mode_back (Two t) = rw (buffer_back t.turn, flag_back t.begun, content_back t.a, content_back t.b, buffer_back t.latest)

mode_fits : (m : Mode) → mode_encodes (mode_words m) ≡ true
unfolding mode_encodes zeros_encode turns_encode
mode_fits One = refl
mode_fits (Two t) = rw (buffer_fits t.turn, flag_fits t.begun, content_fits t.a, content_fits t.b, buffer_fits t.latest)

nine_back : (x p i o t g a b l : ℕ) → mode_encodes (x ∷ p ∷ i ∷ o ∷ t ∷ g ∷ a ∷ b ∷ l ∷ []) ≡ true
    → mode_words (mode_of (x ∷ p ∷ i ∷ o ∷ t ∷ g ∷ a ∷ b ∷ l ∷ [])) ≡ x ∷ p ∷ i ∷ o ∷ t ∷ g ∷ a ∷ b ∷ l ∷ []
unfolding mode_encodes zeros_encode turns_encode mode_of
nine_back zero p i o t g a b l e =
    let (p₀, r) = and_true (eqb p 0) _ e in
    let (i₀, r₁) = and_true (eqb i 0) _ r in
    let (o₀, r₂) = and_true (eqb o 0) _ r₁ in
    let (t₀, r₃) = and_true (eqb t 0) _ r₂ in
    let (g₀, r₄) = and_true (eqb g 0) _ r₃ in
    let (a₀, r₅) = and_true (eqb a 0) _ r₄ in
    let (b₀, l₀) = and_true (eqb b 0) (eqb l 0) r₅ in
    rw (eqb-true p 0 p₀, eqb-true i 0 i₀, eqb-true o 0 o₀, eqb-true t 0 t₀, eqb-true g 0 g₀, eqb-true a 0 a₀, eqb-true b 0 b₀, eqb-true l 0 l₀)
nine_back (suc zero) p i o t g a b l e =
    let (turn, r) = and_true (leb t 1) _ e in
    let (begun, r₁) = and_true (leb g 1) _ r in
    let (in_a, r₂) = and_true (leb a 2) _ r₁ in
    let (in_b, latest) = and_true (leb b 2) (leb l 1) r₂ in
    rw (buffer_word_back t turn, word_back g begun, content_word_back a in_a, content_word_back b in_b, buffer_word_back l latest)
nine_back (suc (suc x)) p i o t g a b l e =
    let (one, rest) = and_true (eqb (suc (suc x)) 1) (turns_encode t g a b l) (rw (ne_eqb (suc (suc x)) 0 (omega arith)) at e) in
    absurd (omega (arith, eqb-true (suc (suc x)) 1 one))

mode_words_back : (m : List ℕ) → length m ≡ 9 → mode_encodes m ≡ true → mode_words (mode_of m) ≡ m
unfolding mode_encodes mode_of elements
mode_words_back m all e =
    nine_back (get_or m 0 0) (get_or m 1 0) (get_or m 2 0) (get_or m 3 0) (get_or m 4 0) (get_or m 5 0) (get_or m 6 0) (get_or m 7 0) (get_or m 8 0) e ∙
    elements_first 9 m (omega arith) ∙
    take_all 9 m (omega arith)

-- Every board with all its slots has an image that encodes it.
pub board_back : (b : Board) → length b.device.slots ≡ slot_count → board_of (image_of b) ≡ b
unfolding board_of image_of
board_back b all =
    let d = image.image_of b.device in
    let size = image_size b.device all in
    rw (take_at d (mode_words b.mode) image_words size, drop_at d (mode_words b.mode) image_words size, inverse.device_back b.device all, mode_back b.mode)

pub image_encodes : (b : Board) → length b.device.slots ≡ slot_count → encodes (image_of b) ≡ true
unfolding encodes image_of
image_encodes b all =
    let d = image.image_of b.device in
    let size = image_size b.device all in
    rw (take_at d (mode_words b.mode) image_words size, drop_at d (mode_words b.mode) image_words size, inverse.image_encodes b.device all, mode_fits b.mode)

-- Every image that encodes a board is the image of that board: no two images encode one board.
pub image_back : (w : List ℕ) → length w ≡ image_words + 9 → encodes w ≡ true → image_of (board_of w) ≡ w
unfolding encodes image_of board_of
image_back w all e =
    let (device, mode) = and_true (image.encodes (take image_words w)) (mode_encodes (drop image_words w)) e in
    let front : length (take image_words w) ≡ image_words = rw length-take (omega arith) in
    let back : length (drop image_words w) ≡ 9 = length-drop image_words w ∙ omega arith in
    rw (inverse.image_back (take image_words w) front device, mode_words_back (drop image_words w) back mode) (take-append-drop image_words w)
