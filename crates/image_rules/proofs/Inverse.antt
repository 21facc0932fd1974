-- A device and its image give each other back: `device_of` and `image_of` are inverse, on devices with all their slots and on images that encode one. Assumes nothing.
use mathlib.Core.Bool.{Bool, true, false, cond, not, ◌&&◌, ◌||◌}
use mathlib.Core.List.{List, [], ◌∷◌, ◌++◌, append-nil}
use mathlib.Core.Path.{◌≡◌, refl, sym, ap, ◌∙◌}
use Prim.Native.Nat.{ℕ, zero, suc, ◌≤◌}
use native.Mathlib.Omega.{arith}
use lib.Dec.{eqb, leb}
use lib.ListN.{length, take, drop, get_or, length-append, length-drop, take-append-drop}
use lib.Seq.{take_all, take-length, drop-length, take_at, drop_at, take-add, paste}
use native.Mathlib.Nat.{zero-add}
use borrow.Author.Tests.{leb-true, eqb-true}
use Rattle.codes.specs.declared.Waiting.{Waiting}
use Rattle.codes.specs.declared.Waiting.TheVariants.{Zero, One, Two, Three}
use Rattle.codes.specs.Bytes.{waiting_count}
use Rattle.rules.specs.declared.Frame.{Frame}
use Rattle.rules.specs.declared.Frame.TheVariants.{Closed, Open}
use Rattle.rules.specs.declared.Device.{Device}
use Rattle.output.specs.Output.{slot_count}
use Rattle.bits.proofs.Booleans.{and_true}
use Rattle.image_rules.specs.Image.{flag, frame_word, lines_word, pixels_word, image_words, slot, behind, words_behind, image_of, flags_encode, frame_encodes, encodes, frame_of, waiting_of, device_of}

-- A flag and its word.
pub flag_back : (b : Bool) → eqb (flag b) 1 ≡ b
flag_back true = refl
flag_back false = refl

pub flag_fits : (b : Bool) → leb (flag b) 1 ≡ true
flag_fits true = refl
flag_fits false = refl

pub word_back : (x : ℕ) → leb x 1 ≡ true → flag (eqb x 1) ≡ x
word_back zero e = refl
word_back (suc zero) e = refl
word_back (suc (suc x)) e = absurd (omega (arith, leb-true (suc (suc x)) 1 e))

-- A frame and its words.
frame_back : (f : Frame) → frame_of (frame_word f) (lines_word f) (pixels_word f) ≡ f
unfolding frame_of
frame_back Closed = refl
frame_back (Open taken s) = go taken
  where
    go : (b : Bool) → cond (eqb (cond b 2 1) 0) Closed (Open (eqb (cond b 2 1) 2) (record { lines = s.lines; pixels = s.pixels })) ≡ Open b s
    go true = refl
    go false = refl

frame_fits : (f : Frame) → frame_encodes (frame_word f) (lines_word f) (pixels_word f) ≡ true
unfolding frame_encodes
frame_fits Closed = refl
frame_fits (Open taken s) = go taken
  where
    go : (b : Bool) → leb (cond b 2 1) 2 && (not (eqb (cond b 2 1) 0) || (eqb s.lines 0 && eqb s.pixels 0)) ≡ true
    go true = refl
    go false = refl

frame_words_back : (frame lines pixels : ℕ) → frame_encodes frame lines pixels ≡ true
    → (frame_word (frame_of frame lines pixels) ≡ frame) × (lines_word (frame_of frame lines pixels) ≡ lines) × (pixels_word (frame_of frame lines pixels) ≡ pixels)
unfolding frame_encodes frame_of
frame_words_back zero lines pixels e =
    let (l, p) = and_true (eqb lines 0) (eqb pixels 0) e in
    (refl, sym (eqb-true lines 0 l), sym (eqb-true pixels 0 p))
frame_words_back (suc zero) lines pixels e = (refl, refl, refl)
frame_words_back (suc (suc zero)) lines pixels e = (refl, refl, refl)
frame_words_back (suc (suc (suc n))) lines pixels e =
    let (small, rest) = and_true (leb (suc (suc (suc n))) 2) _ e in
    absurd (omega (arith, leb-true (suc (suc (suc n))) 2 small))

-- The bytes that wait and their number.
waiting_back : (k : Waiting) → waiting_of (waiting_count k) ≡ k
unfolding waiting_of
waiting_back Zero = refl
waiting_back One = refl
waiting_back Two = refl
waiting_back Three = refl

waiting_fits : (k : Waiting) → leb (waiting_count k) 3 ≡ true
waiting_fits Zero = refl
waiting_fits One = refl
waiting_fits Two = refl
waiting_fits Three = refl

count_back : (n : ℕ) → leb n 3 ≡ true → waiting_count (waiting_of n) ≡ n
unfolding waiting_of
count_back zero e = refl
count_back (suc zero) e = refl
count_back (suc (suc zero)) e = refl
count_back (suc (suc (suc zero))) e = refl
count_back (suc (suc (suc (suc n)))) e = absurd (omega (arith, leb-true (suc (suc (suc (suc n)))) 3 e))

-- The first elements of a list, one by one.
unfoldable pub elements : List ℕ → ℕ → ℕ → List ℕ
elements l k zero = []
elements l k (suc n) = get_or l k 0 ∷ elements l (suc k) n

elements_later : (x : ℕ) (l : List ℕ) (k n : ℕ) → elements (x ∷ l) (suc k) n ≡ elements l k n
unfolding elements
elements_later x l k zero = refl
elements_later x l k (suc n) = ap (λ (r : List ℕ). get_or l k 0 ∷ r) (elements_later x l (suc k) n)

pub elements_first : (n : ℕ) (l : List ℕ) → n ≤ length l → elements l 0 n ≡ take n l
unfolding elements
elements_first zero l le = refl
elements_first (suc n) [] le = absurd (omega arith)
elements_first (suc n) (x ∷ l) le = ap (λ (r : List ℕ). x ∷ r) (elements_later x l 0 n ∙ elements_first n l (omega arith))

-- A part put over a list as long is that part.
pub put_whole : (l part : List ℕ) → length part ≡ length l → paste l 0 part (length part) ≡ part
put_whole l part e = rw (take-length part, zero-add, e, drop-length l, append-nil)

-- The image of a device with all its slots has all its words.
pub image_size : (d : Device) → length d.slots ≡ slot_count → length (image_of d) ≡ image_words
unfolding image_of
image_size d all = rw (length-append d.slots (words_behind d.core), all)

-- Every device with all its slots has an image that encodes it.
pub device_back : (d : Device) → length d.slots ≡ slot_count → device_of (image_of d) ≡ d
unfolding device_of image_of
device_back d all =
    let s = d.core.capture in
    let b = words_behind d.core in
    rw (
      flag_back s.pins.hsync,
      flag_back s.pins.vsync,
      flag_back s.pins.clock,
      flag_back s.syncs.hsync,
      flag_back s.syncs.vsync,
      frame_back s.frame,
      take_at d.slots b slot_count all,
      drop_at d.slots b slot_count all,
      waiting_back s.waiting,
    )

pub image_encodes : (d : Device) → length d.slots ≡ slot_count → encodes (image_of d) ≡ true
unfolding encodes flags_encode image_of
image_encodes d all =
    let s = d.core.capture in
    rw (
      flag_fits s.pins.hsync,
      flag_fits s.pins.vsync,
      flag_fits s.pins.clock,
      flag_fits s.syncs.hsync,
      flag_fits s.syncs.vsync,
      frame_fits s.frame,
      drop_at d.slots (words_behind d.core) slot_count all,
      waiting_fits s.waiting,
    )

-- Every image that encodes a device is the image of that device: no two images encode one device.
pub image_back : (w : List ℕ) → length w ≡ image_words → encodes w ≡ true → image_of (device_of w) ≡ w
unfolding encodes flags_encode image_of device_of elements
image_back w all e =
    let (flags, rest) = and_true (flags_encode (get_or w 5 0) (get_or w 6 0) (get_or w 7 0) (get_or w 8 0) (get_or w 9 0)) _ e in
    let (frame, few) = and_true (frame_encodes (get_or w 10 0) (get_or w 11 0) (get_or w 12 0)) (leb (get_or (drop behind w) 9 0) 3) rest in
    let (a, r) = and_true (leb (get_or w 5 0) 1) _ flags in
    let (b, r') = and_true (leb (get_or w 6 0) 1) _ r in
    let (c, r'') = and_true (leb (get_or w 7 0) 1) _ r' in
    let (f, g) = and_true (leb (get_or w 8 0) 1) (leb (get_or w 9 0) 1) r'' in
    let (x, y, z) = frame_words_back (get_or w 10 0) (get_or w 11 0) (get_or w 12 0) frame in
    let front : elements w 0 slot ≡ take slot w = elements_first slot w (omega arith) in
    let size : length (drop behind w) ≡ 10 = length-drop behind w ∙ omega arith in
    let back : elements (drop behind w) 0 10 ≡ drop behind w = elements_first 10 (drop behind w) (omega arith) ∙ take_all 10 _ (omega arith) in
    rw (word_back _ a, word_back _ b, word_back _ c, word_back _ f, word_back _ g, x, y, z, count_back _ few)
    (ap (λ (l : List ℕ). l ++ take slot_count (drop slot w) ++ elements (drop behind w) 0 10) front ∙
    ap (λ (l : List ℕ). take slot w ++ take slot_count (drop slot w) ++ l) back ∙
    rw (← take-add {A = ℕ} slot slot_count w) (take-append-drop behind w))
