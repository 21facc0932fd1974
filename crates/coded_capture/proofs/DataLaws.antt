-- Data that a byte releases, one after the other: the equations with the rule, and what a datum keeps. Assumes nothing.
use mathlib.Core.List.{List, [], ◌∷◌}
use Rattle.std.specs.Prelude.{Option, None, Some}
use mathlib.Core.Path.{◌≡◌, refl, sym, ap, ◌∙◌}
use mathlib.Core.Bool.{Bool, true, false, cond, not, false≢true}
use Prim.Native.Nat.{ℕ, ◌+◌, ◌-◌, ◌<◌, ◌≤◌}
use native.Mathlib.Nat.{zero-add, sub-zero}
use Rattle.std.specs.Option.{option_or}
use Rattle.std.proofs.lemmas.List.{drop_all}
use Rattle.std.proofs.Common.{get_or, drop, add-one, drop-cons, length-drop}
use native.Mathlib.Omega.{arith}
use lib.Dec.{eqb}
use lib.ListN.{length}
use Rattle.codes.specs.declared.Waiting.{Waiting}
use Rattle.codes.specs.declared.Waiting.TheVariants.{Zero}
use Rattle.codes.specs.Bytes.{waiting_count, waiting_after, released}
use Rattle.rules.specs.declared.Scan.{Scan}
use Rattle.rules.specs.declared.Frame.TheVariants.{Open}
use Rattle.rules.specs.declared.Capture.{Capture}
use Rattle.rules.specs.State.{with_pins, with_frame, with_waiting}
use Rattle.rules.specs.Capture.{no_word, remember_pins, either_word}
use Rattle.rules.specs.Capture as capture_rules
use Rattle.rules.specs.Codes.{arrived, before, datum, each_datum, byte_in, at_byte}
use Rattle.rules.proofs.WellFormed.{CaptureOk}
use Rattle.laws.proofs.CaptureParts.{scan_ok}
use Rattle.laws.proofs.Coded.{waiting_ok, datum_joined}
use Rattle.capture.specs.Answers.{captured}
use Rattle.capture.specs.declared.Captured.{Captured}

-- The data still to come after some word, and with one of them taken.
abbrev pub from_here : Capture → Bool → Scan → List ℕ → ℕ → Option ℕ → capture_rules.Captured
from_here s taken f xs still w =
    let r = each_datum s taken f xs still in
    record { state = r.state; word = either_word w r.word; due = false; error = false }

pub or_either : (v w : Option ℕ) → option_or v w ≡ either_word v w
unfolding either_word
or_either None w = refl
or_either (Some v) w = refl

either_assoc : (u v w : Option ℕ) → either_word u (either_word v w) ≡ either_word (either_word u v) w
unfolding either_word
either_assoc None v w = refl
either_assoc (Some u) v w = refl

either_none : (v : Option ℕ) → v ≡ either_word v None
unfolding either_word
either_none None = refl
either_none (Some v) = refl

pub from_start : (s : Capture) (taken : Bool) (f : Scan) (xs : List ℕ) (still : ℕ) → from_here s taken f xs still None ≡ each_datum s taken f xs still
unfolding each_datum either_word no_word
from_start s taken f [] still = refl
from_start s taken f (x ∷ xs) still = refl

pub one_taken : (s : Capture) (taken : Bool) (f : Scan) (x : ℕ) (xs : List ℕ) (still later : ℕ) (v w : Option ℕ) (c : Captured)
    → later ≡ length xs + still → captured c ≡ datum s taken (before later f) x → w ≡ either_word v c.word
    → from_here s taken f (x ∷ xs) still v ≡ from_here c.state taken f xs still w
unfolding each_datum
one_taken s taken f x xs still later v w c place first both =
    rw (both, ← place, ← first, ← either_assoc v c.word (each_datum c.state taken f xs still).word)

-- The same of a list from an index on.
pub more_left : (xs : List ℕ) (i still later : ℕ) → i < length xs → later ≡ length (drop i xs) + still → 1 ≤ later
more_left xs i still later inside place = omega (arith, length-drop i xs)

pub next_taken : (s : Capture) (taken : Bool) (f : Scan) (xs : List ℕ) (i still later : ℕ) (v w : Option ℕ) (c : Captured) → i < length xs
    → later ≡ length (drop i xs) + still → captured c ≡ datum s taken (before (later - 1) f) (get_or xs i 0) → w ≡ either_word v c.word
    → (later - 1 ≡ length (drop (i + 1) xs) + still)
    × (from_here s taken f (drop i xs) still v ≡ from_here c.state taken f (drop (i + 1) xs) still w)
next_taken s taken f xs i still later v w c inside place first both =
    let split : drop i xs ≡ get_or xs i 0 ∷ drop (i + 1) xs = rw (add-one, drop-cons xs i 0) in
    let next : later - 1 ≡ length (drop (i + 1) xs) + still = omega (arith, rw split at place) in
    (next, rw split (one_taken s taken f (get_or xs i 0) (drop (i + 1) xs) still (later - 1) v w c next first both))

pub all_taken : (s : Capture) (taken : Bool) (f : Scan) (xs : List ℕ) (i still : ℕ) (w : Option ℕ) → length xs ≤ i
    → from_here s taken f (drop i xs) still w ≡ captured (record { state = s; word = w })
unfolding each_datum no_word
all_taken s taken f xs i still w past = rw (drop_all i xs past, ← either_none w)

-- The last.
pub last_datum : (s : Capture) (taken : Bool) (f : Scan) (x still : ℕ) (c : Captured)
    → captured c ≡ datum s taken (before still f) x → captured c ≡ each_datum s taken f (x ∷ []) still
unfolding each_datum no_word
last_datum s taken f x still c first =
    rw (zero-add still, ← first) (ap (λ (w : Option ℕ). captured (record { state = c.state; word = w })) (either_none c.word))

-- A datum leaves the frame open and a well-formed state well-formed.
pub datum_keeps : {n : ℕ} (s : Capture) (taken : Bool) (f g : Scan) (x : ℕ) (c : Captured)
    → captured c ≡ datum s taken g x → s.frame ≡ Open taken f → CaptureOk n s
    → (c.state.frame ≡ Open taken f) × CaptureOk n c.state
datum_keeps s taken f g x c e in_f ok =
    let j = datum_joined s taken g f x in_f in
    rw (ap (λ (d : capture_rules.Captured). d.state) e) (j.frame ∙ in_f, j.ok _ ok)

-- A byte more in the line.
pub arrived_ok : {n : ℕ} {s : Capture} {taken : Bool} {f : Scan} (k : Waiting) → s.frame ≡ Open taken f → CaptureOk n s
    → CaptureOk (n + 1) (with_waiting k (with_frame (Open taken (arrived f)) s))
unfolding arrived
arrived_ok {taken = taken} {f = f} k in_f h =
    waiting_ok k (scan_ok taken f _ in_f (omega (arith, rw in_f at h.lines)) (omega (arith, rw in_f at h.pixels)) h)

-- A byte that begins no code while none waits: none waits after it, and it is the only datum that it releases.
after_none : (k : Waiting) (x : ℕ) → k ≡ Zero → eqb x 0xFF ≡ false → waiting_after k x ≡ k
unfolding waiting_after
after_none k x empty other = rw (empty, other)

pub none_waits : (s : Capture) (x : ℕ) → s.waiting ≡ Zero → eqb x 0xFF ≡ false → with_waiting (waiting_after s.waiting x) s ≡ s
unfolding with_waiting
none_waits s x empty other = ap (λ (k : Waiting). with_waiting k s) (after_none s.waiting x empty other)

by_true : (b : Bool) (x y : capture_rules.Captured) → b ≡ true → x ≡ cond b x y
by_true b x y e = rw e

by_false : (b : Bool) (x y : capture_rules.Captured) → not b ≡ true → y ≡ cond b x y
by_false true x y e = absurd (false≢true e)
by_false false x y e = refl

pub no_line : (s : Capture) (taken : Bool) (f : Scan) (x : ℕ) → s.waiting ≡ Zero → eqb x 0xFF ≡ false → s.syncs.hsync ≡ true
    → no_word s ≡ byte_in (Open taken f) s x
unfolding byte_in
no_line s taken f x empty other blanks = ap no_word (sym (none_waits s x empty other)) ∙ by_true s.syncs.hsync _ _ blanks

only_datum : (t : Capture) (taken : Bool) (f : Scan) (k : Waiting) (x : ℕ) (c : Captured) → k ≡ Zero → with_waiting Zero t ≡ t → eqb x 0xFF ≡ false
    → captured c ≡ datum t taken f x → captured c ≡ each_datum (with_waiting (waiting_after k x) t) taken f (released k x) (waiting_count (waiting_after k x))
unfolding waiting_after released before
only_datum t taken f k x c empty same other e =
    rw (empty, other, same) (last_datum t taken f x 0 c (rw (sub-zero f.pixels) e))

pub in_line_datum : (s : Capture) (taken : Bool) (f : Scan) (x : ℕ) (c : Captured) → s.waiting ≡ Zero → eqb x 0xFF ≡ false → not s.syncs.hsync ≡ true
    → captured c ≡ datum (with_frame (Open taken (arrived f)) s) taken (arrived f) x → captured c ≡ byte_in (Open taken f) s x
unfolding byte_in with_frame with_waiting
in_line_datum s taken f x c empty other shows e =
    let t = with_frame (Open taken (arrived f)) s in
    only_datum t taken (arrived f) s.waiting x c empty (ap (λ (k : Waiting). with_waiting k t) (sym empty)) other e ∙ by_false s.syncs.hsync _ _ shows

-- It is the last of no code.
pub no_code : (s : Capture) (x : ℕ) → s.waiting ≡ Zero → at_byte s x ≡ byte_in s.frame s x
unfolding at_byte
no_code s x empty = rw empty refl

pub pins_wait : (s : Capture) {t : Capture} (w : ℕ) → t ≡ remember_pins w s → s.waiting ≡ Zero → t.waiting ≡ Zero
unfolding remember_pins with_pins
pins_wait s w e empty = rw e empty
