-- What the rules make of a register's value: a raised flag keeps RIS at most 31, and clearing CAPTURE keeps every other field of CR.
-- The idea: two values with the same half have the same bits from bit 1 on (`bits` Raised). Assumes nothing.
use mathlib.Core.Bool.{Bool, true, false, not, ◌&&◌, ◌||◌}
use mathlib.Core.List.{List, [], ◌∷◌}
use mathlib.Core.Path.{◌≡◌, refl}
use Prim.Native.Nat.{ℕ, zero, suc, ◌+◌, ◌-◌, ◌/◌, ◌%◌, ◌^◌, ◌≤◌}
use native.Mathlib.Omega.{arith}
use lib.Dec.{eqb}
use borrow.Author.Tests.{ne_eqb, not-false}
use Rattle.bits.specs.Bits.{bit, field, raised, lowered}
use Rattle.registers.specs.Control.{capture, crop, jpeg, embedded, fcrc, edm, enable, unsupported_jpeg, unsupported_codes, unsupported, pckpol, vspol}
use Rattle.registers.specs.Map.{reserved_set}
use Rattle.registers.specs.declared.Register.TheVariants.{Control, InterruptEnable, WindowStart, WindowSize}
use Rattle.rules.specs.declared.Registers.{Registers}
use Rattle.rules.specs.State.{with_cr}
use Rattle.rules.specs.WellFormed.{excluded}
use Rattle.bits.proofs.Raised.{bit_true, bit_false, same_above, lowered_half}
use Rattle.bits.proofs.Booleans.{or_false, both_false, and_false, None, none, none_any, by_cond}

-- A flag that is 0 leaves room for it.
raised_where : (k x : ℕ) → (x / 2 ^ k % 2 ≡ 0 → x + 2 ^ k ≤ 31) → x ≤ 31 → raised k x ≤ 31
unfolding raised
raised_where k x room h = by_cond (λ y. y ≤ 31) (bit k x) _ _ (λ e. h) (λ e. room (bit_false k x e))

pub raised_fits : (k x : ℕ) → k ≤ 4 → x ≤ 31 → raised k x ≤ 31
raised_fits zero x flag h = raised_where 0 x (omega arith) h
raised_fits (suc zero) x flag h = raised_where 1 x (omega arith) h
raised_fits (suc (suc zero)) x flag h = raised_where 2 x (omega arith) h
raised_fits (suc (suc (suc zero))) x flag h = raised_where 3 x (omega arith) h
raised_fits (suc (suc (suc (suc zero)))) x flag h = raised_where 4 x (omega arith) h
raised_fits (suc (suc (suc (suc (suc k))))) x flag h = absurd (omega arith)

lowered_capture : (x : ℕ) → capture (lowered 0 x) ≡ false
unfolding lowered
lowered_capture x =
    by_cond (λ y. capture y ≡ false) (bit 0 x) _ _
    (λ e. ne_eqb ((x - 2 ^ 0) / 2 ^ 0 % 2) 1 (omega (arith, bit_true 0 x e)))
    (λ e. e)

-- Two values that differ in CAPTURE at most: the bits 13:1 and ENABLE.
pub half_setup : (x y : ℕ) → x / 2 ≡ y / 2 → field 13 1 x ≡ field 13 1 y
half_setup x y h = rw h

pub half_enable : (x y : ℕ) → x / 2 ≡ y / 2 → enable x ≡ enable y
half_enable x y h = rw (same_above 13 x y h)

-- CAPTURE cleared: ENABLE and the bits 13:1, and with them FCRC and EDM, stay.
pub lowered_enable : (x : ℕ) → enable (lowered 0 x) ≡ enable x
lowered_enable x = rw (same_above 13 _ _ (lowered_half x))

pub lowered_setup : (x : ℕ) → field 13 1 (lowered 0 x) ≡ field 13 1 x
lowered_setup x = rw (lowered_half x)

lowered_reserved : (x : ℕ) → reserved_set Control (lowered 0 x) ≡ reserved_set Control x
lowered_reserved x = rw (same_above 11 _ _ (lowered_half x), same_above 14 _ _ (lowered_half x))

supported : (x : ℕ) → unsupported x ≡ false
    → (unsupported_jpeg x || unsupported_codes x || eqb (fcrc x) 3 ≡ false) × (capture x && not (enable x) ≡ false)
unfolding unsupported
supported x e = or_false (unsupported_jpeg x || unsupported_codes x || eqb (fcrc x) 3) (capture x && not (enable x)) e

lowered_jpeg : (x : ℕ) → unsupported_jpeg (lowered 0 x) ≡ unsupported_jpeg x
unfolding unsupported_jpeg
lowered_jpeg x = rw (same_above 2 _ _ (lowered_half x), same_above 9 _ _ (lowered_half x), same_above 1 _ _ (lowered_half x))

lowered_codes : (x : ℕ) → unsupported_codes (lowered 0 x) ≡ unsupported_codes x
unfolding unsupported_codes
lowered_codes x = rw (same_above 2 _ _ (lowered_half x), same_above 9 _ _ (lowered_half x), same_above 3 _ _ (lowered_half x))

lowered_supported : (x : ℕ) → unsupported x ≡ false → unsupported (lowered 0 x) ≡ false
unfolding unsupported
lowered_supported x e =
    both_false (unsupported_jpeg (lowered 0 x) || unsupported_codes (lowered 0 x) || eqb (fcrc (lowered 0 x)) 3) _
    (rw (lowered_jpeg, lowered_codes, same_above 7 _ _ (lowered_half x)) (supported x e).0)
    (rw (lowered_capture x))

pub capture_enable : (x : ℕ) → unsupported x ≡ false → capture x ≡ true → enable x ≡ true
capture_enable x e c = not-false _ (and_false _ _ (supported x e).1 c)

pub same_fcrc : (x y : ℕ) → field 13 1 x ≡ field 13 1 y → fcrc x ≡ fcrc y
same_fcrc x y h = omega arith

pub same_edm : (x y : ℕ) → field 13 1 x ≡ field 13 1 y → edm x ≡ edm y
same_edm x y h = omega arith

pub same_crop : (x y : ℕ) → field 13 1 x ≡ field 13 1 y → crop x ≡ crop y
same_crop x y h = let same : x / 2 ^ 2 % 2 ≡ y / 2 ^ 2 % 2 = omega arith in rw same

pub same_jpeg : (x y : ℕ) → field 13 1 x ≡ field 13 1 y → jpeg x ≡ jpeg y
same_jpeg x y h = let same : x / 2 ^ 3 % 2 ≡ y / 2 ^ 3 % 2 = omega arith in rw same

pub same_embedded : (x y : ℕ) → field 13 1 x ≡ field 13 1 y → embedded x ≡ embedded y
same_embedded x y h = let same : x / 2 ^ 4 % 2 ≡ y / 2 ^ 4 % 2 = omega arith in rw same

pub same_pckpol : (x y : ℕ) → field 13 1 x ≡ field 13 1 y → pckpol x ≡ pckpol y
same_pckpol x y h = let same : x / 2 ^ 5 % 2 ≡ y / 2 ^ 5 % 2 = omega arith in rw same

pub same_vspol : (x y : ℕ) → field 13 1 x ≡ field 13 1 y → vspol x ≡ vspol y
same_vspol x y h = let same : x / 2 ^ 7 % 2 ≡ y / 2 ^ 7 % 2 = omega arith in rw same

-- What refusals 4 and 5 exclude, test by test.
abbrev pub tests : Registers → List Bool
tests r =
    reserved_set Control r.cr ∷
    reserved_set InterruptEnable r.ier ∷
    reserved_set WindowStart r.cwstrt ∷
    reserved_set WindowSize r.cwsize ∷
    unsupported r.cr ∷
    []

pub allowed : (r : Registers) → excluded r ≡ false → None (tests r)
unfolding excluded
allowed r e = none (tests r) e

pub not_excluded : (r : Registers) → None (tests r) → excluded r ≡ false
unfolding excluded
not_excluded r n = none_any (tests r) n

-- Another value of CR, in itself allowed.
pub allowed_cr : (v : ℕ) (r : Registers) → reserved_set Control v ≡ false → unsupported v ≡ false
    → excluded r ≡ false → excluded (with_cr v r) ≡ false
unfolding with_cr
allowed_cr v r reserved supported e =
    let (cr, (ier, (start, (size, rest)))) = allowed r e in
    not_excluded _ (reserved, (ier, (start, (size, (supported, tt)))))

pub lowered_allowed : (r : Registers) → excluded r ≡ false → excluded (with_cr (lowered 0 r.cr) r) ≡ false
lowered_allowed r e =
    let (cr, (ier, (start, (size, (supported, end))))) = allowed r e in
    allowed_cr (lowered 0 r.cr) r (rw lowered_reserved cr) (lowered_supported r.cr supported) e

-- JPEG goes without CROP (W4).
of_either : (a b c : Bool) → a && (b || c) ≡ false → a && c ≡ false
of_either false b c e = refl
of_either true b c e = (or_false b c e).1

first_two : (r : Registers) → excluded r ≡ false → (unsupported_jpeg r.cr ≡ false) × (unsupported_codes r.cr ≡ false)
unfolding unsupported
first_two r e =
    let (_, (_, (_, (_, (supported, _))))) = allowed r e in
    let three = unsupported_jpeg r.cr || unsupported_codes r.cr || eqb (fcrc r.cr) 3 in
    let first_three = (or_false three (capture r.cr && not (enable r.cr)) supported).0 in
    let two = (or_false (unsupported_jpeg r.cr || unsupported_codes r.cr) (eqb (fcrc r.cr) 3) first_three).0 in
    or_false (unsupported_jpeg r.cr) (unsupported_codes r.cr) two

pub uncropped : (r : Registers) → excluded r ≡ false → jpeg r.cr && crop r.cr ≡ false
unfolding unsupported_jpeg
uncropped r e = of_either (jpeg r.cr) (not (eqb (edm r.cr) 0)) (crop r.cr) (first_two r e).0

-- ESS goes with EDM 0 and without JPEG (W6).
pub eight_bits : (r : Registers) → excluded r ≡ false → embedded r.cr ≡ true → (eqb (edm r.cr) 0 ≡ true) × (jpeg r.cr ≡ false)
unfolding unsupported_codes
eight_bits r e coded =
    let (bits, plain) = or_false (not (eqb (edm r.cr) 0)) (jpeg r.cr) (and_false (embedded r.cr) _ (first_two r e).1 coded) in
    (not-false _ bits, plain)
