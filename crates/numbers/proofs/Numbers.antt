-- A number and its little-endian bytes: each gives the other back, where the number is below 256 ^ n.
-- The idea: by induction on the bytes, the lowest being x % 256 and the rest those of x / 256. Assumes nothing.
use mathlib.Core.List.{List, [], ◌∷◌, ◌++◌}
use mathlib.Core.Path.{◌≡◌, refl, ap}
use Prim.Native.Nat.{ℕ, zero, suc, ◌+◌, ◌-◌, ◌*◌, ◌/◌, ◌%◌, ◌^◌, ◌≤◌, ◌<◌}
use native.Mathlib.Nat.{pow-succ'}
use native.Mathlib.Omega.{arith}
use lib.ListN.{length, take, drop, get_or}
use Rattle.numbers.specs.Numbers.{Bytes, little, number}

pub bytes_take : (n : ℕ) (bs : List ℕ) → Bytes bs → Bytes (take n bs)
bytes_take zero bs p = tt
bytes_take (suc n) [] p = tt
bytes_take (suc n) (b ∷ bs) p = (p.0, bytes_take n bs p.1)

pub bytes_drop : (n : ℕ) (bs : List ℕ) → Bytes bs → Bytes (drop n bs)
bytes_drop zero bs p = p
bytes_drop (suc n) [] p = tt
bytes_drop (suc n) (b ∷ bs) p = bytes_drop n bs p.1

pub length_little : (n x : ℕ) → length (little n x) ≡ n
unfolding little
length_little zero x = refl
length_little (suc n) x = ap suc (length_little n (x / 256))

pub number_little : (n x : ℕ) → x < 256 ^ n → number (little n x) ≡ x
unfolding little number
number_little zero x h = omega arith
number_little (suc n) x h =
    let below : x < 256 * 256 ^ n = rw pow-succ' at h in
    let rest : number (little n (x / 256)) ≡ x / 256 = number_little n (x / 256) (omega arith) in
    omega arith

pub little_number : (bs : List ℕ) → Bytes bs → little (length bs) (number bs) ≡ bs
unfolding little number
little_number [] p = refl
little_number (b ∷ bs) p =
    let low : (b + 256 * number bs) % 256 ≡ b = omega (arith, p.0) in
    let high : (b + 256 * number bs) / 256 ≡ number bs = omega (arith, p.0) in
    rw (low, high, little_number bs p.1)

pub byte_below : (bs : List ℕ) (i : ℕ) → Bytes bs → get_or bs i 0 < 256
byte_below [] i p = omega arith
byte_below (b ∷ bs) zero p = p.0
byte_below (b ∷ bs) (suc i) p = byte_below bs i p.1

-- The first byte of a number's, and what is left after it.
pub first_byte : (n x : ℕ) → 0 < n → little n x ≡ (x % 256 ∷ []) ++ little (n - 1) (x / 256)
unfolding little
first_byte zero x h = absurd (omega arith)
first_byte (suc n) x h =
    let e : suc n - 1 ≡ n = omega arith in
    rw e

pub no_bytes : (n x : ℕ) → n ≤ 0 → little n x ≡ []
unfolding little
no_bytes zero x h = refl
no_bytes (suc n) x h = absurd (omega arith)

-- Four bytes, each by one division.
pub four_bytes : (x : ℕ) → little 4 x ≡ x % 256 ∷ x / 256 % 256 ∷ x / 65536 % 256 ∷ x / 16777216 % 256 ∷ []
unfolding little
four_bytes x =
    let a : x / 256 / 256 ≡ x / 65536 = omega arith in
    let b : x / 65536 / 256 ≡ x / 16777216 = omega arith in
    rw (a, b)
