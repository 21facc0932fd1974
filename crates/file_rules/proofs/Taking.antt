-- Bytes one after the other: two lists of bytes are taken as one, so that the cut does not matter; and what one byte does in each room of the file.
use mathlib.Core.Bool.{false, ◌&&◌}
use mathlib.Core.List.{List, [], ◌∷◌, ◌++◌}
use mathlib.Core.Path.{◌≡◌, refl, sym, ap, ◌∙◌}
use Prim.Native.Nat.{ℕ, ◌+◌, ◌≤◌, ◌<◌}
use native.Mathlib.Nat.{add-zero}
use native.Mathlib.Omega.{arith}
use lib.Dec.{eqb, ltb}
use lib.ListN.{length, set}
use borrow.Author.Tests.{lt-ltb, le-ltb, le-leb, lt-leb, ltb-false}
use Rattle.rules.specs.declared.Device.{Device}
use Rattle.trace_format.specs.Format.{header_length}
use Rattle.trace_format.specs.Reading.{version_of, sample_start, whole, header_refusal}
use Rattle.file_rules.specs.Parts.{Taken, wants, write_place, sample_place, falls, write_byte, sample_byte, byte_at, take_byte, take_bytes, take_parts, joined}
use Rattle.file_rules.proofs.Singles.{by_bool}

pub bytes_append : (start : ℕ) (t : Taken) (xs ys : List ℕ) → take_bytes start t (xs ++ ys) ≡ take_bytes start (take_bytes start t xs) ys
unfolding take_bytes
bytes_append start t [] ys = refl
bytes_append start t (x ∷ xs) ys = bytes_append start (take_byte start t x) xs ys

-- Every cut is the same.
pub parts_joined : (start : ℕ) (t : Taken) (ps : List (List ℕ)) → take_parts start t ps ≡ take_bytes start t (joined ps)
unfolding take_parts take_bytes
parts_joined start t [] = refl
parts_joined start t (p ∷ ps) = parts_joined start (take_bytes start t p) ps ∙ sym (bytes_append start t p (joined ps))

-- A state and a memory, with each field by name.
abbrev pub at : List ℕ → ℕ → List ℕ → Device → ℕ → List ℕ → Taken
at head taken item device number memory =
    record { state = record { head = head; taken = taken; item = item; device = device; number = number }; memory = memory }

-- Where no byte more is wanted, all that come leave the state.
pub unwanted : (start : ℕ) (t : Taken) (bs : List ℕ) → wants t.state.head t.state.taken ≡ false → take_bytes start t bs ≡ t
unfolding take_bytes take_byte falls byte_at
unwanted start t [] e = refl
unwanted start t (b ∷ bs) e = rw e (unwanted start t bs e)

-- A byte of the header.
pub header_step : (start : ℕ) (h : List ℕ) (n : ℕ) (item : List ℕ) (d : Device) (number : ℕ) (m : List ℕ) (b : ℕ)
    → header_refusal h n ≡ 13 → n < header_length (version_of h)
    → take_byte start (at h n item d number m) b ≡ at (set h n b) (n + 1) item d number m
unfolding take_byte falls byte_at wants
header_step start h n item d number m b e i = rw (e, lt-ltb _ _ i)

-- Behind a header that passes.
module _ (start : ℕ) (h : List ℕ) (passes : (n : ℕ) → header_length (version_of h) ≤ n → header_refusal h n ≡ 0) (d : Device) (m : List ℕ) where
  -- A byte of a write.
  pub write_step : (n : ℕ) (item : List ℕ) (b : ℕ) → header_length (version_of h) ≤ n → n < sample_start h 0
      → take_byte start (at h n item d 0 m) b ≡ let s = (at h n item d 0 m).state in record { state = write_byte s (write_place s) b; memory = m }
  unfolding take_byte falls byte_at wants
  write_step n item b i w = rw (passes n i, le-leb n (whole h) (omega arith), le-ltb n (header_length (version_of h)) i, lt-ltb n (sample_start h 0) w)

  -- A byte of a sample.
  pub sample_step : (n : ℕ) (item : List ℕ) (b : ℕ) → sample_start h 0 ≤ n → n < whole h
      → take_byte start (at h n item d 0 m) b ≡ let t = at h n item d 0 m in sample_byte start t (sample_place t.state) b
  unfolding take_byte falls byte_at wants
  sample_step n item b i w = rw (passes n (omega arith), le-leb n (whole h) (omega arith), le-ltb n (header_length (version_of h)) (omega arith), le-ltb n (sample_start h 0) i, lt-ltb n (whole h) w)

  -- A byte that is counted only: behind a refused item, and the one behind the last sample.
  pub count_step : (n : ℕ) (item : List ℕ) (number b : ℕ) → header_length (version_of h) ≤ n → n ≤ whole h → eqb number 0 && ltb n (whole h) ≡ false
      → take_byte start (at h n item d number m) b ≡ at h (n + 1) item d number m
  unfolding take_byte falls byte_at wants
  count_step n item number b i w e =
      rw (passes n i, le-leb n (whole h) w, le-ltb n (header_length (version_of h)) i)
      (by_bool (eqb number 0)
      (λ fine.
      let end : whole h ≤ n = ltb-false n (whole h) (rw fine at e) in
      rw (fine, le-ltb n (sample_start h 0) (omega arith), le-ltb n (whole h) end))
      (λ refused. rw refused))

  -- Behind a refused item all bytes are counted only.
  pub counts : (n : ℕ) (item : List ℕ) (number : ℕ) (bs : List ℕ) → header_length (version_of h) ≤ n → n + length bs ≤ whole h + 1 → eqb number 0 ≡ false
      → take_bytes start (at h n item d number m) bs ≡ at h (n + length bs) item d number m
  unfolding take_bytes
  counts n item number [] i w e = rw add-zero
  counts n item number (b ∷ bs) i w e =
      let one : n + 1 + length bs ≡ n + length (b ∷ bs) = omega arith in
      rw (count_step n item number b i (omega arith) (rw e)) (counts (n + 1) item number bs (omega arith) (omega arith) e ∙ ap (λ (x : ℕ). at h x item d number m) one)

  -- Behind one byte too many none is wanted.
  pub over : (n : ℕ) (item : List ℕ) (number : ℕ) (bs : List ℕ) → header_length (version_of h) ≤ n → whole h < n
      → take_bytes start (at h n item d number m) bs ≡ at h n item d number m
  unfolding wants
  over n item number bs i w = unwanted start (at h n item d number m) bs (rw (passes n i, lt-leb n (whole h) w))
