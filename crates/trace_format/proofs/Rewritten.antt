-- A file of good form is the very file that `encode` gives for its writes and samples: nothing in it is left unread.
-- The idea: a number gives its bytes back, the items' bytes are one stretch of the file, and the stretches join. Assumes nothing.
use mathlib.Core.List.{List, [], ◌++◌}
use mathlib.Core.Path.{◌≡◌, refl, sym, ap, ◌∙◌}
use Prim.Native.Nat.{ℕ, zero, suc, ◌+◌, ◌*◌, ◌≤◌}
use native.Mathlib.Omega.{arith}
use lib.ListN.{length, take, drop}
use lib.Seq.{take-length, take-add, drop-drop}
use Rattle.numbers.specs.Numbers.{Bytes, little, number_at}
use Rattle.numbers.proofs.NumberAt.{little_number_at}
use Rattle.trace_format.specs.Format.{count_size, header_length, write_size, sample_size, write_start, write_bytes, sample_bytes, mark, header, encode}
use Rattle.trace_format.specs.Reading.{version_of, write_count, sample_count, form_refusal, write_at, sample_at, writes_from, samples_from, writes_of, samples_of, sample_start}
use Rattle.trace_format.proofs.Form.{Formed, formed}

-- n bytes of a file from a byte on: two parts that meet are one part, and a number gives its part.
unfoldable pub part : List ℕ → ℕ → ℕ → List ℕ
part f at n = take n (drop at f)

part_join : (f : List ℕ) (at n next m all : ℕ) → next ≡ at + n → all ≡ n + m → part f at n ++ part f next m ≡ part f at all
unfolding part
part_join f at n next m all p q = rw (p, q, take-add n m (drop at f), drop-drop n at f)

number_part : (f : List ℕ) (at n : ℕ) → Bytes f → at + n ≤ length f → little n (number_at f at n) ≡ part f at n
unfolding part
number_part = little_number_at

part_none : (f : List ℕ) (at n : ℕ) → n ≡ 0 → [] ≡ part f at n
unfolding part
part_none f at n e = rw e

pub write_part : (f : List ℕ) (k n : ℕ) → Bytes f → write_start (version_of f) (k + n) ≤ length f
    → write_bytes (writes_from f k n) ≡ part f (write_start (version_of f) k) (write_size * n)
unfolding write_bytes writes_from write_at
write_part f k zero b h = part_none f (write_start (version_of f) k) (write_size * 0) (omega arith)
write_part f k (suc n) b h =
    let at : ℕ = write_start (version_of f) k in
    rw (
      number_part f at 1 b (omega arith),
      number_part f (at + 1) 4 b (omega arith),
      write_part f (suc k) n b (omega arith),
      part_join f at 1 (at + 1) 4 write_size (omega arith) (omega arith),
    )
    (part_join f at write_size (write_start (version_of f) (suc k)) (write_size * n) (write_size * suc n) (omega arith) (omega arith))

pub sample_part : (f : List ℕ) (k n : ℕ) → Bytes f → sample_start f (k + n) ≤ length f
    → sample_bytes (samples_from f k n) ≡ part f (sample_start f k) (sample_size * n)
unfolding sample_bytes samples_from sample_at
sample_part f k zero b h = part_none f (sample_start f k) (sample_size * 0) (omega arith)
sample_part f k (suc n) b h =
    rw (number_part f (sample_start f k) sample_size b (omega arith), sample_part f (suc k) n b (omega arith))
    (part_join f (sample_start f k) sample_size (sample_start f (suc k)) (sample_size * n) (sample_size * suc n) (omega arith) (omega arith))

pub length_writes_from : (f : List ℕ) (k n : ℕ) → length (writes_from f k n) ≡ n
unfolding writes_from
length_writes_from f k zero = refl
length_writes_from f k (suc n) = ap suc (length_writes_from f (suc k) n)

pub length_samples_from : (f : List ℕ) (k n : ℕ) → length (samples_from f k n) ≡ n
unfolding samples_from
length_samples_from f k zero = refl
length_samples_from f k (suc n) = ap suc (length_samples_from f (suc k) n)

header_part : (f : List ℕ) → Bytes f → Formed f (length f) → header (write_count f) (sample_count f) ≡ part f 0 (header_length (version_of f))
unfolding header
header_part f b g =
    let size : ℕ = count_size (version_of f) in
    let m : mark ≡ part f 0 3 = unfold part in sym g.marked in
    rw (← g.versioned)
    (ap (λ (x : List ℕ). x ++ little 2 (version_of f) ++ little 1 (write_count f) ++ little size (sample_count f)) m
    ∙ rw (
      number_part f 3 2 b (omega (arith, g.long)),
      number_part f 5 1 b (omega (arith, g.long)),
      number_part f 6 size b (omega (arith, g.long)),
      part_join f 0 3 3 2 5 refl refl,
      part_join f 0 5 5 1 6 refl refl,
    )
    (part_join f 0 6 6 size (header_length (version_of f)) refl refl))

pub length_writes_of : (f : List ℕ) → length (writes_of f) ≡ write_count f
length_writes_of f = length_writes_from f 0 (write_count f)

pub length_samples_of : (f : List ℕ) → length (samples_of f) ≡ sample_count f
length_samples_of f = length_samples_from f 0 (sample_count f)

pub rewritten : (f : List ℕ) → Bytes f → form_refusal f ≡ 0 → encode (writes_of f) (samples_of f) ≡ f
unfolding encode
rewritten f b e =
    let g = formed f (length f) e in
    let writes : ℕ = write_start (version_of f) 0 in
    let samples : ℕ = write_start (version_of f) (write_count f) in
    rw (
      length_writes_of f,
      length_samples_of f,
      header_part f b g,
      write_part f 0 (write_count f) b (omega (arith, g.exact)),
      sample_part f 0 (sample_count f) b (omega (arith, g.exact)),
      part_join f 0 (header_length (version_of f)) writes (write_size * write_count f) samples (omega arith) (omega arith),
      part_join f 0 samples (sample_start f 0) (sample_size * sample_count f) (length f) (omega arith) (omega (arith, g.exact)),
    )
    (unfold part in take-length f)
