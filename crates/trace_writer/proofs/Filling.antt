-- A buffer that is being filled with writes and with samples: what the writer's loops keep. Assumes nothing.
use mathlib.Core.List.{List, [], ◌++◌}
use mathlib.Core.Path.{◌≡◌, refl, sym, ap, ◌∙◌}
use Prim.Native.Nat.{ℕ, ◌+◌, ◌*◌, ◌≤◌, ◌<◌}
use native.Mathlib.Nat.{zero-add}
use native.Mathlib.Numerals.{add-one}
use native.Mathlib.Omega.{arith}
use lib.ListN.{length, get_or, drop, length-append, drop_of_length-le}
use lib.Seq.{sets, drop-cons}
use Rattle.numbers.specs.Numbers.{little}
use Rattle.numbers.proofs.Numbers.{length_little}
use Rattle.numbers.proofs.Putting.{sets_append, Filling, fill_on}
use Rattle.trace_format.specs.declared.Write.{Write}
use Rattle.trace_format.specs.Format.{version_for, header_length, write_size, sample_size, write_start, write_bytes, sample_bytes, header, encode}
use Rattle.trace_format.proofs.ReadBack.{length_write_bytes, length_sample_bytes, length_header}

-- The first write's bytes and the first sample's, and what is left after them.
pub first_write : (writes : List Write) (k : ℕ) (d : Write) → k < length writes
    → write_bytes (drop k writes) ≡ little 1 (get_or writes k d).offset ++ little 4 (get_or writes k d).value ++ write_bytes (drop (k + 1) writes)
unfolding write_bytes
first_write writes k d h = rw (drop-cons writes k d h, add-one)

pub no_writes : (writes : List Write) (k : ℕ) → length writes ≤ k → write_bytes (drop k writes) ≡ []
unfolding write_bytes
no_writes writes k h = rw (drop_of_length-le writes h)

pub first_sample : (samples : List ℕ) (k : ℕ) → k < length samples → sample_bytes (drop k samples) ≡ little sample_size (get_or samples k 0) ++ sample_bytes (drop (k + 1) samples)
unfolding sample_bytes
first_sample samples k h = rw (drop-cons samples k 0 h, add-one)

pub no_samples : (samples : List ℕ) (k : ℕ) → length samples ≤ k → sample_bytes (drop k samples) ≡ []
unfolding sample_bytes
no_samples samples k h = rw (drop_of_length-le samples h)

-- One write further, and one sample.
pub write_on : (whole out out' : List ℕ) (writes : List Write) (at k : ℕ) (w d : Write)
    → Filling whole out (at + write_size * k) (write_bytes (drop k writes)) → k < length writes → w ≡ get_or writes k d
    → out' ≡ sets out (at + write_size * k) (little 1 w.offset ++ little 4 w.value)
    → Filling whole out' (at + write_size * (k + 1)) (write_bytes (drop (k + 1) writes))
write_on whole out out' writes at k w d f h e put =
    let o : List ℕ = little 1 w.offset in
    let v : List ℕ = little 4 w.value in
    let five : length (o ++ v) ≡ write_size = rw (length-append o v, length_little 1 w.offset, length_little 4 w.value) in
    let first : write_bytes (drop k writes) ≡ (o ++ v) ++ write_bytes (drop (k + 1) writes) = first_write writes k d h ∙ sym (ap (λ (x : Write). (little 1 x.offset ++ little 4 x.value) ++ write_bytes (drop (k + 1) writes)) e) in
    fill_on whole out out' (at + write_size * k) (at + write_size * (k + 1)) _ (o ++ v) _ f first put (omega (arith, five))

pub sample_on : (whole out out' samples : List ℕ) (at k : ℕ)
    → Filling whole out (at + sample_size * k) (sample_bytes (drop k samples)) → k < length samples
    → out' ≡ sets out (at + sample_size * k) (little sample_size (get_or samples k 0))
    → Filling whole out' (at + sample_size * (k + 1)) (sample_bytes (drop (k + 1) samples))
sample_on whole out out' samples at k f h e =
    fill_on whole out out' (at + sample_size * k) (at + sample_size * (k + 1)) _ (little sample_size (get_or samples k 0)) (sample_bytes (drop (k + 1) samples)) f (first_sample samples k h) e (omega (arith, length_little sample_size (get_or samples k 0)))

-- Where the writes, and the samples, begin.
pub writes_start : (out : List ℕ) (writes : List Write) (at : ℕ) → at + write_size * length writes ≤ length out
    → Filling (sets out at (write_bytes writes)) out (at + write_size * 0) (write_bytes (drop 0 writes))
writes_start out writes at h =
    let z : at + write_size * 0 ≡ at = omega arith in
    rw z (record { leads = refl; room = rw (length_write_bytes writes) h })

pub samples_start : (out samples : List ℕ) (at : ℕ) → at + sample_size * length samples ≤ length out
    → Filling (sets out at (sample_bytes samples)) out (at + sample_size * 0) (sample_bytes (drop 0 samples))
samples_start out samples at h =
    let e : at + sample_size * 0 ≡ at = omega arith in
    rw e (record { leads = refl; room = rw (length_sample_bytes samples) h })

-- The three stretches of a file are put as one.
pub file_put : (out : List ℕ) (ws : List Write) (ss : List ℕ) (writes samples at : ℕ) → length ws ≡ writes → length ss ≡ samples → at ≡ header_length (version_for samples)
    → sets (sets (sets out 0 (header writes samples)) at (write_bytes ws)) (at + write_size * writes) (sample_bytes ss) ≡ sets out 0 (encode ws ss)
unfolding encode
file_put out ws ss writes samples at p q r =
    let h : List ℕ = header (length ws) (length ss) in
    let n : length h ≡ header_length (version_for (length ss)) = length_header (length ws) (length ss) in
    let m : length (h ++ write_bytes ws) ≡ write_start (version_for (length ss)) (length ws) = length-append h (write_bytes ws) ∙ rw (n, length_write_bytes ws) in
    sym (rw (sets_append out 0 (h ++ write_bytes ws) (sample_bytes ss), sets_append out 0 h (write_bytes ws), m, n, r, p, q, zero-add (header_length (version_for samples)), zero-add))
