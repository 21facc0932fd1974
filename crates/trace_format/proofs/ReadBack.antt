-- What is encoded reads back: the file of some writes and samples has good form, and holds these writes and samples.
-- The idea: a number that stands behind a known number of bytes is read as it was written; the lists by induction. Assumes nothing.
use mathlib.Core.Bool.{true}
use mathlib.Core.List.{List, [], ◌∷◌, ◌++◌, append_assoc, append-nil}
use mathlib.Core.Path.{◌≡◌, refl, ◌∙◌}
use Prim.Native.Nat.{ℕ, suc, ◌+◌, ◌*◌, ◌^◌, ◌≤◌, ◌<◌}
use native.Mathlib.Omega.{arith}
use lib.ListN.{length, take, length-append}
use Rattle.numbers.specs.Numbers.{little, number_at}
use Rattle.numbers.proofs.Numbers.{length_little}
use Rattle.numbers.proofs.NumberAt.{number_at_little}
use Rattle.trace_format.specs.declared.Write.{Write}
use Rattle.trace_format.specs.Format.{WritesFit, sample_limit, version_for, count_size, header_length, write_size, sample_size, write_start, write_bytes, sample_bytes, mark, header, encode}
use Rattle.trace_format.specs.Reading.{same, version_of, write_count, sample_count, whole, form_refusal, write_at, sample_at, writes_from, samples_from, writes_of, samples_of, sample_start}
use Rattle.trace_format.proofs.Form.{version_fits, count_fits, good_form}

-- What a trace file can hold.
abbrev pub SamplesFit : List ℕ → Type 0
SamplesFit [] = Unit {0}
SamplesFit (s ∷ ss) = (s < 2 ^ 18) × SamplesFit ss

pub record Fits (ws : List Write) (ss : List ℕ) : Type 0 where
  pub writes : WritesFit ws
  pub samples : SamplesFit ss
  pub few_writes : length ws ≤ 255
  pub few_samples : length ss ≤ sample_limit

write_is : (f : List ℕ) (k : ℕ) (w : Write) → number_at f (write_start (version_of f) k) 1 ≡ w.offset → number_at f (write_start (version_of f) k + 1) 4 ≡ w.value → write_at f k ≡ w
unfolding write_at
write_is f k w p q = λ i. record { offset = p i; value = q i }

pub read_writes : (ws : List Write) (f pre post : List ℕ) (k : ℕ)
    → f ≡ pre ++ (write_bytes ws ++ post) → length pre ≡ write_start (version_of f) k → WritesFit ws → writes_from f k (length ws) ≡ ws
unfolding write_bytes writes_from
read_writes [] f pre post k e l h = refl
read_writes (w ∷ ws) f pre post k e l h =
    let rest : List ℕ = write_bytes ws ++ post in
    let at : ℕ = write_start (version_of f) k in
    let p : number_at f at 1 ≡ w.offset
    = number_at_little f pre (little 4 w.value ++ rest) at 1 w.offset (e ∙ simp append_assoc) l (omega (arith, h.0)) in
    let q : number_at f (at + 1) 4 ≡ w.value
    = number_at_little f (pre ++ little 1 w.offset) rest (at + 1) 4 w.value (e ∙ simp append_assoc) (simp (length-append, length_little) (omega arith)) (omega (arith, h.1)) in
    let t : writes_from f (suc k) (length ws) ≡ ws
    = read_writes ws f (pre ++ little 1 w.offset ++ little 4 w.value) post (suc k) (e ∙ simp append_assoc) (simp (length-append, length_little) (omega arith)) h.2 in
    rw (write_is f k w p q, t)

pub read_samples : (ss : List ℕ) (f pre post : List ℕ) (k : ℕ)
    → f ≡ pre ++ (sample_bytes ss ++ post) → length pre ≡ sample_start f k → SamplesFit ss → samples_from f k (length ss) ≡ ss
unfolding sample_bytes samples_from sample_at
read_samples [] f pre post k e l h = refl
read_samples (s ∷ ss) f pre post k e l h =
    let q : number_at f (sample_start f k) sample_size ≡ s
    = number_at_little f pre (sample_bytes ss ++ post) (sample_start f k) sample_size s (e ∙ simp append_assoc) l (omega (arith, h.0)) in
    let t : samples_from f (suc k) (length ss) ≡ ss
    = read_samples ss f (pre ++ little sample_size s) post (suc k) (e ∙ simp append_assoc) (simp (length-append, length_little) (omega arith)) h.1 in
    rw (q, t)

pub length_write_bytes : (ws : List Write) → length (write_bytes ws) ≡ write_size * length ws
unfolding write_bytes
length_write_bytes [] = refl
length_write_bytes (w ∷ ws) = simp (length-append, length_little) (omega (arith, length_write_bytes ws))

pub length_sample_bytes : (ss : List ℕ) → length (sample_bytes ss) ≡ sample_size * length ss
unfolding sample_bytes
length_sample_bytes [] = refl
length_sample_bytes (s ∷ ss) = simp (length-append, length_little) (omega (arith, length_sample_bytes ss))

pub length_header : (writes samples : ℕ) → length (header writes samples) ≡ header_length (version_for samples)
unfolding header
length_header writes samples = simp (length-append, length_little) (omega arith)

pub length_encode : (ws : List Write) (ss : List ℕ) → length (encode ws ss) ≡ write_start (version_for (length ss)) (length ws) + sample_size * length ss
unfolding encode
length_encode ws ss = simp (length-append, length_header, length_write_bytes, length_sample_bytes)

module _ (ws : List Write) (ss : List ℕ) (fits : Fits ws ss) where
  -- The version that the number of samples has, and its bytes.
  abbrev version : ℕ
  version = version_for (length ss)

  abbrev count : List ℕ
  count = little (count_size version) (length ss)

  version_back : version_of (encode ws ss) ≡ version
  unfolding encode header
  version_back =
      number_at_little (encode ws ss) mark (little 1 (length ws) ++ (count ++ (write_bytes ws ++ sample_bytes ss))) 3 2 version
      (simp append_assoc) refl (version_fits (length ss))

  pub write_count_back : write_count (encode ws ss) ≡ length ws
  unfolding encode header
  write_count_back =
      number_at_little (encode ws ss) (mark ++ little 2 version) (count ++ (write_bytes ws ++ sample_bytes ss)) 5 1 (length ws)
      (simp append_assoc) (simp length_little) (omega (arith, fits.few_writes))

  pub sample_count_back : sample_count (encode ws ss) ≡ length ss
  unfolding encode header
  sample_count_back =
      rw version_back
      (number_at_little (encode ws ss) (mark ++ little 2 version ++ little 1 (length ws)) (write_bytes ws ++ sample_bytes ss) 6 (count_size version) (length ss)
      (simp append_assoc) (simp (length-append, length_little)) (count_fits (length ss) fits.few_samples))

  pub length_back : length (encode ws ss) ≡ whole (encode ws ss)
  length_back = rw (write_count_back, sample_count_back, version_back) (length_encode ws ss)

  mark_back : same (take 3 (encode ws ss)) mark ≡ true
  unfolding encode header same
  mark_back = refl

  pub form_back : form_refusal (encode ws ss) ≡ 0
  form_back =
      good_form (encode ws ss) (length (encode ws ss)) mark_back (rw (sample_count_back, version_back)) length_back

  pub writes_back : writes_of (encode ws ss) ≡ ws
  unfolding encode
  writes_back =
      rw write_count_back (read_writes ws (encode ws ss) (header (length ws) (length ss)) (sample_bytes ss) 0 (simp append_assoc) (rw version_back (omega (arith, length_header (length ws) (length ss)))) fits.writes)

  pub samples_back : samples_of (encode ws ss) ≡ ss
  unfolding encode
  samples_back =
      rw sample_count_back
      (read_samples ss (encode ws ss) (header (length ws) (length ss) ++ write_bytes ws) [] 0 (simp (append_assoc, append-nil))
      (rw (write_count_back, version_back) (simp (length-append, length_header, length_write_bytes) (omega arith))) fits.samples)
