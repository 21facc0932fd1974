-- A reader's walk over an accepted file visits exactly its writes, then exactly its samples, then the end, again and again. So what the writer
-- writes reads back, and every accepted file is what the writer writes for its content.
-- The idea: a walk over n items is one item and a walk over the rest; files and contents by `rewritten` and `ReadBack`. Assumes nothing.
use mathlib.Core.Bool.{false}
use mathlib.Core.List.{List, [], ◌∷◌, ◌++◌, map}
use mathlib.Core.Path.{◌≡◌, refl, ap}
use Prim.Native.Nat.{ℕ, zero, suc, ◌+◌, ◌≤◌, ◌^◌}
use native.Mathlib.Nat.{zero-add, add-zero, add-suc, suc-add}
use native.Mathlib.Numerals.{add-one}
use native.Mathlib.Omega.{arith}
use lib.Dec.{ltb, leb}
use lib.ListN.{length, take, drop, replicate}
use lib.Seq.{take_at}
use borrow.Author.Tests.{ltb-false, le-ltb, leb-false}
use Rattle.numbers.specs.Numbers.{Bytes}
use Rattle.refusals.proofs.Accepted.{accepted}
use Rattle.bits.proofs.Booleans.{or_false}
use Rattle.refusals.specs.Refusals.{◌⇒◌, answered}
use Rattle.samples.specs.Samples.{bad_sample, any_bad}
use Rattle.trace_format.specs.declared.Write.{Write}
use Rattle.trace_format.specs.Format.{WritesFit, sample_limit, encode}
use Rattle.trace_format.specs.Reading.{Item, a_write, a_sample, the_end, checked, past, found, read, visits, form_refusal, write_count, sample_count, sample_at, writes_from, samples_from, writes_of, samples_of}
use Rattle.trace_writer.specs.Writing.{WriteResult, writer_refusal, write}
use Rattle.trace_format.proofs.Form.{count_below}
use Rattle.numbers.proofs.Numbers.{byte_below}
use Rattle.numbers.proofs.NumberAt.{number_at_one}
use Rattle.trace_format.proofs.ReadBack.{SamplesFit, Fits, form_back, write_count_back, sample_count_back, writes_back, samples_back}
use Rattle.trace_format.proofs.Rewritten.{rewritten, length_writes_of, length_samples_of}
use Rattle.trace_format.proofs.Walk.{write_place, sample_place, end_place}

-- Where the place stays, every further reading finds the same.
pub stays : (f : List ℕ) (p k : ℕ) → past p (found f p) ≡ p → visits f p k ≡ replicate k (found f p)
unfolding visits read
stays f p zero e = refl
stays f p (suc k) e = rw (e, stays f p k e)

module _ (f : List ℕ) (good : form_refusal f ≡ 0) where
  -- What one reading finds is the item at the place.
  finds : (p : ℕ) (it : Item) → Rattle.trace_format.specs.Reading.item f p ≡ it → found f p ≡ it
  unfolding found
  finds p it e = rw (good, e)

  end_stays : (p : ℕ) → found f p ≡ the_end → past p (found f p) ≡ p
  unfolding past
  end_stays p e = rw e

  visits_writes : (k n m : ℕ) → k + n ≤ write_count f → visits f k (n + m) ≡ map a_write (writes_from f k n) ++ visits f (k + n) m
  unfolding visits read past writes_from
  visits_writes k zero m h = rw (zero-add, add-zero)
  visits_writes k (suc n) m h =
      rw (suc-add n m, finds k _ (write_place f k (omega arith)), add-suc k n, add-one k, visits_writes (suc k) n m (omega arith), suc-add k n)

  visits_samples : (k n m : ℕ) → k + n ≤ sample_count f → any_bad (samples_from f k n) ≡ false
      → visits f (write_count f + k) (n + m) ≡ map a_sample (samples_from f k n) ++ visits f (write_count f + (k + n)) m
  unfolding visits read past samples_from any_bad checked
  visits_samples k zero m h b = rw (zero-add, add-zero)
  visits_samples k (suc n) m h b =
      let (now, later) = or_false (bad_sample (sample_at f k)) (any_bad (samples_from f (suc k) n)) b in
      rw (suc-add n m, finds (write_count f + k) _ (sample_place f k (omega arith)), now, add-one (write_count f + k), ← add-suc (write_count f) k, visits_samples (suc k) n m (omega arith) later, suc-add k n, add-suc k n)

  -- The whole walk.
  pub visits_all : any_bad (samples_of f) ≡ false → (k : ℕ)
      → visits f 0 (write_count f + (sample_count f + k)) ≡ map a_write (writes_of f) ++ (map a_sample (samples_of f) ++ replicate k the_end)
  visits_all b k =
      let end : found f (write_count f + sample_count f) ≡ the_end = finds (write_count f + sample_count f) the_end (end_place f _ (omega arith)) in
      let rest : visits f (write_count f + sample_count f) k ≡ replicate k the_end = rw end at (stays f (write_count f + sample_count f) k (end_stays (write_count f + sample_count f) end)) in
      let samples : visits f (write_count f + 0) (sample_count f + k) ≡ map a_sample (samples_of f) ++ visits f (write_count f + (0 + sample_count f)) k = visits_samples 0 (sample_count f) k (omega arith) b in
      rw (visits_writes 0 (write_count f) (sample_count f + k) (omega arith), zero-add, ← add-zero (write_count f), samples, zero-add, rest)

-- Samples of which none is bad fit their three bytes.
samples_fit : (ss : List ℕ) → any_bad ss ≡ false → SamplesFit ss
unfolding any_bad bad_sample
samples_fit [] e = tt
samples_fit (s ∷ ss) e =
    let (now, later) = or_false (leb (2 ^ 18) s) (any_bad ss) e in
    (leb-false _ _ now, samples_fit ss later)

-- What the writer writes, the reader reads back: the same writes, then the same samples, then the end.
module _ (ws : List Write) (ss out : List ℕ) (fit : WritesFit ws) (taken : writer_refusal ws ss out ≡ 0) where
  passed : (length ws ≤ 255) × (length ss ≤ sample_limit) × (any_bad ss ≡ false) × (length (encode ws ss) ≤ length out)
  unfolding writer_refusal
  passed =
      let (a, (b, (c, (d, u)))) =
      accepted
      (ltb 255 (length ws) ⇒ 14 ∷ ltb sample_limit (length ss) ⇒ 12 ∷ any_bad ss ⇒ 7 ∷ ltb (length out) (length (encode ws ss)) ⇒ 15 ∷ [])
      (omega arith, (omega arith, (omega arith, (omega arith, tt)))) taken in
      (ltb-false _ _ a, ltb-false _ _ b, c, ltb-false _ _ d)

  fits : Fits ws ss
  fits = record { writes = fit; samples = samples_fit ss passed.2; few_writes = passed.0; few_samples = passed.1 }

  -- The answer is the length of the file, which lies over the first bytes.
  pub written : write ws ss out ≡ record { answer = answered (length (encode ws ss)); buffer = encode ws ss ++ drop (length (encode ws ss)) out }
  unfolding write
  written = rw taken

  pub written_reads_back : (k : ℕ)
      → visits (take (length (encode ws ss)) (write ws ss out).buffer) 0 (length ws + (length ss + k)) ≡ map a_write ws ++ (map a_sample ss ++ replicate k the_end)
  written_reads_back k =
      let f : List ℕ = encode ws ss in
      let all = visits_all f (form_back ws ss fits) (rw (samples_back ws ss fits) passed.2) k in
      rw (ap (λ (r : WriteResult). r.buffer) written, take_at f (drop (length f) out) (length f) refl)
      (rw (writes_back ws ss fits, samples_back ws ss fits, write_count_back ws ss fits, sample_count_back ws ss fits) at all)

-- Every accepted file is byte for byte what the writer writes for its content.
pub written_again : (f out : List ℕ) → Bytes f → form_refusal f ≡ 0 → any_bad (samples_of f) ≡ false → length f ≤ length out
    → write (writes_of f) (samples_of f) out ≡ record { answer = answered (length f); buffer = f ++ drop (length f) out }
unfolding write writer_refusal
written_again f out bytes good fine h =
    let few : sample_count f ≤ sample_limit = count_below f (λ i. byte_below f i bytes) in
    let writes : write_count f ≤ 255 = rw (number_at_one f 5) (omega (arith, byte_below f 5 bytes)) in
    rw (
      rewritten f bytes good,
      length_writes_of f,
      length_samples_of f,
      le-ltb _ _ writes,
      le-ltb _ _ few,
      fine,
      le-ltb _ _ h,
    )
