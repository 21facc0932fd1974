-- Writing a trace file into a lent buffer (document 01, "Trace file, version 1" and "Refusal numbers"; request W7).
use Rattle.std.specs.Prelude.{cond, List, [], ◌∷◌, ◌++◌, ℕ, zero, suc, eqb, ltb, length, get_or, drop}
use Rattle.refusals.specs.Refusals.{◌⇒◌, first, Answer, answer}
use Rattle.samples.specs.Samples.{any_bad}
use Rattle.trace_format.specs.declared.Write.{Write}
use Rattle.trace_format.specs.Format.{sample_limit, encode}

-- Refusals 14, 12, 7, 15 in order.
unfoldable pub writer_refusal : List Write → List ℕ → List ℕ → ℕ
writer_refusal writes samples out =
    first
    (ltb 255 (length writes) ⇒ 14 ∷
    ltb sample_limit (length samples) ⇒ 12 ∷
    any_bad samples ⇒ 7 ∷
    ltb (length out) (length (encode writes samples)) ⇒ 15 ∷
    [])

-- The writer answers its length, or a refusal; and the buffer that it leaves.
pub record WriteResult : Type 0 where
  pub answer : Answer ℕ
  pub buffer : List ℕ

-- Accepted, the buffer begins with the file and the bytes after it stay; refused, every byte stays.
unfoldable pub write : List Write → List ℕ → List ℕ → WriteResult
write writes samples out =
    let number = writer_refusal writes samples out in
    let file = encode writes samples in
    record {
      answer = answer number (length file);
      buffer = cond (eqb number 0) (file ++ drop (length file) out) out;
    }

-- The writes that are given as an array of offsets, one of values and a count: n writes from number k on, and all.
unfoldable pub given_from : List ℕ → List ℕ → ℕ → ℕ → List Write
given_from offsets values k zero = []
given_from offsets values k (suc n) = record { offset = get_or offsets k 0; value = get_or values k 0 } ∷ given_from offsets values (suc k) n

abbrev pub given : ℕ → List ℕ → List ℕ → List Write
given count offsets values = given_from offsets values 0 count
