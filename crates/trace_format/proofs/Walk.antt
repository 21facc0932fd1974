-- The places of a file: first each write, then each sample, then the end; and content decides an accepted file.
-- The idea: the two tests of `item` come out by comparing the place with the counts; the rest is that a file is rewritten. Assumes nothing.
use mathlib.Core.List.{List}
use mathlib.Core.Path.{◌≡◌, sym, ap, ◌∙◌}
use Prim.Native.Nat.{ℕ, ◌+◌, ◌-◌, ◌≤◌, ◌<◌}
use native.Mathlib.Omega.{arith}
use borrow.Author.Tests.{lt-ltb, le-ltb}
use Rattle.numbers.specs.Numbers.{Bytes, number_at}
use Rattle.trace_format.specs.declared.Write.{Write}
use Rattle.trace_format.specs.Format.{sample_size, encode}
use Rattle.trace_format.specs.Reading.{sample_start, a_write, the_end, checked, item, write_count, sample_count, form_refusal, write_at, sample_at, writes_of, samples_of}
use Rattle.trace_format.proofs.Rewritten.{rewritten}

-- The places below the number of writes hold the writes, in order.
pub write_place : (f : List ℕ) (k : ℕ) → k < write_count f → item f k ≡ a_write (write_at f k)
unfolding item
write_place f k h = rw (lt-ltb _ _ h)

-- The places after them hold the samples, in order, each checked.
pub sample_place : (f : List ℕ) (k : ℕ) → k < sample_count f → item f (write_count f + k) ≡ checked (sample_at f k)
unfolding item
sample_place f k h =
    let from : write_count f + k - write_count f ≡ k = omega arith in
    rw (le-ltb (write_count f + k) (write_count f) (omega arith), lt-ltb (write_count f + k) (write_count f + sample_count f) (omega arith), from)

-- The number at a sample's byte is the sample.
pub sample_here : (f : List ℕ) (at k : ℕ) → at ≡ sample_start f k → number_at f at sample_size ≡ sample_at f k
unfolding sample_at
sample_here f at k e = rw e

-- Every further place is the end.
pub end_place : (f : List ℕ) (k : ℕ) → write_count f + sample_count f ≤ k → item f k ≡ the_end
unfolding item
end_place f k h = rw (le-ltb k (write_count f) (omega arith), le-ltb _ _ h)

-- Two accepted files with the same writes and the same samples are the same file.
pub content_decides : (f g : List ℕ) → Bytes f → Bytes g → form_refusal f ≡ 0 → form_refusal g ≡ 0
    → writes_of f ≡ writes_of g → samples_of f ≡ samples_of g → f ≡ g
content_decides f g bf bg ef eg w s =
    sym (rewritten f bf ef) ∙ ap (λ (ws : List Write). encode ws (samples_of f)) w ∙ ap (λ (ss : List ℕ). encode (writes_of g) ss) s ∙ rewritten g bg eg
