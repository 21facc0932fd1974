-- Samples many at a time, from any bytes into a lent array (document 01, "Trace file, version 1"; request W7): a part of a file need not begin with a header.
use Rattle.std.specs.Prelude.{cond, List, [], ◌∷◌, ℕ, zero, suc, ◌-◌, ◌/◌, min, eqb, length, drop}
use Rattle.numbers.specs.Numbers.{number_at}
use Rattle.samples.specs.Samples.{any_bad}
use Rattle.trace_format.specs.Format.{sample_size}

-- n samples from the first byte on, whatever their bits.
unfoldable pub samples_in : ℕ → List ℕ → List ℕ
samples_in zero bytes = []
samples_in (suc n) bytes = number_at bytes 0 sample_size ∷ samples_in n (drop sample_size bytes)

-- How many are given from a byte on: those that are there whole, that the array has room for, and at most as many as asked for.
unfoldable pub how_many : List ℕ → ℕ → ℕ → ℕ → ℕ
how_many bytes at most room = min room (min most ((length bytes - at) / sample_size))

-- What a reader gives for them: so many samples, the end where there is none, or refusal 7 where one of them has a bit above 17.
pub data Samples : Type 0 where
  many : ℕ → Samples
  the_end : Samples
  refused : ℕ → Samples

unfoldable pub samples_at : List ℕ → ℕ → ℕ → ℕ → Samples
samples_at bytes at most room =
    let n = how_many bytes at most room in
    cond (eqb n 0) the_end (cond (any_bad (samples_in n (drop at bytes))) (refused 7) (many n))
