-- The paper's values of each case of the answer of samples many at a time.
use Rattle.std.specs.Prelude.{ℕ, zero, suc, Result, Ok, Err}
use Rattle.refusals.specs.declared.Refusal.{Refusal}
use Rattle.refusals.specs.Table.{number}
use Rattle.trace.specs.Decoding as decodings

-- How many they are, and 0 at the end.
abbrev pub samples : Result ℕ Refusal → decodings.Samples
samples (Ok zero) = decodings.the_end
samples (Ok (suc n)) = decodings.many (suc n)
samples (Err e) = decodings.refused (number e)
