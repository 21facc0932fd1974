-- The trace file, versions 1 and 2 (document 01, "Trace file, version 1"; request W7): the bytes of some writes and samples.
use Rattle.std.specs.Prelude.{cond, List, [], ◌∷◌, ◌++◌, ℕ, ◌+◌, ◌*◌, ◌^◌, ◌<◌, eqb, ltb, length}
use Rattle.numbers.specs.Numbers.{little}
use Rattle.trace_format.specs.declared.Write.{Write}

-- A write's offset is a byte, its value a 32-bit number: what the code's types hold, and a premise of the two round trips.
abbrev pub WritesFit : List Write → Type 0
WritesFit [] = Unit {0}
WritesFit (w ∷ ws) = (w.offset < 256) × (w.value < 2 ^ 32) × WritesFit ws

-- A file has at most 4,294,967,295 samples: version 1 up to 16,384, version 2 above (W7).
abbrev pub sample_limit : ℕ
sample_limit = 4294967295

unfoldable pub version_for : ℕ → ℕ
version_for samples = cond (ltb 16384 samples) 2 1

-- The number of samples has two bytes, in version 2 four (W7), and the header six more: 8 bytes, in version 2 10.
unfoldable pub count_size : ℕ → ℕ
count_size version = cond (eqb version 2) 4 2

abbrev pub header_length : ℕ → ℕ
header_length version = 6 + count_size version

-- The bytes of a write and of a sample.
abbrev pub write_size : ℕ
write_size = 5

abbrev pub sample_size : ℕ
sample_size = 3

-- The byte at which write number k begins, in a version.
abbrev pub write_start : ℕ → ℕ → ℕ
write_start version k = header_length version + write_size * k

-- Each write: offset (1) and value (4). Each sample: its three lowest bytes.
unfoldable pub write_bytes : List Write → List ℕ
write_bytes [] = []
write_bytes (w ∷ ws) = little 1 w.offset ++ little 4 w.value ++ write_bytes ws

unfoldable pub sample_bytes : List ℕ → List ℕ
sample_bytes [] = []
sample_bytes (w ∷ ws) = little sample_size w ++ sample_bytes ws

-- Bytes 0-2 "FGT"; 3-4 version; 5 number of writes; 6-7 number of samples, in version 2 6-9.
abbrev pub mark : List ℕ
mark = 0x46 ∷ 0x47 ∷ 0x54 ∷ []

unfoldable pub header : ℕ → ℕ → List ℕ
header writes samples = mark ++ little 2 (version_for samples) ++ little 1 writes ++ little (count_size (version_for samples)) samples

unfoldable pub encode : List Write → List ℕ → List ℕ
encode writes samples = header (length writes) (length samples) ++ write_bytes writes ++ sample_bytes samples
