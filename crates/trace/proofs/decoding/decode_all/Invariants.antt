-- `trace::decoding::decode_all` meets its contract: the samples so far stand at the front of the array.
use Rattle.std.proofs.Common.{◌≡◌, ◌/◌, length, take}
use lib.Seq.{sets}
use Rattle.trace_format.specs.Format.{sample_size}
use Rattle.trace.specs.Decoding.{samples_in}
use Rattle.trace.proofs.decoding.decode_all.Given as goal

abbrev pub invariant-loop-i : goal.invariant-loop-i
invariant-loop-i l = l.array ≡ sets l.initial.array 0 (take (length l.yielded) (samples_in (length l.bytes / sample_size) l.bytes))
