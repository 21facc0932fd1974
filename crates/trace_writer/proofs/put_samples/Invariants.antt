-- `trace_writer::put_samples` meets its contract.
use Prim.Native.Nat.{◌+◌, ◌*◌}
use lib.ListN.{drop}
use lib.Seq.{sets}
use Rattle.numbers.proofs.Putting.{Filling}
use Rattle.trace_format.specs.Format.{sample_size, sample_bytes}
use Rattle.trace_writer.proofs.put_samples.Given as goal

abbrev pub invariant-loop-i : goal.invariant-loop-i
invariant-loop-i l = Filling (sets l.initial.out l.at (sample_bytes l.samples)) l.out (l.at + sample_size * l.i) (sample_bytes (drop l.i l.samples))
