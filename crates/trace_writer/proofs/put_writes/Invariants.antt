-- `trace_writer::put_writes` meets its contract.
use Prim.Native.Nat.{◌+◌, ◌*◌}
use lib.ListN.{drop}
use lib.Seq.{sets}
use Rattle.numbers.proofs.Putting.{Filling}
use Rattle.trace_format.specs.Format.{write_size, write_bytes}
use Rattle.trace_writer.proofs.put_writes.Given as goal

abbrev pub invariant-loop-i : goal.invariant-loop-i
invariant-loop-i g l =
    let all = g.W.Writes.list l.writes in
    Filling (sets l.initial.out l.at (write_bytes all)) l.out (l.at + write_size * l.i) (write_bytes (drop l.i all))
