-- `trace_writer::put_writes` meets its contract.
use Prim.Native.Nat.{◌≤◌, ◌<◌}
use native.Mathlib.Omega.{arith}
use lib.ListN.{length}
use Rattle.numbers.proofs.Putting.{filled}
use Rattle.trace_writer.proofs.Filling.{writes_start, write_on, no_writes}
use Rattle.trace_writer.proofs.put_writes.Goals as goal

pub loop-i-init : goal.loop-i-init
loop-i-init g c = writes_start _ _ _ c.requires.1

pub loop-i-preserved : goal.loop-i-preserved
loop-i-preserved g c =
    let inside : c.loop-i.i < length (g.W.Writes.list c.args.writes) = omega (arith, c.loop-i-test.true, c.count-i-end.ensures) in
    write_on _ _ _ _ _ _ _ _ c.loop-i.invariant inside c.nth.ensures c.put_write.ensures

pub returns : goal.returns
returns g c =
    let done : length (g.W.Writes.list c.args.writes) ≤ c.loop-i.i = omega (arith, c.loop-i-test.false, c.count-i-end.ensures) in
    filled _ _ _ _ c.loop-i.invariant (no_writes _ _ done)
