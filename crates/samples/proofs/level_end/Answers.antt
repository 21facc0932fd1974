-- `samples::level_end` meets its contract: the loop keeps what is left of the run. Assumes nothing.
use lib.ListN.{length}
use native.Mathlib.Nat.{le-max_left, max-le}
use native.Mathlib.Numerals.{add-one}
use native.Mathlib.Omega.{arith}
use Rattle.std.proofs.lemmas.Bool.{not-false, not-true}
use Rattle.samples.proofs.Levels.{run_on, run_off, run_past}
use Rattle.samples.proofs.level_end.Goals as goal

pub returns-then-vsync_pin-level : goal.returns-then-vsync_pin-level
returns-then-vsync_pin-level c =
    let off = run_off c.args.list.now _ _ c.loop-i-test.true (rw c.vsync_pin.ensures at (not-true _ c.if-vsync_pin-level.true)) in
    rw (← c.vsync_pin-level.ensures) (omega (arith, c.loop-i.invariant.0, off))

pub loop-i-preserved : goal.loop-i-preserved
loop-i-preserved c =
    let on = run_on c.args.list.now _ _ c.loop-i-test.true (rw c.vsync_pin.ensures at (not-false _ c.if-vsync_pin-level.false)) in
    rw add-one (omega (arith, c.loop-i.invariant.0, on), omega (arith, le-max_left (length c.args.list.now) c.args.first))

pub returns : goal.returns
returns c =
    let past = run_past c.args.list.now _ c.vsync_pin-level.result c.loop-i-test.false in
    let all = max-le {k = c.loop-i.i} c.loop-i-test.false c.loop-i.auto.i in
    rw (← c.vsync_pin-level.ensures) (omega (arith, c.loop-i.invariant, past, all, c.max.ensures))
