-- `nth` of `trace_writer::Given` meets its contract. Assumes nothing.
use mathlib.Core.Path.{sym}
use native.Mathlib.Omega.{arith}
use Rattle.trace_writer.proofs.TwoArrays.{length_given, nth_of_all}
use Rattle.trace_writer.proofs.GivenWrites.nth.Goals as goal

pub returns : goal.returns
returns c =
    let w = c.args.self.now in
    sym (nth_of_all w.offsets.now w.values.now w.count c.args.k _ (omega (arith, c.requires.0, length_given w.offsets.now w.values.now 0 w.count)))
