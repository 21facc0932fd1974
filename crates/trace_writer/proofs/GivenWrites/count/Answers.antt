-- `count` of `trace_writer::Given` meets its contract. Assumes nothing.
use mathlib.Core.Path.{sym}
use Rattle.trace_writer.proofs.TwoArrays.{length_given}
use Rattle.trace_writer.proofs.GivenWrites.count.Goals as goal

pub returns : goal.returns
returns c = sym (length_given _ _ 0 _)
