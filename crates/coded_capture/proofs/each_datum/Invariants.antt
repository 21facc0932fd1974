-- `coded_capture::each_datum` meets its contract: what is left to take, after the words so far, gives the whole. Assumes nothing.
use Rattle.std.proofs.Common.{◌≡◌, ◌+◌, length, drop}
use Rattle.rules.specs.Codes.{each_datum}
use Rattle.rules.specs.declared.Frame.TheVariants.{Open}
use Rattle.rules.proofs.WellFormed.{CaptureOk}
use Rattle.coded_capture.proofs.DataLaws.{from_here}
use Rattle.coded_capture.proofs.each_datum.Given as goal

abbrev pub invariant-loop-x : goal.invariant-loop-x
invariant-loop-x l = record {
  in_frame : l.state.frame ≡ Open l.taken l.f;
  ok : CaptureOk 4294967295 l.state;
  left : l.later ≡ length (drop l.x-index l.«data») + l.still;
  same : each_datum l.fn.s l.taken l.f l.«data» l.still ≡ from_here l.state l.taken l.f (drop l.x-index l.«data») l.still l.word;
}
