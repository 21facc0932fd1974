-- `coded_capture::line_datum` meets its contract. Assumes nothing.
use mathlib.Core.Path.{sym, ap, ◌∙◌}
use Rattle.laws.proofs.Packing.{datum_joins}
use Rattle.rules.specs.declared.Frame.{Frame}
use Rattle.rules.specs.State.{with_frame}
use Rattle.rules.specs.Codes.{byte_in}
use Rattle.coded_capture.proofs.DataLaws.{in_line_datum}
use Rattle.coded_capture.proofs.line_datum.Goals as goal

pub datum-requires : goal.datum-requires
unfolding with_frame
datum-requires c = rw c.with_scan.ensures (datum_joins c.args.s c.args.x c.requires.capture_ok)

pub returns-in-Open : goal.returns-in-Open
returns-in-Open c = let a = c.args in
    in_line_datum a.s _ _ a.x c.datum.result c.requires.waiting_value.0 c.requires.waiting_value.1 c.if-not-s.true
    (rw (← c.arrived-place.ensures, ← c.with_scan.ensures) c.datum.ensures)
    ∙ ap (λ (frame : Frame). byte_in frame a.s a.x) (sym c.in-Open.is)
