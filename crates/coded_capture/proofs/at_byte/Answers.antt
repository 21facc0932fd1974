-- `coded_capture::at_byte` meets its contract. Assumes nothing.
use mathlib.Core.Path.{refl}
use Rattle.laws.proofs.Coded.{waiting_ok, taken_out_kept}
use Rattle.coded_capture.proofs.at_byte.Goals as goal

pub at_code-requires : goal.at_code-requires
at_code-requires c = rw (c.with_waiting.ensures, c.taken_out.ensures)
    (waiting_ok _ ((taken_out_kept _ c.args.s refl).ok _ c.requires))
