-- `capture::plain_edge` meets its contract. Assumes nothing.
use native.Mathlib.Omega.{arith}
use Rattle.laws.proofs.Kept.{frame_start_kept}
use Rattle.laws.proofs.Packing.{datum_joins}
use Rattle.rules.specs.Capture.{frame_start}
use Rattle.rules.specs.State.{not_blanking}
use Rattle.capture.proofs.plain_edge.Goals as goal

pub pixel_in-c-requires : goal.pixel_in-c-requires
pixel_in-c-requires c = let s = frame_start c.args.s not_blanking in
    let ok = (frame_start_kept c.args.s not_blanking).ok _ c.requires in
    rw c.frame_start-started.ensures (record { frame_bound = (omega (arith, ok.lines), omega (arith, ok.pixels)); joins = datum_joins s c.args.datum ok })
