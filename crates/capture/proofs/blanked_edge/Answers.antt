-- `capture::blanked_edge` meets its contract. Assumes nothing.
use native.Mathlib.Omega.{arith}
use Rattle.laws.proofs.Kept.{sync_flags_kept}
use Rattle.laws.proofs.UnpaddedSample.{unpadded_end_kept}
use Rattle.rules.specs.Capture.{sync_flags}
use Rattle.rules.specs.Unpadded.{unpadded_end}
use Rattle.capture.proofs.Laws.{short_period}
use Rattle.capture.proofs.blanked_edge.Goals as goal

pub frame_start-state-requires : goal.frame_start-state-requires
frame_start-state-requires c = let a = c.args in
    let flagged = sync_flags a.s a.now in
    rw (c.unpadded_end-ended.ensures, c.sync_flags-flagged.ensures)
    (omega (arith, ((unpadded_end_kept flagged a.now).ok _ ((sync_flags_kept a.s a.now).ok _ c.requires)).rate, short_period (unpadded_end flagged a.now).registers.cr))
