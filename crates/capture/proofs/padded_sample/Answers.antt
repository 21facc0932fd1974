-- `capture::padded_sample` meets its contract. Assumes nothing.
use native.Mathlib.Omega.{arith}
use Rattle.laws.proofs.Kept.{sync_flags_kept, frame_closes_kept}
use Rattle.rules.specs.Capture.{sync_flags, frame_closes, remember_pins}
use Rattle.capture.proofs.Laws.{short_period, pins_ok}
use Rattle.capture.proofs.padded_sample.Goals as goal

pub frame_start-state-requires : goal.frame_start-state-requires
frame_start-state-requires c = let a = c.args in
    let now = c.blanking-now.result in
    let flagged = sync_flags (remember_pins a.w a.s) now in
    rw (c.frame_closes-ended.ensures, c.sync_flags-flagged.ensures, c.remember_pins-seen.ensures, c.apart-s.ensures)
    (omega (arith, ((frame_closes_kept flagged now).ok _ ((sync_flags_kept _ now).ok _ (pins_ok a.w c.requires))).rate, short_period (frame_closes flagged now).registers.cr))
