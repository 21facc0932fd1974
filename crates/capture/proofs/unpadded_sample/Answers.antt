-- `capture::unpadded_sample` meets its contract. Assumes nothing.
use Rattle.capture.proofs.Laws.{pins_ok}
use Rattle.capture.proofs.unpadded_sample.Goals as goal

pub blanked_edge-requires : goal.blanked_edge-requires
blanked_edge-requires c = rw (c.remember_pins-seen.ensures, c.apart-s.ensures) (pins_ok _ c.requires)

pub plain_edge-requires : goal.plain_edge-requires
plain_edge-requires c = rw (c.remember_pins-seen.ensures, c.apart-s.ensures) (pins_ok _ c.requires)
