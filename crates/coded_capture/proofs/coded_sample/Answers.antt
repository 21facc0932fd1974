-- `coded_capture::coded_sample` meets its contract. Assumes nothing.
use Rattle.capture.proofs.Laws.{pins_ok}
use Rattle.coded_capture.proofs.coded_sample.Goals as goal

pub at_byte-requires : goal.at_byte-requires
at_byte-requires c = rw (c.remember_pins-seen.ensures, c.apart-s.ensures) (pins_ok _ c.requires.capture_ok)
