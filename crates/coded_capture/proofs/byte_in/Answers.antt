-- `coded_capture::byte_in` meets its contract. Assumes nothing.
use Rattle.coded_capture.proofs.DataLaws.{arrived_ok}
use Rattle.coded_capture.proofs.byte_in.Goals as goal

pub released-requires-clause-capture_ok : goal.released-requires-clause-capture_ok
released-requires-clause-capture_ok c = rw (c.with_waiting-t.ensures, c.with_scan.ensures, c.arrived-place.ensures) (arrived_ok _ c.in-Open.is c.requires)
