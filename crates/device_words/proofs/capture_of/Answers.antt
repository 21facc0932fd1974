-- `device_words::capture_of` meets its contract. Assumes nothing.
use lib.Seq.{get_or-drop}
use Rattle.device_words.proofs.capture_of.Goals as goal

pub returns : goal.returns
returns c = rw (c.waiting_of.ensures, c.frame_of.ensures) (simp get_or-drop)
