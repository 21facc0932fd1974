-- `text::put` meets its contract: what is left of the bytes, put from the place on, leads to the same.
use Rattle.std.proofs.Common.{◌≡◌, drop}
use Rattle.text.specs.Putting.{put}
use Rattle.text.proofs.put.Given as goal

abbrev pub invariant-loop-b : goal.invariant-loop-b
invariant-loop-b l = put (drop l.b-index l.bytes) l.place l.buffer ≡ put l.bytes l.at l.initial.buffer
