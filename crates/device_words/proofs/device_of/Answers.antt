-- `device_words::device_of` meets its contract. Assumes nothing.
use mathlib.Core.Path.{◌≡◌}
use native.Mathlib.Omega.{arith}
use lib.ListN.{length, take, drop, replicate, length-take, length-drop}
use Rattle.output.specs.Output.{slot_count}
use Rattle.image_rules.specs.Image.{slot, device_of}
use Rattle.image_rules.proofs.Inverse.{put_whole}
use Rattle.device_words.proofs.device_of.Goals as goal

pub returns : goal.returns
unfolding device_of
returns c = let w = c.args.w in
    let all : length (take slot_count (drop slot w)) ≡ slot_count = rw (length-take, length-drop) (omega arith) in
    rw (
      c.put.ensures,
      put_whole (replicate slot_count 0) _ all,
      c.output_of.ensures,
      c.capture_of.ensures,
    )
