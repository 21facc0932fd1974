-- `board_words::device_part` meets its contract. Assumes nothing.
use mathlib.Core.Path.{◌≡◌}
use native.Mathlib.Omega.{arith}
use lib.ListN.{length, take, replicate, length-take}
use Rattle.image_rules.specs.Image.{image_words}
use Rattle.image_rules.proofs.Inverse.{put_whole}
use Rattle.board_words.proofs.device_part.Goals as goal

pub slice_bounds-put-end-2 : goal.slice_bounds-put-end-2
slice_bounds-put-end-2 c = rw length-take (omega arith)

pub put-requires : goal.put-requires
put-requires c = rw length-take (omega arith)

pub returns : goal.returns
returns c = let w = c.args.w in
    let all : length (take image_words w) ≡ image_words = rw length-take (omega arith) in
    rw (c.put.ensures, put_whole (replicate image_words 0) _ all)
