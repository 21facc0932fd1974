-- `board_words::mode_part` meets its contract. Assumes nothing.
use mathlib.Core.Path.{◌≡◌}
use native.Mathlib.Omega.{arith}
use lib.ListN.{length, drop, replicate, length-drop}
use lib.Seq.{take_all}
use Rattle.image_rules.specs.Image.{image_words}
use Rattle.image_rules.proofs.Inverse.{put_whole}
use Rattle.board_words.proofs.mode_part.Goals as goal

pub returns : goal.returns
returns c = let w = c.args.w in
    let all : length (drop image_words w) ≡ 9 = rw length-drop (omega arith) in
    let same = take_all 9 (drop image_words w) (omega arith) in
    rw (c.put.ensures, same, put_whole (replicate 9 0) _ all)
