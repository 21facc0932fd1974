-- `board_words::image_of` meets its contract. Assumes nothing.
use native.Mathlib.Omega.{arith}
use lib.ListN.{replicate}
use Rattle.image_rules.specs.Image.{image_words}
use Rattle.image_rules.specs.BoardImage.{image_of}
use Rattle.image_rules.proofs.BoardInverse.{put_both}
use Rattle.board_words.proofs.image_of.Goals as goal

pub returns : goal.returns
unfolding image_of
returns c = let behind = c.mode_words in
    let device = c.image_of in
    rw (
      c.put-2.ensures,
      c.put.ensures,
      put_both (replicate 67 0) device.result behind.result image_words (omega (arith, device.type_inv)) (omega (arith, behind.type_inv)),
      behind.ensures,
      device.ensures,
    )
