-- `device_words::image_of` meets its contract. Assumes nothing.
use mathlib.Core.Path.{◌≡◌}
use native.Mathlib.Omega.{arith}
use lib.ListN.{length}
use lib.Seq.{take_all}
use Rattle.output.specs.Output.{slot_count}
use Rattle.image_rules.specs.Image.{image_of}
use Rattle.device_words.proofs.image_of.Goals as goal

pub put-requires-3 : goal.put-requires-3
put-requires-3 c =
    let all : length c.args.d.slots ≡ slot_count = c.well_formed.0.1.1.1.0.1.0.1 in
    omega (arith, all, c.put-2.auto)

pub returns : goal.returns
unfolding image_of
returns c =
    let all : length c.args.d.slots ≡ slot_count = c.well_formed.0.1.1.1.0.1.0.1 in
    rw (
      c.put-3.ensures,
      c.put-2.ensures,
      c.put.ensures,
      c.words_behind.ensures,
      c.words_before.ensures,
      all,
      take_all slot_count c.args.d.slots (omega arith),
    )
