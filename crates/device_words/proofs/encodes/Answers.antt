-- `device_words::encodes` meets its contract. Assumes nothing.
use Prim.Native.Nat.{ℕ}
use native.Mathlib.Omega.{arith}
use lib.Seq.{get_or-drop}
use Rattle.std.proofs.lemmas.Grind.{common_steps}
use Rattle.image_rules.specs.Image.{behind, encodes}
use Rattle.device_words.proofs.encodes.Goals as goal

pub returns-then-frame_encodes : goal.returns-then-frame_encodes
unfolding encodes
returns-then-frame_encodes c = rw (get_or-drop {A = ℕ} behind c.args.w 9 0) (grind (arith, common_steps))

pub returns-else-frame_encodes : goal.returns-else-frame_encodes
unfolding encodes
returns-else-frame_encodes c = grind (arith, common_steps)
