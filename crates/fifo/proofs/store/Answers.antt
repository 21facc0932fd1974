-- `fifo::store` meets its contract. Assumes nothing.
use mathlib.Core.List.{List, [], ◌∷◌}
use mathlib.Core.Path.{refl, ◌∙◌}
use Prim.Native.Nat.{ℕ, ◌/◌, ◌%◌}
use native.Mathlib.Omega.{arith}
use Rattle.numbers.proofs.Numbers.{four_bytes}
use Rattle.std.proofs.lemmas.Slice.{put_mid-paste}
use Rattle.fifo.proofs.store.Goals as goal

pub returns : goal.returns
returns c =
    let v = c.args.v in
    let bytes : List ℕ = v % 256 ∷ v / 256 % 256 ∷ v / 65536 % 256 ∷ v / 16777216 % 256 ∷ [] in
    rw (four_bytes v) (put_mid-paste c.args.at _ c.args.buffer.now _ bytes 4 (c.copy_from_slice.ensures.after ∙ c.to_le_bytes.ensures) (omega arith) refl)
