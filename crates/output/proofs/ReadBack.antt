-- A landed word is read back as it was stored. Assumes nothing.
use mathlib.Core.Bool.{true}
use mathlib.Core.List.{List, append_assoc}
use mathlib.Core.Path.{◌≡◌}
use Prim.Native.Nat.{ℕ, ◌+◌, ◌*◌, ◌<◌, ◌^◌}
use native.Mathlib.Omega.{arith}
use lib.ListN.{length, take, drop}
use lib.Seq.{length-take-le}
use borrow.Author.Tests.{leb-true}
use Rattle.numbers.proofs.NumberAt.{number_at_little}
use Rattle.output.specs.Output.{bytes, room, stored, word_at}

pub read_back : (k v : ℕ) (buffer : List ℕ) → v < 2 ^ 32 → room k buffer ≡ true → word_at (stored k v buffer) (4 * k) ≡ v
unfolding stored room
read_back k v buffer fits space =
    let front = take (4 * k) buffer in
    let rest = drop (4 * k + 4) buffer in
    number_at_little (stored k v buffer) front rest (4 * k) 4 v (append_assoc front (bytes v) rest)
    (length-take-le (4 * k) buffer (omega (arith, leb-true (4 * k + 4) (length buffer) space))) (omega arith)
