-- The frame buffer with some words landed, and the rest of it as first lent: the next word has room, and is stored behind the others.
use mathlib.Core.Bool.{true}
use mathlib.Core.List.{List, [], ◌∷◌, ◌++◌}
use mathlib.Core.Path.{◌≡◌}
use Prim.Native.Nat.{ℕ, ◌+◌, ◌*◌, ◌≤◌}
use native.Mathlib.Omega.{arith}
use lib.ListN.{length, drop, length-append, length-drop}
use lib.Seq.{take_at, drop_at, drop-drop}
use borrow.Author.Tests.{le-leb}
use Rattle.output.specs.Output.{all_bytes, room, stored}
use Rattle.output.proofs.Bytes.{all_bytes_length, all_bytes_last}

-- The frame buffer with some words landed, first lent as `buffer`.
abbrev pub filled : List ℕ → List ℕ → List ℕ
filled vs buffer = all_bytes vs ++ drop (4 * length vs) buffer

-- There is room for the next word if its bytes exist.
pub filled_room : (vs buffer : List ℕ) → 4 * length vs + 4 ≤ length buffer → room (length vs) (filled vs buffer) ≡ true
unfolding room
filled_room vs buffer h =
    le-leb (4 * length vs + 4) _ (simp (length-append, all_bytes_length, length-drop) (omega arith))

-- The next word lands behind the others.
pub filled_stored : (vs : List ℕ) (v : ℕ) (buffer : List ℕ) → stored (length vs) v (filled vs buffer) ≡ filled (vs ++ v ∷ []) buffer
unfolding stored
filled_stored vs v buffer =
    let k : ℕ = 4 * length vs in
    let whole = all_bytes_length vs in
    let next : 4 * length (vs ++ v ∷ []) ≡ k + 4 = rw length-append (omega arith) in
    rw (
      take_at (all_bytes vs) (drop k buffer) k,
      ← drop-drop 4 k (all_bytes vs ++ drop k buffer),
      drop_at (all_bytes vs) (drop k buffer) k,
      drop-drop 4 k buffer,
      next,
      all_bytes_last,
    )
