-- The frame buffer is the part of a lent memory from a start byte to its end: what is lent, and what is put back. Assumes nothing.
use mathlib.Core.List.{List, ◌++◌, append-nil}
use mathlib.Core.Path.{◌≡◌}
use Prim.Native.Nat.{ℕ, ◌-◌, ◌≤◌}
use native.Mathlib.Omega.{arith}
use lib.ListN.{length, take, drop, length-drop, drop_of_length-le}
use lib.Seq.{take_all}
use borrow.Rule.Slice.PartMut.{put_mid}

pub tail_part : (memory : List ℕ) (start : ℕ) → take (length memory - start) (drop start memory) ≡ drop start memory
tail_part memory start =
    let all : length (drop start memory) ≤ length memory - start = simp length-drop (omega arith) in
    take_all (length memory - start) (drop start memory) all

pub put_tail : (memory buffer : List ℕ) (start : ℕ) → put_mid start (length memory - start) memory buffer ≡ take start memory ++ buffer
put_tail memory buffer start =
    let past : length (drop start memory) ≤ length memory - start = simp length-drop (omega arith) in
    rw (drop_of_length-le (drop start memory) past, append-nil)
