-- `fifo::move_down` meets its contract. Assumes nothing.
use mathlib.Core.List.{◌++◌}
use mathlib.Core.Path.{◌≡◌}
use Prim.Native.Nat.{suc, ◌-◌}
use native.Mathlib.Nat.{zero-add}
use native.Mathlib.Omega.{arith}
use lib.ListN.{length, take, drop, get_or, length-drop}
use lib.Seq.{length-take-le, drop-cons, set_at}
use Rattle.fifo.proofs.move_down.Goals as goal

pub returns : goal.returns
returns c =
    let s = c.args.slots.now in
    let last = c.args.held - 1 in
    let behind : suc last ≡ c.args.held = omega arith in
    let copied : c.copy_within.new.self ≡ take last (drop 1 s) ++ drop last s = simp zero-add at c.copy_within.ensures.after in
    let moved : length (take last (drop 1 s)) ≡ last = length-take-le last (drop 1 s) (rw length-drop (omega arith)) in
    rw (copied, drop-cons s last 0 (omega arith), set_at (take last (drop 1 s)) (get_or s last 0) (drop (suc last) s) 0 last moved, behind)
