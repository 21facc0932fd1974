-- `device_words::put` meets its contract. Assumes nothing.
use native.Mathlib.Omega.{arith}
use lib.ListN.{length-set}
use Rattle.std.proofs.lemmas.List.Edits.{paste_more}
use Rattle.device_words.proofs.put.Goals as goal

pub loop-i-preserved : goal.loop-i-preserved
loop-i-preserved c = let a = c.args in
    let (e, n) = c.loop-i.invariant in
    (rw e (paste_more a.words.now a.at a.part.now c.loop-i.i 0 (omega arith) (omega arith)), rw length-set n)
