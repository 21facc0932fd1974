-- `numbers::put` meets its contract: the bytes so far, then those of what is left.
use Rattle.std.proofs.Common.{◌≡◌, ◌-◌, take, append-nil, arith}
use Rattle.std.proofs.lemmas.Grind.{common_steps}
use Rattle.numbers.proofs.Numbers.{length_little, no_bytes}
use Rattle.numbers.proofs.Putting.{byte_on, stretch_put}
use Rattle.numbers.proofs.put.Goals as goal

pub loop-b-preserved : goal.loop-b-preserved
loop-b-preserved c = byte_on _ _ _ _ _ (omega arith) (omega arith) c.loop-b.invariant

pub returns : goal.returns
returns c =
    let all : take c.loop-b.b-index c.loop-b.b-items ≡ c.loop-b.b-items = grind (arith, common_steps) in
    let done = rw (all, no_bytes (c.args.n - c.loop-b.b-index) c.loop-b.rest (omega arith), append-nil) at c.loop-b.invariant in
    stretch_put _ _ _ _ _ done (omega (arith, length_little c.args.n c.args.x)) (omega arith)
