-- `board::two_memories::accepted_sample` meets its contract. Assumes nothing.
use Rattle.board.proofs.TwoMemories.{asked}
use Rattle.board.proofs.two_memories.accepted_sample.Goals as goal

pub two_step-r-requires : goal.two_step-r-requires
two_step-r-requires c =
    let all = asked c.args.d c.args.turns 1 c.well_formed.0.1.1.1.0.1.0.1 c.requires in
    record { well_formed = all.0; turns_ok = all.1.0; laid = all.1.1.0; samples_bound = all.1.1.1 }
