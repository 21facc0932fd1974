-- `board::two_memories::accepted_run` meets its contract. Assumes nothing.
use lib.ListN.{length}
use mathlib.Core.Path.{ap}
use Rattle.board.specs.Answers.{ran_two}
use Rattle.board.proofs.TwoMemories.{asked, left}
use Rattle.board.proofs.two_memories.accepted_run.Goals as goal

pub two_steps-after-requires : goal.two_steps-after-requires
unfolding ran_two
two_steps-after-requires c =
    let all = asked c.args.d c.args.turns (length c.args.samples.now) c.well_formed.0.1.1.1.0.1.0.1 c.requires in
    record { well_formed = all.0; turns_ok = all.1.0; laid = all.1.1.0; samples_bound = all.1.1.1 }

pub returns : goal.returns
unfolding ran_two
returns c = ap left c.two_steps-after.ensures
