-- `sampling::steps_of` meets its contract: the loop keeps `Going`, and each turn is one step of the rules. Assumes nothing.
use lib.ListN.{drop}
use Rattle.full_word.specs.Answers.{device}
use Rattle.sampling.specs.Answers.{noted}
use Rattle.sampling.specs.Kinds.{Each}
use Rattle.sampling.proofs.Going.{Going}
use Rattle.sampling.proofs.steps_of.Given as goal

abbrev pub invariant-loop-w : goal.invariant-loop-w
invariant-loop-w g l =
    let rest = drop l.w-index l.samples in
    Going l.samples (noted l.initial.e l.initial.slots l.initial.buffer l.initial.answer) (noted l.e l.slots l.buffer l.answer) rest
    × Each g.K.Kind.Has (device l.e l.slots) l.buffer rest
