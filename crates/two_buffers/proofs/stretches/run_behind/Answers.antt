-- `two_buffers::stretches::run_behind` meets its contract. Assumes nothing.
use Rattle.output.specs.Output.{with_place}
use Rattle.board_rules.specs.TwoBuffers.{Pair, part}
use Rattle.sampling.specs.Notes.{Noted}
use Rattle.sampling.specs.Answers.{noted}
use Rattle.two_buffers.specs.Answers.{placed, pair, two}
use Rattle.two_buffers.proofs.OneStep.{asks_well, asks_laid}
use Rattle.two_buffers.proofs.Stretching.{run_held, behind_run}
use Rattle.two_buffers.proofs.stretches.run_behind.Goals as goal

pub steps_in-core-requires : goal.steps_in-core-requires
unfolding placed with_place
steps_in-core-requires c = let x = two c.args.d c.args.slots.now c.args.a.now c.args.b.now in
    rw (c.placed-core.ensures, c.oldest_place.ensures)
    (record { well_formed = asks_well x c.requires.well_formed c.requires.turns_ok c.requires.laid; laid = asks_laid x c.requires.well_formed c.requires.turns_ok c.requires.laid; samples_bound = c.requires.samples_bound })

pub turns_behind-turns-requires : goal.turns_behind-turns-requires
turns_behind-turns-requires c = let x = two c.args.d c.args.slots.now c.args.a.now c.args.b.now in
    let left = c.steps_in-core in
    let lent : Pair = pair left.new.a left.new.b in
    let after : Noted = noted left.result left.new.slots (part c.oldest_buffer-u.result lent) left.new.answer in
    (run_held x c.requires.laid c.args.samples.now _ after c.oldest_buffer-u.ensures c.oldest_place.ensures c.placed-core.ensures c.steps_in-core.ensures.answer_after, c.requires.turns_ok.buffers, c.requires.turns_ok.opening)

pub returns : goal.returns
unfolding placed
returns c = let x = two c.args.d c.args.slots.now c.args.a.now c.args.b.now in
    let left = c.steps_in-core in
    let lent : Pair = pair left.new.a left.new.b in
    let after : Noted = noted left.result left.new.slots (part c.oldest_buffer-u.result lent) left.new.answer in
    rw c.placed.ensures
    (behind_run x c.requires.well_formed c.requires.turns_ok c.requires.laid c.args.samples.now c.requires.lasts _ after lent c.requires.b_value
    c.oldest_buffer-u.ensures c.oldest_place.ensures c.placed-core.ensures
    c.steps_in-core.ensures.answer_after c.steps_in-core.ensures.b_after c.turns_behind-turns.ensures)
