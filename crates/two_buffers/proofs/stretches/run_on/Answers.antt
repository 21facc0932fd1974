-- `two_buffers::stretches::run_on` meets its contract. Assumes nothing.
use Rattle.output.specs.Output.{with_place}
use Rattle.board_rules.specs.TwoBuffers.{Pair, part}
use Rattle.sampling.specs.Notes.{Noted}
use Rattle.sampling.specs.Answers.{noted}
use Rattle.two_buffers.specs.Answers.{placed, pair, two}
use Rattle.two_buffers.proofs.Stretching.{run_well, run_laid, run_held, stretch_run}
use Rattle.two_buffers.proofs.stretches.run_on.Goals as goal

pub steps_in-core-requires : goal.steps_in-core-requires
unfolding placed with_place
steps_in-core-requires c = let x = two c.args.d c.args.slots.now c.args.a.now c.args.b.now in
    rw (c.placed-core.ensures, c.first_place.ensures)
    (record { well_formed = run_well x c.requires.well_formed c.requires.turns_ok c.requires.laid; laid = run_laid x c.requires.well_formed c.requires.turns_ok c.requires.laid; samples_bound = c.requires.samples_bound })

pub turns_after-turns-requires : goal.turns_after-turns-requires
turns_after-turns-requires c = let x = two c.args.d c.args.slots.now c.args.a.now c.args.b.now in
    let left = c.steps_in-core in
    let lent : Pair = pair left.new.a left.new.b in
    let after : Noted = noted left.result left.new.slots (part c.next_buffer-u.result lent) left.new.answer in
    run_held x c.requires.laid c.args.samples.now _ after c.next_buffer-u.ensures c.first_place.ensures c.placed-core.ensures c.steps_in-core.ensures.answer_after

pub returns : goal.returns
unfolding placed
returns c = let x = two c.args.d c.args.slots.now c.args.a.now c.args.b.now in
    let left = c.steps_in-core in
    let lent : Pair = pair left.new.a left.new.b in
    let after : Noted = noted left.result left.new.slots (part c.next_buffer-u.result lent) left.new.answer in
    rw c.placed.ensures
    (stretch_run x c.requires.well_formed c.requires.turns_ok c.requires.laid c.args.samples.now c.requires.lasts _ after lent c.requires.turns_value
    c.next_buffer-u.ensures c.first_place.ensures c.placed-core.ensures
    c.steps_in-core.ensures.answer_after c.steps_in-core.ensures.b_after c.turns_after-turns.ensures c.place_a-place.ensures)
