-- `two_buffers::two_step` meets its contract. Assumes nothing.
use mathlib.Core.Path.{◌≡◌, sym, ap, ◌∙◌}
use native.Mathlib.Omega.{arith}
use Rattle.output.specs.Output.{with_place}
use Rattle.rules.specs.Run.{Stepped}
use Rattle.board_rules.specs.TwoBuffers.{Pair, part}
use Rattle.sampling.specs.Answers.{noted}
use Rattle.sampling.proofs.Ready.{more_lines}
use Rattle.two_buffers.specs.Answers.{placed, turned, pair, two}
use Rattle.two_buffers.proofs.OneStep.{asks_well, asks_laid, asks_place, asks_tags, answers, inner, one_step}
use Rattle.two_buffers.proofs.two_step.Goals as goal

pub steps_in-core-requires : goal.steps_in-core-requires
unfolding placed with_place
steps_in-core-requires c = let x = two c.args.d c.args.slots.now c.args.a.now c.args.b.now in
    rw (c.placed-core.ensures, c.oldest_place.ensures)
    (record { well_formed = asks_well x c.requires.well_formed c.requires.turns_ok c.requires.laid; laid = asks_laid x c.requires.well_formed c.requires.turns_ok c.requires.laid; samples_bound = c.requires.samples_bound })

pub after_events-after-requires : goal.after_events-after-requires
after_events-after-requires c = let x = two c.args.d c.args.slots.now c.args.a.now c.args.b.now in
    let low = asks_place x c.requires.well_formed c.requires.turns_ok c.requires.laid c.requires.samples_bound in
    let tags = asks_tags x c.requires.well_formed c.requires.turns_ok c.requires.laid c.args.w in
    let left = c.steps_in-core in
    let lent : Pair = pair left.new.a left.new.b in
    let after : Stepped = record { device = record { core = left.result; slots = left.new.slots }; buffer = part c.oldest_buffer-u.result lent; landing = left.new.answer.landing; packed = left.new.answer.packed } in
    let is : after ≡ inner (two c.args.d c.args.slots.now c.args.a.now c.args.b.now) c.args.w =
    answers (two c.args.d c.args.slots.now c.args.a.now c.args.b.now) c.args.w
    (noted left.result left.new.slots (part c.oldest_buffer-u.result lent) left.new.answer)
    c.oldest_buffer-u.ensures c.oldest_place.ensures c.placed-core.ensures c.no_answer-answer.ensures left.ensures.answer_after in
    record { capture_ok = more_lines (omega (arith, c.requires.samples_bound)) c.requires.well_formed.capture; turns_bound = low; by_index = λ v e. rw (ap (λ (r : Stepped). r.landing) is) (tags v (sym (ap (λ (r : Stepped). r.packed) is) ∙ e)) }

pub returns : goal.returns
unfolding placed turned
returns c = let a = c.args in
    let u = c.oldest_buffer-u in
    let left = c.steps_in-core in
    let lent : Pair = pair left.new.a left.new.b in
    let after : Stepped = record { device = record { core = left.result; slots = left.new.slots }; buffer = part c.oldest_buffer-u.result lent; landing = left.new.answer.landing; packed = left.new.answer.packed } in
    let is : after ≡ inner (two c.args.d c.args.slots.now c.args.a.now c.args.b.now) c.args.w =
    answers (two c.args.d c.args.slots.now c.args.a.now c.args.b.now) c.args.w
    (noted left.result left.new.slots (part c.oldest_buffer-u.result lent) left.new.answer)
    c.oldest_buffer-u.ensures c.oldest_place.ensures c.placed-core.ensures c.no_answer-answer.ensures left.ensures.answer_after in
    rw (c.after_events-after.ensures, c.in_buffer.ensures)
    (one_step (two a.d a.slots.now a.a.now a.b.now) a.w u.result after lent u.ensures is c.steps_in-core.ensures.b_after)
