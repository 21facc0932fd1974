-- `sampling::step` meets its contract. Assumes nothing.
use native.Mathlib.Omega.{arith}
use Rattle.output.specs.Output.{with_counts, count_sample, counted}
use Rattle.full_word.specs.Answers.{device}
use Rattle.sampling.proofs.Ready.{more_lines, asks_grant, asks_word, stepped}
use Rattle.sampling.proofs.step.Goals as goal

pub granted-g-requires : goal.granted-g-requires
unfolding counted count_sample with_counts
granted-g-requires g c = let a = c.args in
    let asked = asks_grant (device a.d a.slots.now) a.buffer.now a.w c.requires.well_formed c.requires.laid c.requires.samples_bound in
    rw c.count_sample-counted.ensures (record { laid = asked.0; place_bound = asked.1 })

pub after_grant-c-requires : goal.after_grant-c-requires
unfolding counted
after_grant-c-requires g c = let a = c.args in
    let left = rw (c.count_sample-counted.ensures, c.apart-s.ensures) at c.granted-g.ensures in
    let (laid, counts) = asks_word (device a.d a.slots.now) a.buffer.now a.w c.requires.well_formed c.requires.laid c.requires.samples_bound left in
    rw c.apart-s.ensures (record { kind = c.requires.kind; capture_ok = more_lines (omega (arith, c.requires.samples_bound)) c.requires.well_formed.capture; laid = laid; counts_bound = counts })

pub returns : goal.returns
unfolding counted
returns g c = let a = c.args in
    let d = device a.d a.slots.now in
    let granted = rw (c.count_sample-counted.ensures, c.apart-s.ensures) at c.granted-g.ensures in
    rw (c.note_packing.ensures, c.note_landing.ensures)
    (stepped d a.buffer.now a.answer.now a.w _ (g.met.K.Kind.is_step d a.buffer.now a.w c.requires.well_formed c.requires.kind) granted (rw c.apart-s.ensures at c.after_grant-c.ensures))
