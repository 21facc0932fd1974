-- `frame_printer::main` meets its contract: what has come are parts of a file, and each read brings a byte more.
use Rattle.std.proofs.Common.{◌<◌, length, arith, ap, take}
use Rattle.file_rules.specs.Parts.{Taken}
use Rattle.parts.specs.Answers.{taken}
use Rattle.file_rules.proofs.Growing.{grows, wanted_wants}
use Rattle.frame_printer.proofs.Reading.{opened_by_parts, by_part}
use Rattle.frame_printer.proofs.main.Goals as goal

pub loop-n-init : goal.loop-n-init
loop-n-init c = opened_by_parts c.open-p.result _ c.open-p.ensures c.fresh.ensures

pub loop-n-smaller : goal.loop-n-smaller
loop-n-smaller c =
    let read = c.in-Ok-1-to-max in
    let given = rw read.is at c.read.ensures in
    let asked : 0 < c.wanted.result = omega (arith, given.0) in
    let more = wanted_wants c.loop-n.p.head c.loop-n.p.taken (rw c.wanted.ensures.value at asked) in
    let come : 0 < length (take read.n c.read.new.buffer) = omega (arith, given.1.1) in
    let grown = grows 0 (taken c.loop-n.p c.loop-n.memory) (take read.n c.read.new.buffer) come more in
    omega (arith, grown, ap (λ (t : Taken). t.state.taken) c.take.ensures, c.wanted.ensures.result_bound asked)

pub loop-n-preserved : goal.loop-n-preserved
loop-n-preserved c = by_part c.loop-n.p c.take.new.self c.loop-n.memory _ (take c.in-Ok-1-to-max.n c.read.new.buffer) c.loop-n.invariant c.take.ensures
