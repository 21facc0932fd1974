-- `device::runs::sample` meets its contract. Assumes nothing.
use mathlib.Core.Path.{ap}
use Rattle.std.proofs.lemmas.Result.{err_from_is_err_and}
use Rattle.rules.specs.declared.Device.{Device}
use Rattle.device.proofs.Refused.{refused_sample}
use Rattle.device.proofs.runs.sample.Goals as goal

pub returns-in_err-after : goal.returns-in_err-after
returns-in_err-after c = let p = err_from_is_err_and c.from_residual.result c.from_residual.ensures.1 in
    let left = rw c.in_err-after.was at c.sample_core.ensures in
    let kept = ap (λ (d : Device). d.slots) (refused_sample _ _ _ _ left) in
    rw (p.1, p.2) (rw kept at left)
