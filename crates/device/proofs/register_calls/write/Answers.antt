-- `device::register_calls::write` meets its contract. Assumes nothing.
use native.Mathlib.Omega.{arith}
use Rattle.rules.proofs.WellFormed.{facts}
use Rattle.device.proofs.Refused.{not_refused}
use Rattle.device.proofs.register_calls.write.Goals as goal

pub write_at-requires : goal.write_at-requires
write_at-requires c = let well = facts c.args.d (not_refused tt _ c.refuse_malformed.ensures c.in_ok-refuse_malformed.was) in
    omega (arith, well.output.equation, well.output.completed, c.well_formed)
