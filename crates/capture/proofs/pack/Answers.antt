-- `capture::pack` meets its contract. Assumes nothing.
use native.Mathlib.Omega.{arith}
use Rattle.packing.proofs.Lanes.{few_data}
use Rattle.registers.specs.Control.{edm}
use Rattle.capture.proofs.pack.Goals as goal

pub overflow_add-count : goal.overflow_add-count
overflow_add-count c = omega (arith, few_data (edm c.args.s.registers.cr), c.requires.0)
