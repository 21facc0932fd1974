-- A reserved bit of a value is 1 exactly if the value meets the register's mask: a register's ranges fall. Assumes nothing.
use mathlib.Core.Bool.{not}
use mathlib.Core.Path.{◌≡◌}
use Prim.Native.Nat.{ℕ}
use native.Mathlib.Omega.{arith}
use lib.Bits.{bit_and}
use lib.Dec.{eqb}
use Rattle.bits.specs.Ranges.{any_set, mask}
use Rattle.bits.proofs.Ranges.{Falling, meets}
use Rattle.registers.specs.Map.{reserved}
use Rattle.registers.specs.declared.Register.{Register}
use Rattle.registers.specs.declared.Register.TheVariants.{Control, Status, RawStatus, InterruptEnable, MaskedStatus, InterruptClear, EmbeddedCode, EmbeddedUnmask, WindowStart, WindowSize}

falling : (r : Register) → Falling (reserved r)
falling Control = (omega arith, (omega arith, tt))
falling Status = (omega arith, tt)
falling RawStatus = (omega arith, tt)
falling InterruptEnable = (omega arith, tt)
falling MaskedStatus = (omega arith, tt)
falling InterruptClear = (omega arith, tt)
falling EmbeddedCode = tt
falling EmbeddedUnmask = tt
falling WindowStart = (omega arith, (omega arith, tt))
falling WindowSize = (omega arith, (omega arith, tt))

pub reserved_meets : (r : Register) (x : ℕ) → not (eqb (bit_and x (mask (reserved r))) 0) ≡ any_set (reserved r) x
reserved_meets r x = meets (reserved r) x (falling r)
