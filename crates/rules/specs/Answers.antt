-- What calls that change the device leave (document 01, "Refusal numbers"; how a refusal is found is in the crate `refusals`).
use Rattle.std.specs.Prelude.{cond, ℕ, eqb}
use Rattle.rules.specs.declared.Device.{Device}

-- A call that changes the device: the refusal number, 0 where the call is accepted, and the device it leaves.
pub record Changed : Type 0 where
  pub number : ℕ
  pub device : Device

-- A refused call leaves the device as it was.
abbrev pub change : ℕ → Device → Device → Changed
change number d d' = record { number = number; device = cond (eqb number 0) d' d }
