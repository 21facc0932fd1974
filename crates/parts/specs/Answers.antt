-- A state as the definitions have it.
use Rattle.std.specs.Prelude.{List, ℕ}
use Rattle.refusals.specs.Table.{outcome}
use Rattle.file_rules.specs.Parts as parts_rules
use Rattle.parts.specs.declared.Parts.{Parts}

abbrev pub state : Parts → parts_rules.State
state p = record { head = p.head; taken = p.taken; item = p.item; device = p.device; number = outcome p.outcome }

-- With the memory that is lent.
abbrev pub taken : Parts → List ℕ → parts_rules.Taken
taken p memory = record { state = state p; memory = memory }
