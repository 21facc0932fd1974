-- What rule 9 (document 01, "One sample") leaves by value and in lent slots, together.
use Rattle.std.specs.Prelude.{Bool, false, List, ℕ, Some}
use Rattle.rules.specs.declared.Core.{Core}
use Rattle.rules.specs.declared.Device.{Device}
use Rattle.rules.specs.declared.Capture.{Capture}
use Rattle.rules.specs.Capture.{Captured}
use Rattle.rules.specs.Run as run_rules
use Rattle.full_word.specs.declared.Completed.{Completed}

-- A state with a full or a padded word, and whether FRAME is due.
abbrev pub with_word : ℕ → Bool → Capture → Captured
with_word v due s = record { state = s; word = Some v; due = due; error = false }

-- The device of a core and its slots; with what became of the word.
abbrev pub device : Core → List ℕ → Device
device c slots = record { core = c; slots = slots }

abbrev pub completed : Completed → List ℕ → run_rules.Completed
completed c slots = record { device = device c.core slots; packed = c.packing }
