-- The paper's values of each case of a sample's two answers (document 01, "One sample"), and what a function leaves by value and in the lent slots and buffer, together.
use Rattle.std.specs.Prelude.{List, ℕ, Option, None, Some}
use Rattle.output.specs.declared.Output.{Output}
use Rattle.output.specs.declared.Granted as granted_code
use Rattle.output.specs.declared.Offered as offered_code
use Rattle.output.specs.Output.{OutputState, Granted, Offered}

abbrev pub left : Output → List ℕ → OutputState
left o slots = record { output = o; slots = slots }

abbrev pub granted : granted_code.Granted → List ℕ → List ℕ → Granted
granted r slots buffer = record { state = left r.output slots; buffer = buffer; landing = r.landing }

abbrev pub offered : offered_code.Offered → List ℕ → Offered
offered r slots = record { state = left r.output slots; fate = r.fate }
