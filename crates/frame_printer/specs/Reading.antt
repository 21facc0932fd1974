-- What a read of standard input is known to give, and what is printed in the end. Which bytes come, and which are written, no contract can say.
use Rattle.std.specs.Prelude.{List, ◌≡◌, ℕ, ◌≤◌, Result, Ok, Err}
use Rattle.std.specs.Counts.{IsPrefixLen}
use Rattle.rules.specs.State.{fresh}
use Rattle.file_rules.specs.Parts.{Taken, opened, take_parts}
use Rattle.parts.specs.declared.Parts.{Parts}
use Rattle.parts.specs.Answers.{taken}
use Rattle.printing.specs.Printed.{blank}

-- Of a read of at most n bytes into a buffer: how many stand at its front, and no more than n; 0 is the end. A read that failed says nothing.
abbrev pub Given : {E : Type 0} → List ℕ → ℕ → Result ℕ E → Type 0
Given buffer n (Ok k) = (k ≤ n) × IsPrefixLen k buffer
Given buffer n (Err e) = Unit {0}

-- Before the first byte; and a state with its memory to which some parts of a file have led from there.
abbrev pub begun : Taken
begun = record { state = opened fresh; memory = blank }

abbrev pub ByParts : Parts → List ℕ → Type 0
ByParts p memory = (parts : List (List ℕ)) × (taken p memory ≡ take_parts 0 begun parts)
