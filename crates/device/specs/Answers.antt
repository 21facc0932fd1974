-- The paper's values of each case of the answers. A refused call leaves the device as it was: it stands first.
use Rattle.std.specs.Prelude.{List, ℕ, Result, Ok, Err}
use Rattle.refusals.specs.Refusals.{refused, answered}
use Rattle.refusals.specs.declared.Refusal.{Refusal}
use Rattle.refusals.specs.Table.{number}
use Rattle.rules.specs.declared.Device.{Device}
use Rattle.rules.specs.Answers as rule_answers
use Rattle.rules.specs.Run.{RunResult, SampleResult}
use Rattle.device.specs.declared.Sampled.{Sampled}

-- The number and the device that a call leaves.
abbrev pub changed : Device → Result Device Refusal → rule_answers.Changed
changed before (Ok d) = record { number = 0; device = d }
changed before (Err e) = record { number = number e; device = before }

-- With the memory that some samples leave.
abbrev pub ran : Device → Result Device Refusal → List ℕ → RunResult
ran before (Ok d) memory = record { number = 0; device = d; memory = memory }
ran before (Err e) memory = record { number = number e; device = before; memory = memory }

-- A sample's two answers, or a refusal.
abbrev pub sampled : Device → Result Sampled Refusal → List ℕ → SampleResult
sampled before (Ok s) memory = record { answer = answered s.answer; device = s.device; memory = memory }
sampled before (Err e) memory = record { answer = refused (number e); device = before; memory = memory }
