-- The paper's values of each case of the writer's answer.
use Rattle.std.specs.Prelude.{List, ℕ, Result}
use Rattle.refusals.specs.declared.Refusal.{Refusal}
use Rattle.refusals.specs.Table.{answer_of}
use Rattle.trace_writer.specs.Writing.{WriteResult}

-- The length of the file that was written, or a refusal; with the buffer that is left.
abbrev pub written : Result ℕ Refusal → List ℕ → WriteResult
written r buffer = record { answer = answer_of r; buffer = buffer }
