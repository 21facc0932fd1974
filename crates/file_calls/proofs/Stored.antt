-- What the writer's call leaves in the length and what it leaves in the buffer, together (docs/WRONG.md names it). Assumes nothing.
use mathlib.Core.List.{List}
use mathlib.Core.Path.{◌≡◌, ap, ◌∙◌}
use Prim.Native.Nat.{ℕ}
use Rattle.std.specs.Prelude.{Result}
use Rattle.refusals.specs.declared.Refusal.{Refusal}
use Rattle.refusals.specs.Table.{answer_of}
use Rattle.trace_writer.specs.Answers as writer_answers
use Rattle.trace_writer.specs.Writing.{WriteResult}
use Rattle.call_rules.specs.DeviceCalls.{Got, gave, got}
use Rattle.file_calls.specs.FileCalls.{encoded}

pub file_encoded : {number length' : ℕ} {r : WriteResult} (old : ℕ) (out' : List ℕ) (w : Result ℕ Refusal) → gave number length' ≡ got old (answer_of w) → writer_answers.written w out' ≡ r
    → encoded (gave number length') out' ≡ encoded (got old r.answer) r.buffer
file_encoded old out' w e f = ap (λ (x : Got). encoded x out') e ∙ ap (λ (x : WriteResult). encoded (got old x.answer) x.buffer) f
