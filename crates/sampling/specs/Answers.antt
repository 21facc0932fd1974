-- What a sample or some samples leave by value and in lent places, together (document 01, "One sample").
use Rattle.std.specs.Prelude.{List, ℕ, Result, Ok, Err}
use Rattle.refusals.specs.Refusals.{refused, answered}
use Rattle.refusals.specs.declared.Refusal.{Refusal}
use Rattle.refusals.specs.Table.{number}
use Rattle.output.specs.declared.SampleAnswer.{SampleAnswer}
use Rattle.rules.specs.declared.Core.{Core}
use Rattle.rules.specs.declared.Device.{Device}
use Rattle.rules.specs.Run as run_rules
use Rattle.full_word.specs.Answers.{device}
use Rattle.sampling.specs.declared.SampledCore.{SampledCore}
use Rattle.sampling.specs.Notes.{Noted}

-- A device and the frame buffer after some samples; with the places where the answers are noted.
abbrev pub ran : Device → List ℕ → run_rules.Ran
ran d buffer = record { device = d; buffer = buffer }

abbrev pub noted : Core → List ℕ → List ℕ → SampleAnswer → Noted
noted c slots buffer answer = record { device = device c slots; buffer = buffer; answer = answer }

-- One sample over a core and its slots, with its two answers, or a refusal: then core and slots are as they were.
abbrev pub sampled_core : Core → Result SampledCore Refusal → List ℕ → List ℕ → run_rules.SampleResult
sampled_core before (Ok s) slots memory = record { answer = answered s.answer; device = device s.core slots; memory = memory }
sampled_core before (Err e) slots memory = record { answer = refused (number e); device = device before slots; memory = memory }
