-- A sample's two answers, noted one after the other. An answer that says none changes nothing, so that what is noted is the last one that did. No contract of a call that
-- users make cites them.
use Rattle.std.specs.Prelude.{ℕ, Option, None, Some}
use Rattle.output.specs.declared.Packing.{Packing as Packed}
use Rattle.output.specs.declared.Packing.TheVariants.{Nothing as nothing, Completed as completed, Lost as lost}
use Rattle.output.specs.declared.SampleAnswer.{SampleAnswer}

-- Nothing is noted.
abbrev pub no_answer : SampleAnswer
no_answer = record { landing = None; packed = nothing }

-- The byte at which a word landed.
abbrev pub note_landing : Option ℕ → SampleAnswer → SampleAnswer
note_landing None a = a
note_landing (Some byte) a = record { landing = Some byte; packed = a.packed }

-- What became of a word.
abbrev pub note_packing : Packed → SampleAnswer → SampleAnswer
note_packing nothing a = a
note_packing (completed v) a = record { landing = a.landing; packed = completed v }
note_packing lost a = record { landing = a.landing; packed = lost }
