-- What the code takes at once: how many samples are left behind the byte that has come, where a sample begins there; 0 elsewhere.
use Rattle.std.specs.Prelude.{cond, List, ℕ, ◌-◌, ◌/◌, ◌%◌, eqb, ltb}
use Rattle.trace_format.specs.Format.{sample_size}
use Rattle.trace_format.specs.Reading.{sample_start, whole, header_refusal}
use Rattle.rules.specs.Answers.{Changed}
use Rattle.file_rules.specs.Parts.{State, no_item}

unfoldable pub samples_left : List ℕ → ℕ → ℕ
samples_left head taken =
    cond (eqb (header_refusal head taken) 0)
    (cond (ltb taken (sample_start head 0)) 0 (cond (eqb ((taken - sample_start head 0) % sample_size) 0) ((whole head - taken) / sample_size) 0))
    0

-- What a write or sample with all its bytes leaves: no item has begun.
abbrev pub noted : State → Changed → State
noted s r = record { head = s.head; taken = s.taken; item = no_item; device = r.device; number = r.number }
