-- A file of the right form with the whole order of runs (request W8): its writes, then a run of its samples as `rules` has it, with refusals 1, 9, 7, 8.
-- No contract cites it: it is what running a file is compared with.
use Rattle.std.specs.Prelude.{cond, List, ℕ, eqb}
use Rattle.rules.specs.declared.Device.{Device}
use Rattle.rules.specs.Run.{RunResult, run}
use Rattle.trace_format.specs.Reading.{writes_of, samples_of}
use Rattle.file_rules.specs.File.{set_up, refused}

-- A refused run leaves what a refused file does.
abbrev pub or_refused : RunResult → RunResult
or_refused r = cond (eqb r.number 0) r (refused r.number r.memory)

unfoldable pub whole_order : Device → List ℕ → List ℕ → ℕ → RunResult
whole_order d file memory start =
    let ready = set_up d (writes_of file) in
    cond (eqb ready.number 0) (or_refused (run ready.device memory start (samples_of file))) (refused ready.number memory)
