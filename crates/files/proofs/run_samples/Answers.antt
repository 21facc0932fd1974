-- `files::run_samples` meets its contract.
use borrow.Author.Tests.{le-ltb, lt-ltb}
use mathlib.Core.Path.{sym, ap}
use Rattle.std.proofs.lemmas.Result.{err_from_is_err_and}
use Rattle.fifo.proofs.Tail.{tail_part, put_tail}
use Rattle.rules.proofs.WellFormed.{facts}
use Rattle.rules.specs.Run.{Ran}
use Rattle.file_rules.specs.File.{run_on}
use Rattle.files.proofs.Samples.{accepted_file, refused_file}
use Rattle.files.proofs.run_samples.Goals as goal

pub returns-then-memory-start : goal.returns-then-memory-start
unfolding run_on
returns-then-memory-start c fresh set = rw (c.requires.file_value, set, lt-ltb _ _ c.if-memory-start.true)

pub returns-in_err-check_file : goal.returns-in_err-check_file
unfolding run_on
returns-in_err-check_file c fresh set =
    let p = err_from_is_err_and c.from_residual.result c.from_residual.ensures.1 in
    let (bad, seven) = refused_file _ c.in_err-check_file.field-0.0 c.requires.file_value c.in_err-check_file.ensures in
    rw (p.1, p.2, c.requires.file_value, set, le-ltb _ _ c.if-memory-start.false, bad, seven)

pub steps-requires-clause-well_formed : goal.steps-requires-clause-well_formed
steps-requires-clause-well_formed c = facts _ c.requires.d_value

pub returns : goal.returns
unfolding run_on
returns c fresh set =
    let good = (accepted_file _ (sym c.in_ok-check_file.ensures)).1 in
    let ran = rw tail_part at c.steps.ensures in
    rw (
      c.requires.file_value,
      set,
      le-ltb _ _ c.if-memory-start.false,
      good,
      put_tail,
      ap (λ (x : Ran). x.device) ran,
      ap (λ (x : Ran). x.buffer) ran,
    )
