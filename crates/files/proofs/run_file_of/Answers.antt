-- `files::run_file_of` meets its contract.
use Rattle.std.proofs.Common.{ap}
use Rattle.std.proofs.lemmas.Result.{err_from_is_err_and}
use Rattle.refusals.proofs.Numbered.{never_zero}
use Rattle.rules.specs.Answers.{Changed}
use Rattle.file_rules.specs.File.{run_on, run_file_of}
use Rattle.file_rules.proofs.SettingUp.{made_ready}
use Rattle.files.proofs.run_file_of.Goals as goal

pub returns-in_err-made : goal.returns-in_err-made
unfolding run_file_of
returns-in_err-made c =
    let p = err_from_is_err_and c.from_residual.result c.from_residual.ensures.1 in
    let e = c.in_err-made.field-0.0 in
    rw (p.1, p.2, ← c.in_err-made.ensures, never_zero e, never_zero e)

pub run_on-requires : goal.run_on-requires
run_on-requires c = rw (ap (λ (r : Changed). r.device) c.in_ok-made.ensures) (made_ready _ (rw (← c.in_ok-made.ensures)))

pub returns : goal.returns
unfolding run_file_of run_on
returns c = rw (c.run_on.ensures, ← c.in_ok-made.ensures)
