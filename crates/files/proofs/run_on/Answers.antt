-- `files::run_on` meets its contract.
use Rattle.std.proofs.Common.{sym, ap}
use Rattle.std.proofs.lemmas.Result.{err_from_is_err_and}
use Rattle.refusals.proofs.Numbered.{never_zero}
use Rattle.rules.specs.Answers.{Changed}
use Rattle.file_rules.specs.File.{run_on}
use Rattle.files.proofs.run_on.Goals as goal

pub returns-in_err-check_form : goal.returns-in_err-check_form
unfolding run_on
returns-in_err-check_form c =
    let p = err_from_is_err_and c.from_residual.result c.from_residual.ensures.1 in
    let e = c.in_err-check_form.field-0.0 in
    rw (p.1, p.2, ← c.in_err-check_form.ensures, never_zero e, never_zero e)

pub returns-in_err-d : goal.returns-in_err-d
unfolding run_on
returns-in_err-d c =
    let p = err_from_is_err_and c.from_residual-in_err-d.result c.from_residual-in_err-d.ensures.1 in
    let e = c.in_err-d.field-0.0 in
    rw (p.1, p.2, sym c.in_ok-check_form.ensures, sym (ap (λ (r : Changed). r.number) c.in_err-d.ensures.result_value), never_zero e, never_zero e)
