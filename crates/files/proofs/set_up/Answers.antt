-- `files::set_up` meets its contract: the writes left lead to the same end.
use Rattle.std.proofs.Common.{refl, sym, ap, ◌∙◌, arith, rules}
use Rattle.std.proofs.lemmas.Result.{err_from_is_err_and}
use Rattle.refusals.proofs.Numbered.{never_zero}
use Rattle.trace_format.proofs.Walk.{write_place}
use Rattle.trace_format.specs.Reading.{a_write}
use Rattle.file_rules.proofs.SettingUp.{setting_on, setting_refused, setting_end}
use Rattle.files.proofs.set_up.Goals as goal

pub returns-in_err-d-clause-result_value : goal.returns-in_err-d-clause-result_value
returns-in_err-d-clause-result_value c =
    let inside = rw c.write_count-place-end.ensures.value at c.loop-place-test.true in
    let p = err_from_is_err_and c.from_residual.result c.from_residual.ensures.1 in
    let refused = setting_refused c.loop-place.invariant inside _ _ (write_place _ _ inside ∙ ap a_write (sym c.write_at-w.ensures)) c.in_err-d.ensures (never_zero c.in_err-d.field-0.0) in
    rw (p.1, p.2, ← refused)

pub loop-place-preserved : goal.loop-place-preserved
loop-place-preserved c =
    let inside = rw c.write_count-place-end.ensures.value at c.loop-place-test.true in
    setting_on c.loop-place.invariant inside _ _ (write_place _ _ inside ∙ ap a_write (sym c.write_at-w.ensures)) (search rules) c.in_ok-d.ensures refl

pub returns-clause-result_value : goal.returns-clause-result_value
returns-clause-result_value c = rw (setting_end c.loop-place.invariant (omega (arith, c.loop-place-test.false, c.write_count-place-end.ensures.value)))
