-- `trace::decoding::samples_at` meets its contract.
use mathlib.Core.Path.{◌≡◌, sym, ap, ◌∙◌}
use native.Mathlib.Omega.{arith}
use lib.ListN.{drop}
use Rattle.std.proofs.lemmas.Grind.{common_steps}
use Rattle.samples.specs.Samples.{any_bad}
use Rattle.trace.proofs.ManySamples.{at_front, one_bad, all_good}
use Rattle.trace.proofs.decoding.samples_at.Goals as goal

pub returns-then-any_bad : goal.returns-then-any_bad
returns-then-any_bad c =
    let rest : c.unwrap_or-rest.result.now ≡ drop c.args.at c.args.bytes.now = grind (arith, common_steps) in
    let (is, array, front) = at_front _ _ _ _ _ _ _ _ rest c.min.ensures c.min-n.ensures c.decode_all.ensures in
    record { result_value = one_bad _ _ _ _ _ is (ap any_bad (sym front) ∙ sym c.any_bad.ensures ∙ c.if-any_bad.true); array_after = rw is at array }

pub returns : goal.returns
returns c =
    let rest : c.unwrap_or-rest.result.now ≡ drop c.args.at c.args.bytes.now = grind (arith, common_steps) in
    let (is, array, front) = at_front _ _ _ _ _ _ _ _ rest c.min.ensures c.min-n.ensures c.decode_all.ensures in
    record { result_value = all_good _ _ _ _ _ is (ap any_bad (sym front) ∙ sym c.any_bad.ensures ∙ c.if-any_bad.false); array_after = rw is at array }
