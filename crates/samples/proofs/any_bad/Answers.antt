-- `samples::any_bad` meets its contract: the chain is the fold of the tests. Assumes nothing.
use mathlib.Core.Bool.{false, ◌||◌}
use Rattle.std.proofs.Common.{rules, ◌∙◌}
use Rattle.std.proofs.lemmas.Iterator.{YieldsList-from_slice}
use Rattle.std.proofs.lemmas.Iterator.Consumers.{fold_from_yields_List}
use Rattle.samples.specs.Samples.{bad_sample}
use Rattle.samples.proofs.Bad.{fold_bad}
use Rattle.samples.proofs.any_bad.Goals as goal

pub returns : goal.returns
returns c =
    fold_from_yields_List _ (λ a w. a || bad_sample w) false _ c.fold.ensures.ran (YieldsList-from_slice c.args.list.now cc) (λ a x b q e. search rules)
    ∙ fold_bad false c.args.list.now
