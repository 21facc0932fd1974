-- `full_word::full_word` meets its contract. Assumes nothing.
use mathlib.Core.Path.{sym, ap, ◌∙◌}
use Rattle.output.specs.Answers.{left}
use Rattle.output.specs.Output.{OutputState, Offered, count_word, with_counts}
use Rattle.output.proofs.Untouched.{offer_lost}
use Rattle.full_word.proofs.full_word.Goals as goal

pub discard-requires : goal.discard-requires
unfolding count_word with_counts
discard-requires c = let a = c.args in
    let e = c.offer-offered.ensures in
    let same = ap (λ (r : Offered). r.state.output) e ∙ ap (λ (x : OutputState). x.output) (offer_lost a.v (left a.o a.slots.now) (sym (ap (λ (r : Offered). r.fate) e) ∙ c.in-Lost.is)) in
    rw same c.requires.ris_bound.2
