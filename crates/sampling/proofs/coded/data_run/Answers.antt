-- `sampling::coded::data_run` meets its contract. Assumes nothing.
use borrow.Author.Tests.{tests}
use Rattle.std.proofs.Common.{rules, ℕ, eqb}
use Rattle.std.proofs.lemmas.Iterator.{YieldsList-from_slice}
use Rattle.std.proofs.lemmas.Iterator.Search.{position_from_yields_List}
use Rattle.rules.specs.Sample.{byte_of}
use Rattle.sampling.proofs.DataBytes.{run_found}
use Rattle.sampling.proofs.coded.data_run.Goals as goal

pub returns : goal.returns
unfolding byte_of
returns c =
    rw c.unwrap_or.ensures
    (run_found c.args.samples.now
    (position_from_yields_List (λ (w : ℕ). eqb (byte_of w) 0xFF) _ _ c.position.result c.position.ensures.ran (YieldsList-from_slice _ c.iter.ensures.rest) (λ x b q k. search (rules, tests))))
