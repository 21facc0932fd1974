-- `sampling::run` meets its contract. Assumes nothing.
use lib.ListN.{length}
use mathlib.Core.Path.{◌≡◌, ap, ◌∙◌}
use Rattle.output.specs.Output.{slot_count}
use Rattle.sampling.specs.Answers.{ran}
use Rattle.sampling.specs.Notes.{Noted}
use Rattle.sampling.proofs.Noted.{same_run}
use Rattle.sampling.proofs.Ready.{ready}
use Rattle.sampling.proofs.run.Goals as goal

pub steps-core-requires : goal.steps-core-requires
steps-core-requires c = let all : length c.args.d.slots ≡ slot_count = c.well_formed.0.1.1.1.0.1.0.1 in
    let (well, laid) = ready c.args.d all c.requires.d_value in
    record { well_formed = well; laid = laid; samples_bound = c.requires.samples_bound }

pub returns : goal.returns
returns c = ap (λ (n : Noted). ran n.device n.buffer) c.steps-core.ensures ∙ same_run _ _
