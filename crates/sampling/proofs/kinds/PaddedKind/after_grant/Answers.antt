-- `sampling::kinds::Padded` meets the contract of its kind. Assumes nothing.
use Rattle.sampling.proofs.Ready.{ended_fits}
use Rattle.sampling.proofs.kinds.PaddedKind.after_grant.Goals as goal

pub padded_word-requires-clause-ris_bound : goal.padded_word-requires-clause-ris_bound
padded_word-requires-clause-ris_bound c = let (plain, pads) = c.requires.kind in
    (rw c.padded_sample.ensures (ended_fits c.args.w _ c.requires.capture_ok plain pads), c.requires.counts_bound.0, c.requires.counts_bound.1)
