-- `sampling::kinds::Datum` meets the contract of its kind. Assumes nothing.
use mathlib.Core.Path.{ap}
use Rattle.laws.proofs.Sampled.{sample_ok}
use Rattle.rules.specs.Capture.{Captured}
use Rattle.sampling.proofs.kinds.DatumKind.after_grant.Goals as goal

pub complete-requires-clause-ris_bound : goal.complete-requires-clause-ris_bound
complete-requires-clause-ris_bound c = (rw (ap (λ (x : Captured). x.state) c.data_sample.ensures) (sample_ok c.args.w c.requires.capture_ok).ris, c.requires.counts_bound.0, c.requires.counts_bound.1)
