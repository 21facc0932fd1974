-- `device::runs::run` meets its contract. Assumes nothing.
use mathlib.Core.Path.{sym, ap, ◌∙◌}
use Rattle.std.proofs.lemmas.Result.{err_from_is_err_and}
use Rattle.refusals.proofs.Numbered.{never_zero}
use Rattle.refusals.specs.Table.{outcome}
use Rattle.rules.specs.Run.{run}
use Rattle.fifo.proofs.Tail.{tail_part, put_tail}
use Rattle.sampling.proofs.AcceptedRuns.{AcceptedRun, accepted_run}
use Rattle.device.proofs.runs.run.Goals as goal

pub slice_bounds-run-count : goal.slice_bounds-run-count
slice_bounds-run-count c =
    let a : AcceptedRun c.args.d c.args.memory.now c.args.start c.args.samples.now = accepted_run _ _ _ _ (sym c.run_refusal.ensures ∙ ap outcome c.in_ok-run_refusal.was) in
    a.within

pub slice_bounds-run-start : goal.slice_bounds-run-start
slice_bounds-run-start c =
    let a : AcceptedRun c.args.d c.args.memory.now c.args.start c.args.samples.now = accepted_run _ _ _ _ (sym c.run_refusal.ensures ∙ ap outcome c.in_ok-run_refusal.was) in
    a.within

pub run-requires : goal.run-requires
run-requires c =
    let a : AcceptedRun c.args.d c.args.memory.now c.args.start c.args.samples.now = accepted_run _ _ _ _ (sym c.run_refusal.ensures ∙ ap outcome c.in_ok-run_refusal.was) in
    record { d_value = a.well; samples_bound = a.fits }

pub returns-in_err-run_refusal : goal.returns-in_err-run_refusal
unfolding run
returns-in_err-run_refusal c =
    let p = err_from_is_err_and c.from_residual.result c.from_residual.ensures.1 in
    rw (p.1, p.2, sym c.run_refusal.ensures ∙ ap outcome c.in_err-run_refusal.was, never_zero _)

pub returns : goal.returns
unfolding run
returns c = rw (
  sym c.run_refusal.ensures ∙ ap outcome c.in_ok-run_refusal.was,
  put_tail,
  ← rw tail_part at c.run.ensures,
)
