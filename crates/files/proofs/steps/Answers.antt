-- `files::steps` meets its contract: the samples left lead to the same end.
use Rattle.std.proofs.Common.{◌≡◌, sym, ◌∙◌, arith, length-take-le}
use Rattle.files.proofs.Samples.{begin_within, stepping_start, fits, stepping_room, stepping_asks, left_shorter, stepping_on, none_left, stepping_end}
use Rattle.files.proofs.steps.Goals as goal

pub slice_bounds-rest-count : goal.slice_bounds-rest-count
slice_bounds-rest-count c = omega (arith, c.samples_start.ensures.value, begin_within _ c.requires.file_value)

pub slice_bounds-rest-start : goal.slice_bounds-rest-start
slice_bounds-rest-start c = omega (arith, c.samples_start.ensures.value, begin_within _ c.requires.file_value)

pub loop-n-init : goal.loop-n-init
loop-n-init c = stepping_start _ _ _ _ c.requires.well_formed c.requires.samples_value c.requires.file_value (λ i. omega (arith, c.type_inv.file i)) c.samples_start.ensures.value

pub slice_bounds-samples-end : goal.slice_bounds-samples-end
slice_bounds-samples-end c = stepping_room c.loop-n.invariant _ c.loop-n.array_long c.samples_at.ensures.result_value c.in-Ok-1-to-max.is c.samples_at.ensures.array_after

pub slice_bounds-run-end : goal.slice_bounds-run-end
slice_bounds-run-end c = sym (length-take-le _ _ (stepping_room c.loop-n.invariant _ c.loop-n.array_long c.samples_at.ensures.result_value c.in-Ok-1-to-max.is c.samples_at.ensures.array_after))

pub run-d-requires : goal.run-d-requires
run-d-requires c =
    let asks = stepping_asks c.loop-n.invariant _ c.loop-n.array_long c.samples_at.ensures.result_value c.in-Ok-1-to-max.is c.samples_at.ensures.array_after in
    record { d_value = asks.0; samples_bound = asks.1 }

pub overflow_mul-rest : goal.overflow_mul-rest
overflow_mul-rest c = omega (arith, (fits c.loop-n.invariant _ c.loop-n.array_long c.samples_at.ensures.result_value c.in-Ok-1-to-max.is c.samples_at.ensures.array_after).0)

pub slice_bounds-rest-count-in-Ok-1-to-max : goal.slice_bounds-rest-count-in-Ok-1-to-max
slice_bounds-rest-count-in-Ok-1-to-max c = (fits c.loop-n.invariant _ c.loop-n.array_long c.samples_at.ensures.result_value c.in-Ok-1-to-max.is c.samples_at.ensures.array_after).1

pub slice_bounds-rest-start-in-Ok-1-to-max : goal.slice_bounds-rest-start-in-Ok-1-to-max
slice_bounds-rest-start-in-Ok-1-to-max c = (fits c.loop-n.invariant _ c.loop-n.array_long c.samples_at.ensures.result_value c.in-Ok-1-to-max.is c.samples_at.ensures.array_after).1

pub loop-n-smaller : goal.loop-n-smaller
loop-n-smaller c = left_shorter _ _ (omega (arith, c.in-Ok-1-to-max.n-is)) (fits c.loop-n.invariant _ c.loop-n.array_long c.samples_at.ensures.result_value c.in-Ok-1-to-max.is c.samples_at.ensures.array_after).1

pub loop-n-preserved : goal.loop-n-preserved
loop-n-preserved c = stepping_on c.loop-n.invariant _ c.loop-n.array_long c.samples_at.ensures.result_value c.in-Ok-1-to-max.is c.samples_at.ensures.array_after _ _ c.run-d.ensures

pub returns-in_default : goal.returns-in_default
returns-in_default c =
    let i = c.loop-n.invariant in
    stepping_end i (none_left i _ c.loop-n.array_long _ c.samples_at.ensures.result_value (λ n e. let both = sym e ∙ c.in_default.is in let same : n ≡ c.in_default.field-0 = cc in grind (arith, same)))

pub returns-in_default-2 : goal.returns-in_default-2
returns-in_default-2 c =
    let i = c.loop-n.invariant in
    stepping_end i (none_left i _ c.loop-n.array_long _ c.samples_at.ensures.result_value (λ n e. let both = sym e ∙ c.in_default.is in cc))
