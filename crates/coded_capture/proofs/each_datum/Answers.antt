-- `coded_capture::each_datum` meets its contract. Assumes nothing.
use mathlib.Core.Path.{refl, sym, ◌∙◌}
use Rattle.std.proofs.Common.{get_or}
use Rattle.laws.proofs.Packing.{datum_joins}
use Rattle.coded_capture.proofs.DataLaws.{datum_keeps, from_start, more_left, next_taken, or_either, all_taken}
use Rattle.coded_capture.proofs.each_datum.Goals as goal

pub loop-x-init : goal.loop-x-init
loop-x-init c = let a = c.args in record {
  in_frame = c.requires.frame_value.0;
  ok = c.requires.capture_ok;
  left = refl;
  same = sym (from_start a.s a.taken a.f a.data.now a.still);
}

pub overflow_sub-later : goal.overflow_sub-later
overflow_sub-later c = more_left c.args.data.now _ c.args.still _ c.loop-x-test.true c.loop-x.invariant.left

pub datum-c-requires : goal.datum-c-requires
datum-c-requires c = datum_joins c.loop-x.state _ c.loop-x.invariant.ok

pub loop-x-preserved : goal.loop-x-preserved
loop-x-preserved c = let a = c.args in
    let l = c.loop-x in
    let v = c.datum-c.result in
    let x = get_or a.data.now l.x-index 0 in
    let kept = datum_keeps l.state a.taken a.f c.before-in-loop-x.result x v c.datum-c.ensures l.invariant.in_frame l.invariant.ok in
    let (next, rest) = next_taken l.state a.taken a.f a.data.now l.x-index a.still l.later l.word c.or-word.result v c.loop-x-test.true
    l.invariant.left (rw (← c.before-in-loop-x.ensures) c.datum-c.ensures) (c.or-word.ensures ∙ or_either l.word v.word) in
    record { in_frame = kept.0; ok = kept.1; left = next; same = l.invariant.same ∙ rest }

pub returns : goal.returns
returns c = let a = c.args in
    let l = c.loop-x in
    sym (l.invariant.same ∙ all_taken l.state a.taken a.f a.data.now l.x-index a.still l.word c.loop-x-test.false)
