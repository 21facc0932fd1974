-- `trace::decoding::decode_all` meets its contract: the samples so far stand at the front of the array.
use mathlib.Core.Path.{◌≡◌}
use native.Mathlib.Omega.{arith}
use Prim.Native.Nat.{◌/◌}
use lib.ListN.{length, take}
use lib.Seq.{take_all}
use Rattle.std.proofs.lemmas.List.{length_push}
use Rattle.std.proofs.lemmas.List.FromFn.{length-enumerate_from}
use Rattle.std.proofs.lemmas.Iterator.Consumers.{YieldsList-from_enumerate, YieldsList-turn, YieldsList-end}
use Rattle.trace_format.specs.Format.{sample_size}
use Rattle.trace.specs.Decoding.{samples_in}
use Rattle.trace.proofs.ManySamples.{in_threes, put_on, turn_is}
use Rattle.trace.proofs.decoding.decode_all.Goals as goal

pub loop-i-preserved : goal.loop-i-preserved
loop-i-preserved c =
    let b = c.args.bytes.now in
    let all = samples_in (length b / sample_size) b in
    let turn = YieldsList-turn (YieldsList-from_enumerate (in_threes b (cc) (cc)) (cc)) c.loop-i.yielded _ c.loop-i.yielded_by _ _ (c.in-Some.i, c.in-Some.item) c.in-Some.is c.next.ensures.steps in
    let (inside, at, sample) = turn_is all _ _ _ turn.0 turn.1 in
    rw (length_push c.loop-i.yielded (c.in-Some.i, c.in-Some.item), at, c.sample_in.ensures) (put_on _ _ all _ _ _ c.loop-i.invariant inside sample)

pub returns : goal.returns
returns c =
    let b = c.args.bytes.now in
    let all = samples_in (length b / sample_size) b in
    let whole = YieldsList-end (YieldsList-from_enumerate (in_threes b (cc) (cc)) (cc)) c.loop-i.yielded _ c.loop-i.yielded_by _ _ c.in-None.is c.next.ensures.steps in
    let none_left : take (length c.loop-i.yielded) all ≡ all = take_all _ all (omega (arith, whole.1, length-enumerate_from 0 all)) in
    rw none_left at c.loop-i.invariant
