-- `trace::decoding::any_bad_of` meets its contract: the samples of the file are those that its bytes from the first sample on are, three at a time.
use mathlib.Core.Bool.{Bool, false, ◌||◌}
use mathlib.Core.Path.{◌≡◌, ap, ◌∙◌}
use native.Mathlib.Omega.{arith}
use Prim.Native.Nat.{ℕ, ◌/◌}
use lib.ListN.{length, drop, length-drop}
use borrow.Author.Tests.{tests}
use Rattle.std.proofs.Common.{rules}
use Rattle.std.proofs.lemmas.Grind.{common_steps}
use Rattle.std.proofs.lemmas.Iterator.Consumers.{fold_from_yields_List}
use Rattle.samples.specs.Samples.{bad_sample, any_bad}
use Rattle.trace_format.specs.Format.{sample_size}
use Rattle.trace_format.specs.Reading.{sample_start, sample_count}
use Rattle.trace.specs.Decoding.{samples_in}
use Rattle.trace.proofs.AllBits.{one_after_another}
use Rattle.trace.proofs.ManySamples.{in_threes, samples_here}
use Rattle.trace.proofs.decoding.any_bad_of.Goals as goal

pub returns : goal.returns
returns c =
    let f = c.args.file.now in
    let from = drop (sample_start f 0) f in
    let count : length from / sample_size ≡ sample_count f = omega (arith, length-drop (sample_start f 0) f, c.requires) in
    let any = fold_from_yields_List _ (λ (any : Bool) (w : ℕ). any || bad_sample w) false c.fold.result c.fold.ensures.ran (in_threes from (grind (arith, common_steps)) c.chunks_exact.ensures.size) (λ a x b q k. search (rules, tests)) in
    any ∙ one_after_another false _ ∙ ap any_bad (ap (λ (n : ℕ). samples_in n from) count ∙ samples_here f (sample_count f) 0)
