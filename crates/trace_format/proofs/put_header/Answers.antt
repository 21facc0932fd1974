-- `trace_format::put_header` meets its contract.
-- The header's four stretches.
use lib.ListN.{drop}
use lib.Seq.{sets}
use mathlib.Core.List.{List, ◌++◌}
use mathlib.Core.Path.{◌≡◌, refl, sym}
use native.Mathlib.Omega.{arith}
use Prim.Native.Nat.{ℕ}
use Rattle.numbers.specs.Numbers.{little}
use Rattle.numbers.proofs.Putting.{put_over}
use Rattle.trace_format.specs.Format.{version_for, count_size, header, mark}
use Rattle.trace_format.proofs.put_header.Goals as goal

header-put : (out marked : List ℕ) (writes samples version size : ℕ) → marked ≡ sets out 0 mark → version ≡ version_for samples → size ≡ count_size version
    → sets (sets (sets marked 3 (little 2 version)) 5 (little 1 writes)) 6 (little size samples) ≡ sets out 0 (header writes samples)
unfolding header little
header-put out marked writes samples version size m p q = rw (m, q, p)

pub returns : goal.returns
returns c =
    let marked : c.copy_from_slice.new.self ++ drop 3 c.args.out.now ≡ sets c.args.out.now 0 mark = rw c.copy_from_slice.ensures.after (sym (put_over c.args.out.now mark 3 refl (omega (arith, c.requires)))) in
    rw (c.put-3.ensures, c.put-2.ensures, c.put.ensures) (header-put _ _ _ _ _ _ marked c.version_for-version.ensures c.count_size.ensures.value)
