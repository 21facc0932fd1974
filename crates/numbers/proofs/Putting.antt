-- Bytes put into a buffer one stretch after the other are put there as one, and a stretch that fits lies over the first bytes; a buffer that is being filled stretch
-- by stretch, as loops do. The idea: what is still to be put, from the present place on, leads to the same buffer. Assumes nothing.
use mathlib.Core.List.{List, [], ◌∷◌, ◌++◌, append_assoc}
use mathlib.Core.Path.{◌≡◌, ap, ◌∙◌}
use Prim.Native.Nat.{ℕ, suc, ◌+◌, ◌-◌, ◌/◌, ◌%◌, ◌≤◌, ◌<◌}
use native.Mathlib.Nat.{zero-add, add-zero, add-suc, suc-add}
use native.Mathlib.Numerals.{add-one}
use native.Mathlib.Omega.{arith}
use lib.ListN.{length, set, take, drop, length-append}
use lib.Seq.{sets, sets-eq, length-sets, drop-drop, take-suc-set}
use borrow.Rule.Slice.PartMut.{put_mid}
use Rattle.numbers.specs.Numbers.{little}
use Rattle.numbers.proofs.Numbers.{first_byte}

pub sets_append : (l : List ℕ) (i : ℕ) (bs cs : List ℕ) → sets l i (bs ++ cs) ≡ sets (sets l i bs) (i + length bs) cs
sets_append l i [] cs = rw add-zero
sets_append l i (b ∷ bs) cs = rw (add-suc, ← suc-add) (sets_append (set l i b) (suc i) bs cs)

pub put_over : (out file : List ℕ) (n : ℕ) → length file ≡ n → n ≤ length out → sets out 0 file ≡ file ++ drop n out
put_over out file n e h = rw (← e) (sets-eq file out 0 (rw (zero-add, e) h) ∙ rw zero-add)

-- One more of a number's n bytes is put into a stretch, the first i of which are there.
pub byte_on : (whole stretch : List ℕ) (i n rest : ℕ) → i < length stretch → i < n → take i stretch ++ little (n - i) rest ≡ whole
    → take (i + 1) (set stretch i (rest % 256)) ++ little (n - (i + 1)) (rest / 256) ≡ whole
byte_on whole stretch i n rest inside more e =
    let one : n - i - 1 ≡ n - (i + 1) = omega arith in
    let front : take (i + 1) (set stretch i (rest % 256)) ≡ take i stretch ++ (rest % 256 ∷ []) = rw add-one (take-suc-set stretch i (rest % 256) inside) in
    rw (front, append_assoc) (rw (first_byte (n - i) rest (omega arith), one) at e)

-- A stretch of a buffer, with these bytes in its place.
pub stretch_put : (out stretch bytes : List ℕ) (at k : ℕ) → stretch ≡ bytes → k ≡ length bytes → at + k ≤ length out → put_mid at k out stretch ≡ sets out at bytes
stretch_put out stretch bytes at k e l fits = rw (e, sets-eq bytes out at (omega (arith, l)), ← l, append_assoc, drop-drop k at out)

-- A buffer that is being filled: what is left, put from the place on, gives the whole; there is room for it.
pub record Filling (whole : List ℕ) (out : List ℕ) (place : ℕ) (left : List ℕ) : Type 0 where
  pub leads : sets out place left ≡ whole
  pub room : place + length left ≤ length out

-- One stretch further.
pub fill_on : (whole out out' : List ℕ) (place place' : ℕ) (left bs cs : List ℕ) → Filling whole out place left
    → left ≡ bs ++ cs → out' ≡ sets out place bs → place' ≡ place + length bs → Filling whole out' place' cs
fill_on whole out out' place place' left bs cs f e s p =
    record {
      leads = rw (s, p, ← sets_append out place bs cs, ← e) f.leads;
      room = rw (s, p, length-sets out place bs) (omega (arith, f.room, ap length e ∙ length-append bs cs));
    }

-- Nothing is left.
pub filled : (whole out : List ℕ) (place : ℕ) (left : List ℕ) → Filling whole out place left → left ≡ [] → out ≡ whole
filled whole out place left f e = rw e at f.leads
