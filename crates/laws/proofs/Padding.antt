-- The word that a frame's end pads (W4) is the partial word filled with as many zero data as it lacks, as rule 8 packs them (`padded_with_zeros`).
-- The idea: a zero datum leaves the bits of a partial word. Assumes nothing.
use mathlib.Core.Bool.{Bool, ◌&&◌}
use Rattle.std.specs.Prelude.{Some}
use mathlib.Core.Path.{◌≡◌, ◌∙◌}
use Prim.Native.Nat.{ℕ, zero, suc, ◌+◌, ◌-◌, ◌<◌}
use native.Mathlib.Omega.{arith}
use lib.Dec.{ltb}
use borrow.Author.Tests.{lt-ltb, le-ltb}
use Rattle.bits.proofs.Booleans.{by_cond}
use Rattle.registers.specs.Control.{jpeg, edm}
use Rattle.packing.specs.Packing.{per_word}
use Rattle.packing.proofs.Zeros.{zero_joins, zero_filled_bits}
use Rattle.rules.specs.declared.Scan.{Scan}
use Rattle.rules.specs.declared.Frame.TheVariants.{Open}
use Rattle.rules.specs.declared.Capture.{Capture}
use Rattle.rules.specs.State.{with_partial}
use Rattle.rules.specs.Capture.{no_word, padded, packed_bits, pack, either_word}
use Rattle.laws.specs.Padding.{zeros_packed}

-- As many as the word lacks make it full.
fills : (n : ℕ) (s : Capture) → s.partial.count + suc n ≡ per_word (edm s.registers.cr) → zeros_packed (suc n) s ≡ Some s.partial.bits
unfolding zeros_packed pack packed_bits no_word with_partial either_word
fills zero s e = rw (le-ltb (s.partial.count + 1) (per_word (edm s.registers.cr)) (omega arith), zero_joins)
fills (suc n) s e = rw (lt-ltb (s.partial.count + 1) (per_word (edm s.registers.cr)) (omega arith), zero_joins (edm s.registers.cr) s.partial.count s.partial.bits) (fills n _ (omega arith))

pub padded_with_zeros : (taken : Bool) (f : Scan) (s : Capture) (v : ℕ) → s.partial.count < per_word (edm s.registers.cr) → padded (Open taken f) s ≡ Some v
    → zeros_packed (per_word (edm s.registers.cr) - s.partial.count) s ≡ Some v
unfolding padded
padded_with_zeros taken f s v short =
    let q = per_word (edm s.registers.cr) in
    let p = s.partial.count in
    by_cond (λ o. o ≡ Some v → zeros_packed (q - p) s ≡ Some v) (taken && jpeg s.registers.cr && ltb 0 p) _ _
    (λ t is. lacks (q - p) (omega arith) ∙ rw (zero_filled_bits (edm s.registers.cr) p s.partial.bits) at is)
    (λ t is. let z : ◌≡◌ {A = ℕ} 0 1 = cc in absurd (omega arith))
  where
    lacks : (n : ℕ) → (s.partial.count + n ≡ per_word (edm s.registers.cr)) → zeros_packed n s ≡ Some s.partial.bits
    lacks zero h = absurd (omega arith)
    lacks (suc n) h = fills n s h
