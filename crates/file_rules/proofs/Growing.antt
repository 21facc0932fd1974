-- A byte that is wanted is counted, so that a reader that gives only wanted bytes comes to an end.
use mathlib.Core.Bool.{true, not}
use mathlib.Core.List.{List, [], ◌∷◌}
use mathlib.Core.Path.{◌≡◌, refl}
use Prim.Native.Nat.{ℕ, ◌+◌, ◌≤◌, ◌<◌}
use native.Mathlib.Omega.{arith}
use lib.Dec.{eqb, ltb}
use lib.ListN.{length}
use Rattle.bits.proofs.Booleans.{either}
use Rattle.trace_format.specs.Format.{header_length, write_size, sample_size}
use Rattle.trace_format.specs.Reading.{version_of, sample_start, whole}
use Rattle.file_rules.specs.Parts.{State, Taken, wants, wanted, after_write, after_sample, Falls, write_place, sample_place, falls, write_byte, sample_byte, byte_at, take_byte, take_bytes}
use Rattle.file_rules.proofs.Singles.{by_bool}

write_counts : (s : State) (place b : ℕ) → (write_byte s place b).taken ≡ s.taken + 1
unfolding write_byte after_write
write_counts s place b = either (λ (x : State). x.taken ≡ s.taken + 1) (eqb (place + 1) write_size) refl refl

sample_counts : (start : ℕ) (t : Taken) (place b : ℕ) → (sample_byte start t place b).state.taken ≡ t.state.taken + 1
unfolding sample_byte after_sample
sample_counts start t place b = either (λ (x : Taken). x.state.taken ≡ t.state.taken + 1) (eqb (place + 1) sample_size) refl refl

pub byte_counts : (start : ℕ) (t : Taken) (b : ℕ) → wants t.state.head t.state.taken ≡ true → (take_byte start t b).state.taken ≡ t.state.taken + 1
unfolding take_byte falls byte_at
byte_counts start t b more =
    let s = t.state in
    let Counts : Falls → Type 0 = λ f. (byte_at f start t b).state.taken ≡ s.taken + 1 in
    rw more
    (either Counts (ltb s.taken (header_length (version_of s.head))) refl
    (either Counts (not (eqb s.number 0)) refl
    (either Counts (ltb s.taken (sample_start s.head 0)) (write_counts s (write_place s) b)
    (either Counts (ltb s.taken (whole s.head)) (sample_counts start t (sample_place s) b)
    refl))))

never_back : (start : ℕ) (t : Taken) (bs : List ℕ) → t.state.taken ≤ (take_bytes start t bs).state.taken
unfolding take_bytes
never_back start t [] = omega arith
never_back start t (b ∷ bs) =
    let one : t.state.taken ≤ (take_byte start t b).state.taken =
    by_bool (wants t.state.head t.state.taken) (λ e. omega (arith, byte_counts start t b e)) (λ e. unfold take_byte falls byte_at in rw e (omega arith)) in
    omega (arith, never_back start (take_byte start t b) bs)

pub grows : (start : ℕ) (t : Taken) (bs : List ℕ) → 0 < length bs → wants t.state.head t.state.taken ≡ true → t.state.taken < (take_bytes start t bs).state.taken
unfolding take_bytes
grows start t [] some more = absurd (omega arith)
grows start t (b ∷ bs) some more = omega (arith, byte_counts start t b more, never_back start (take_byte start t b) bs)

pub wanted_wants : (h : List ℕ) (n : ℕ) → 0 < wanted h n → wants h n ≡ true
unfolding wanted
wanted_wants h n some = by_bool (wants h n) (λ e. e) (λ e. absurd (omega (arith, rw e at some)))
