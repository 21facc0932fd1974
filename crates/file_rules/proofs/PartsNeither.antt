-- Request W8: of the runs that the parts of a file make none is refused with 1 or 8, and no write is with 1: the number that is remembered is neither, whatever has come.
-- The idea: bytes leave the device well-formed; a sample takes three bytes behind the writes, so that no more are counted than the header says.
use mathlib.Core.Bool.{false, not}
use mathlib.Core.List.{List, [], ◌∷◌}
use mathlib.Core.Path.{◌≡◌, refl}
use Prim.Native.Nat.{ℕ, zero, suc, ◌+◌, ◌-◌, ◌*◌, ◌≤◌, ◌<◌, ◌^◌}
use native.Mathlib.Omega.{arith}
use lib.Dec.{eqb, ltb}
use lib.ListN.{drop, get_or, set, replicate}
use borrow.Author.Tests.{eqb-true, ltb-true, ltb-false}
use Rattle.numbers.specs.Numbers.{number_at}
use Rattle.bits.proofs.Booleans.{by_cond, either}
use Rattle.rules.specs.declared.Device.{Device}
use Rattle.rules.specs.Run.{run_refusal, run, steps}
use Rattle.rules.specs.WellFormed.{malformed}
use Rattle.laws.proofs.Keeps.{run_keeps}
use Rattle.laws.proofs.KeepsSample.{step_samples}
use Rattle.laws.proofs.KeepsWrites.{write_keeps}
use Rattle.trace_format.specs.Format.{header_length, write_size, sample_size}
use Rattle.trace_format.specs.Reading.{version_of, sample_start, whole}
use Rattle.numbers.proofs.NumberAt.{number_at_below}
use Rattle.trace_format.proofs.Form.{count_below}
use Rattle.file_rules.proofs.Neither.{Neither, write_neither, run_neither}
use Rattle.file_rules.proofs.SettingUp.{write_samples}
use Rattle.file_rules.proofs.WholeOrder.{never_answered as file_answers_neither}
use Rattle.file_rules.specs.Parts.{State, Taken, opened, wants, after_write, after_sample, Falls, counted_only, write_place, sample_place, falls, write_byte, sample_byte, byte_at, take_byte, take_bytes, take_parts, run_parts, joined}
use Rattle.file_rules.proofs.Taking.{parts_joined}
use Rattle.file_rules.proofs.ByParts.{by_parts}

abbrev AreBytes : List ℕ → Type 0
AreBytes l = (i : ℕ) → get_or l i 0 < 256

bytes_set : (l : List ℕ) (k b : ℕ) → b < 256 → AreBytes l → AreBytes (set l k b)
bytes_set [] k b small bytes i = bytes i
bytes_set (x ∷ xs) zero b small bytes zero = small
bytes_set (x ∷ xs) zero b small bytes (suc i) = bytes (suc i)
bytes_set (x ∷ xs) (suc k) b small bytes zero = bytes zero
bytes_set (x ∷ xs) (suc k) b small bytes (suc i) = bytes_set xs k b small (λ j. bytes (suc j)) i

bytes_zero : (n : ℕ) → AreBytes (replicate n 0)
bytes_zero zero i = omega arith
bytes_zero (suc n) zero = omega arith
bytes_zero (suc n) (suc i) = bytes_zero n i

-- A run of one sample counts at most one.
one_more : (d : Device) (m : List ℕ) (start w : ℕ) → (run d m start (w ∷ [])).device.core.output.counts.samples ≤ d.core.output.counts.samples + 1
unfolding run steps
one_more d m start w =
    either (λ (x : Device). x.core.output.counts.samples ≤ d.core.output.counts.samples + 1) (eqb (run_refusal d m start (w ∷ [])) 0)
    (omega (arith, step_samples d (drop start m) w))
    (omega arith)

-- What every state has, whatever has come.
record Sound (s : State) : Type 0 where
  head : AreBytes s.head
  item : AreBytes s.item
  well : malformed s.device ≡ false
  count : sample_size * s.device.core.output.counts.samples ≤ s.taken - sample_start s.head 0
  number : Neither s.number

module _ (start : ℕ) (b : ℕ) (small : b < 256) where
  write_sound : (s : State) → Sound s → s.taken < sample_start s.head 0 → Sound (write_byte s (write_place s) b)
  unfolding write_byte after_write
  write_sound s g among =
      let place : ℕ = write_place s in
      let put = bytes_set s.item place b small g.item in
      let item = set s.item place b in
      let offset = number_at item 0 1 in
      let v = number_at item 1 4 in
      let fits : v < 2 ^ 32 = omega (arith, number_at_below item put 1 4) in
      by_cond Sound (eqb (place + 1) write_size) _ _
      (λ _.
      record {
        head = g.head;
        item = bytes_zero 5;
        well = write_keeps s.device offset v fits g.well;
        count = rw (write_samples s.device offset v) (omega (arith, g.count));
        number = write_neither s.device offset v g.well;
      })
      (λ _. record { head = g.head; item = put; well = g.well; count = omega (arith, g.count); number = g.number })

  sample_sound : (t : Taken) → Sound t.state → sample_start t.state.head 0 ≤ t.state.taken → t.state.taken < whole t.state.head → Sound (sample_byte start t (sample_place t.state) b).state
  unfolding sample_byte after_sample
  sample_sound t g behind within =
      let s = t.state in
      let place : ℕ = sample_place s in
      let put = bytes_set s.item place b small g.item in
      let w = number_at (set s.item place b) 0 sample_size in
      by_cond (λ (u : Taken). Sound u.state) (eqb (place + 1) sample_size) _ _
      (λ last.
      let third : place + 1 ≡ 3 = eqb-true (place + 1) 3 last in
      let room : sample_size * (s.device.core.output.counts.samples + 1) ≤ s.taken + 1 - sample_start s.head 0 = omega (arith, g.count) in
      record {
        head = g.head;
        item = bytes_zero 5;
        well = run_keeps s.device t.memory start (w ∷ []) g.well;
        count = omega (arith, one_more s.device t.memory start w);
        number = run_neither s.device t.memory start (w ∷ []) g.well (omega (arith, count_below s.head g.head));
      })
      (λ _. record { head = g.head; item = put; well = g.well; count = omega (arith, g.count); number = g.number })

  byte_sound : (t : Taken) → Sound t.state → Sound (take_byte start t b).state
  unfolding take_byte falls byte_at
  byte_sound t g =
      let s = t.state in
      let P : Falls → Type 0 = λ f. Sound (byte_at f start t b).state in
      by_cond P (not (wants s.head s.taken)) _ _ (λ _. g)
      (λ _.
      by_cond P (ltb s.taken (header_length (version_of s.head))) _ _
      (λ e.
      let short : s.taken < header_length (version_of s.head) = ltb-true _ _ e in
      let none : s.device.core.output.counts.samples ≡ 0 = omega (arith, g.count) in
      record { head = bytes_set s.head s.taken b small g.head; item = g.item; well = g.well; count = rw none (omega arith); number = g.number })
      (λ _.
      let counts : P counted_only = record { head = g.head; item = g.item; well = g.well; count = omega (arith, g.count); number = g.number } in
      by_cond P (not (eqb s.number 0)) _ _ (λ _. counts)
      (λ _.
      by_cond P (ltb s.taken (sample_start s.head 0)) _ _
      (λ e. write_sound s g (ltb-true _ _ e))
      (λ e. by_cond P (ltb s.taken (whole s.head)) _ _ (λ f. sample_sound t g (ltb-false _ _ e) (ltb-true _ _ f)) (λ _. counts)))))

bytes_sound : (start : ℕ) (t : Taken) (bs : List ℕ) → AreBytes bs → Sound t.state → Sound (take_bytes start t bs).state
unfolding take_bytes
bytes_sound start t [] bytes g = g
bytes_sound start t (b ∷ bs) bytes g = bytes_sound start (take_byte start t b) bs (λ i. bytes (suc i)) (byte_sound start b (bytes 0) t g)

-- The law, on a device that is not malformed and has counted no sample: after any parts, and at the end of the file.
module _ (d : Device) (parts : List (List ℕ)) (m : List ℕ) (start : ℕ) (bytes : (i : ℕ) → get_or (joined parts) i 0 < 256) (well : malformed d ≡ false) (none : d.core.output.counts.samples ≡ 0) where
  pub never_remembered : Neither (take_parts start (record { state = opened d; memory = m }) parts).state.number
  unfolding opened
  never_remembered =
      let t : Taken = record { state = opened d; memory = m } in
      rw (parts_joined start t parts)
      (bytes_sound start t (joined parts) bytes (record { head = bytes_zero 10; item = bytes_zero 5; well = well; count = rw none (omega arith); number = (refl, refl) })).number

  pub never_answered : Neither (run_parts d parts m start).number
  never_answered = rw (by_parts d parts m start bytes well none) (file_answers_neither (joined parts) bytes d well none m start)
