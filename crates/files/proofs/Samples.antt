-- The samples of an accepted file, stretch by stretch: what is left leads to the same end as all of them.
use mathlib.Core.Bool.{Bool, true, false, cond}
use mathlib.Core.List.{List, [], ◌∷◌, ◌++◌}
use mathlib.Core.Path.{◌≡◌, refl, sym, ap, ◌∙◌}
use Prim.Native.Nat.{ℕ, zero, suc, ◌+◌, ◌-◌, ◌*◌, ◌/◌, ◌≤◌, ◌<◌, ◌^◌}
use native.Mathlib.Nat.{zero-add, suc-add}
use native.Mathlib.Omega.{arith}
use lib.Dec.{eqb}
use lib.ListN.{length, get_or, take, drop, length-drop}
use lib.Seq.{sets, length-sets, take_at, take_all, drop-drop, length-take-le}
use borrow.Author.Tests.{ne_eqb, eqb-false}
use Rattle.bits.proofs.Booleans.{or_false}
use Rattle.samples.specs.Samples.{bad_sample, any_bad}
use Rattle.rules.specs.declared.Device.{Device}
use Rattle.rules.specs.Run.{step, Ran, steps}
use Rattle.rules.specs.WellFormed.{malformed}
use Rattle.rules.proofs.WellFormed.{WellFormed, well_formed}
use Rattle.laws.proofs.Keeps.{steps_append, steps_keep}
use Rattle.laws.proofs.KeepsSample.{step_samples}
use Rattle.trace_format.specs.Format.{sample_limit, sample_size}
use Rattle.trace_format.specs.Reading.{form_refusal, sample_count, sample_start, whole, samples_of, file_refusal}
use Rattle.std.specs.Prelude.{Result, Ok, Err}
use Rattle.refusals.specs.declared.Refusal.{Refusal}
use Rattle.trace.specs.Answers.{samples}
use Rattle.trace.specs.Decoding.{samples_in, how_many, many, the_end, samples_at}
use Rattle.refusals.proofs.Numbered.{never_zero}
use Rattle.refusals.specs.Table.{number}
use Rattle.refusals.specs.declared.Refusal.{Refusal}
use Rattle.numbers.proofs.Putting.{put_over}
use Rattle.trace_format.proofs.Form.{formed, count_below}
use Rattle.trace.proofs.ManySamples.{samples_here, samples_in_length, taken_apart}

steps_samples : (d : Device) (b ws : List ℕ) → (steps d b ws).device.core.output.counts.samples ≡ d.core.output.counts.samples + length ws
unfolding steps
steps_samples d b [] = omega arith
steps_samples d b (w ∷ ws) = steps_samples (step d b w).device (step d b w).buffer ws ∙ rw step_samples (omega arith)

-- An accepted file has the right form, and no bad sample.
pub accepted_file : (f : List ℕ) → file_refusal f ≡ 0 → (form_refusal f ≡ 0) × (any_bad (samples_of f) ≡ false)
unfolding file_refusal
accepted_file f e = go (form_refusal f) (any_bad (samples_of f)) e
  where
    go : (n : ℕ) (b : Bool) → cond (eqb n 0) (cond b 7 0) n ≡ 0 → (n ≡ 0) × (b ≡ false)
    go zero true e = absurd (omega arith)
    go zero false e = (refl, refl)
    go (suc n) b e = absurd (omega (arith, rw (ne_eqb (suc n) 0 (λ z. absurd (omega arith))) at e))

-- A list without a bad sample has none in its parts.
parted : (xs ys : List ℕ) → any_bad (xs ++ ys) ≡ false → (any_bad xs ≡ false) × (any_bad ys ≡ false)
unfolding any_bad
parted [] ys e = (refl, e)
parted (x ∷ xs) ys e =
    let (here, later) = or_false (bad_sample x) (any_bad (xs ++ ys)) e in
    let (front, back) = parted xs ys later in
    (rw (here, front), back)

-- A refused file of the right form has a bad sample.
pub refused_file : (f : List ℕ) (r : Refusal) → form_refusal f ≡ 0 → number r ≡ file_refusal f → (any_bad (samples_of f) ≡ true) × (number r ≡ 7)
unfolding file_refusal
refused_file f r form e = go (any_bad (samples_of f)) (rw form at e)
  where
    go : (b : Bool) → number r ≡ cond b 7 0 → (b ≡ true) × (number r ≡ 7)
    go true e = (refl, e)
    go false e = absurd (eqb-false (number r) 0 (never_zero r) e)

-- The samples of some bytes, and those of a file.
samples_in_append : (n m : ℕ) (r : List ℕ) → samples_in (n + m) r ≡ samples_in n r ++ samples_in m (drop (sample_size * n) r)
unfolding samples_in
samples_in_append zero m r = rw (zero-add m)
samples_in_append (suc n) m r =
    let size : sample_size + sample_size * n ≡ sample_size * suc n = omega arith in
    rw (suc-add n m, samples_in_append n m (drop sample_size r), drop-drop (sample_size * n) sample_size r, size)

abbrev pub all_in : List ℕ → List ℕ
all_in r = samples_in (length r / sample_size) r

file_samples : (f : List ℕ) → form_refusal f ≡ 0 → (length (drop (sample_start f 0) f) ≡ sample_size * sample_count f) × (all_in (drop (sample_start f 0) f) ≡ samples_of f)
file_samples f form =
    let exact : length f ≡ whole f = (formed f (length f) form).exact in
    let long : length (drop (sample_start f 0) f) ≡ sample_size * sample_count f = rw (length-drop) (omega (arith, exact)) in
    let many : length (drop (sample_start f 0) f) / sample_size ≡ sample_count f = omega (arith, long) in
    (long, rw (many) (samples_here f (sample_count f) 0))

-- What is left of a list behind its first elements is shorter.
pub left_shorter : (r : List ℕ) (m : ℕ) → 0 < m → m ≤ length r → length (take (length r - m) (drop m r)) < length r
left_shorter r m some within = omega (arith, length-take-le (length r - m) (drop m r) (omega (arith, length-drop m r)))

-- What is left of an accepted file's samples leads to the same end.
pub record Stepping (f buffer₀ : List ℕ) (d₀ : Device) (buffer : List ℕ) (d : Device) (rest : List ℕ) : Type 0 where
  pub same : steps d buffer (all_in rest) ≡ steps d₀ buffer₀ (samples_of f)
  pub well : WellFormed d
  pub good : any_bad (all_in rest) ≡ false
  pub count : d.core.output.counts.samples + length rest / sample_size ≤ sample_limit

-- They begin within the file.
pub begin_within : (f : List ℕ) → file_refusal f ≡ 0 → sample_start f 0 ≤ length f
begin_within f accepted =
    let exact : length f ≡ whole f = (formed f (length f) (accepted_file f accepted).0).exact in
    omega (arith, exact)

pub stepping_start : (f buffer : List ℕ) (d : Device) (n : ℕ) → WellFormed d → d.core.output.counts.samples ≡ 0 → file_refusal f ≡ 0 → ((i : ℕ) → get_or f i 0 < 256) → n ≡ sample_start f 0
    → Stepping f buffer d buffer d (take (length f - n) (drop n f))
stepping_start f buffer d n well none accepted bytes start =
    let (form, good) = accepted_file f accepted in
    let (long, all) = file_samples f form in
    rw (start, take_all (length f - sample_start f 0) (drop (sample_start f 0) f) (omega (arith, length-drop (sample_start f 0) f)))
    (record { same = rw all; well = well; good = rw all good; count = omega (arith, long, none, count_below f bytes) })

halves : (n : ℕ) (r : List ℕ) → sample_size * n ≤ length r → all_in r ≡ samples_in n r ++ all_in (drop (sample_size * n) r)
halves n r fits =
    let e : length r / sample_size ≡ n + length (drop (sample_size * n) r) / sample_size = omega (arith, length-drop (sample_size * n) r) in
    ap (λ (k : ℕ). samples_in k r) e ∙ samples_in_append n (length (drop (sample_size * n) r) / sample_size) r

-- Where no sample is left, this is the end.
pub stepping_end : {f buffer₀ : List ℕ} {d₀ : Device} {buffer : List ℕ} {d : Device} {rest : List ℕ} → Stepping f buffer₀ d₀ buffer d rest → length rest / sample_size ≡ 0
    → ◌≡◌ {A = Ran} (record { device = d; buffer = buffer }) (steps d₀ buffer₀ (samples_of f))
unfolding steps samples_in
stepping_end s none = rw none at s.same

module _ {f buffer₀ : List ℕ} {d₀ : Device} {buffer : List ℕ} {d : Device} {rest : List ℕ} (s : Stepping f buffer₀ d₀ buffer d rest)
    (array : List ℕ) (room : length array ≡ 256) where
  -- The next samples stand at the front of the array.
  module _ {array' : List ℕ} {r : Result ℕ Refusal} {n : ℕ} (told : samples r ≡ samples_at rest 0 256 (length array)) (is : r ≡ Ok n)
      (put : array' ≡ sets array 0 (samples_in (how_many rest 0 256 (length array)) rest)) where
    so_many : n ≡ how_many rest 0 256 (length array)
    so_many = (taken_apart rest 0 256 (length array) r n is told).is

    pub fits : (n ≤ 256) × (sample_size * n ≤ length rest)
    unfolding how_many
    fits = (omega (arith, so_many, room), omega (arith, so_many))

    front : array' ≡ sets array 0 (samples_in n rest)
    front = rw (← so_many) at put

    pub stepping_room : n ≤ length array'
    stepping_room = rw (front, length-sets) (omega (arith, fits.0, room))

    part : take n array' ≡ samples_in n rest
    part =
        let l = samples_in_length n rest in
        rw (front, put_over array (samples_in n rest) n l (omega (arith, fits.0, room))) (take_at (samples_in n rest) _ n l)

    -- They can all be counted.
    pub stepping_asks : (malformed d ≡ false) × (d.core.output.counts.samples + length (take n array') < 2 ^ 32)
    stepping_asks = (well_formed d s.well, rw (part, samples_in_length n rest) (omega (arith, s.count, fits.1)))

    pub stepping_on : (buffer' : List ℕ) (d' : Device) → ◌≡◌ {A = Ran} (record { device = d'; buffer = buffer' }) (steps d buffer (take n array'))
        → Stepping f buffer₀ d₀ buffer' d' (take (length rest - sample_size * n) (drop (sample_size * n) rest))
    stepping_on buffer' d' ran =
        let e : ◌≡◌ {A = Ran} (record { device = d'; buffer = buffer' }) (steps d buffer (samples_in n rest)) = ran ∙ ap (steps d buffer) part in
        let ed : d' ≡ (steps d buffer (samples_in n rest)).device = ap (λ (x : Ran). x.device) e in
        let eb : buffer' ≡ (steps d buffer (samples_in n rest)).buffer = ap (λ (x : Ran). x.buffer) e in
        let left = length-drop (sample_size * n) rest in
        let cut = halves n rest fits.1 in
        rw (take_all (length rest - sample_size * n) (drop (sample_size * n) rest) (omega (arith, left))) (record {
          same = rw (ed, eb, ← steps_append, ← cut) s.same;
          well = rw ed (steps_keep d buffer (samples_in n rest) s.well);
          good = (parted (samples_in n rest) (all_in (drop (sample_size * n) rest)) (rw cut at s.good)).1;
          count = rw (ed, steps_samples, samples_in_length) (omega (arith, s.count, left, fits.1));
        })

  -- Where none is given, none is left.
  next : ℕ
  next = how_many rest 0 256 (length array)

  next_fits : (sample_size * next ≤ length rest) × (next ≡ 0 → length rest / sample_size ≡ 0)
  unfolding how_many next
  next_fits = (omega arith, λ e. omega (arith, room, e))

  told_next : samples_at rest 0 256 (length array) ≡ cond (eqb next 0) the_end (many next)
  unfolding samples_at next
  told_next = rw ((parted (samples_in next rest) (all_in (drop (sample_size * next) rest)) (rw (halves next rest next_fits.0) at s.good)).0)

  pub none_left : (r : Result ℕ Refusal) → samples r ≡ samples_at rest 0 256 (length array) → ((n : ℕ) → r ≡ Ok n → n ≡ 0) → length rest / sample_size ≡ 0
  none_left r told none = next_fits.1 (go r next none (told ∙ told_next))
    where
      go : (r : Result ℕ Refusal) (m : ℕ) → ((n : ℕ) → r ≡ Ok n → n ≡ 0) → samples r ≡ cond (eqb m 0) the_end (many m) → m ≡ 0
      go (Ok zero) zero none e = refl
      go (Ok zero) (suc m) none e = let k = rw (ne_eqb (suc m) 0 (λ z. absurd (omega arith))) at e in cc
      go (Ok (suc n)) m none e = absurd (omega (arith, none (suc n) refl))
      go (Err x) zero none e = cc
      go (Err x) (suc m) none e = let k = rw (ne_eqb (suc m) 0 (λ z. absurd (omega arith))) at e in cc

  -- And none of what is left is refused.
  pub never_refused : (r : Result ℕ Refusal) (x : Refusal) → samples r ≡ samples_at rest 0 256 (length array) → r ≡ Err x → ⊥
  never_refused r x told is = go next (sym (ap samples is) ∙ told ∙ told_next)
    where
      go : (m : ℕ) → samples (Err x) ≡ cond (eqb m 0) the_end (many m) → ⊥
      go zero e = cc
      go (suc m) e = let k = rw (ne_eqb (suc m) 0 (λ z. absurd (omega arith))) at e in cc

-- Before the last sample of an accepted file the reader gives some: neither the end nor a refusal.
module _ (f : List ℕ) (k : ℕ) (array : List ℕ) (room : length array ≡ 256) (accepted : file_refusal f ≡ 0) (inside : k < sample_count f) where
  abbrev some_next : ℕ
  some_next = how_many f (sample_start f k) (sample_count f - k) (length array)

  some_fits : (0 < some_next) × (some_next ≤ sample_count f - k)
  unfolding how_many
  some_fits =
      let exact : length f ≡ whole f = (formed f (length f) (accepted_file f accepted).0).exact in
      (omega (arith, room, exact), omega (arith, room, exact))

  some_good : any_bad (samples_in some_next (drop (sample_start f k) f)) ≡ false
  some_good =
      let good = (accepted_file f accepted).1 in
      let all : k + (sample_count f - k) ≡ sample_count f = omega arith in
      let cut : some_next + (sample_count f - k - some_next) ≡ sample_count f - k = omega (arith, some_fits.1) in
      let here : sample_start f 0 + sample_size * k ≡ sample_start f k = omega arith in
      let r = drop (sample_start f 0) f in
      let of_all : any_bad (samples_in (k + (sample_count f - k)) r) ≡ false = rw (all, samples_here f (sample_count f) 0) good in
      let later = (parted (samples_in k r) (samples_in (sample_count f - k) (drop (sample_size * k) r)) (rw (samples_in_append k (sample_count f - k) r) at of_all)).1 in
      let from_k : any_bad (samples_in (some_next + (sample_count f - k - some_next)) (drop (sample_start f k) f)) ≡ false = rw (cut, ← here, ← drop-drop (sample_size * k) (sample_start f 0) f) later in
      (parted (samples_in some_next (drop (sample_start f k) f)) (samples_in (sample_count f - k - some_next) (drop (sample_size * some_next) (drop (sample_start f k) f))) (rw (samples_in_append some_next (sample_count f - k - some_next) (drop (sample_start f k) f)) at from_k)).0

  some_told : samples_at f (sample_start f k) (sample_count f - k) (length array) ≡ many some_next
  unfolding samples_at
  some_told = rw (ne_eqb some_next 0 (λ z. absurd (omega (arith, some_fits.0))), some_good)

  pub only_samples : (r : Result ℕ Refusal) → samples r ≡ samples_at f (sample_start f k) (sample_count f - k) (length array) → ((n : ℕ) → 0 < n → r ≡ Ok n → ⊥) → ⊥
  only_samples r e kind = go r kind (e ∙ some_told)
    where
      go : (r : Result ℕ Refusal) → ((n : ℕ) → 0 < n → r ≡ Ok n → ⊥) → samples r ≡ many some_next → ⊥
      go (Ok zero) kind e = cc
      go (Ok (suc n)) kind e = kind (suc n) (omega arith) refl
      go (Err x) kind e = cc
