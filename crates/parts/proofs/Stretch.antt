-- What the code takes at once: the samples of a part as one run, and bytes that are counted only.
-- The idea: samples from a sample's first byte on are runs of one (Content), and runs of one are one run (Singles).
use mathlib.Core.Bool.{true, false}
use mathlib.Core.List.{List, [], ◌∷◌}
use mathlib.Core.Path.{◌≡◌, refl, sym, ap, ◌∙◌}
use Prim.Native.Nat.{ℕ, zero, suc, ◌+◌, ◌-◌, ◌*◌, ◌/◌, ◌%◌, ◌≤◌, ◌<◌}
use native.Mathlib.Omega.{arith}
use lib.Dec.{eqb, ltb}
use lib.ListN.{length, take, drop, get_or, length-drop, take-append-drop}
use lib.Seq.{sets, length-sets, take_at, length-take-le, drop-length, take_all}
use borrow.Author.Tests.{eqb-true, ltb-false}
use Rattle.std.specs.Prelude.{Result, Ok, Err, is_ok, is_err}
use Rattle.refusals.specs.declared.Refusal.{Refusal}
use Rattle.refusals.specs.Table.{outcome}
use Rattle.refusals.proofs.Numbered.{never_zero}
use Rattle.rules.specs.declared.Device.{Device}
use Rattle.rules.specs.Run.{RunResult, run}
use Rattle.sampling.proofs.AcceptedRuns.{accepted_run}
use Rattle.trace_format.specs.Format.{header_length, sample_size}
use Rattle.trace_format.specs.Reading.{version_of, sample_count, sample_start, whole, header_refusal}
use Rattle.trace.specs.Answers.{samples}
use Rattle.trace.specs.Decoding.{samples_in, how_many, samples_at}
use Rattle.trace.proofs.ManySamples.{samples_in_length, samples_take, taken_apart}
use Rattle.numbers.proofs.Putting.{put_over}
use Rattle.file_rules.specs.Parts.{Taken, no_item, wants, take_byte, take_bytes}
use Rattle.parts.specs.Forward.{samples_left}
use Rattle.file_rules.proofs.Taking.{at, bytes_append, counts}
use Rattle.file_rules.proofs.Singles.{by_bool, singles, singles_run}
use Rattle.file_rules.proofs.Content.{Passes, some_samples}
use Rattle.file_rules.proofs.Header.{wants_within, passes_on}

-- What an outcome's test says of its number.
pub accepted : {A : Type 0} (r : Result A Refusal) → is_err r ≡ false → outcome r ≡ 0
accepted (Ok a) e = refl
accepted (Err x) e = cc

pub is_refused : {A : Type 0} (r : Result A Refusal) → is_ok r ≡ false → eqb (outcome r) 0 ≡ false
is_refused (Ok a) e = cc
is_refused (Err x) e = never_zero x

-- No byte.
pub none_taken : (start : ℕ) (t : Taken) (bs : List ℕ) → length bs ≡ 0 → t ≡ take_bytes start t bs
unfolding take_bytes
none_taken start t [] e = refl
none_taken start t (b ∷ bs) e = absurd (omega arith)

-- Where samples are left, one begins.
pub record Begins (h : List ℕ) (n : ℕ) : Type 0 where
  pub passes : Passes h
  pub place : ℕ
  pub is : n ≡ sample_start h place
  pub left : place + samples_left h n ≤ sample_count h

begins : (h : List ℕ) (n : ℕ) → 0 < samples_left h n → Begins h n
unfolding samples_left
begins h n some =
    by_bool (eqb (header_refusal h n) 0)
    (λ passed.
    by_bool (ltb n (sample_start h 0))
    (λ low. absurd (omega (arith, rw (passed, low) at some)))
    (λ high.
    let from : sample_start h 0 ≤ n = ltb-false _ _ high in
    by_bool (eqb ((n - sample_start h 0) % sample_size) 0)
    (λ whole_sample.
    let exact : (n - sample_start h 0) % sample_size ≡ 0 = eqb-true _ 0 whole_sample in
    record {
      passes = passes_on h n (eqb-true _ 0 passed) (omega arith);
      place = (n - sample_start h 0) / sample_size;
      is = omega (arith, exact);
      left = rw (passed, high, whole_sample) (omega (arith, exact, rw (passed, high, whole_sample) at some));
    })
    (λ inside. absurd (omega (arith, rw (passed, high, inside) at some)))))
    (λ refused. absurd (omega (arith, rw refused at some)))

-- Samples as one run that is accepted.
all_gone : (r : List ℕ) (n : ℕ) → length r ≡ n → drop n r ≡ []
all_gone r n e = rw (← e) (drop-length r)

module _ (start : ℕ) (h : List ℕ) (passes : Passes h) (j : ℕ) (item : List ℕ) (long : length item ≡ 5) (d : Device) (m : List ℕ) where
  one_run : (k : ℕ) (ws : List ℕ) → length ws ≡ k → (k ≡ 0 → ⊥) → (run d m start ws).number ≡ 0 → singles start d m ws ≡ run d m start ws
  unfolding run
  one_run k ws many some accepted =
      let a = accepted_run d m start ws accepted in
      let same = singles_run start d m ws (omega (arith, a.fits)) in
      let pos : 0 < length ws = omega (arith, many, some) in
      same.whole (same.number pos ∙ accepted) pos

  run_at_once : (k : ℕ) (r ws : List ℕ) → j + k ≤ sample_count h → length r ≡ sample_size * k → length ws ≡ k → (k ≡ 0 → ⊥) → samples_in k r ≡ ws → (run d m start ws).number ≡ 0
      → take_bytes start (at h (sample_start h j) item d 0 m) r ≡ at h (sample_start h j + sample_size * k) no_item (run d m start ws).device 0 (run d m start ws).memory
  unfolding take_bytes
  run_at_once zero r ws inside full many some are accepted = absurd (some refl)
  run_at_once (suc k) r ws inside full many some are accepted =
      let last : sample_start h (j + suc k) ≡ sample_start h j + sample_size * suc k = omega arith in
      some_samples start h passes k j item d m r long inside (omega arith)
      ∙ rw (are, all_gone r (sample_size * suc k) full, one_run (suc k) ws many some accepted, accepted, last)

-- Bytes that are counted only.
pub counted : (start : ℕ) (h : List ℕ) (n : ℕ) (item : List ℕ) (d : Device) (number : ℕ) (m bs : List ℕ) → wants h n ≡ true → header_length (version_of h) ≤ n → eqb number 0 ≡ false
    → length bs ≤ whole h + 1 - n → at h (n + length bs) item d number m ≡ take_bytes start (at h n item d number m) bs
counted start h n item d number m bs more low some few =
    let (passes, within) = wants_within h n more low in
    sym (counts start h (passes_on h n passes low) d m n item number bs low (omega arith) some)

-- The samples at the front of a part as one run: k of them stand at the front of an array.
module _ (h : List ℕ) (n : ℕ) (bytes array array' : List ℕ) (most : ℕ) (r : Result ℕ Refusal) (k : ℕ) (left : most ≡ samples_left h n)
    (told : samples r ≡ samples_at bytes 0 most (length array)) (put : array' ≡ sets array 0 (samples_in (how_many bytes 0 most (length array)) bytes)) (is : r ≡ Ok k) where
  many : k ≡ how_many bytes 0 (samples_left h n) (length array)
  many = (taken_apart bytes 0 (samples_left h n) (length array) r k is (rw left at told)).is

  filled : array' ≡ sets array 0 (samples_in k bytes)
  filled = rw (left, ← many) at put

  pub few : (k ≤ length array) × (k ≤ samples_left h n) × (sample_size * k ≤ length bytes)
  unfolding how_many
  few = (omega (arith, many), omega (arith, many), omega (arith, many))

  pub front_room : k ≤ length array'
  front_room = rw (filled, length-sets) few.0

  front_samples : take k array' ≡ samples_in k bytes
  front_samples =
      let l = samples_in_length k bytes in
      rw (filled, put_over array (samples_in k bytes) k l few.0) (take_at (samples_in k bytes) (drop k array) k l)

  pub stretch_taken : (start : ℕ) (item : List ℕ) (d : Device) (number : ℕ) (m : List ℕ) (ran : RunResult) → length item ≡ 5 → number ≡ 0 → 0 < k → ran ≡ run d m start (take k array') → ran.number ≡ 0
      → at h (n + sample_size * k) no_item ran.device number ran.memory ≡ take_bytes start (at h n item d number m) (take (sample_size * k) bytes)
  stretch_taken start item d number m ran long fine some is_run accepted =
      let ws : List ℕ = samples_in k bytes in
      let same : ran ≡ run d m start ws = is_run ∙ ap (run d m start) front_samples in
      let none : (run d m start ws).number ≡ 0 = sym (ap (λ (x : RunResult). x.number) same) ∙ accepted in
      let b = begins h n (omega (arith, few.1, some)) in
      let once = run_at_once start h b.passes b.place item long d m k (take (sample_size * k) bytes) ws (omega (arith, b.left, few.1)) (length-take-le (sample_size * k) bytes few.2) (samples_in_length k bytes) (omega (arith, some)) (samples_take k bytes few.2) none in
      rw (fine, same)
      (ap (λ (x : ℕ). at h (x + sample_size * k) no_item (run d m start ws).device 0 (run d m start ws).memory) b.is
      ∙ sym once
      ∙ ap (λ (x : ℕ). take_bytes start (at h x item d 0 m) (take (sample_size * k) bytes)) (sym b.is))

-- One byte, and the first of some bytes then the rest of them.
pub one_byte : (start : ℕ) (t : Taken) (bytes : List ℕ) → 0 < length bytes → take_byte start t (get_or bytes 0 0) ≡ take_bytes start t (take 1 bytes)
unfolding take_bytes
one_byte start t [] some = absurd (omega arith)
one_byte start t (b ∷ bs) some = refl

pub nothing_yet : (start : ℕ) (t : Taken) (bs : List ℕ) (n : ℕ) → n ≡ 0 → take_bytes start t (take n bs) ≡ t
unfolding take_bytes
nothing_yet start t bs n e = rw e

-- What is left of a part behind the bytes that are taken.
pub taken_on : (start : ℕ) (t t₀ t' : Taken) (rest bytes : List ℕ) (n : ℕ) → take_bytes start t rest ≡ take_bytes start t₀ bytes → t' ≡ take_bytes start t (take n rest)
    → take_bytes start t' (take (length rest - n) (drop n rest)) ≡ take_bytes start t₀ bytes
taken_on start t t₀ t' rest bytes n all some =
    rw (take_all (length rest - n) (drop n rest) (omega (arith, length-drop n rest)), some, ← bytes_append start t (take n rest) (drop n rest), take-append-drop n rest) all

pub taken_all : (start : ℕ) (t t₀ : Taken) (rest bytes : List ℕ) → take_bytes start t rest ≡ take_bytes start t₀ bytes → length rest ≡ 0 → t ≡ take_bytes start t₀ bytes
unfolding take_bytes
taken_all start t t₀ [] bytes all none = all
taken_all start t t₀ (b ∷ bs) bytes all none = absurd (omega arith)
