-- Request W8: running a file is its writes, then a run with the whole order of runs, 1 and 8 included; so a file gives neither.
-- The idea: a file's numbers are bytes, so its writes leave a device that is not malformed and has counted no sample, and its count fits the counter.
use mathlib.Core.Bool.{Bool, true, false, cond, not}
use mathlib.Core.List.{List, ◌++◌}
use mathlib.Core.Path.{◌≡◌, refl, ◌∙◌}
use Prim.Native.Nat.{ℕ, zero, suc, ◌+◌, ◌≤◌, ◌<◌, ◌^◌}
use native.Mathlib.Omega.{arith}
use lib.Dec.{eqb, ltb}
use lib.ListN.{length, take, drop, get_or}
use borrow.Author.Tests.{le-ltb, ne_eqb}
use Rattle.bits.proofs.Booleans.{by_cond}
use Rattle.refusals.specs.Refusals.{first}
use Rattle.samples.specs.Samples.{any_bad}
use Rattle.rules.specs.declared.Device.{Device}
use Rattle.rules.specs.State.{fresh}
use Rattle.rules.specs.Answers.{Changed}
use Rattle.rules.specs.RegisterCalls.{write, made}
use Rattle.rules.specs.Run.{Ran, RunResult, steps, run_refusal, run}
use Rattle.rules.specs.WellFormed.{malformed}
use Rattle.laws.proofs.KeepsWrites.{write_keeps}
use Rattle.trace_format.specs.Format.{write_start}
use Rattle.trace_format.specs.Reading.{form_refusal, version_of, write_count, sample_count, write_at, writes_from, writes_of, samples_of}
use Rattle.numbers.proofs.NumberAt.{number_at_below}
use Rattle.trace_format.proofs.Form.{count_below}
use Rattle.trace_format.proofs.Rewritten.{length_samples_of}
use Rattle.file_rules.specs.File.{set_up, file_checks, refused, run_on, run_file, run_file_of}
use Rattle.file_rules.specs.WholeOrder.{or_refused, whole_order}
use Rattle.file_rules.proofs.Neither.{Neither, first_neither, write_neither, form_neither}
use Rattle.file_rules.proofs.SettingUp.{write_samples, made_ready, fresh_ready}

-- On a device that could be made with a depth, a file is run as on any other.
pub made_first : (depth : ℕ) (f m : List ℕ) (start : ℕ) → eqb (made depth).number 0 ≡ true → run_file_of depth f m start ≡ run_on (made depth).device f m start
unfolding run_file_of run_on
made_first depth f m start taken = rw taken

-- A file of bytes.
module _ (f : List ℕ) (bytes : (i : ℕ) → get_or f i 0 < 256) where
  -- Its writes keep a device well-formed and count no sample; none of them is refused with 1.
  pub record SetUp (r : Changed) : Type 0 where
    pub well : malformed r.device ≡ false
    pub samples : r.device.core.output.counts.samples ≡ 0
    pub number : Neither r.number

  set_up_from : (n k : ℕ) (d : Device) → malformed d ≡ false → d.core.output.counts.samples ≡ 0 → SetUp (set_up d (writes_from f k n))
  unfolding set_up writes_from write_at
  set_up_from zero k d well none = record { well = well; samples = none; number = (refl, refl) }
  set_up_from (suc n) k d well none =
      let w = write_at f k in
      let r = write d w.offset w.value in
      let small : w.value < 2 ^ 32 = omega (arith, number_at_below f bytes (write_start (version_of f) k + 1) 4) in
      let kept = write_keeps d w.offset w.value small well in
      let counted = write_samples d w.offset w.value ∙ none in
      by_cond SetUp (eqb r.number 0) _ _ (λ _. set_up_from n (suc k) r.device kept counted) (λ _. record { well = kept; samples = counted; number = write_neither d w.offset w.value well })

  module _ (d : Device) (well : malformed d ≡ false) (none : d.core.output.counts.samples ≡ 0) where
    pub after_writes : SetUp (set_up d (writes_of f))
    after_writes = set_up_from (write_count f) 0 d well none

    -- The samples counted after its writes are none, and with its count at most 4,294,967,295.
    pub count_fits : let ready = (set_up d (writes_of f)).device in
        (ready.core.output.counts.samples ≡ 0) × (ready.core.output.counts.samples + sample_count f ≤ 4294967295)
    count_fits = (after_writes.samples, omega (arith, after_writes.samples, count_below f bytes))

    fits : (set_up d (writes_of f)).device.core.output.counts.samples + length (samples_of f) ≤ 4294967295
    fits = omega (arith, length_samples_of f, count_fits.1)

    -- The law: a file that passes the form checks is run alike with the whole order, since the tests for 1 and 8 find nothing.
    pub with_whole_order : form_refusal f ≡ 0 → (m : List ℕ) (start : ℕ) → run_on d f m start ≡ whole_order d f m start
    unfolding run_on whole_order run run_refusal
    with_whole_order form m start =
        let ready = set_up d (writes_of f) in
        rw (form, after_writes.well, le-ltb _ _ fits)
        (go ready.number (ltb (length m) start) (any_bad (samples_of f)) (steps ready.device (drop start m) (samples_of f)) ready.device)
      where
        go : (x : ℕ) (a b : Bool) (r : Ran) (e : Device)
            → let n : ℕ = cond a 9 (cond b 7 0) in
            let k : ℕ = cond (not (eqb x 0)) x n in
            cond (eqb k 0) (record { number = 0; device = r.device; memory = take start m ++ r.buffer }) (refused k m)
            ≡ cond (eqb x 0) (or_refused (record { number = n; device = cond (eqb n 0) r.device e; memory = cond (eqb n 0) (take start m ++ r.buffer) m })) (refused x m)
        go zero true b r e = refl
        go zero false true r e = refl
        go zero false false r e = refl
        go (suc x) a b r e =
            let some : eqb (suc x) 0 ≡ false = ne_eqb (suc x) 0 (λ z. absurd (omega arith)) in
            rw (some, some)

    -- Neither 1 nor 8 is answered, whatever the form: not by a write either.
    pub never_answered : (m : List ℕ) (start : ℕ) → Neither (run_on d f m start).number
    unfolding run_on
    never_answered m start =
        let checks = file_checks d f (length m) start in
        let none : Neither (first checks) = first_neither checks ((λ _. form_neither f (length f)), ((λ _. after_writes.number), ((λ _. (refl, refl)), ((λ _. (refl, refl)), tt)))) in
        by_cond (λ (r : RunResult). Neither r.number) (eqb (first checks) 0) _ _ (λ _. (refl, refl)) (λ _. none)

  -- On a fresh device, and on one made with a depth (W9).
  pub file_with_whole_order : form_refusal f ≡ 0 → (m : List ℕ) (start : ℕ) → run_file f m start ≡ whole_order fresh f m start
  file_with_whole_order form m start = with_whole_order fresh fresh_ready.0 fresh_ready.1 form m start

  pub file_of_with_whole_order : form_refusal f ≡ 0 → (depth : ℕ) → (made depth).number ≡ 0 → (m : List ℕ) (start : ℕ) → run_file_of depth f m start ≡ whole_order (made depth).device f m start
  file_of_with_whole_order form depth taken m start =
      let ready = made_ready depth (rw taken) in
      made_first depth f m start (rw taken) ∙ (with_whole_order (made depth).device ready.0 ready.1 form m start)
