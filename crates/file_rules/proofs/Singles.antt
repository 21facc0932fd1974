-- Samples as runs of one, up to the first that is refused, and one run of all of them. The idea: a run of some samples is one of the first, then one of the rest.
use mathlib.Core.Bool.{Bool, true, false, cond}
use mathlib.Core.List.{List, [], ◌∷◌, ◌++◌}
use mathlib.Core.Path.{◌≡◌, refl, sym, ◌∙◌}
use Prim.Native.Nat.{ℕ, suc, ◌+◌, ◌≤◌, ◌<◌}
use native.Mathlib.Omega.{arith}
use lib.Dec.{eqb, ltb}
use lib.ListN.{length, take, drop, length-append, take-append-drop}
use lib.Seq.{length-take-le, take_at, drop_at}
use borrow.Author.Tests.{lt-ltb, le-ltb, ltb-true, ltb-false, eqb-false}
use Rattle.bits.proofs.Booleans.{by_cond, either}
use Rattle.run_refusals.proofs.Passed.{passed}
use Rattle.samples.specs.Samples.{bad_sample, any_bad}
use Rattle.rules.specs.declared.Device.{Device}
use Rattle.rules.specs.WellFormed.{malformed}
use Rattle.rules.specs.Run.{step, steps, run_refusal, RunResult, run}
use Rattle.rules.proofs.WellFormed.{facts, well_formed}
use Rattle.laws.proofs.KeepsSample.{step_keeps, step_samples}

-- By the value of a test.
pub by_bool : {A : Type 0} (b : Bool) → (b ≡ true → A) → (b ≡ false → A) → A
by_bool true holds fails = holds refl
by_bool false holds fails = fails refl

-- Runs of one sample, up to the first that is refused.
unfoldable pub singles : ℕ → Device → List ℕ → List ℕ → RunResult
singles start d m [] = record { number = 0; device = d; memory = m }
singles start d m (w ∷ ws) =
    let r = run d m start (w ∷ []) in
    cond (eqb r.number 0) (singles start r.device r.memory ws) r

-- Samples up to the first bad one.
unfoldable pub good : List ℕ → List ℕ
good [] = []
good (w ∷ ws) = cond (bad_sample w) [] (w ∷ good ws)

pub run_none : (d : Device) (m : List ℕ) (start : ℕ) → (run d m start []).memory ≡ m
unfolding run steps
run_none d m start = go (eqb (run_refusal d m start []) 0)
  where
    go : (b : Bool) → cond b (take start m ++ drop start m) m ≡ m
    go true = take-append-drop start m
    go false = refl

-- One sample that is accepted: the start stays within the memory, and the sample is counted.
pub record Accepted (start : ℕ) (d : Device) (m : List ℕ) (w : ℕ) : Type 0 where
  pub number : (run d m start (w ∷ [])).number ≡ 0
  pub within : start ≤ length (run d m start (w ∷ [])).memory
  pub count : (run d m start (w ∷ [])).device.core.output.counts.samples ≡ d.core.output.counts.samples + 1

-- A refused run leaves the memory.
pub run_refused : (d : Device) (m : List ℕ) (start : ℕ) (ws : List ℕ) → eqb (run d m start ws).number 0 ≡ false → (run d m start ws).memory ≡ m
unfolding run
run_refused d m start ws e = rw e

module _ (start : ℕ) (d : Device) (m : List ℕ) (well : malformed d ≡ false) (within : start ≤ length m) (w : ℕ) (fine : bad_sample w ≡ false) where
  front : length (take start m) ≡ start
  front = length-take-le start m within

  after : Device
  after = (step d (drop start m) w).device

  memory : List ℕ
  memory = take start m ++ (step d (drop start m) w).buffer

  one_run : d.core.output.counts.samples + 1 ≤ 4294967295 → run d m start (w ∷ []) ≡ record { number = 0; device = after; memory = memory }
  unfolding run run_refusal any_bad steps after memory
  one_run fits = rw (well, le-ltb _ _ within, fine, le-ltb 4294967295 (d.core.output.counts.samples + 1) fits)

  kept : malformed after ≡ false
  unfolding after
  kept = well_formed _ (step_keeps d (drop start m) w (facts d well))

  long : start ≤ length memory
  unfolding memory
  long = rw (length-append (take start m) _, front) (omega arith)

  counted : after.core.output.counts.samples ≡ d.core.output.counts.samples + 1
  unfolding after
  counted = step_samples d (drop start m) w

  pub accepts : d.core.output.counts.samples + 1 ≤ 4294967295 → Accepted start d m w
  accepts fits = record { number = rw (one_run fits); within = rw (one_run fits) long; count = rw (one_run fits) counted }

  total : (ws : List ℕ) → after.core.output.counts.samples + length ws ≡ d.core.output.counts.samples + length (w ∷ ws)
  total ws = omega (arith, counted)

  -- A run of it and others: refused like one of the others after it; and where none of them is bad, one of it, then one of the others.
  numbers : (ws : List ℕ) → (run d m start (w ∷ ws)).number ≡ (run after memory start ws).number
  unfolding run run_refusal any_bad
  numbers ws = rw (well, le-ltb _ _ within, fine, kept, le-ltb _ _ long, total ws)

  both : (ws : List ℕ) → d.core.output.counts.samples + length (w ∷ ws) ≤ 4294967295 → any_bad ws ≡ false → run d m start (w ∷ ws) ≡ run after memory start ws
  unfolding run run_refusal any_bad steps after memory
  both ws fits good =
      rw (
        well,
        le-ltb _ _ within,
        fine,
        kept,
        le-ltb _ _ long,
        good,
        total ws,
        le-ltb 4294967295 (d.core.output.counts.samples + length (w ∷ ws)) fits,
        take_at (take start m) _ start front,
        drop_at (take start m) _ start front,
      )

  pub run_number : (ws : List ℕ) → d.core.output.counts.samples + 1 ≤ 4294967295
      → (run d m start (w ∷ ws)).number ≡ (run (run d m start (w ∷ [])).device (run d m start (w ∷ [])).memory start ws).number
  run_number ws fits = rw (one_run fits) (numbers ws)

  pub run_cons : (ws : List ℕ) → d.core.output.counts.samples + length (w ∷ ws) ≤ 4294967295 → any_bad ws ≡ false
      → run d m start (w ∷ ws) ≡ run (run d m start (w ∷ [])).device (run d m start (w ∷ [])).memory start ws
  run_cons ws fits good = rw (one_run (omega arith)) (both ws fits good)

-- The good samples are not bad, and not more.
good_fine : (ws : List ℕ) → any_bad (good ws) ≡ false
unfolding good any_bad
good_fine [] = refl
good_fine (w ∷ ws) = by_cond (λ (l : List ℕ). any_bad l ≡ false) (bad_sample w) [] (w ∷ good ws) (λ e. refl) (λ e. rw (e, good_fine ws))

good_length : (ws : List ℕ) → length (good ws) ≤ length ws
unfolding good
good_length [] = omega arith
good_length (w ∷ ws) = either (λ (l : List ℕ). length l ≤ suc (length ws)) (bad_sample w) (omega arith) (omega (arith, good_length ws))

-- What runs of one leave, and what one run does.
pub record Same (start : ℕ) (d : Device) (m ws : List ℕ) : Type 0 where
  pub number : 0 < length ws → (singles start d m ws).number ≡ (run d m start ws).number
  pub memory : (singles start d m ws).memory ≡ (run d m start (good ws)).memory
  pub whole : (singles start d m ws).number ≡ 0 → 0 < length ws → singles start d m ws ≡ run d m start ws
  pub within : (singles start d m ws).number ≡ 0 → 0 < length ws → start ≤ length (singles start d m ws).memory

-- The first is refused, as all are, and nothing is run.
module _ (start : ℕ) (d : Device) (m : List ℕ) (w : ℕ) (ws : List ℕ) where
  stopped : (n : ℕ) → eqb n 0 ≡ false → run d m start (w ∷ []) ≡ record { number = n; device = d; memory = m } → (run d m start (w ∷ ws)).number ≡ n
      → (run d m start (good (w ∷ ws))).memory ≡ m → Same start d m (w ∷ ws)
  unfolding singles
  stopped n some one all memory =
      record {
        number = λ _. rw (one, some, all);
        memory = rw (one, some) (sym memory);
        whole = λ e _. absurd (eqb-false n 0 some (rw (one, some) at e));
        within = λ e _. absurd (eqb-false n 0 some (rw (one, some) at e));
      }

  malformed_first : malformed d ≡ true → Same start d m (w ∷ ws)
  unfolding run run_refusal
  malformed_first e = stopped 1 refl (rw e) (rw e) (rw e)

  beyond_first : malformed d ≡ false → length m < start → Same start d m (w ∷ ws)
  unfolding run run_refusal
  beyond_first e f = stopped 9 refl (rw (e, lt-ltb _ _ f)) (rw (e, lt-ltb _ _ f)) (rw (e, lt-ltb _ _ f))

  bad_first : malformed d ≡ false → start ≤ length m → bad_sample w ≡ true → Same start d m (w ∷ ws)
  unfolding run run_refusal any_bad good
  bad_first e f b = stopped 7 refl (rw (e, le-ltb _ _ f, b)) (rw (e, le-ltb _ _ f, b)) (rw b (run_none d m start))

-- A run that is accepted has no bad sample.
pub not_bad : (d : Device) (m : List ℕ) (start : ℕ) (ws : List ℕ) → (run d m start ws).number ≡ 0 → any_bad ws ≡ false
unfolding run run_refusal
not_bad d m start ws e = (passed (malformed d) (ltb (length m) start) d.core.output.counts.samples ws e).good

-- The first is run.
module _ (start : ℕ) (d : Device) (m : List ℕ) (w : ℕ) (well : malformed d ≡ false) (within : start ≤ length m) (fine : bad_sample w ≡ false) (small : d.core.output.counts.samples + 1 ≤ 4294967295) where
  first_runs : (ws : List ℕ) → singles start d m (w ∷ ws) ≡ singles start (run d m start (w ∷ [])).device (run d m start (w ∷ [])).memory ws
  unfolding singles
  first_runs ws = rw (accepts start d m well within w fine small).number

  first_good : (ws : List ℕ) → good (w ∷ ws) ≡ w ∷ good ws
  unfolding good
  first_good ws = rw fine

  last_runs : singles start d m (w ∷ []) ≡ run d m start (w ∷ [])
  unfolding singles
  last_runs = rw (accepts start d m well within w fine small).number

  goes_on : (ws : List ℕ) → d.core.output.counts.samples + length (w ∷ ws) ≤ 4294967295
      → Same start (run d m start (w ∷ [])).device (run d m start (w ∷ [])).memory ws → Same start d m (w ∷ ws)
  unfolding good
  goes_on [] fits s =
      let a = accepts start d m well within w fine small in
      record { number = λ _. rw last_runs; memory = rw (last_runs, first_good []); whole = λ _ _. last_runs; within = λ _ _. rw last_runs a.within }
  goes_on (v ∷ ws) fits s =
      let some : 0 < length (v ∷ ws) = omega arith in
      let behind : List ℕ = good (v ∷ ws) in
      let same = first_runs (v ∷ ws) in
      record {
        number = λ _. rw same (s.number some ∙ sym (run_number start d m well within w fine (v ∷ ws) small));
        memory = rw (same, first_good (v ∷ ws), run_cons start d m well within w fine behind (omega (arith, good_length (v ∷ ws))) (good_fine (v ∷ ws))) s.memory;
        whole = λ e _.
            let zero_number = rw same at e in
            same ∙ s.whole zero_number some ∙ sym (run_cons start d m well within w fine (v ∷ ws) fits (not_bad _ _ start (v ∷ ws) (sym (s.number some) ∙ zero_number)));
        within = λ e _. rw same (s.within (rw same at e) some);
      }

-- Runs of one sample are one run of all: refused alike, the memory that of the good ones; accepted, the same device and memory.
pub singles_run : (start : ℕ) (d : Device) (m ws : List ℕ) → d.core.output.counts.samples + length ws ≤ 4294967295 → Same start d m ws
unfolding singles good
singles_run start d m [] fits =
    record { number = λ h. absurd (omega arith); memory = sym (run_none d m start); whole = λ _ h. absurd (omega arith); within = λ _ h. absurd (omega arith) }
singles_run start d m (w ∷ ws) fits =
    by_bool (malformed d)
    (malformed_first start d m w ws)
    (λ well.
    by_bool (ltb (length m) start)
    (λ h. beyond_first start d m w ws well (ltb-true _ _ h))
    (λ h.
    let within : start ≤ length m = ltb-false _ _ h in
    by_bool (bad_sample w)
    (bad_first start d m w ws well within)
    (λ fine.
    let small : d.core.output.counts.samples + 1 ≤ 4294967295 = omega arith in
    let a = accepts start d m well within w fine small in
    goes_on start d m w well within fine small ws fits (singles_run start (run d m start (w ∷ [])).device (run d m start (w ∷ [])).memory ws (omega (arith, a.count))))))
