-- A call over one memory by the mode: in mode one it is the device's, in mode two it is refused. Assumes nothing.
use mathlib.Core.Bool.{Bool, true, false, cond, ◌||◌}
use mathlib.Core.List.{List, [], ◌∷◌, ◌++◌}
use mathlib.Core.Path.{◌≡◌, refl, sym, ap, subst, ◌∙◌}
use Prim.Native.Nat.{ℕ, ◌≤◌}
use native.Mathlib.Omega.{arith}
use lib.Dec.{eqb, ltb}
use lib.ListN.{take, drop}
use borrow.Author.Tests.{ltb-false}
use Rattle.bits.proofs.Booleans.{or_false}
use Rattle.refusals.specs.Refusals.{refused, answered}
use Rattle.output.specs.Output.{slot_count, in_memory}
use Rattle.output.specs.declared.SampleAnswer.{SampleAnswer}
use Rattle.output.specs.WellFormed.{bad_depth}
use Rattle.buffers.specs.declared.Turns.{Turns}
use Rattle.rules.specs.declared.Device.{Device}
use Rattle.rules.specs.WellFormed as device_clauses
use Rattle.rules.specs.Run as run_rules
use Rattle.rules.proofs.WellFormed.{facts}
use Rattle.board_rules.specs.declared.Mode.{Mode}
use Rattle.board_rules.specs.declared.Mode.TheVariants.{One, Two}
use Rattle.board_rules.specs.declared.Board.{Board}
use Rattle.board_rules.specs.State.{malformed}
use Rattle.board_rules.specs.BoardCalls.{in_one}
use Rattle.board_rules.specs.BoardRuns.{one_refusal, OneRun, run, OneSample, sample}

-- A device that is not malformed holds at most 32 words.
pub few_held : (d : Device) → device_clauses.malformed d ≡ false → d.core.output.held ≤ 32
unfolding bad_depth
few_held d e =
    let o = (facts d e).output in
    let n = d.core.output.depth in
    omega (arith, o.held, ltb-false slot_count n (or_false (eqb n 0) (ltb slot_count n) o.depth).1)

-- In mode one the refusals are the device's.
same_refusal : (d : Device) (memory : List ℕ) (start : ℕ) (ws : List ℕ) → one_refusal (in_one d) memory start ws ≡ run_rules.run_refusal d memory start ws
unfolding one_refusal malformed run_rules.run_refusal
same_refusal d memory start ws = go (device_clauses.malformed d) _
  where
    go : (b : Bool) (rest : ℕ) → cond (b || false) 1 (cond b 1 rest) ≡ cond b 1 rest
    go true rest = refl
    go false rest = refl

-- In mode two they are 1 and 16.
other_refusal : (d : Device) (t : Turns) (memory : List ℕ) (start : ℕ) (ws : List ℕ)
    → let b : Board = record { device = d; mode = Two t } in one_refusal b memory start ws ≡ cond (malformed b) 1 16
unfolding one_refusal
other_refusal d t memory start ws = refl

pub refuses : (m : Bool) → eqb (cond m 1 16) 0 ≡ false
refuses true = refl
refuses false = refl

-- A board in mode one is its device in mode one.
kept_one : (b : Board) → b.mode ≡ One → in_one b.device ≡ b
kept_one b e = subst (λ (m : Mode). in_one b.device ≡ record { device = b.device; mode = m }) (sym e) refl

-- A run by the mode.
abbrev pub one_run : run_rules.RunResult → OneRun
one_run r = record { number = r.number; board = in_one r.device; memory = r.memory }

run_in_one : (d : Device) (memory : List ℕ) (start : ℕ) (ws : List ℕ) → run (in_one d) memory start ws ≡ one_run (run_rules.run d memory start ws)
unfolding run run_rules.run
run_in_one d memory start ws = rw (same_refusal d memory start ws) (go (eqb n 0))
  where
    n : ℕ
    n = run_rules.run_refusal d memory start ws

    r : run_rules.Ran
    r = run_rules.steps d (drop start memory) ws

    go : (b : Bool) → ◌≡◌ {A = OneRun}
        (record {
          number = n;
          board = cond b (in_one (cond b r.device d)) (in_one d);
          memory = cond b (cond b (take start memory ++ r.buffer) memory) memory;
        })
        (record { number = n; board = in_one (cond b r.device d); memory = cond b (take start memory ++ r.buffer) memory })
    go true = refl
    go false = refl

pub run_one : (b : Board) (memory : List ℕ) (start : ℕ) (ws : List ℕ) → b.mode ≡ One → run b memory start ws ≡ one_run (run_rules.run b.device memory start ws)
run_one b memory start ws e =
    subst (λ (m : Mode). run (record { device = b.device; mode = m }) memory start ws ≡ one_run (run_rules.run b.device memory start ws)) (sym e) (run_in_one b.device memory start ws)

-- Refused, the board is as it was.
pub run_refused : (b : Board) (memory : List ℕ) (start : ℕ) (ws : List ℕ) {n : ℕ} {m : List ℕ} → b.mode ≡ One
    → record { number = n; device = b.device; memory = m } ≡ run_rules.run b.device memory start ws
    → ◌≡◌ {A = OneRun} (record { number = n; board = b; memory = m }) (run b memory start ws)
run_refused b memory start ws {n = n} {m = m} e h =
    subst
    (λ (x : Board). ◌≡◌ {A = OneRun} (record { number = n; board = x; memory = m }) (run b memory start ws))
    (kept_one b e)
    (ap (λ (r : run_rules.RunResult). one_run r) h ∙ sym (run_one b memory start ws e))

pub run_two : (b : Board) (t : Turns) (memory : List ℕ) (start : ℕ) (ws : List ℕ) → b.mode ≡ Two t
    → run b memory start ws ≡ record { number = cond (malformed b) 1 16; board = b; memory = memory }
run_two b t memory start ws e =
    subst
    (λ (m : Mode). let x : Board = record { device = b.device; mode = m } in run x memory start ws ≡ record { number = cond (malformed x) 1 16; board = x; memory = memory })
    (sym e)
    (unfold run in rw (other_refusal b.device t memory start ws, refuses (malformed (record { device = b.device; mode = Two t }))))

-- A sample by the mode.
abbrev pub one_sample : run_rules.SampleResult → OneSample
one_sample r = record { answer = r.answer; board = in_one r.device; memory = r.memory }

sample_in_one : (d : Device) (memory : List ℕ) (start w : ℕ) → sample (in_one d) memory start w ≡ one_sample (run_rules.sample d memory start w)
unfolding sample run_rules.sample
sample_in_one d memory start w = rw (same_refusal d memory start (w ∷ [])) (go (eqb n 0))
  where
    n : ℕ
    n = run_rules.run_refusal d memory start (w ∷ [])

    r : run_rules.Stepped
    r = run_rules.step d (drop start memory) w

    a : SampleAnswer
    a = record { landing = in_memory start r.landing; packed = r.packed }

    go : (b : Bool) → ◌≡◌ {A = OneSample}
        (record {
          answer = cond b (answered a) (refused n);
          board = cond b (in_one r.device) (in_one d);
          memory = cond b (take start memory ++ r.buffer) memory;
        })
        (record { answer = cond b (answered a) (refused n); board = in_one (cond b r.device d); memory = cond b (take start memory ++ r.buffer) memory })
    go true = refl
    go false = refl

pub sample_one : (b : Board) (memory : List ℕ) (start w : ℕ) → b.mode ≡ One → sample b memory start w ≡ one_sample (run_rules.sample b.device memory start w)
sample_one b memory start w e =
    subst (λ (m : Mode). sample (record { device = b.device; mode = m }) memory start w ≡ one_sample (run_rules.sample b.device memory start w)) (sym e) (sample_in_one b.device memory start w)

pub sample_refused : (b : Board) (memory : List ℕ) (start w : ℕ) {n : ℕ} {m : List ℕ} → b.mode ≡ One
    → record { answer = refused n; device = b.device; memory = m } ≡ run_rules.sample b.device memory start w
    → ◌≡◌ {A = OneSample} (record { answer = refused n; board = b; memory = m }) (sample b memory start w)
sample_refused b memory start w {n = n} {m = m} e h =
    subst
    (λ (x : Board). ◌≡◌ {A = OneSample} (record { answer = refused n; board = x; memory = m }) (sample b memory start w))
    (kept_one b e)
    (ap (λ (r : run_rules.SampleResult). one_sample r) h ∙ sym (sample_one b memory start w e))

pub sample_two : (b : Board) (t : Turns) (memory : List ℕ) (start w : ℕ) → b.mode ≡ Two t
    → sample b memory start w ≡ record { answer = refused (cond (malformed b) 1 16); board = b; memory = memory }
sample_two b t memory start w e =
    subst
    (λ (m : Mode). let x : Board = record { device = b.device; mode = m } in sample x memory start w ≡ record { answer = refused (cond (malformed x) 1 16); board = x; memory = memory })
    (sym e)
    (unfold sample in rw (other_refusal b.device t memory start (w ∷ []), refuses (malformed (record { device = b.device; mode = Two t }))))
