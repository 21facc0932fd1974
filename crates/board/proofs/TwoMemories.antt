-- Calls over two memories, by the mode: in mode one they are refused; in mode two they pass the other tests in order, and then the samples run over both frame buffers.
-- Assumes nothing.
use mathlib.Core.Bool.{Bool, false, cond, ◌||◌}
use mathlib.Core.List.{List, [], ◌∷◌}
use Rattle.std.specs.Prelude.{Option}
use mathlib.Core.Path.{◌≡◌, refl, sym, ap, subst, ◌∙◌}
use Prim.Native.Nat.{ℕ, ◌+◌, ◌≤◌, ◌<◌, ◌^◌}
use native.Mathlib.Omega.{arith}
use lib.Dec.{eqb}
use lib.ListN.{length}
use borrow.Author.Tests.{ltb-false}
use Rattle.bits.proofs.Booleans.{or_false}
use Rattle.refusals.specs.Refusals.{Test, ◌⇒◌, first, refused, answered}
use Rattle.refusals.proofs.Accepted.{accepted as passed}
use Rattle.run_refusals.specs.RunRefusals.{run_tests, refusal_of}
use Rattle.output.specs.Output.{slot_count}
use Rattle.output.specs.WellFormed.{Laid}
use Rattle.buffers.specs.declared.Turns.{Turns}
use Rattle.rules.specs.declared.Device.{Device}
use Rattle.rules.specs.State.{output_of}
use Rattle.rules.specs.WellFormed as device_clauses
use Rattle.rules.proofs.WellFormed.{WellFormed}
use Rattle.board_rules.specs.declared.Mode.{Mode}
use Rattle.board_rules.specs.declared.Mode.TheVariants.{One, Two}
use Rattle.board_rules.specs.declared.Board.{Board}
use Rattle.board_rules.specs.State.{bad_turns, malformed}
use Rattle.board_rules.specs.TwoBuffers as buffer_rules
use Rattle.board_rules.specs.TwoBuffers.{two_step}
use Rattle.board_rules.specs.BoardRuns.{Both, frame_buffer, beyond, memories, buffers, filled, turns_of, board, two_refusal, TwoRun, run_two, TwoSample, sample_two}
use Rattle.board_rules.proofs.WellFormed.{TurnsOk, turns_facts}
use Rattle.sampling.proofs.Ready.{ready}
use Rattle.board.proofs.Modes.{refuses}
use Rattle.board.proofs.TwoLandings.{same_landing}
use Rattle.board_rules.specs.declared.Landing.{Landing}
use Rattle.board.specs.Answers.{pair, Accepted, LeftTwo, left_two, ran_two, in_memories}

-- What holds of a board in a mode holds of every board with that mode.
in_mode : (P : Board → Type 0) (b : Board) (m : Mode) → b.mode ≡ m → P (record { device = b.device; mode = m }) → P b
in_mode P b m e p = subst (λ (x : Mode). P (record { device = b.device; mode = x })) (sym e) p

-- The refusals in mode one: 1 and 16.
refused_one : (b : Board) (l : Both) (ws : List ℕ) → b.mode ≡ One → two_refusal b l ws ≡ cond (malformed b) 1 16
unfolding two_refusal
refused_one b l ws e = in_mode (λ (x : Board). two_refusal x l ws ≡ cond (malformed x) 1 16) b One e refl

-- In mode two: 1, 9, 7, 8.
abbrev tests_of : Board → Both → List ℕ → List Test
tests_of b l ws = malformed b ⇒ 1 ∷ run_tests (beyond l.a || beyond l.b) b.device.core.output.counts.samples ws

refused_two : (b : Board) (t : Turns) (l : Both) (ws : List ℕ) → b.mode ≡ Two t → two_refusal b l ws ≡ first (tests_of b l ws)
unfolding two_refusal
refused_two b t l ws e = in_mode (λ (x : Board). two_refusal x l ws ≡ first (tests_of x l ws)) b (Two t) e refl

-- From the value of the test for malformed boards.
pub refusal_by : (b : Board) (t : Turns) (l : Both) (ws : List ℕ) {bad : Bool} {n : ℕ} → b.mode ≡ Two t → bad ≡ malformed b
    → n ≡ refusal_of bad (beyond l.a || beyond l.b) b.device.core.output.counts.samples ws
    → two_refusal b l ws ≡ n
refusal_by b t l ws e is given = refused_two b t l ws e ∙ rw (← is) (sym given)

-- An accepted call finds a well-formed device and turns, starts within the memories, and no more samples than can be counted.
pub record Passed (b : Board) (t : Turns) (l : Both) (ws : List ℕ) : Type 0 where
  pub accepts : Accepted b.device t (length ws)
  pub in_a : l.a.start ≤ length l.a.memory
  pub in_b : l.b.start ≤ length l.b.memory

pub passes : (b : Board) (t : Turns) (l : Both) (ws : List ℕ) → b.mode ≡ Two t → two_refusal b l ws ≡ 0 → Passed b t l ws
passes b t l ws e z =
    let (formed, (starts, (good, (counted, rest)))) = passed (tests_of b l ws) (omega arith) (sym (refused_two b t l ws e) ∙ z) in
    let (x, y) = or_false (beyond l.a) (beyond l.b) starts in
    let (d, m) = whole formed in
    record {
      accepts = record { well = d; turns = m; fits = omega (arith, ltb-false 4294967295 (b.device.core.output.counts.samples + length ws) counted) };
      in_a = ltb-false _ _ x;
      in_b = ltb-false _ _ y;
    }
  where
    whole : malformed b ≡ false → (device_clauses.malformed b.device ≡ false) × (bad_turns b.device.core.output t ≡ false)
    whole formed =
        in_mode
        (λ (x : Board). malformed x ≡ false → (device_clauses.malformed x.device ≡ false) × (bad_turns x.device.core.output t ≡ false))
        b
        (Two t)
        e
        (unfold malformed in λ h. or_false _ _ h)
        formed

-- What the samples ask of a device with all its slots, and what they leave of it and the frame buffers.
pub asked : (d : Device) (t : Turns) (n : ℕ) → length d.slots ≡ slot_count → Accepted d t n
    → WellFormed d × (TurnsOk d.core.output t × (Laid (output_of d) × (d.core.output.counts.samples + n < 2 ^ 32)))
asked d t n all a = let (well, laid) = ready d all a.well in (well, (turns_facts d.core.output t a.turns, (laid, a.fits)))

abbrev pub left : buffer_rules.Two → LeftTwo
left x = record { board = board x; buffers = x.buffers }

-- A run that is refused, and one that is accepted.
pub run_refused : (b : Board) (l : Both) (ws : List ℕ) (n : ℕ) → two_refusal b l ws ≡ n → eqb n 0 ≡ false
    → run_two b l ws ≡ record { number = n; board = b; memories = memories l }
unfolding run_two
run_refused b l ws n is never = rw (is, never)

pub run_in_one : (b : Board) (l : Both) (ws : List ℕ) → b.mode ≡ One
    → run_two b l ws ≡ record { number = cond (malformed b) 1 16; board = b; memories = memories l }
run_in_one b l ws e = run_refused b l ws _ (refused_one b l ws e) (refuses (malformed b))

pub run_accepted : (b : Board) (t : Turns) (l : Both) (ws : List ℕ) {after : Board} {x y : List ℕ} → b.mode ≡ Two t → two_refusal b l ws ≡ 0
    → left_two after x y ≡ ran_two b.device t (frame_buffer l.a) (frame_buffer l.b) ws
    → ◌≡◌ {A = TwoRun} (record { number = 0; board = after; memories = filled l (pair x y) }) (run_two b l ws)
unfolding run_two turns_of ran_two
run_accepted b t l ws e is ran = rw (is, e) (ap (λ (r : LeftTwo). record { number = 0; board = r.board; memories = filled l r.buffers }) ran)

-- A sample.
pub sample_refused : (b : Board) (l : Both) (w n : ℕ) → two_refusal b l (w ∷ []) ≡ n → eqb n 0 ≡ false
    → sample_two b l w ≡ record { answer = refused n; board = b; memories = memories l }
unfolding sample_two
sample_refused b l w n is never = rw (is, never)

pub sample_in_one : (b : Board) (l : Both) (w : ℕ) → b.mode ≡ One
    → sample_two b l w ≡ record { answer = refused (cond (malformed b) 1 16); board = b; memories = memories l }
sample_in_one b l w e = sample_refused b l w _ (refused_one b l (w ∷ []) e) (refuses (malformed b))

pub sample_accepted : (b : Board) (t : Turns) (l : Both) (w : ℕ) {r : buffer_rules.TwoStepped} {o : Option Landing}
    → b.mode ≡ Two t → two_refusal b l (w ∷ []) ≡ 0
    → r ≡ two_step (record { device = b.device; turns = t; buffers = buffers l }) w → o ≡ in_memories l.a.start l.b.start r.landing
    → ◌≡◌ {A = TwoSample}
    (record { answer = answered (record { landing = o; packed = r.packed }); board = board r.after; memories = filled l r.after.buffers })
    (sample_two b l w)
unfolding sample_two turns_of
sample_accepted b t l w {r = r} e is stepped landed = rw (is, e, ← stepped, landed, same_landing l r.landing)
