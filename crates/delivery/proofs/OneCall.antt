-- One call, over one memory or two (W2): an accepted one leaves what its samples make, one after the other; a refused one leaves everything as it was, as one that does not match the mode; and a single
-- sample says what its step answers. Assumes nothing.
use mathlib.Core.Bool.{Bool, true, false, cond, not, ◌||◌}
use mathlib.Core.List.{List, [], ◌∷◌, ◌++◌}
use Rattle.std.specs.Prelude.{None, Some}
use mathlib.Core.Path.{◌≡◌, refl, sym, ap, ◌∙◌}
use Prim.Native.Nat.{ℕ, ◌≤◌}
use native.Mathlib.Omega.{arith}
use lib.Dec.{eqb, ltb}
use lib.ListN.{length, take, drop}
use borrow.Author.Tests.{eqb-true, ltb-false, not-false}
use Rattle.buffers.specs.declared.Buffer.TheVariants.{A}
use Rattle.refusals.specs.Refusals.{◌⇒◌, refused, answered}
use Rattle.refusals.proofs.Accepted.{accepted as passed}
use Rattle.bits.proofs.Booleans.{or_false}
use Rattle.run_refusals.specs.RunRefusals.{run_tests}
use Rattle.run_refusals.proofs.Passed.{passed as run_passed}
use Rattle.rules.specs.declared.Device.{Device}
use Rattle.rules.specs.WellFormed as device_clauses
use Rattle.output.specs.declared.Packing.{Packing as Packed}
use Rattle.output.specs.declared.SampleAnswer.{SampleAnswer}
use Rattle.rules.specs.Run.{steps, run_refusal}
use Rattle.rules.specs.Run as run_rules
use Rattle.board_rules.specs.declared.Board.{Board}
use Rattle.board_rules.specs.State.{is_two, malformed}
use Rattle.board_rules.specs.TwoBuffers.{with_part, two_steps}
use Rattle.board_rules.specs.BoardRuns.{Both, beyond, memories, filled, one_refusal, two_refusal, opened}
use Rattle.board_rules.specs.declared.TwoAnswer.{TwoAnswer}
use Rattle.board_rules.specs.BoardRuns as board_runs
use Rattle.delivery.proofs.Sampling.{sampled, packs, one_steps, as_one, Reaching, many_steps, as_two}
use Rattle.delivery.specs.Calls.{one_memory, two_memories, Call, a_run, a_sample, starts_of, brings, System, lending, refusal_of, refusal, accepted, after_call, said, said_two, says}

-- What an accepted call has passed: refusal 9, and over two memories it matches the mode.
device_passed : (d : Device) (memory : List ℕ) (start : ℕ) (ws : List ℕ) → run_refusal d memory start ws ≡ 0 → start ≤ length memory
unfolding run_refusal
device_passed d memory start ws e =
    ltb-false _ _ (run_passed (device_clauses.malformed d) (ltb (length memory) start) d.core.output.counts.samples ws e).within

one_passed : (b : Board) (memory : List ℕ) (start : ℕ) (ws : List ℕ) → one_refusal b memory start ws ≡ 0 → run_refusal b.device memory start ws ≡ 0
unfolding one_refusal
one_passed b memory start ws = go (malformed b) (is_two b.mode)
  where
    go : (t u : Bool) → cond t 1 (cond u 16 (run_refusal b.device memory start ws)) ≡ 0 → run_refusal b.device memory start ws ≡ 0
    go true u e = absurd (omega arith)
    go false true e = absurd (omega arith)
    go false false e = e

two_passed : (b : Board) (l : Both) (ws : List ℕ) → two_refusal b l ws ≡ 0 → (is_two b.mode ≡ true) × Reaching l
unfolding two_refusal
two_passed b l ws e =
    let tests = malformed b ⇒ 1 ∷ not (is_two b.mode) ⇒ 16 ∷ run_tests (beyond l.a || beyond l.b) b.device.core.output.counts.samples ws in
    let (formed, (two, (fits, rest))) = passed tests (omega arith) e in
    let (a, c) = or_false (beyond l.a) (beyond l.b) fits in
    (not-false _ two, (ltb-false _ _ a, ltb-false _ _ c))

-- Whether a call is accepted.
abbrev pub accepts : System → Call → Bool
accepts s c = eqb (refusal s c) 0

-- What a call over one memory leaves, if b, and over two.
module _ (start : ℕ) (s : System) where
  abbrev one_left : Bool → List ℕ → System
  one_left b ws =
      let r = steps s.board.device (drop start s.memories.a) ws in
      let memory = cond b (take start s.memories.a ++ r.buffer) s.memories.a in
      record { board = cond b (record { device = r.device; mode = s.board.mode }) s.board; memories = with_part A memory s.memories }

  one_call : (ws : List ℕ) (b : Bool) → eqb (one_refusal s.board s.memories.a start ws) 0 ≡ b → one_left b ws ≡ cond b (sampled (one_memory start) s ws) s
  one_call ws true e =
      let n = one_passed _ _ _ ws (eqb-true _ 0 e) in
      sym (ap (λ (r : System). sampled (one_memory start) r ws) (as_one start s) ∙ one_steps start s.memories _ _ _ ws (device_passed _ _ _ ws n))
  one_call ws false e = refl

module _ (start_a start_b : ℕ) (s : System) where
  abbrev l : Both
  l = lending start_a start_b s.memories

  abbrev two_left : Bool → List ℕ → System
  two_left b ws =
      let x = two_steps (opened s.board l) ws in
      record { board = cond b (board_runs.board x) s.board; memories = cond b (filled l x.buffers) (memories l) }

  two_call : (ws : List ℕ) (b : Bool) → eqb (two_refusal s.board l ws) 0 ≡ b → two_left b ws ≡ cond b (sampled (two_memories start_a start_b) s ws) s
  two_call ws true e =
      let (two, fits) = two_passed _ _ ws (eqb-true _ 0 e) in
      sym (ap (λ (r : System). sampled (two_memories start_a start_b) r ws) (as_two start_a start_b s two) ∙ many_steps l _ ws fits)
  two_call ws false e = refl

pub after_call_is : (s : System) (c : Call) → after_call s c ≡ cond (accepts s c) (sampled (starts_of c) s (brings c)) s
unfolding after_call refusal_of board_runs.run board_runs.sample board_runs.run_two board_runs.sample_two run_rules.run steps two_steps
after_call_is s (a_run (one_memory start) ws) = go (eqb (one_refusal s.board s.memories.a start ws) 0) refl
  where
    go : (b : Bool) → eqb (one_refusal s.board s.memories.a start ws) 0 ≡ b → after_call s (a_run (one_memory start) ws) ≡ cond b (sampled (one_memory start) s ws) s
    go true e = rw (e, one_passed _ _ _ ws (eqb-true _ 0 e)) (one_call start s ws true e)
    go false e = rw e
after_call_is s (a_sample (one_memory start) w) = one_call start s (w ∷ []) _ refl
after_call_is s (a_run (two_memories start_a start_b) ws) = two_call start_a start_b s ws _ refl
after_call_is s (a_sample (two_memories start_a start_b) w) = two_call start_a start_b s (w ∷ []) _ refl

pub none_some : {p : Packed} → None ≡ Some p → ⊥
none_some e = let z : ◌≡◌ {A = ℕ} 0 1 = cc in omega arith

-- A call that says something is one accepted sample, and says what its step answers.
pub record Says (s : System) (c : Call) (p : Packed) : Type 0 where
  pub sample : ℕ
  pub accepted : accepted s c ≡ sample ∷ []
  pub packed : p ≡ packs (starts_of c) s sample

chosen_says : (b : Bool) (number : ℕ) (r : SampleAnswer) (p : Packed) → said (cond b (answered r) (refused number)) ≡ Some p → (b ≡ true) × (p ≡ r.packed)
unfolding said
chosen_says true number r p e = (refl, cc)
chosen_says false number r p e = absurd (none_some e)

chosen_two : (b : Bool) (number : ℕ) (r : TwoAnswer) (p : Packed) → said_two (cond b (answered r) (refused number)) ≡ Some p → (b ≡ true) × (p ≡ r.packed)
unfolding said_two
chosen_two true number r p e = (refl, cc)
chosen_two false number r p e = absurd (none_some e)

pub call_says : (s : System) (c : Call) (p : Packed) → says s c ≡ Some p → Says s c p
unfolding says accepted refusal_of packs board_runs.sample board_runs.sample_two
call_says s (a_run t ws) p e = absurd (none_some e)
call_says s (a_sample (one_memory start) w) p e =
    let (t, same) = chosen_says (accepts s (a_sample (one_memory start) w)) _ _ p e in
    record { sample = w; accepted = rw t; packed = same }
call_says s (a_sample (two_memories start_a start_b) w) p e =
    let (t, same) = chosen_two (accepts s (a_sample (two_memories start_a start_b) w)) _ _ p e in
    record { sample = w; accepted = rw t; packed = same }
