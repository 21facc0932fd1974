-- What a closed scenario comes to, by computation over the rules (`outcome`), and the premises from their test; unfolding `outcome` unfolds every rule.
-- At the end what closed scenarios are made of. Assumes nothing.
use mathlib.Core.Bool.{Bool, true, false, cond, not, ◌&&◌, ◌||◌, false≢true}
use mathlib.Core.List.{List, [], ◌∷◌, ◌++◌, map}
use mathlib.Core.Path.{◌≡◌}
use Prim.Native.Nat.{ℕ, zero, suc, ◌+◌, ◌*◌, ◌/◌, ◌%◌, ◌≤◌}
use native.Mathlib.Omega.{arith}
use lib.Dec.{eqb, ltb, leb}
use lib.ListN.{length, take, drop, replicate, length-drop}
use borrow.Author.Tests.{leb-true, le-ltb, eqb-true, ne_eqb, not-true}
use Rattle.bits.specs.Bits.{bit}
use Rattle.bits.proofs.Booleans.{and_true}
use Rattle.output.specs.Output.{contents}
use Rattle.output.specs.WellFormed.{bad_depth}
use Rattle.buffers.specs.Turns as turn_rules
use Rattle.buffers.specs.Kept.{landed_at, keep, keeps}
use Rattle.rules.specs.State.{output_of}
use Rattle.rules.proofs.EveryRule.{every_rule}
use Rattle.board_rules.specs.State as board_state
use Rattle.board_rules.specs.TwoBuffers.{frame_event, sample_events, two_step, two_steps}
use Rattle.board_rules.specs.BoardCalls as board_calls
use Rattle.board_rules.specs.BoardRuns as board_runs
use Rattle.board_rules.specs.BoardRuns.{Both, lent, frame_buffer, one_refusal, two_refusal, turns_of}
use Rattle.delivery.specs.Calls.{SetUpCall, a_write, after_set_up, after_set_ups, boards, Starts, one_memory, two_memories, Call, a_run, starts_of, System, refusal_of, refusal, accepted, after_call, samples, stepped, moments_inside, moments}
use Rattle.delivery.specs.Noted.{write_found, noted_write, with_mode, noted_set_up, noted_set_ups, word_turn, turn_after, next_turn, Noted, note, noted, any_error, spacing}
use Rattle.delivery.specs.Delivery.{grants, Scenario, set_up, trace, configured, distance, noted_by, start_bytes, OneStart, Room, Provided, Premises, All, all_moments}

-- A test that each tail of a list passes.
abbrev pub tails : (List ℕ → Bool) → List ℕ → Bool
tails f [] = f []
tails f (x ∷ xs) = f (x ∷ xs) && tails f xs

each_tail : (f : List ℕ → Bool) (xs : List ℕ) → tails f xs ≡ true → (k : ℕ) → f (drop k xs) ≡ true
each_tail f [] e zero = e
each_tail f [] e (suc k) = e
each_tail f (x ∷ xs) e zero = (and_true (f (x ∷ xs)) (tails f xs) e).0
each_tail f (x ∷ xs) e (suc k) = each_tail f xs (and_true (f (x ∷ xs)) (tails f xs) e).1 k

-- A test that each element passes.
abbrev pub each : {A : Type 0} → (A → Bool) → List A → Bool
each f [] = true
each f (x ∷ xs) = f x && each f xs

each_all : {A : Type 0} (P : A → Type 0) (f : A → Bool) → ((a : A) → f a ≡ true → P a) → (xs : List A) → each f xs ≡ true → All P xs
each_all P f is [] e = tt
each_all P f is (x ∷ xs) e = let (here, rest) = and_true (f x) (each f xs) e in (is x here, each_all P f is xs rest)

-- The premises but for that of ERR, with windows of w samples and g grants in each; three of their tests.
pub record Windows (w g : ℕ) (x : Scenario) : Type 0 where
  pub made : bad_depth x.depth ≡ false
  pub one_start : OneStart (start_bytes x) (set_up x) x.calls
  pub room : All (Room x) (noted_by x (length (trace x)))
  pub granted : (k : ℕ) → k + w ≤ length (trace x) → g ≤ grants (take w (drop k (trace x)))

-- One start, along the calls; room; grants.
abbrev same_starts : Starts → Starts → Bool
same_starts (one_memory start) (one_memory start') = eqb start start'
same_starts (one_memory start) (two_memories start_a start_b) = false
same_starts (two_memories start_a start_b) (one_memory start) = false
same_starts (two_memories start_a start_b) (two_memories start_a' start_b') = eqb start_a start_a' && eqb start_b start_b'

same_starts_true : (t u : Starts) → same_starts t u ≡ true → t ≡ u
same_starts_true (one_memory start) (one_memory start') e = rw (eqb-true start start' e)
same_starts_true (one_memory start) (two_memories start_a start_b) e = absurd (false≢true e)
same_starts_true (two_memories start_a start_b) (one_memory start) e = absurd (false≢true e)
same_starts_true (two_memories start_a start_b) (two_memories start_a' start_b') e =
    let (a, b) = and_true (eqb start_a start_a') (eqb start_b start_b') e in rw (eqb-true start_a start_a' a, eqb-true start_b start_b' b)

abbrev from_start : Starts → System → List Call → Bool
from_start t s [] = true
from_start t s (c ∷ cs) = (eqb (length (accepted s c)) 0 || same_starts (starts_of c) t) && from_start t (after_call s c) cs

from_start_true : (t : Starts) (s : System) (cs : List Call) → from_start t s cs ≡ true → OneStart t s cs
from_start_true t s [] e = tt
from_start_true t s (c ∷ cs) e =
    let none = eqb (length (accepted s c)) 0 in
    let (here, rest) = and_true (none || same_starts (starts_of c) t) (from_start t (after_call s c) cs) e in
    (λ some. same_starts_true (starts_of c) t (rw (ne_eqb (length (accepted s c)) 0 (omega arith)) at here), from_start_true t (after_call s c) cs rest)

abbrev pub has_start : Scenario → Bool
has_start x = from_start (start_bytes x) (set_up x) x.calls

abbrev fits : Scenario → Noted → Bool
fits x n = leb (4 * n.turn.number + 4) (length (frame_buffer (lent n.turn.buffer x.lent)))

abbrev pub has_room : Scenario → Bool
has_room x = each (fits x) (noted_by x (length (trace x)))

abbrev pub has_grants : ℕ → ℕ → List ℕ → Bool
has_grants w g xs = ltb (length xs) w || leb g (grants (take w xs))

-- The refusal numbers of all calls, in order, 0 of an accepted one; board and memories after them.
unfoldable pub numbers : System → List Call → List ℕ
numbers s [] = []
numbers s (c ∷ cs) = refusal s c ∷ numbers (after_call s c) cs

unfoldable pub final : System → List Call → System
final s [] = s
final s (c ∷ cs) = final (after_call s c) cs

-- Every rule of a board, every definition of the calls and of the noted words, opened by one name each.
unfoldable every_board_rule : Unit {0}
unfolding turn_rules.fresh_turns turn_rules.with_turn turn_rules.with_tags turn_rules.with_place_b turn_rules.with_latest turn_rules.with_content turn_rules.first_word turn_rules.word_held turn_rules.discarded turn_rules.word_lost turn_rules.oldest_buffer turn_rules.oldest_opens turn_rules.oldest_place turn_rules.frame_over turn_rules.last_of_frame turn_rules.word_landed turn_rules.frame_ended landed_at keep keeps board_state.bad_turns board_state.malformed frame_event sample_events two_step two_steps board_calls.disabled board_calls.mode_after board_calls.write board_calls.set_mode one_refusal two_refusal turns_of board_runs.run board_runs.sample board_runs.run_two board_runs.sample_two
every_board_rule = tt

unfoldable every_note : Unit {0}
unfolding after_set_up after_set_ups boards refusal_of accepted after_call samples stepped moments_inside moments write_found noted_write with_mode noted_set_up noted_set_ups word_turn turn_after next_turn note noted any_error spacing
every_note = tt

-- Whether a scenario has these windows, its spacing, its calls' refusal numbers, how many moments and accepted samples it has, the numbers of the samples at which
-- words are noted, and of the device at the end its counts, its held words and OVR; and whether ERR rises at a sample, by the capture rules.
pub record Outcome : Type 0 where
  pub met : Bool
  pub distance : ℕ
  pub refusals : List ℕ
  pub moments : ℕ
  pub samples : ℕ
  pub noted : List ℕ
  pub completed : ℕ
  pub landed : ℕ
  pub discarded : ℕ
  pub held : List ℕ
  pub overrun : Bool
  pub error : Bool

unfoldable pub outcome : ℕ → ℕ → Scenario → Outcome
unfolding every_rule every_board_rule every_note numbers final grants
outcome w g x =
    let d = (final (set_up x) x.calls).board.device in
    record {
      met = not (bad_depth x.depth) && (has_start x && (has_room x && tails (has_grants w g) (trace x)));
      distance = distance x;
      refusals = numbers (set_up x) x.calls;
      moments = length (all_moments x);
      samples = length (trace x);
      noted = map (λ n. n.sample) (noted_by x (length (trace x)));
      completed = d.core.output.counts.completed;
      landed = d.core.output.counts.landed;
      discarded = d.core.output.counts.discarded;
      held = contents (output_of d);
      overrun = bit 1 d.core.capture.registers.ris;
      error = any_error (configured x).capture (trace x);
    }

pub windows : (w g : ℕ) (x : Scenario) → (outcome w g x).met ≡ true → Windows w g x
unfolding outcome
windows w g x e =
    let dense = tails (has_grants w g) (trace x) in
    let (sound, rest) = and_true (not (bad_depth x.depth)) (has_start x && (has_room x && dense)) e in
    let (from, others) = and_true (has_start x) (has_room x && dense) rest in
    let (space, often) = and_true (has_room x) dense others in
    record {
      made = not-true _ sound;
      one_start = from_start_true (start_bytes x) (set_up x) x.calls from;
      room = each_all (Room x) (fits x) (λ n h. leb-true _ _ h) (noted_by x (length (trace x))) space;
      granted = λ k h. window k h (each_tail (has_grants w g) (trace x) often k);
    }
  where
    window : (k : ℕ) → k + w ≤ length (trace x) → has_grants w g (drop k (trace x)) ≡ true → g ≤ grants (take w (drop k (trace x)))
    window k h t = leb-true g _ (rw (le-ltb (length (drop k (trace x))) w (rw length-drop (omega arith))) at t)

-- The premises themselves, for s samples from word to word: but for that of ERR, and all.
pub provided : (s : ℕ) (x : Scenario) → (outcome (x.depth * s) x.depth x).met ≡ true → (outcome (x.depth * s) x.depth x).distance ≡ s → Provided x
unfolding outcome
provided s x e is = let h = windows (x.depth * s) x.depth x e in record { made = h.made; one_start = h.one_start; room = h.room; granted = rw is h.granted }

pub premises : (s : ℕ) (x : Scenario) → (outcome (x.depth * s) x.depth x).met ≡ true → (outcome (x.depth * s) x.depth x).distance ≡ s
    → (outcome (x.depth * s) x.depth x).error ≡ false → Premises x
unfolding outcome
premises s x e is calm = record { provided = provided s x e is; no_error = calm }

-- Writes of CR: 12 bits and 8 bits, snapshot, polarities 1, enabled and capturing.
abbrev pub twelve_bits : SetUpCall
twelve_bits = a_write 0 0x48E3 (omega arith)

abbrev pub eight_bits : SetUpCall
eight_bits = a_write 0 0x40E3 (omega arith)

-- JPEG (W4), continuous, polarities 1, enabled and capturing.
abbrev pub compressed : SetUpCall
compressed = a_write 0 0x40E9 (omega arith)

-- Codes in the data (W6): the four codes of mode 2, all bits compared, enabled and capturing; bytes, each at a rising clock edge; the four of a code.
abbrev pub coded : List SetUpCall
coded = a_write 0x18 0xD4C3B2A1 (omega arith) ∷ a_write 0x1C 0xFFFFFFFF (omega arith) ∷ a_write 0 0x4031 (omega arith) ∷ []

abbrev pub clocked : List ℕ → List ℕ
clocked [] = []
clocked (x ∷ xs) = x ∷ (x + 0x10000) ∷ clocked xs

abbrev pub code : ℕ → List ℕ
code xy = 0xFF ∷ 0 ∷ 0 ∷ xy ∷ []

abbrev pub granting : List ℕ → List ℕ
granting ws = map (λ w. w + 0x20000) ws

-- Pixels 1, 2, 3 and so on, at two samples each, from sample number i on, with these grants.
abbrev pub pixels : ℕ → List Bool → List ℕ
pixels i [] = []
pixels i (g ∷ gs) = (i / 2 + 1 + i % 2 * 0x10000 + cond g 0x20000 0) ∷ pixels (suc i) gs

-- Frames of one pixel, 1, 2, 3 and so on, a blank edge after each, from sample number i on, with these grants.
abbrev pub single_pixels : ℕ → List Bool → List ℕ
single_pixels i [] = []
single_pixels i (g ∷ gs) = (cond (eqb (i / 2 % 2) 0) (i / 4 + 1) 0xC000 + i % 2 * 0x10000 + cond g 0x20000 0) ∷ single_pixels (suc i) gs

-- k numbers, s apart, from n on.
abbrev pub every : ℕ → ℕ → ℕ → List ℕ
every s n zero = []
every s n (suc k) = n ∷ every s (n + s) k

-- k periods of m samples that grant and n that do not.
abbrev pub periods : ℕ → ℕ → ℕ → List Bool
periods zero m n = []
periods (suc k) m n = replicate m true ++ replicate n false ++ periods k m n

-- One memory with its start byte; the other is not lent.
abbrev pub alone : ℕ → List ℕ → Both
alone start memory = record { a = record { memory = memory; start = start }; b = record { memory = []; start = 0 } }

-- One run on a device of some depth: a blank edge and then some samples; pixels with these grants; frames of one pixel.
abbrev pub one_run_of : ℕ → SetUpCall → List ℕ → Scenario
one_run_of depth cr ws =
    record {
      depth = depth;
      set_up_calls = cr ∷ [];
      calls = a_run (one_memory 0) (0x0C000 ∷ 0x1C000 ∷ ws) ∷ [];
      lent = alone 0 (replicate (length ws) 0xEE);
    }

abbrev pub one_run : ℕ → SetUpCall → List Bool → Scenario
one_run depth cr gs = one_run_of depth cr (pixels 0 gs)

abbrev pub padded_run : ℕ → List Bool → Scenario
padded_run depth gs = one_run_of depth compressed (single_pixels 0 gs)
