-- Where the loop over trace T stands: after the write of CR (`written_one`), one sample further (`next`), and at the end (`last`).
-- With i samples taken, the rest of trace T makes of device and memory what the whole makes of those at the start. In mode one a board's calls are the device's.
use mathlib.Core.Path.{◌≡◌, refl, sym, ap, ◌∙◌}
use mathlib.Core.List.{List}
use Prim.Native.Nat.{ℕ, ◌+◌, ◌<◌, ◌≤◌}
use native.Mathlib.Numerals.{add-one}
use lib.ListN.{get_or, drop, drop_of_length-le}
use lib.Seq.{drop-cons}
use Rattle.std.specs.Prelude.{Result, Ok, Err}
use Rattle.std.specs.Result.{result_unwrap_or}
use Rattle.refusals.specs.declared.Refusal.{Refusal}
use Rattle.rules.specs.declared.Device.{Device}
use Rattle.rules.specs.RegisterCalls as register_rules
use Rattle.rules.specs.Run.{sample}
use Rattle.rules.specs.State as state
use Rattle.board_rules.specs.declared.Mode.{Mode}
use Rattle.board_rules.specs.declared.Mode.TheVariants.{One}
use Rattle.board_rules.specs.declared.Board.{Board}
use Rattle.board_rules.specs.Answers.{Changed}
use Rattle.board_rules.specs.BoardCalls as board_calls
use Rattle.board_rules.specs.BoardCalls.{in_one}
use Rattle.board_rules.specs.BoardRuns.{OneSample}
use Rattle.board_laws.proofs.AsBefore.{one_buffer_as_before}
use Rattle.board.specs.Answers.{changed}
use Rattle.board.proofs.Modes.{sample_one}
use Rattle.sample_log.specs.Samples.{trace_t, samples, Left, left, sample_left, left_in_one}

-- the board that a call leaves: refused, the one before
left_by : (x : Board) (r : Result Board Refusal) → result_unwrap_or r x ≡ (changed x r).board
left_by x (Ok b) = refl
left_by x (Err e) = refl

-- the board after the write of CR
pub written_one : (cr : ℕ) (b x : Board) (r : Result Board Refusal) → x ≡ board_calls.fresh → changed x r ≡ board_calls.write x 0 cr → b ≡ result_unwrap_or r x
    → b ≡ in_one (register_rules.write state.fresh 0 cr).device
written_one cr b x r fresh write is =
    is ∙ left_by x r ∙ ap (λ (a : Changed). a.board) (write ∙ ap (λ (y : Board). board_calls.write y 0 cr) fresh ∙ (one_buffer_as_before state.fresh).write 0 cr)

pub record Turn (b₀ : Board) (ms : List ℕ) (b : Board) (memory : List ℕ) (i : ℕ) : Type 0 where
  pub one : b.mode ≡ One
  pub same : samples b.device memory (drop i trace_t) ≡ samples b₀.device ms trace_t

-- the next sample of trace T, taken from the rest
one_more : (d : Device) (m : List ℕ) (i w : ℕ) → i < 8 → w ≡ get_or trace_t i 0 → samples (sample d m 0 w).device (sample d m 0 w).memory (drop (i + 1) trace_t) ≡ samples d m (drop i trace_t)
unfolding samples
one_more d m i w less e = rw (add-one, drop-cons trace_t i 0 less, e) refl

pub next : {b₀ : Board} {ms : List ℕ} {b : Board} {m : List ℕ} {i : ℕ} → Turn b₀ ms b m i → (e : Board) (ys : List ℕ) (w : ℕ) → i < 8 → w ≡ get_or trace_t i 0
    → left e ys ≡ sample_left b m w → Turn b₀ ms e ys (i + 1)
next {b = b} {m = m} {i = i} t e ys w less w_is is =
    let taken : left e ys ≡ left (in_one (sample b.device m 0 w).device) (sample b.device m 0 w).memory = is ∙ ap (λ (a : OneSample). left a.board a.memory) (sample_one b m 0 w t.one) in
    record {
      one = ap (λ (a : Left). a.board.mode) taken;
      same = ap (λ (a : Left). samples a.board.device a.memory (drop (i + 1) trace_t)) taken ∙ one_more b.device m i w less w_is ∙ t.same;
    }

pub last : {b₀ : Board} {ms : List ℕ} {b : Board} {m : List ℕ} {i : ℕ} {d : Device} → Turn b₀ ms b m i → 8 ≤ i → b₀ ≡ in_one d → left b m ≡ left_in_one (samples d ms trace_t)
unfolding samples
last {ms = ms} {b = b} {m = m} t over written =
    ap (λ (a : Mode). left (record { device = b.device; mode = a }) m) t.one ∙
    ap left_in_one (ap (samples b.device m) (sym (drop_of_length-le trace_t over)) ∙ t.same ∙ ap (λ (a : Board). samples a.device ms trace_t) written)
