-- Where the loop over the trace stands: after mode two and the write of CR (`written`), one sample further (`next`), and at the end (`last`).
-- With i samples taken, the rest of the trace makes of board and memories what the whole makes of those at the start.
use mathlib.Core.Path.{◌≡◌, refl, sym, ap, ◌∙◌}
use mathlib.Core.List.{List}
use Prim.Native.Nat.{ℕ, ◌+◌, ◌<◌, ◌≤◌}
use native.Mathlib.Numerals.{add-one}
use lib.ListN.{get_or, drop, drop_of_length-le}
use lib.Seq.{drop-cons}
use Rattle.std.specs.Prelude.{Result, Ok, Err}
use Rattle.std.specs.Result.{result_unwrap_or}
use Rattle.refusals.specs.declared.Refusal.{Refusal}
use Rattle.board_rules.specs.declared.Board.{Board}
use Rattle.board_rules.specs.Answers.{Changed}
use Rattle.board_rules.specs.BoardCalls as board_calls
use Rattle.board.specs.Answers.{changed}
use Rattle.frame_log.specs.Frames.{three_frames, Left, left, sample_left, samples, ready}

-- the board that a call leaves: refused, the one before
left_by : (x : Board) (r : Result Board Refusal) → result_unwrap_or r x ≡ (changed x r).board
left_by x (Ok b) = refl
left_by x (Err e) = refl

-- the board after the two calls
pub written : (cr : ℕ) (x y b : Board) (two write : Result Board Refusal) → x ≡ board_calls.fresh → changed x two ≡ board_calls.two_buffers x → y ≡ result_unwrap_or two x
    → changed y write ≡ board_calls.write y 0 cr → b ≡ result_unwrap_or write y → b ≡ ready cr
written cr x y b two write fresh two_is y_is write_is b_is =
    let in_two : y ≡ (board_calls.two_buffers board_calls.fresh).board =
    y_is ∙ left_by x two ∙ ap (λ (a : Changed). a.board) (two_is ∙ ap board_calls.two_buffers fresh) in
    b_is ∙ left_by y write ∙ ap (λ (a : Changed). a.board) (write_is ∙ ap (λ (z : Board). board_calls.write z 0 cr) in_two)

-- the next sample, taken from the rest
one_more : (b : Board) (ma mb : List ℕ) (i : ℕ) → i < 24
    → let l = sample_left b ma mb (get_or three_frames i 0) in samples l.board l.a l.b (drop (i + 1) three_frames) ≡ samples b ma mb (drop i three_frames)
unfolding samples
one_more b ma mb i less = rw (add-one, drop-cons three_frames i 0 less) refl

pub next : (b : Board) (ma mb : List ℕ) (i : ℕ) (all : Left) (e : Board) (ys zs : List ℕ) → samples b ma mb (drop i three_frames) ≡ all → i < 24
    → left e ys zs ≡ sample_left b ma mb (get_or three_frames i 0) → samples e ys zs (drop (i + 1) three_frames) ≡ all
next b ma mb i all e ys zs same less is = ap (λ (l : Left). samples l.board l.a l.b (drop (i + 1) three_frames)) is ∙ one_more b ma mb i less ∙ same

pub last : (b₀ : Board) (a₀ c₀ : List ℕ) (b : Board) (ma mb : List ℕ) (i : ℕ) (d : Board) → samples b ma mb (drop i three_frames) ≡ samples b₀ a₀ c₀ three_frames → 24 ≤ i → b₀ ≡ d
    → left b ma mb ≡ samples d a₀ c₀ three_frames
unfolding samples
last b₀ a₀ c₀ b ma mb i d same over is =
    ap (samples b ma mb) (sym (drop_of_length-le three_frames over)) ∙ same ∙ ap (λ (a : Board). samples a a₀ c₀ three_frames) is
