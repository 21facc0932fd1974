-- The part that handing back names is there, and what it is, by the answer. Assumes nothing.
use mathlib.Core.Bool.{Bool, true, false, cond, not, ◌||◌}
use mathlib.Core.List.{[], ◌∷◌}
use Rattle.std.specs.Prelude.{Option, None, Some}
use mathlib.Core.Path.{◌≡◌, refl}
use Prim.Native.Nat.{ℕ, ◌-◌, ◌*◌, ◌≤◌}
use native.Mathlib.Omega.{arith}
use lib.Dec.{eqb, ltb}
use lib.ListN.{length}
use borrow.Author.Tests.{eqb-true, ltb-false}
use Rattle.bits.proofs.Booleans.{or_false}
use Rattle.refusals.specs.Refusals.{◌⇒◌, refused, answered}
use Rattle.refusals.proofs.Accepted.{accepted as passed}
use Rattle.buffers.specs.declared.Buffer.{Buffer}
use Rattle.buffers.specs.declared.Buffer.TheVariants.{A, B}
use Rattle.buffers.specs.declared.Turns.{Turns}
use Rattle.buffers.specs.Turns.{latest_complete}
use Rattle.buffers.specs.Kept.{place_in}
use Rattle.rules.specs.declared.Device.{Device}
use Rattle.board_rules.specs.declared.Board.{Board}
use Rattle.board_rules.specs.State.{is_two, kept_of, malformed}
use Rattle.board_rules.specs.BoardRuns.{Both, lent, turns_of}
use Rattle.board_rules.specs.HandingBack.{spans, span_of, beyond_span, handing_refusal, handed_from, handed_latest, latest_frame, hand_back}
use Rattle.board_rules.specs.declared.Handed.TheVariants.{TooShort as too_short, FrameIn as frame_in}
use Rattle.board.specs.Answers.{Named}

-- Of an accepted call each start is within its memory.
within : (b : Board) (l : Both) → handing_refusal b (spans l) ≡ 0 → (u : Buffer) → (lent u l).start ≤ length (lent u l).memory
unfolding handing_refusal
within b l z u =
    let tests =
    malformed b ⇒ 1 ∷
    not (is_two b.mode) ⇒ 16 ∷
    (beyond_span (spans l).a || beyond_span (spans l).b) ⇒ 9 ∷
    [] in
    let (formed, (two, (starts, rest))) = passed tests (omega arith) z in
    let (x, y) = or_false (beyond_span (spans l).a) (beyond_span (spans l).b) starts in
    go u (ltb-false _ _ x) (ltb-false _ _ y)
  where
    go : (u : Buffer) → l.a.start ≤ length l.a.memory → l.b.start ≤ length l.b.memory → (lent u l).start ≤ length (lent u l).memory
    go A x y = x
    go B x y = y

from_there : (u : Buffer) (n : ℕ) (l : Both) → (lent u l).start ≤ length (lent u l).memory → Named (answered (handed_from u n (span_of u (spans l)))) l
unfolding handed_from Named
from_there A n l h = go (ltb (length l.a.memory - l.a.start) n) refl
  where
    go : (b : Bool) → ltb (length l.a.memory - l.a.start) n ≡ b → Named (answered (cond b (too_short A n) (frame_in A n))) l
    go true e = tt
    go false e = omega (arith, ltb-false (length l.a.memory - l.a.start) n e)
from_there B n l h = go (ltb (length l.b.memory - l.b.start) n) refl
  where
    go : (b : Bool) → ltb (length l.b.memory - l.b.start) n ≡ b → Named (answered (cond b (too_short B n) (frame_in B n))) l
    go true e = tt
    go false e = omega (arith, ltb-false (length l.b.memory - l.b.start) n e)

latest_there : (o : Option Buffer) (d : Device) (t : Turns) (l : Both) → ((u : Buffer) → (lent u l).start ≤ length (lent u l).memory)
    → Named (answered (handed_latest o d t (spans l))) l
unfolding handed_latest Named
latest_there None d t l h = tt
latest_there (Some u) d t l h = from_there u (4 * place_in u (kept_of d t)) l (h u)

pub named : (b : Board) (l : Both) → Named (hand_back b l) l
unfolding latest_frame Named
named b l = go (eqb n 0) refl
  where
    n : ℕ
    n = handing_refusal b (spans l)

    t : Turns
    t = turns_of b.mode

    go : (x : Bool) → eqb (handing_refusal b (spans l)) 0 ≡ x
        → Named (cond x (answered (handed_latest (latest_complete (turns_of b.mode)) b.device (turns_of b.mode) (spans l))) (refused (handing_refusal b (spans l)))) l
    go true e = latest_there (latest_complete t) b.device t l (within b l (eqb-true n 0 e))
    go false e = tt
