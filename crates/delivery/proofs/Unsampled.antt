-- Before the first sample all is promised, whatever the set-up calls are: no word is noted, and none is held, landed or lost. Assumes nothing.
use mathlib.Core.List.{List, [], ◌∷◌, ◌++◌, map}
use mathlib.Core.Path.{◌≡◌, refl, ap}
use Prim.Native.Nat.{ℕ}
use native.Mathlib.Omega.{arith}
use lib.ListN.{length, length-append}
use Rattle.buffers.specs.declared.Buffer.{Buffer}
use Rattle.buffers.specs.declared.Buffer.TheVariants.{A, B}
use Rattle.output.specs.Output.{with_held, holding, fresh_output, contents, laid}
use Rattle.board_rules.specs.declared.Board.{Board}
use Rattle.board_rules.specs.TwoBuffers.{part}
use Rattle.board_rules.specs.BoardRuns.{lent, memories}
use Rattle.delivery.specs.Calls.{SetUpCall, boards, Moment, after_set_up}
use Rattle.delivery.specs.Noted.{Configured, Noted, noted, noted_set_up}
use Rattle.delivery.specs.Placed.{with_noted}
use Rattle.delivery.specs.Delivery.{Scenario, Promised, All, unsampled}
use Rattle.delivery.proofs.SetUp.{Ready, one_ready}
use Rattle.delivery.proofs.OneCall.{none_some}

as_lent : (x : Scenario) (u : Buffer) → part u (memories x.lent) ≡ (lent u x.lent).memory
as_lent x A = refl
as_lent x B = refl

no_word : (before : List Noted) (w : Noted) (after : List Noted) → [] ≡ before ++ w ∷ after → ⊥
no_word before w after e = omega (arith, simp length-append at (ap length e))

promised : {depth : ℕ} (x : Scenario) (c : Configured) (b : Board) → Ready depth c b → Promised x (unsampled x b)
unfolding noted with_noted fresh_output holding with_held contents laid
promised x c b r =
    record {
      no_overrun = rw (r.is, r.no_flag);
      none_discarded = rw r.is;
      completed = rw r.is;
      in_memory = λ u. rw r.is (as_lent x u);
      held = rw r.is;
      split = rw r.is;
      in_time = λ before w after e h. absurd (no_word before w after e);
      stands = λ before w after e others. absurd (no_word before w after (rw r.is at e));
      answers = λ p e. absurd (none_some e);
    }

-- What holds of a board that is ready holds at each moment of the set-up.
pub each_unsampled : {depth : ℕ} (x : Scenario) (P : Moment → Type 0) → ((c : Configured) (b : Board) → Ready depth c b → P (unsampled x b))
    → (c : Configured) (b : Board) (cs : List SetUpCall) → Ready depth c b → All P (map (unsampled x) (boards b cs))
unfolding boards
each_unsampled x P f c b [] r = (f c b r, tt)
each_unsampled x P f c b (s ∷ cs) r = (f c b r, each_unsampled x P f (noted_set_up c s) (after_set_up b s) cs (one_ready c b s r))

pub each_promised : {depth : ℕ} (x : Scenario) (c : Configured) (b : Board) (cs : List SetUpCall) → Ready depth c b → All (Promised x) (map (unsampled x) (boards b cs))
each_promised x = each_unsampled x (Promised x) (promised x)
