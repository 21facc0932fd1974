-- What a run leaves in the image and what it leaves in the memory, together: the image is stored by what the call answered; the call's own contract gives that and the memory
-- (docs/WRONG.md names it). Assumes nothing.
use mathlib.Core.List.{List}
use mathlib.Core.Path.{◌≡◌, ap, ◌∙◌}
use Prim.Native.Nat.{ℕ}
use Rattle.std.specs.Prelude.{Result, Ok, Err}
use Rattle.refusals.specs.declared.Refusal.{Refusal}
use Rattle.board.specs.Answers as board_answers
use Rattle.board_rules.specs.declared.Board.{Board}
use Rattle.board_rules.specs.BoardRuns.{OneRun}
use Rattle.call_rules.specs.DeviceCalls.{Called, called, changed, run_called, ran}

pub run_stored : {number : ℕ} {image' : List ℕ} {r : OneRun} (image memory' : List ℕ) (b : Board) (w : Result Board Refusal)
    → called number image' ≡ changed image (board_answers.changed b w) → board_answers.ran b w memory' ≡ r → run_called number image' memory' ≡ ran image r
run_stored image memory' b (Ok after) e f = ap (λ (x : Called). run_called x.number x.image memory') e ∙ ap (λ (x : OneRun). ran image x) f
run_stored image memory' b (Err refusal) e f = ap (λ (x : Called). run_called x.number x.image memory') e ∙ ap (λ (x : OneRun). ran image x) f
