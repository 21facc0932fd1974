-- `turning::frame_ended` meets its contract. Assumes nothing.
use mathlib.Core.Bool.{cond, false}
use mathlib.Core.Path.{◌≡◌, ap, ◌∙◌}
use native.Mathlib.Omega.{arith}
use Rattle.std.specs.Prelude.{ltb}
use borrow.Author.Tests.{lt-ltb}
use Rattle.buffers.specs.declared.Turns.{Turns}
use Rattle.buffers.specs.Turns.{frame_ended, frame_over, with_turn}
use Rattle.turning.proofs.frame_ended.Goals as goal
use Rattle.turning.proofs.frame_ended.Goals.{then-t+then-held-eq0, else-t, else-t-via-then-t+else-held-eq0, else-t-via-else-t}

pub returns : goal.returns
unfolding frame_ended
returns c = let t = c.args.t in
    let held = c.args.held in
    let after : c.if-t.after ≡ cond t.begun (cond (ltb 0 held) t (frame_over t.turn t)) t =
    elim c.if-t.branch [
      | then-t+then-held-eq0 w ↦ rw (w.after-is, w.frame_over-after.ensures, w.if-t.true, w.if-held-eq0.true)
      | else-t w ↦ elim w.else-t.branch [
        | else-t-via-then-t+else-held-eq0 w' ↦ rw (w.after-is, w'.if-t.true, lt-ltb 0 held (omega arith))
        | else-t-via-else-t w' ↦ rw (w.after-is, w'.if-t.false)
      ]
    ] in
    c.with_turn.ensures ∙ ap (λ (x : Turns). with_turn t.turn false x) after
