-- `log` meets its contract. The loop keeps `Turn`: what is left of trace T leads to the same end. Each turn is one sample of the rules, by a board in mode one.
use Rattle.std.proofs.Common.{refl, ap}
use Rattle.board_rules.specs.declared.Board.{Board}
use Rattle.sample_log.proofs.Turns.{written_one, next, last}
use Rattle.sample_log.proofs.log.Goals as goal

pub loop-w-init : goal.loop-w-init
loop-w-init g c = record { one = ap (λ (b : Board). b.mode) (written_one _ _ _ _ c.fresh-fresh.ensures c.write-answer.ensures c.unwrap_or-b.ensures); same = refl }

pub loop-w-preserved : goal.loop-w-preserved
loop-w-preserved g c = next c.loop-w.invariant _ _ _ c.loop-w-test.true refl c.turn-b.ensures

pub returns : goal.returns
returns g c = last c.loop-w.invariant c.loop-w-test.false (written_one _ _ _ _ c.fresh-fresh.ensures c.write-answer.ensures c.unwrap_or-b.ensures)
