-- `board::register_calls::write` meets its contract. Assumes nothing.
use Rattle.std.proofs.lemmas.Result.{err_from_is_err_and}
use Rattle.refusals.proofs.Numbered.{never_zero}
use Rattle.device.proofs.Refused.{not_refused}
use Rattle.board_rules.specs.BoardCalls.{write}
use Rattle.board.proofs.register_calls.write.Goals as goal

pub returns-in_err-device : goal.returns-in_err-device
unfolding write
returns-in_err-device c = let p = err_from_is_err_and c.from_residual-in_err-device.result c.from_residual-in_err-device.ensures.1 in
    rw (p.1, p.2, not_refused tt _ c.refuse_malformed.ensures c.in_ok-refuse_malformed.was, ← c.write.ensures, c.in_err-device.was, never_zero _)
