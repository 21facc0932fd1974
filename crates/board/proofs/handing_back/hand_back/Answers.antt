-- `board::handing_back::hand_back` meets its contract. Assumes nothing.
use Rattle.std.proofs.lemmas.Result.{err_from_is_err_and}
use Rattle.board_rules.specs.HandingBack.{handed_part}
use Rattle.board.specs.Answers.{both}
use Rattle.board.proofs.HandedParts.{named}
use Rattle.board.proofs.handing_back.hand_back.Goals as goal

pub part_of-part-requires : goal.part_of-part-requires
part_of-part-requires c = let a = c.args in
    rw (rw c.in_ok-frame.was at c.latest_frame.ensures) (named a.b (both a.memory_a.now a.start_a a.memory_b.now a.start_b))

pub returns-in_err-frame-clause-part : goal.returns-in_err-frame-clause-part
unfolding handed_part
returns-in_err-frame-clause-part c = let p = err_from_is_err_and c.from_residual.result c.from_residual.ensures.1 in
    rw (p.1, ← (rw c.in_err-frame.was at c.latest_frame.ensures))
