-- What calls that change the board leave (document 01, "Refusal numbers").
use Rattle.std.specs.Prelude.{cond, ℕ, eqb}
use Rattle.board_rules.specs.declared.Board.{Board}

-- A call that changes the board: the refusal number, 0 where the call is accepted, and the board it leaves.
pub record Changed : Type 0 where
  pub number : ℕ
  pub board : Board

-- A refused call leaves the board as it was.
abbrev pub change : ℕ → Board → Board → Changed
change number b b' = record { number = number; board = cond (eqb number 0) b' b }
