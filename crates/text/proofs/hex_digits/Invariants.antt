use Rattle.std.proofs.Common.{◌≡◌, ◌++◌, drop, length}
use Rattle.text.specs.Text.{hex}
use Rattle.text.proofs.hex_digits.Given as goal

-- The digits that are still to come, of the rest, stand before those from i on.
abbrev pub invariant-loop-i : goal.invariant-loop-i
invariant-loop-i g l = (length l.digits ≡ g.row.N) × (hex l.i l.rest ++ drop l.i l.digits ≡ hex g.row.N l.x)
