-- What a board that is not malformed keeps for two buffers, as facts, and the way back. Assumes nothing.
use mathlib.Core.Bool.{false, not}
use mathlib.Core.Path.{◌≡◌}
use Prim.Native.Nat.{◌≤◌, ◌<◌, ◌^◌}
use lib.Dec.{ltb}
use borrow.Author.Tests.{ltb-true, ltb-false, le-ltb, lt-ltb, not-false}
use Rattle.bits.proofs.Booleans.{or_false, both_false, not_is_false}
use Rattle.buffers.specs.declared.Turns.{Turns}
use Rattle.output.specs.declared.Output.{Output}
use Rattle.board_rules.specs.State.{bad_turns}

pub record TurnsOk (o : Output) (t : Turns) : Type 0 where
  pub buffers : t.in_b < 2 ^ o.held
  pub opening : t.opening < 2 ^ o.held
  pub place : t.place ≤ o.counts.landed

pub turns_facts : (o : Output) (t : Turns) → bad_turns o t ≡ false → TurnsOk o t
unfolding bad_turns
turns_facts o t e =
    let (b, rest) = or_false (not (ltb t.in_b (2 ^ o.held))) _ e in
    let (p, q) = or_false (not (ltb t.opening (2 ^ o.held))) _ rest in
    record { buffers = ltb-true _ _ (not-false _ b); opening = ltb-true _ _ (not-false _ p); place = ltb-false _ _ q }

pub turns_well : (o : Output) (t : Turns) → TurnsOk o t → bad_turns o t ≡ false
unfolding bad_turns
turns_well o t k =
    both_false _ _ (not_is_false _ (lt-ltb _ _ k.buffers)) (both_false _ _ (not_is_false _ (lt-ltb _ _ k.opening)) (le-ltb _ _ k.place))
