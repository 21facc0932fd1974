-- The calls without samples, of a board (W2): those of the device, and setting the mode. Refusal 1, the first of every call, is that of the board; a call that passes it is the device's own.
use Rattle.std.specs.Prelude.{Bool, cond, not, ◌&&◌, [], ◌∷◌, ℕ}
use Rattle.buffers.specs.Turns as turn_rules
use Rattle.refusals.specs.Refusals.{◌⇒◌, first, Answer, refused}
use Rattle.rules.specs.declared.Device.{Device}
use Rattle.rules.specs.State as state
use Rattle.rules.specs.Capture.{enabled}
use Rattle.rules.specs.RegisterCalls as register_rules
use Rattle.board_rules.specs.declared.Mode.{Mode}
use Rattle.board_rules.specs.declared.Mode.TheVariants.{One, Two}
use Rattle.board_rules.specs.declared.Board.{Board}
use Rattle.board_rules.specs.State.{malformed}
use Rattle.board_rules.specs.Answers.{Changed, change}

-- "One (at reset)". Refusal 18 where a depth is named.
abbrev pub in_one : Device → Board
in_one d = record { device = d; mode = One }

abbrev pub fresh_of : ℕ → Board
fresh_of depth = in_one (state.fresh_of depth)

abbrev pub fresh : Board
fresh = in_one state.fresh

unfoldable pub made : ℕ → Changed
made depth = record { number = (register_rules.made depth).number; board = in_one (register_rules.made depth).device }

-- A register read, and the interrupt line.
unfoldable pub read : Board → ℕ → Answer ℕ
read b offset = cond (malformed b) (refused 1) (register_rules.read b.device offset)

unfoldable pub interrupt : Board → Answer Bool
interrupt b = cond (malformed b) (refused 1) (register_rules.interrupt b.device)

-- A register write. Where ENABLE goes from 1 to 0 the held words are discarded and the open frame is closed.
unfoldable pub disabled : Device → Device → Bool
disabled d d' = enabled (state.capture_of d) && not (enabled (state.capture_of d'))

unfoldable pub mode_after : Bool → Mode → Mode
mode_after falls One = One
mode_after falls (Two t) = Two (cond falls (turn_rules.discarded t) t)

unfoldable pub write : Board → ℕ → ℕ → Changed
write b offset v =
    let r = register_rules.write b.device offset v in
    change (cond (malformed b) 1 r.number) b (record { device = r.device; mode = mode_after (disabled b.device r.device) b.mode })

-- Re-arming: every place is 0, and no frame is complete. Refusal 1.
unfoldable pub rearmed_mode : Mode → Mode
rearmed_mode One = One
rearmed_mode (Two t) = Two (turn_rules.rearmed t)

unfoldable pub rearm : Board → Changed
rearm b =
    change (first (malformed b ⇒ 1 ∷ [])) b (record { device = register_rules.rearmed b.device; mode = rearmed_mode b.mode })

-- "Setting it, also to the same, is a change and re-arms"; "mode change while enabled is 6". Refusals 1, 6.
unfoldable pub set_mode : Mode → Board → Changed
set_mode m b =
    change (first (malformed b ⇒ 1 ∷ enabled (state.capture_of b.device) ⇒ 6 ∷ [])) b
    (record { device = register_rules.rearmed b.device; mode = m })

abbrev pub one_buffer : Board → Changed
one_buffer b = set_mode One b

abbrev pub two_buffers : Board → Changed
two_buffers b = set_mode (Two turn_rules.fresh_turns) b
