-- W2: a device with its buffer mode, one (at reset) or two; and what "malformed" says of it.
use Rattle.std.specs.Prelude.{Bool, true, false, not, ◌||◌, ◌^◌, ltb}
use Rattle.buffers.specs.declared.Turns.{Turns}
use Rattle.buffers.specs.Kept.{Kept}
use Rattle.output.specs.declared.Output.{Output}
use Rattle.rules.specs.declared.Device.{Device}
use Rattle.rules.specs.WellFormed as device_clauses
use Rattle.board_rules.specs.declared.Mode.{Mode}
use Rattle.board_rules.specs.declared.Mode.TheVariants.{One, Two}
use Rattle.board_rules.specs.declared.Board.{Board}

abbrev pub is_two : Mode → Bool
is_two One = false
is_two (Two t) = true

-- What is kept for two buffers, with A's next place and the number of held words, which the device has.
abbrev pub kept_of : Device → Turns → Kept
kept_of d t = record { turns = t; place_a = d.core.output.place; held = d.core.output.held }

-- "Malformed now covers both places": B's above landed. An unused FIFO slot not 0, of what a slot says of its word: its buffer, and whether it opens a frame.
unfoldable pub bad_turns : Output → Turns → Bool
bad_turns o t =
    not (ltb t.in_b (2 ^ o.held)) ||
    (not (ltb t.opening (2 ^ o.held)) ||
    ltb o.counts.landed t.place)

abbrev pub bad_mode : Output → Mode → Bool
bad_mode o One = false
bad_mode o (Two t) = bad_turns o t

unfoldable pub malformed : Board → Bool
malformed b = device_clauses.malformed b.device || bad_mode b.device.core.output b.mode
