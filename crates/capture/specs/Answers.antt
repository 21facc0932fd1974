-- What each case of the capture rules' answer says.
use Rattle.std.specs.Prelude.{false, ℕ}
use Rattle.rules.specs.declared.Capture.{Capture}
use Rattle.rules.specs.State.{with_syncs}
use Rattle.rules.specs.Capture as capture_rules
use Rattle.capture.specs.declared.Captured.{Captured}

-- The state after a sample, in which FRAME has risen where it is due, and its word.
abbrev pub captured : Captured → capture_rules.Captured
captured c = record { state = c.state; word = c.word; due = false; error = false }

-- The state after rules 2 to 5 of a sample, without a pixel.
unfoldable pub ended : Capture → ℕ → Capture
ended s w =
    let now = capture_rules.blanking s w in
    with_syncs now (capture_rules.frame_start (capture_rules.frame_closes (capture_rules.sync_flags (capture_rules.remember_pins w s) now) now) now)

-- The most lines, and pixels of a line, that can be counted further by one in 32 bits.
abbrev pub most_lines : ℕ
most_lines = 4294967294
