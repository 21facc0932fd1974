-- What the answer of the capture rules by codes says (W6).
use Rattle.rules.specs.Capture as capture_rules
use Rattle.coded_capture.specs.declared.Coded.{Coded}

-- The state after a sample, its word, whether FRAME is due, and whether ERR rose.
abbrev pub coded : Coded → capture_rules.Captured
coded c = record { state = c.state; word = c.word; due = c.due; error = c.error }
