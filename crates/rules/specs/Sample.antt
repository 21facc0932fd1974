-- Rules 2 to 8 of one sample whole (document 01, "One sample"): by the sync pins (`Capture`), or with ESS 1 by codes in the data (`Codes`).
use Rattle.std.specs.Prelude.{cond, ◌&&◌, ℕ, ◌%◌}
use Rattle.registers.specs.Control.{embedded}
use Rattle.samples.specs.Samples.{pixel_data}
use Rattle.rules.specs.declared.Capture.{Capture}
use Rattle.rules.specs.Capture.{Captured, no_word, flagged, working_edge, enabled, remember_pins, blanking, at_edge}
use Rattle.rules.specs.Codes.{at_byte}

-- W6 (004, 32.5.1 ESS): with ESS 1 the data are of 8 bits.
unfoldable pub byte_of : ℕ → ℕ
byte_of w = pixel_data w % 256

-- Rules 3 to 8 at a working edge.
unfoldable pub edge : Capture → ℕ → Captured
edge s w =
    cond (embedded s.registers.cr)
    (at_byte (remember_pins w s) (byte_of w))
    (at_edge (remember_pins w s) (blanking s w) (pixel_data w))

-- Rules 2 to 8: without a working edge, or with ENABLE 0, the sample is over. No rule from 3 on reads the levels that rule 2 remembers.
unfoldable pub capture_sample : Capture → ℕ → Captured
capture_sample s w = cond (working_edge s w && enabled s) (edge s w) (no_word (remember_pins w s))

-- The state after a sample that loses no word.
unfoldable pub next_capture : Capture → ℕ → Capture
next_capture s w = flagged (capture_sample s w)
