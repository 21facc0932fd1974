-- Rules as they stood before a request, for the laws that say what it leaves as it was.
use Rattle.std.specs.Prelude.{false, cond, ◌&&◌, List, [], ◌∷◌, ℕ, Option, None, Some}
use Rattle.registers.specs.Control.{snapshot}
use Rattle.samples.specs.Samples.{pixel_data, bus_grant}
use Rattle.output.specs.Output.{OutputState, grant, offer, counted}
use Rattle.output.specs.declared.Packing.TheVariants.{Nothing as nothing}
use Rattle.rules.specs.declared.Syncs.{Syncs}
use Rattle.rules.specs.declared.Frame.{Frame}
use Rattle.rules.specs.declared.Frame.TheVariants.{Closed, Open}
use Rattle.rules.specs.declared.Capture.{Capture}
use Rattle.rules.specs.declared.Device.{Device}
use Rattle.rules.specs.State.{device, capture_of, output_of, with_syncs, raise, clear_capture, close_frame}
use Rattle.rules.specs.Capture.{Captured, no_word, flagged, working_edge, enabled, remember_pins, blanking, sync_flags, frame_start, pixel_edge, at_edge}
use Rattle.rules.specs.Unpadded.{unpadded_sample}
use Rattle.rules.specs.Run.{Completed, after_word, Stepped}

-- Before W1, rule 4 in document 01's words: an open frame closes when VSYNC blanks. A partial word is dropped. If the frame was one of those taken, FRAME rises and, with CM 1,
-- CAPTURE becomes 0.
unfoldable pub ends_before_W1 : Frame → Capture → Capture
ends_before_W1 Closed s = s
ends_before_W1 (Open taken f) s =
    close_frame (cond taken (cond (snapshot s.registers.cr) (clear_capture (raise 0 s)) (raise 0 s)) s)

unfoldable pub frame_end_before_W1 : Capture → Syncs → Capture
frame_end_before_W1 s now = cond now.vsync (ends_before_W1 s.frame s) s

-- Before W1, rules 3 to 8 at a working edge, and rules 2 to 8: FRAME rises in them, and none is due after them.
unfoldable pub at_edge_before_W1 : Capture → Syncs → ℕ → Captured
at_edge_before_W1 s now x =
    let p = pixel_edge (frame_start (frame_end_before_W1 (sync_flags s now) now) now) now x in
    record { state = with_syncs now p.state; word = p.word; due = false; error = false }

unfoldable pub capture_sample_before_W1 : Capture → ℕ → Captured
capture_sample_before_W1 s w =
    cond (working_edge s w && enabled s)
    (at_edge_before_W1 (remember_pins w s) (blanking s w) (pixel_data w))
    (no_word (remember_pins w s))

-- Before W6: the rules 2 to 8 by the sync pins alone, whatever ESS is.
unfoldable pub capture_sample_before_W6 : Capture → ℕ → Captured
capture_sample_before_W6 s w =
    cond (working_edge s w && enabled s)
    (at_edge (remember_pins w s) (blanking s w) (pixel_data w))
    (no_word (remember_pins w s))

-- Before W6, rule 9: ERR never rises, and where no full word came nothing is discarded.
unfoldable pub complete_before_W6 : Option ℕ → Captured → OutputState → Completed
complete_before_W6 None c x = record { device = device (flagged c) x; packed = nothing }
complete_before_W6 (Some v) c x = after_word (offer v x).fate v c (offer v x).state

-- The nine rules with such rules 2 to 8, and with that rule 9.
unfoldable pub step_by : (Capture → ℕ → Captured) → Device → List ℕ → ℕ → Stepped
step_by captures d buffer w =
    let s = capture_of d in
    let g = grant (bus_grant w) (enabled s) (counted (output_of d)) buffer in
    let c = complete_before_W6 (captures s w).word (captures s w) g.state in
    record { device = c.device; buffer = g.buffer; landing = g.landing; packed = c.packed }

abbrev pub step_before_W1 : Device → List ℕ → ℕ → Stepped
step_before_W1 = step_by capture_sample_before_W1

-- Before W4 no sample padded a word.
abbrev pub step_before_W4 : Device → List ℕ → ℕ → Stepped
step_before_W4 = step_by unpadded_sample

abbrev pub step_before_W6 : Device → List ℕ → ℕ → Stepped
step_before_W6 = step_by capture_sample_before_W6

-- What some samples make of device and frame buffer one after the other, by one rule or another for a sample: both, and the answers, after each.
unfoldable pub stepped_by : (Device → List ℕ → ℕ → Stepped) → Device → List ℕ → List ℕ → List Stepped
stepped_by rule d buffer [] = []
stepped_by rule d buffer (w ∷ ws) = let r = rule d buffer w in r ∷ stepped_by rule r.device r.buffer ws
