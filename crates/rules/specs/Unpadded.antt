-- Rules 2 to 8 of a sample by the sync pins that pads no word (W4), as the code has them: FRAME rises within rule 4, and none is due after the sample. That rule 9 then
-- leaves what it leaves of `capture_sample` is a law (crate laws, `step_unpadded`).
use Rattle.std.specs.Prelude.{false, cond, ◌&&◌, ℕ}
use Rattle.samples.specs.Samples.{pixel_data}
use Rattle.rules.specs.declared.Syncs.{Syncs}
use Rattle.rules.specs.declared.Capture.{Capture}
use Rattle.rules.specs.State.{raise, with_syncs}
use Rattle.rules.specs.Capture.{Captured, no_word, working_edge, enabled, remember_pins, blanking, sync_flags, frame_due, frame_closes, frame_start, pixel_edge}

-- Rule 4 with W1 (004, 32.3.6, 32.5.3 FRAME_RIS) where no word is padded: FRAME, and then the frame's end, which drops a partial word.
unfoldable pub unpadded_end : Capture → Syncs → Capture
unpadded_end s now = frame_closes (cond (frame_due s.frame s now) (raise 0 s) s) now

-- Rules 3 to 8 at such a working edge.
unfoldable pub unpadded_edge : Capture → Syncs → ℕ → Captured
unpadded_edge s now x =
    let carried = pixel_edge (frame_start (unpadded_end (sync_flags s now) now) now) now x in
    record { state = with_syncs now carried.state; word = carried.word; due = false; error = false }

-- Rules 2 to 8 of such a sample.
unfoldable pub unpadded_sample : Capture → ℕ → Captured
unpadded_sample s w =
    cond (working_edge s w && enabled s)
    (unpadded_edge (remember_pins w s) (blanking s w) (pixel_data w))
    (no_word (remember_pins w s))
