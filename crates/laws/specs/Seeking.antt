-- While only a frame start counts (W6, `seeks`): whether a sample ends the search, by a frame start code or, with FSC 0xFF, a frame end code; that none of some samples does, and what they
-- leave then; and what is left after ERR or an overrun.
use Rattle.std.specs.Prelude.{Bool, true, false, not, ◌&&◌, List, [], ◌∷◌, ◌≡◌, ℕ}
use Rattle.codes.specs.declared.Meaning.{Meaning}
use Rattle.codes.specs.declared.Meaning.TheVariants.{FrameEnd, FrameStart, LineEnd, LineStart, Unmatched}
use Rattle.codes.specs.Bytes.{is_code}
use Rattle.codes.specs.Meaning.{meaning, by_line_starts}
use Rattle.rules.specs.declared.Frame.{Frame}
use Rattle.rules.specs.declared.Frame.TheVariants.{Closed, Open}
use Rattle.rules.specs.declared.Capture.{Capture}
use Rattle.rules.specs.declared.Device.{Device}
use Rattle.rules.specs.State.{no_partial, capture_of}
use Rattle.rules.specs.Capture.{working_edge, enabled}
use Rattle.rules.specs.Codes.{seeks}
use Rattle.rules.specs.Sample.{byte_of}
use Rattle.output.specs.declared.Packing.TheVariants.{Nothing as nothing}
use Rattle.rules.specs.Run.{step, steps}

unfoldable pub counts : Meaning → ℕ → Bool
counts FrameEnd escr = by_line_starts escr
counts FrameStart escr = true
counts LineEnd escr = false
counts LineStart escr = false
counts Unmatched escr = false

unfoldable pub found_by : Capture → ℕ → Bool
found_by s x = is_code s.waiting && counts (meaning s.registers.escr s.registers.esur x) s.registers.escr

unfoldable pub found_at : Capture → ℕ → Bool
found_at s w = (working_edge s w && enabled s) && found_by s (byte_of w)

unfoldable pub none_found : Device → List ℕ → List ℕ → Bool
none_found d buffer [] = true
none_found d buffer (w ∷ ws) = not (found_at (capture_of d) w) && none_found (step d buffer w).device (step d buffer w).buffer ws

-- No sample completes a word or loses one.
unfoldable pub NoWords : Device → List ℕ → List ℕ → Type 0
NoWords d buffer [] = Unit {0}
NoWords d buffer (w ∷ ws) = ((step d buffer w).packed ≡ nothing) × NoWords (step d buffer w).device (step d buffer w).buffer ws

-- The search goes on after some samples: each register is as it was, RIS too, no word has come, and none has been discarded.
pub record SearchGoesOn (d : Device) (buffer samples : List ℕ) : Type 0 where
  pub seeks : seeks (steps d buffer samples).device.core.capture ≡ true
  pub registers : (steps d buffer samples).device.core.capture.registers ≡ d.core.capture.registers
  pub no_words : NoWords d buffer samples
  pub completed : (steps d buffer samples).device.core.output.counts.completed ≡ d.core.output.counts.completed
  pub discarded : (steps d buffer samples).device.core.output.counts.discarded ≡ d.core.output.counts.discarded

-- No frame is open, no word held or partial, and only a frame start counts.
pub record Emptied (d : Device) : Type 0 where
  pub frame : d.core.capture.frame ≡ Closed
  pub partial : d.core.capture.partial ≡ no_partial
  pub held : d.core.output.held ≡ 0
  pub seeks : seeks d.core.capture ≡ true

-- In an open frame VSYNC does not blank; with ESS 1 `syncs` says so of the codes. True of every device that was made (`open_frame_runs`).
abbrev pub RunsIn : Frame → Bool → Type 0
RunsIn Closed vsync = Unit {0}
RunsIn (Open taken f) vsync = vsync ≡ false

abbrev pub Runs : Capture → Type 0
Runs s = RunsIn s.frame s.syncs.vsync
