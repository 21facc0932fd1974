-- Kinds of samples: which are of each, what rules 2 to 8 make of one, and some samples of a kind, one after the other. No contract of a call that users make cites them.
use Rattle.std.specs.Prelude.{true, false, List, [], ◌∷◌, ◌≡◌, ℕ, eqb, Some}
use Rattle.registers.specs.Control.{embedded}
use Rattle.codes.specs.declared.Waiting.TheVariants.{Zero}
use Rattle.samples.specs.Samples.{bus_grant}
use Rattle.output.specs.Output.{counted, grant}
use Rattle.rules.specs.declared.Capture.{Capture}
use Rattle.rules.specs.declared.Device.{Device}
use Rattle.rules.specs.State.{capture_of, output_of}
use Rattle.rules.specs.Capture.{Captured, enabled, padded_at}
use Rattle.rules.specs.Sample.{byte_of}
use Rattle.rules.specs.Run.{complete, Stepped, step}
use Rattle.capture.specs.Answers.{ended}
use Rattle.full_word.specs.Answers.{with_word}

-- By the sync pins (ESS 0), where it pads the partial word (W4).
abbrev pub Pads : Capture → ℕ → Type 0
Pads s w = (embedded s.registers.cr ≡ false) × (padded_at s w ≡ Some s.partial.bits)

abbrev pub padded : Capture → ℕ → Captured
padded s w = with_word s.partial.bits true (ended s w)

-- By codes (ESS 1, W6); of these one whose byte is a datum by itself: none waits, and it begins no code.
abbrev pub Coded : Capture → ℕ → Type 0
Coded s w = embedded s.registers.cr ≡ true

abbrev pub IsDatum : Capture → ℕ → Type 0
IsDatum s w = Coded s w × (s.waiting ≡ Zero) × (eqb (byte_of w) 0xFF ≡ false)

-- A sample of which rules 2 to 8 make that.
unfoldable pub stepped_as : Captured → Device → List ℕ → ℕ → Stepped
stepped_as c d buffer w =
    let g = grant (bus_grant w) (enabled (capture_of d)) (counted (output_of d)) buffer in
    let r = complete c.word c g.state in
    record { device = r.device; buffer = g.buffer; landing = g.landing; packed = r.packed }

-- Samples of a kind, each where the one before leaves device and frame buffer.
unfoldable pub Each : (Capture → ℕ → Type 0) → Device → List ℕ → List ℕ → Type 0
Each Has d buffer [] = Unit {0}
Each Has d buffer (w ∷ ws) = Has (capture_of d) w × Each Has (step d buffer w).device (step d buffer w).buffer ws
