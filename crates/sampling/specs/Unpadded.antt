-- Samples by the sync pins (ESS 0) of which none pads a word (W4), from a device and frame buffer on; and how far a stretch of them reaches.
use Rattle.std.specs.Prelude.{Bool, false, cond, ◌&&◌, List, ◌≡◌, ℕ, ◌+◌, ltb, get_or, drop, None}
use Rattle.std.specs.Bool.{beq}
use Rattle.registers.specs.Control.{embedded}
use Rattle.samples.specs.Samples.{vsync_pin, level_run}
use Rattle.rules.specs.declared.Capture.{Capture}
use Rattle.rules.specs.declared.Device.{Device}
use Rattle.rules.specs.Capture.{padded_at}
use Rattle.sampling.specs.Kinds.{Each}

abbrev pub Plain : Capture → ℕ → Type 0
Plain s w = (embedded s.registers.cr ≡ false) × (padded_at s w ≡ None)

abbrev pub Unpadded : Device → List ℕ → List ℕ → Type 0
Unpadded d buffer samples = Each Plain d buffer samples

-- Of samples of which the one at `first` pads none: that one alone where a datum waits and VSYNC is at its blanking level; otherwise as far as VSYNC keeps its level.
unfoldable pub stretch : List ℕ → ℕ → ℕ → Bool → ℕ
stretch samples first waiting polarity =
    cond (ltb 0 waiting && beq (vsync_pin (get_or samples first 0)) polarity)
    (first + 1)
    (first + level_run (vsync_pin (get_or samples first 0)) (drop first samples))
