-- The sync pins with ESS 1 (W6): what is left of a device, and of what a sample makes of it, without the remembered levels of HSYNC and VSYNC; and samples that differ in their bits 14 and 15
-- at most.
use Rattle.std.specs.Prelude.{false, List, [], ◌∷◌, ◌≡◌, ℕ}
use Rattle.samples.specs.Samples.{pixel_data, clock_pin, bus_grant}
use Rattle.rules.specs.declared.Capture.{Capture}
use Rattle.rules.specs.declared.Device.{Device}
use Rattle.rules.specs.State.{device, capture_of, output_of, with_pins}
use Rattle.rules.specs.Run.{Stepped}

-- Both levels taken as 0; the clock's stays.
unfoldable pub without_levels : Capture → Capture
without_levels s = with_pins (record { hsync = false; vsync = false; clock = s.pins.clock }) s

unfoldable pub unleveled : Device → Device
unleveled d = device (without_levels (capture_of d)) (output_of d)

unfoldable pub stepped_unleveled : Stepped → Stepped
stepped_unleveled r = record { device = unleveled r.device; buffer = r.buffer; landing = r.landing; packed = r.packed }

-- The same data, clock and grant.
pub record SameButSyncs (w w' : ℕ) : Type 0 where
  pub data_bits : pixel_data w ≡ pixel_data w'
  pub clock : clock_pin w ≡ clock_pin w'
  pub grant : bus_grant w ≡ bus_grant w'

abbrev pub AllSameButSyncs : List ℕ → List ℕ → Type 0
AllSameButSyncs [] [] = Unit {0}
AllSameButSyncs [] (w' ∷ ws') = ⊥
AllSameButSyncs (w ∷ ws) [] = ⊥
AllSameButSyncs (w ∷ ws) (w' ∷ ws') = SameButSyncs w w' × AllSameButSyncs ws ws'
