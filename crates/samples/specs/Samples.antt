-- A sample of the pins (document 01, "One sample"): its fields; refusal 7, which runs, files and the writer share; and samples at which VSYNC keeps its level.
use Rattle.std.specs.Prelude.{Bool, false, cond, ◌||◌, List, [], ◌∷◌, ℕ, suc, ◌^◌, leb}
use Rattle.std.specs.Bool.{beq}
use Rattle.bits.specs.Bits.{bit, field}

-- 13:0 data, 14 HSYNC pin, 15 VSYNC pin, 16 pixel clock, 17 bus grant.
abbrev pub pixel_data : ℕ → ℕ
pixel_data w = field 13 0 w

abbrev pub hsync_pin : ℕ → Bool
hsync_pin w = bit 14 w

abbrev pub vsync_pin : ℕ → Bool
vsync_pin w = bit 15 w

abbrev pub clock_pin : ℕ → Bool
clock_pin w = bit 16 w

abbrev pub bus_grant : ℕ → Bool
bus_grant w = bit 17 w

-- A sample has a bit above 17; one of some samples has.
unfoldable pub bad_sample : ℕ → Bool
bad_sample w = leb (2 ^ 18) w

unfoldable pub any_bad : List ℕ → Bool
any_bad [] = false
any_bad (w ∷ ws) = bad_sample w || any_bad ws

-- How many of some samples come before the first at which VSYNC has another level.
unfoldable pub level_run : Bool → List ℕ → ℕ
level_run level [] = 0
level_run level (w ∷ ws) = cond (beq (vsync_pin w) level) (suc (level_run level ws)) 0
