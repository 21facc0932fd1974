-- The fields of CWSTRT and CWSIZE (document 01, "Registers"; 004, 32.5.9 and 32.5.10).
use Rattle.std.specs.Prelude.{ℕ}
use Rattle.bits.specs.Bits.{field}

abbrev pub vst : ℕ → ℕ
vst cwstrt = field 28 16 cwstrt

abbrev pub hoffcnt : ℕ → ℕ
hoffcnt cwstrt = field 13 0 cwstrt

abbrev pub vline : ℕ → ℕ
vline cwsize = field 29 16 cwsize

abbrev pub capcnt : ℕ → ℕ
capcnt cwsize = field 13 0 cwsize
