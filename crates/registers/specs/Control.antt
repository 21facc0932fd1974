-- The fields of CR (document 01, "Registers"; 004, 32.5.1), and the values that it refuses.
use Rattle.std.specs.Prelude.{Bool, not, ◌&&◌, ◌||◌, ℕ, eqb}
use Rattle.bits.specs.Bits.{bit, field}

abbrev pub capture : ℕ → Bool
capture cr = bit 0 cr

-- CM: true is snapshot mode, false continuous grab.
abbrev pub snapshot : ℕ → Bool
snapshot cr = bit 1 cr

abbrev pub crop : ℕ → Bool
crop cr = bit 2 cr

abbrev pub jpeg : ℕ → Bool
jpeg cr = bit 3 cr

-- ESS: embedded synchronisation.
abbrev pub embedded : ℕ → Bool
embedded cr = bit 4 cr

abbrev pub pckpol : ℕ → Bool
pckpol cr = bit 5 cr

abbrev pub hspol : ℕ → Bool
hspol cr = bit 6 cr

abbrev pub vspol : ℕ → Bool
vspol cr = bit 7 cr

abbrev pub fcrc : ℕ → ℕ
fcrc cr = field 9 8 cr

abbrev pub edm : ℕ → ℕ
edm cr = field 11 10 cr

abbrev pub enable : ℕ → Bool
enable cr = bit 14 cr

-- W4 (004, 32.3.9): JPEG 1 with an EDM other than 0, or with CROP 1.
unfoldable pub unsupported_jpeg : ℕ → Bool
unsupported_jpeg cr = jpeg cr && (not (eqb (edm cr) 0) || crop cr)

-- W6 (004, 32.3.6): ESS 1 with an EDM other than 0, or with JPEG 1.
unfoldable pub unsupported_codes : ℕ → Bool
unsupported_codes cr = embedded cr && (not (eqb (edm cr) 0) || jpeg cr)

-- A CR value with JPEG 1 otherwise than with EDM 0 and CROP 0 (W4), ESS 1 otherwise than with EDM 0 and JPEG 0 (W6), FCRC 3, or CAPTURE 1 and ENABLE 0: refusal 5.
unfoldable pub unsupported : ℕ → Bool
unsupported cr = unsupported_jpeg cr || unsupported_codes cr || eqb (fcrc cr) 3 || (capture cr && not (enable cr))
