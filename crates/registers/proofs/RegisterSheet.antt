-- The register map and the fields, worked out by hand from document 01, "Registers", document 004, 32.5, and the requests, and proved by computation under one statement,
-- `register_sheet`:
--   the_map      each register's offset, access and reserved bits, and whether refusal 6 has it; offsets where no register stands
--   flags        each bit of CR is one field's; beside it FCRC and EDM, the delimiters, the unmask bits and the window, each field with another value
--   values       refusal 5, clause by clause, with the neighbours that are accepted
-- Assumes nothing.
use mathlib.Core.Bool.{Bool, true, false}
use mathlib.Core.List.{List, [], ◌∷◌, map}
use mathlib.Core.Path.{◌≡◌, refl}
use Prim.Native.Nat.{ℕ}
use lib.Dec.{eqb}
use Rattle.bits.specs.Ranges.{mask}
use Rattle.registers.specs.Map.{offset, register_at, access, is_control, is_fixed, reserved, reserved_set}
use Rattle.registers.specs.Control.{capture, snapshot, crop, jpeg, embedded, pckpol, hspol, vspol, fcrc, edm, enable, unsupported_jpeg, unsupported_codes, unsupported}
use Rattle.registers.specs.Codes.{fsc, lsc, lec, fec, fsu, lsu, leu, feu}
use Rattle.registers.specs.Window.{vst, hoffcnt, vline, capcnt}
use Rattle.registers.specs.declared.Register.{Register}
use Rattle.registers.specs.declared.Register.TheVariants.{Control, Status, RawStatus, InterruptEnable, MaskedStatus, InterruptClear, EmbeddedCode, EmbeddedUnmask, WindowStart, WindowSize}
use Rattle.registers.specs.declared.Access.{Access}
use Rattle.registers.specs.declared.Access.TheVariants.{ReadWrite, ReadOnly, WriteOnly}
use Rattle.std.specs.Prelude.{Option, Some, None}

-- A register of the map: its offset, what stands there, how it is accessed, its reserved bits as a mask, whether it is CR, and whether it is fixed while ENABLE is 1.
pub record Row : Type 0 where
  pub register : Register
  pub place : ℕ
  pub found : Option Register
  pub access : Access
  pub reserved : ℕ
  pub control : Bool
  pub fixed : Bool

abbrev row : Register → ℕ → Access → ℕ → Bool → Bool → Row
row r place access reserved control fixed =
    record { register = r; place = place; found = Some r; access = access; reserved = reserved; control = control; fixed = fixed }

-- The same by the definitions.
abbrev defined : Row → Row
defined w =
    record {
      register = w.register;
      place = offset w.register;
      found = register_at w.place;
      access = access w.register;
      reserved = mask (reserved w.register);
      control = is_control w.register;
      fixed = is_fixed w.register;
    }

unfoldable pub the_map : List Row
the_map =
    row Control 0x00 ReadWrite 0xFFFFB000 true false ∷
    row Status 0x04 ReadOnly 0xFFFFFFF8 false false ∷
    row RawStatus 0x08 ReadOnly 0xFFFFFFE0 false false ∷
    row InterruptEnable 0x0C ReadWrite 0xFFFFFFE0 false false ∷
    row MaskedStatus 0x10 ReadOnly 0xFFFFFFE0 false false ∷
    row InterruptClear 0x14 WriteOnly 0xFFFFFFE0 false false ∷
    row EmbeddedCode 0x18 ReadWrite 0 false true ∷
    row EmbeddedUnmask 0x1C ReadWrite 0 false true ∷
    row WindowStart 0x20 ReadWrite 0xE000C000 false true ∷
    row WindowSize 0x24 ReadWrite 0xC000C000 false true ∷
    []

-- The fields of CR that have one bit, in the order of these.
abbrev flags : ℕ → List Bool
flags cr = capture cr ∷ snapshot cr ∷ crop cr ∷ jpeg cr ∷ embedded cr ∷ pckpol cr ∷ hspol cr ∷ vspol cr ∷ enable cr ∷ []

-- Of nine fields the k-th alone.
abbrev only : ℕ → List Bool
only k = map (eqb k) (0 ∷ 1 ∷ 2 ∷ 3 ∷ 4 ∷ 5 ∷ 6 ∷ 7 ∷ 8 ∷ [])

-- A value of CR, and whether it is refused.
pub record Value : Type 0 where
  pub cr : ℕ
  pub is_refused : Bool

abbrev accepted : ℕ → Value
accepted cr = record { cr = cr; is_refused = false }

abbrev refused : ℕ → Value
refused cr = record { cr = cr; is_refused = true }

unfoldable pub values : List Value
values =
    -- reset, and trace T's
    accepted 0 ∷
    accepted 0x48E3 ∷
    -- CAPTURE 1 and ENABLE 0
    refused 0x0001 ∷
    accepted 0x4001 ∷
    accepted 0x4000 ∷
    -- FCRC 3
    refused 0x0300 ∷
    refused 0x4300 ∷
    accepted 0x0100 ∷
    accepted 0x0200 ∷
    -- W4: JPEG 1 with CROP 1, with EDM 1, 2, 3; each of these without JPEG
    refused 0x000C ∷
    refused 0x0408 ∷
    refused 0x0808 ∷
    refused 0x0C08 ∷
    accepted 0x0008 ∷
    accepted 0x0004 ∷
    accepted 0x0C04 ∷
    -- W6: ESS 1 with JPEG 1, with EDM 1, 2, 3; with CROP it is accepted
    refused 0x0018 ∷
    refused 0x0410 ∷
    refused 0x0810 ∷
    refused 0x0C10 ∷
    accepted 0x0010 ∷
    accepted 0x0014 ∷
    []

pub register_sheet :
    (map defined the_map ≡ the_map)
    × (map register_at (0x01 ∷ 0x26 ∷ 0x28 ∷ 0x100 ∷ []) ≡ None ∷ None ∷ None ∷ None ∷ [])
    × (map (reserved_set Control) (0x8000 ∷ 0x1000 ∷ 0x10000 ∷ 0x4FFF ∷ []) ≡ true ∷ true ∷ true ∷ false ∷ [])
    × (map flags (0x1 ∷ 0x2 ∷ 0x4 ∷ 0x8 ∷ 0x10 ∷ 0x20 ∷ 0x40 ∷ 0x80 ∷ 0x4000 ∷ []) ≡ map only (0 ∷ 1 ∷ 2 ∷ 3 ∷ 4 ∷ 5 ∷ 6 ∷ 7 ∷ 8 ∷ []))
    × (fcrc 0x0600 ∷ edm 0x0600 ∷ fcrc 0xFFFFFCFF ∷ edm 0xFFFFF3FF ∷ [] ≡ 2 ∷ 1 ∷ 0 ∷ 0 ∷ [])
    × (fsc 0x44332211 ∷ lsc 0x44332211 ∷ lec 0x44332211 ∷ fec 0x44332211 ∷ [] ≡ 0x11 ∷ 0x22 ∷ 0x33 ∷ 0x44 ∷ [])
    × (fsu 0x44332211 ∷ lsu 0x44332211 ∷ leu 0x44332211 ∷ feu 0x44332211 ∷ [] ≡ 0x11 ∷ 0x22 ∷ 0x33 ∷ 0x44 ∷ [])
    × (vst 0xFABCF234 ∷ hoffcnt 0xFABCF234 ∷ vline 0xFABCF234 ∷ capcnt 0xFABCF234 ∷ [] ≡ 0x1ABC ∷ 0x3234 ∷ 0x3ABC ∷ 0x3234 ∷ [])
    × (map (λ v. unsupported v.cr) values ≡ map (λ v. v.is_refused) values)
unfolding register_at unsupported_jpeg unsupported_codes unsupported the_map values
register_sheet = (refl, refl, refl, refl, refl, refl, refl, refl, refl)
