-- The register map: which registers there are, where, how they may be accessed, and which of their bits are reserved
-- (document 01, "Registers"; 004, 32.5 and table 271).
use Rattle.std.specs.Prelude.{Bool, true, false, cond, List, [], ◌∷◌, ℕ, eqb, Option, Some, None}
use Rattle.bits.specs.Ranges.{Range, any_set}
use Rattle.registers.specs.declared.Register.{Register}
use Rattle.registers.specs.declared.Register.TheVariants.{Control, Status, RawStatus, InterruptEnable, MaskedStatus, InterruptClear, EmbeddedCode, EmbeddedUnmask, WindowStart, WindowSize}
use Rattle.registers.specs.declared.Access.{Access}
use Rattle.registers.specs.declared.Access.TheVariants.{ReadWrite, ReadOnly, WriteOnly}

-- Offsets (004, "Address offset" of 32.5.1 to 32.5.10).
abbrev pub offset : Register → ℕ
offset Control = 0x00
offset Status = 0x04
offset RawStatus = 0x08
offset InterruptEnable = 0x0C
offset MaskedStatus = 0x10
offset InterruptClear = 0x14
offset EmbeddedCode = 0x18
offset EmbeddedUnmask = 0x1C
offset WindowStart = 0x20
offset WindowSize = 0x24

-- Every register of the base and of W6 (ESCR, ESUR), by offset.
abbrev pub every : List Register
every = Control ∷ Status ∷ RawStatus ∷ InterruptEnable ∷ MaskedStatus ∷ InterruptClear ∷ EmbeddedCode ∷ EmbeddedUnmask ∷ WindowStart ∷ WindowSize ∷ []

-- The first of some registers that has an offset.
abbrev pub among : List Register → ℕ → Option Register
among [] o = None
among (r ∷ rs) o = cond (eqb o (offset r)) (Some r) (among rs o)

-- The register at an offset, if there is one.
unfoldable pub register_at : ℕ → Option Register
register_at o = among every o

-- Access kinds, column "Access".
abbrev pub access : Register → Access
access Control = ReadWrite
access Status = ReadOnly
access RawStatus = ReadOnly
access InterruptEnable = ReadWrite
access MaskedStatus = ReadOnly
access InterruptClear = WriteOnly
access EmbeddedCode = ReadWrite
access EmbeddedUnmask = ReadWrite
access WindowStart = ReadWrite
access WindowSize = ReadWrite

-- CR.
abbrev pub is_control : Register → Bool
is_control Control = true
is_control Status = false
is_control RawStatus = false
is_control InterruptEnable = false
is_control MaskedStatus = false
is_control InterruptClear = false
is_control EmbeddedCode = false
is_control EmbeddedUnmask = false
is_control WindowStart = false
is_control WindowSize = false

-- The registers that are not written while ENABLE is 1 (refusal 6): CWSTRT and CWSIZE, and with W6 ESCR and ESUR.
abbrev pub is_fixed : Register → Bool
is_fixed Control = false
is_fixed Status = false
is_fixed RawStatus = false
is_fixed InterruptEnable = false
is_fixed MaskedStatus = false
is_fixed InterruptClear = false
is_fixed EmbeddedCode = true
is_fixed EmbeddedUnmask = true
is_fixed WindowStart = true
is_fixed WindowSize = true

-- The reserved bits of each register: all that the paper gives no name. 004 gives names to CR 20:16 (OELS, LSM, OEBS, BSM).
abbrev pub reserved : Register → List Range
reserved Control = record { high = 31; low = 15 } ∷ record { high = 13; low = 12 } ∷ []
reserved Status = record { high = 31; low = 3 } ∷ []
reserved RawStatus = record { high = 31; low = 5 } ∷ []
reserved InterruptEnable = record { high = 31; low = 5 } ∷ []
reserved MaskedStatus = record { high = 31; low = 5 } ∷ []
reserved InterruptClear = record { high = 31; low = 5 } ∷ []
reserved EmbeddedCode = []
reserved EmbeddedUnmask = []
reserved WindowStart = record { high = 31; low = 29 } ∷ record { high = 15; low = 14 } ∷ []
reserved WindowSize = record { high = 31; low = 30 } ∷ record { high = 15; low = 14 } ∷ []

-- A reserved bit of x is 1, if x is written to the register: refusal 4.
abbrev pub reserved_set : Register → ℕ → Bool
reserved_set r x = any_set (reserved r) x
