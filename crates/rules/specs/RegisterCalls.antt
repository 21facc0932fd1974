-- Register reads and writes, the interrupt line, making a device and re-arming (document 01, "Registers", "Writing CR" and "Refusal numbers").
use Rattle.std.specs.Prelude.{Bool, true, false, cond, not, ◌&&◌, ◌||◌, List, [], ◌∷◌, ℕ, ◌+◌, ◌-◌, eqb, ltb, Option, Some, None}
use Rattle.std.specs.Int.Bits.{bit_and}
use Rattle.bits.specs.Bits.{field}
use Rattle.bits.specs.Tests.{number_if}
use Rattle.registers.specs.Control.{capture, embedded, hspol, vspol, enable, unsupported}
use Rattle.registers.specs.Map.{register_at, access, is_control, is_fixed, reserved_set}
use Rattle.registers.specs.declared.Register.{Register}
use Rattle.registers.specs.declared.Register.TheVariants.{Control, Status, RawStatus, InterruptEnable, MaskedStatus, InterruptClear, EmbeddedCode, EmbeddedUnmask, WindowStart, WindowSize}
use Rattle.registers.specs.declared.Access.{Access}
use Rattle.registers.specs.declared.Access.TheVariants.{ReadWrite, ReadOnly, WriteOnly}
use Rattle.codes.specs.declared.Waiting.TheVariants.{Zero}
use Rattle.rules.specs.declared.Syncs.{Syncs}
use Rattle.rules.specs.declared.Frame.TheVariants.{Closed}
use Rattle.rules.specs.declared.Registers.{Registers}
use Rattle.rules.specs.declared.Capture.{Capture}
use Rattle.rules.specs.declared.Device.{Device}
use Rattle.output.specs.Output.{with_place, discard}
use Rattle.output.specs.WellFormed.{bad_depth}
use Rattle.rules.specs.State.{device, capture_of, output_of, fresh_of, is_open, not_blanking, close_frame, with_cr, with_ris, with_ier, with_cwstrt, with_cwsize, with_escr, with_esur, with_registers, with_syncs, with_frame, with_rate, with_waiting}
use Rattle.rules.specs.Capture.{blanks}
use Rattle.rules.specs.Codes.{coded_syncs}
use Rattle.refusals.specs.Refusals.{Test, ◌⇒◌, first, Answer, answer}
use Rattle.rules.specs.Answers.{Changed, change}
use Rattle.rules.specs.WellFormed.{malformed}

-- Whether each sync blanks, for SR: by the pins of the last sample; with ESS 1 HSYNC outside a line and VSYNC outside a frame (W6).
unfoldable pub pin_syncs : Capture → Syncs
pin_syncs s =
    record { hsync = blanks s.pins.hsync (hspol s.registers.cr); vsync = blanks s.pins.vsync (vspol s.registers.cr) }

unfoldable pub shown_syncs : Capture → Syncs
shown_syncs s = cond (embedded s.registers.cr) (coded_syncs s) (pin_syncs s)

-- SR (004, 32.5.2): HSYNC and VSYNC while they blank, FNE while a word is held.
unfoldable pub status : Device → ℕ
status d =
    number_if (shown_syncs d.core.capture).hsync 1 +
    number_if (shown_syncs d.core.capture).vsync 2 +
    number_if (ltb 0 d.core.output.held) 4

-- MIS (004, 32.5.5): the bits that are 1 in both RIS and IER.
unfoldable pub masked : Registers → ℕ
masked r = bit_and r.ris r.ier

-- What a register reads as. ICR is not read.
unfoldable pub value : Device → Register → ℕ
value d Control = d.core.capture.registers.cr
value d Status = status d
value d RawStatus = d.core.capture.registers.ris
value d InterruptEnable = d.core.capture.registers.ier
value d MaskedStatus = masked d.core.capture.registers
value d InterruptClear = 0
value d EmbeddedCode = d.core.capture.registers.escr
value d EmbeddedUnmask = d.core.capture.registers.esur
value d WindowStart = d.core.capture.registers.cwstrt
value d WindowSize = d.core.capture.registers.cwsize

-- Refusal 2, of what stands at an offset; refusal 3, of a read and of a write.
abbrev pub missing : Option Register → Bool
missing None = true
missing (Some r) = false

abbrev pub no_read : Access → Bool
no_read ReadWrite = false
no_read ReadOnly = false
no_read WriteOnly = true

abbrev pub no_write : Access → Bool
no_write ReadWrite = false
no_write ReadOnly = true
no_write WriteOnly = false

abbrev pub unreadable : Option Register → Bool
unreadable None = false
unreadable (Some r) = no_read (access r)

abbrev pub unwritable : Option Register → Bool
unwritable None = false
unwritable (Some r) = no_write (access r)

abbrev pub value_at : Device → Option Register → ℕ
value_at d None = 0
value_at d (Some r) = value d r

-- A register read: refusals 1, 2, 3, or the value.
unfoldable pub read_refusal : Device → ℕ → ℕ
read_refusal d offset = first (malformed d ⇒ 1 ∷ missing (register_at offset) ⇒ 2 ∷ unreadable (register_at offset) ⇒ 3 ∷ [])

unfoldable pub read : Device → ℕ → Answer ℕ
read d offset = answer (read_refusal d offset) (value_at d (register_at offset))

-- Refusal 4: a reserved bit of the written value is 1.
abbrev pub reserved_at : Option Register → ℕ → Bool
reserved_at None v = false
reserved_at (Some r) v = reserved_set r v

-- Refusal 5: a CR value with JPEG 1 otherwise than with EDM 0 and CROP 0 (W4), ESS 1 with an EDM other than 0 or with JPEG 1 (W6), FCRC 3, or CAPTURE 1 and ENABLE 0.
abbrev pub unsupported_at : Option Register → ℕ → Bool
unsupported_at None v = false
unsupported_at (Some r) v = is_control r && unsupported v

-- A CR bit other than 0 and 14 would change: bits 13:1 or those above 14.
unfoldable pub changes_setup : ℕ → ℕ → Bool
changes_setup cr v = not (eqb (field 13 1 cr) (field 13 1 v)) || not (eqb (field 31 15 cr) (field 31 15 v))

-- Refusal 6: ENABLE is 1 and CWSTRT, CWSIZE, ESCR or ESUR (W6) is written, or a CR bit other than 0 and 14 would change.
abbrev pub fixed : ℕ → Register → ℕ → Bool
fixed cr r v = is_fixed r || (is_control r && changes_setup cr v)

abbrev pub fixed_at : ℕ → Option Register → ℕ → Bool
fixed_at cr None v = false
fixed_at cr (Some r) v = enable cr && fixed cr r v

-- A register write's refusals 2 to 6, which depend on CR alone; and all of them.
abbrev pub register_tests : ℕ → Option Register → ℕ → List Test
register_tests cr r v = missing r ⇒ 2 ∷ unwritable r ⇒ 3 ∷ reserved_at r v ⇒ 4 ∷ unsupported_at r v ⇒ 5 ∷ fixed_at cr r v ⇒ 6 ∷ []

unfoldable pub write_refusal : Device → ℕ → ℕ → ℕ
write_refusal d offset v = first (malformed d ⇒ 1 ∷ register_tests d.core.capture.registers.cr (register_at offset) v)

-- Writing CR, ENABLE 0 to 1: remembered syncs become "not blanking", no frame is open, the rate counter is 0. No byte waits (W6).
unfoldable pub enabling : Capture → Capture
enabling s = with_rate 0 (with_frame Closed (with_syncs not_blanking (with_waiting Zero s)))

-- ENABLE 1 to 0: the partial word is dropped, the frame is closed, the rate counter is 0, flags stay. Waiting bytes are dropped (W6).
unfoldable pub disabling : Capture → Capture
disabling s = with_rate 0 (close_frame (with_waiting Zero s))

unfoldable pub switch_enable : ℕ → Capture → Capture
switch_enable v s =
    cond (enable s.registers.cr) (cond (enable v) s (disabling s)) (cond (enable v) (enabling s) s)

-- CAPTURE 0 to 1 outside an open frame: the rate counter is 0.
unfoldable pub capture_rises : ℕ → Capture → Bool
capture_rises v s = not (capture s.registers.cr) && capture v && not (is_open s.frame)

unfoldable pub switch_capture : Bool → Capture → Capture
switch_capture rises s = cond rises (with_rate 0 s) s

unfoldable pub write_control : ℕ → Capture → Capture
write_control v s =
    let t = switch_capture (capture_rises v s) (switch_enable v s) in
    with_registers (with_cr v t.registers) t

-- ICR (004, 32.5.6): a 1 clears that bit of RIS.
unfoldable pub clear_flags : ℕ → Registers → Registers
clear_flags v r = with_ris (r.ris - bit_and r.ris v) r

-- An accepted register write, of the capture state. The read-only registers are not written.
unfoldable pub write_register : Register → ℕ → Capture → Capture
write_register Control v s = write_control v s
write_register Status v s = s
write_register RawStatus v s = s
write_register InterruptEnable v s = with_registers (with_ier v s.registers) s
write_register MaskedStatus v s = s
write_register InterruptClear v s = with_registers (clear_flags v s.registers) s
write_register EmbeddedCode v s = with_registers (with_escr v s.registers) s
write_register EmbeddedUnmask v s = with_registers (with_esur v s.registers) s
write_register WindowStart v s = with_registers (with_cwstrt v s.registers) s
write_register WindowSize v s = with_registers (with_cwsize v s.registers) s

-- ENABLE 1 to 0: held words are discarded.
abbrev pub disables : ℕ → Register → ℕ → Bool
disables cr r v = is_control r && enable cr && not (enable v)

-- An accepted register write, of the device.
unfoldable pub write_at : Device → Option Register → ℕ → Device
write_at d None v = d
write_at d (Some r) v =
    device (write_register r v (capture_of d))
    (cond (disables d.core.capture.registers.cr r v) (discard 0 (output_of d)) (output_of d))

-- A register write: refusals 1 to 6 in order, or its effect.
unfoldable pub write : Device → ℕ → ℕ → Changed
write d offset v = change (write_refusal d offset v) d (write_at d (register_at offset) v)

-- "A refusal returns its number and no value": what stands for no device. Its depth is 0, so that it is malformed, and every call refuses it 1.
abbrev pub no_device : Device
no_device = fresh_of 0

-- Making a device of a depth (W9): refusal 18 for depth 0 or above 32, the first check.
unfoldable pub made : ℕ → Changed
made depth = change (first (bad_depth depth ⇒ 18 ∷ [])) no_device (fresh_of depth)

-- The interrupt line is up exactly if MIS is not 0 (004, 32.4). Refusal 1.
unfoldable pub interrupt : Device → Answer Bool
interrupt d = answer (first (malformed d ⇒ 1 ∷ [])) (not (eqb (masked d.core.capture.registers) 0))

-- The device with another place for the next word.
abbrev pub placed : ℕ → Device → Device
placed k d = device (capture_of d) (record { output = with_place k d.core.output; slots = d.slots })

-- Re-arming sets the place to 0, and is accepted for every well-formed device. Refusal 1.
unfoldable pub rearmed : Device → Device
rearmed d = placed 0 d

unfoldable pub rearm : Device → Changed
rearm d = change (first (malformed d ⇒ 1 ∷ [])) d (rearmed d)
