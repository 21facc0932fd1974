-- Reset (document 01, "Registers"), and a state with one of its parts changed.
use Rattle.std.specs.Prelude.{Bool, true, false, ℕ}
use Rattle.bits.specs.Bits.{raised, lowered}
use Rattle.output.specs.Output.{usual_depth, OutputState, fresh_output}
use Rattle.codes.specs.declared.Waiting.{Waiting}
use Rattle.codes.specs.declared.Waiting.TheVariants.{Zero}
use Rattle.rules.specs.declared.Registers.{Registers}
use Rattle.rules.specs.declared.Pins.{Pins}
use Rattle.rules.specs.declared.Syncs.{Syncs}
use Rattle.rules.specs.declared.Frame.{Frame}
use Rattle.rules.specs.declared.Frame.TheVariants.{Closed, Open}
use Rattle.rules.specs.declared.Partial.{Partial}
use Rattle.rules.specs.declared.Capture.{Capture}
use Rattle.rules.specs.declared.Device.{Device}

-- Syncs that are both not blanking, and no partial word.
abbrev pub not_blanking : Syncs
not_blanking = record { hsync = false; vsync = false }

abbrev pub no_partial : Partial
no_partial = record { count = 0; bits = 0 }

-- A device of a capture state, and of what rules 1 and 9 change; and these of a device.
abbrev pub device : Capture → OutputState → Device
device s x = record { core = record { capture = s; output = x.output }; slots = x.slots }

abbrev pub capture_of : Device → Capture
capture_of d = d.core.capture

abbrev pub output_of : Device → OutputState
output_of d = record { output = d.core.output; slots = d.slots }

-- Reset: all registers 0, pins remembered as 0, syncs as not blanking, no frame open, no byte waiting (W6), all counts and places 0.
unfoldable pub fresh_capture : Capture
fresh_capture =
    record {
      registers = record { cr = 0; ris = 0; ier = 0; cwstrt = 0; cwsize = 0; escr = 0; esur = 0 };
      pins = record { hsync = false; vsync = false; clock = false };
      syncs = not_blanking;
      frame = Closed;
      rate = 0;
      partial = no_partial;
      waiting = Zero;
    }

-- A device made with a depth (W9), and one where none is named.
unfoldable pub fresh_of : ℕ → Device
fresh_of depth = device fresh_capture (fresh_output depth)

abbrev pub fresh : Device
fresh = fresh_of usual_depth

-- Of a frame: whether it is open, and whether it is open and taken.
abbrev pub is_open : Frame → Bool
is_open Closed = false
is_open (Open taken f) = true

abbrev pub is_taken : Frame → Bool
is_taken Closed = false
is_taken (Open taken f) = taken

-- The registers with one of them changed.
unfoldable pub with_cr : ℕ → Registers → Registers
with_cr x r = record { cr = x; ris = r.ris; ier = r.ier; cwstrt = r.cwstrt; cwsize = r.cwsize; escr = r.escr; esur = r.esur }

unfoldable pub with_ris : ℕ → Registers → Registers
with_ris x r = record { cr = r.cr; ris = x; ier = r.ier; cwstrt = r.cwstrt; cwsize = r.cwsize; escr = r.escr; esur = r.esur }

unfoldable pub with_ier : ℕ → Registers → Registers
with_ier x r = record { cr = r.cr; ris = r.ris; ier = x; cwstrt = r.cwstrt; cwsize = r.cwsize; escr = r.escr; esur = r.esur }

unfoldable pub with_cwstrt : ℕ → Registers → Registers
with_cwstrt x r = record { cr = r.cr; ris = r.ris; ier = r.ier; cwstrt = x; cwsize = r.cwsize; escr = r.escr; esur = r.esur }

unfoldable pub with_cwsize : ℕ → Registers → Registers
with_cwsize x r = record { cr = r.cr; ris = r.ris; ier = r.ier; cwstrt = r.cwstrt; cwsize = x; escr = r.escr; esur = r.esur }

unfoldable pub with_escr : ℕ → Registers → Registers
with_escr x r = record { cr = r.cr; ris = r.ris; ier = r.ier; cwstrt = r.cwstrt; cwsize = r.cwsize; escr = x; esur = r.esur }

unfoldable pub with_esur : ℕ → Registers → Registers
with_esur x r = record { cr = r.cr; ris = r.ris; ier = r.ier; cwstrt = r.cwstrt; cwsize = r.cwsize; escr = r.escr; esur = x }

-- The capture state with one part changed.
unfoldable pub with_registers : Registers → Capture → Capture
with_registers r s =
    record { registers = r; pins = s.pins; syncs = s.syncs; frame = s.frame; rate = s.rate; partial = s.partial; waiting = s.waiting }

unfoldable pub with_pins : Pins → Capture → Capture
with_pins p s =
    record { registers = s.registers; pins = p; syncs = s.syncs; frame = s.frame; rate = s.rate; partial = s.partial; waiting = s.waiting }

unfoldable pub with_syncs : Syncs → Capture → Capture
with_syncs y s =
    record { registers = s.registers; pins = s.pins; syncs = y; frame = s.frame; rate = s.rate; partial = s.partial; waiting = s.waiting }

unfoldable pub with_frame : Frame → Capture → Capture
with_frame f s =
    record { registers = s.registers; pins = s.pins; syncs = s.syncs; frame = f; rate = s.rate; partial = s.partial; waiting = s.waiting }

unfoldable pub with_rate : ℕ → Capture → Capture
with_rate n s =
    record { registers = s.registers; pins = s.pins; syncs = s.syncs; frame = s.frame; rate = n; partial = s.partial; waiting = s.waiting }

unfoldable pub with_partial : Partial → Capture → Capture
with_partial p s =
    record { registers = s.registers; pins = s.pins; syncs = s.syncs; frame = s.frame; rate = s.rate; partial = p; waiting = s.waiting }

unfoldable pub with_waiting : Waiting → Capture → Capture
with_waiting k s =
    record { registers = s.registers; pins = s.pins; syncs = s.syncs; frame = s.frame; rate = s.rate; partial = s.partial; waiting = k }

-- A flag of RIS raised (bits 0 FRAME, 1 OVR, 2 ERR, 3 VSYNC, 4 LINE).
unfoldable pub raise : ℕ → Capture → Capture
raise flag s = with_registers (with_ris (raised flag s.registers.ris) s.registers) s

-- CAPTURE becomes 0.
unfoldable pub clear_capture : Capture → Capture
clear_capture s = with_registers (with_cr (lowered 0 s.registers.cr) s.registers) s

-- The frame closed, and with it the partial word dropped.
unfoldable pub close_frame : Capture → Capture
close_frame s = with_partial no_partial (with_frame Closed s)
