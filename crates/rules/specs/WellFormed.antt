-- Malformed devices (document 01, "Malformed means one of"), clause by clause in the paper's order; those of FIFO, place and counts alone are in the
-- crate `output`. The list is closed.
use Rattle.std.specs.Prelude.{Bool, not, ◌&&◌, ◌||◌, List, [], ◌∷◌, ℕ, ◌*◌, ◌/◌, ◌^◌, eqb, ltb, leb}
use Rattle.bits.specs.Tests.{one_holds}
use Rattle.registers.specs.Control.{unsupported, edm, enable}
use Rattle.registers.specs.Map.{reserved_set}
use Rattle.registers.specs.declared.Register.TheVariants.{Control, InterruptEnable, WindowStart, WindowSize}
use Rattle.packing.specs.Packing.{width, per_word}
use Rattle.output.specs.WellFormed.{bad_depth, bad_fifo, bad_place, bad_counts}
use Rattle.rules.specs.declared.Registers.{Registers}
use Rattle.rules.specs.declared.Frame.{Frame}
use Rattle.rules.specs.declared.Frame.TheVariants.{Closed, Open}
use Rattle.rules.specs.declared.Capture.{Capture}
use Rattle.rules.specs.declared.Device.{Device}
use Rattle.rules.specs.State.{output_of, is_open, is_taken}
use Rattle.rules.specs.Capture.{rate_period}

-- Of a frame: its lines begun and the pixels of the last; 0 of a closed one.
abbrev pub lines : Frame → ℕ
lines Closed = 0
lines (Open taken f) = f.lines

abbrev pub pixels : Frame → ℕ
pixels Closed = 0
pixels (Open taken f) = f.pixels

-- Unused partial bits not 0. Data of fewer than a full word occupy its lowest bits, `width` for each (a second 16-bit lane would be full).
unfoldable pub unused_bits : Capture → Bool
unused_bits s = not (eqb (s.partial.bits / 2 ^ (width (edm s.registers.cr) * s.partial.count)) 0)

-- As many partial data as a full word.
unfoldable pub full_partial : Capture → Bool
full_partial s = leb (per_word (edm s.registers.cr)) s.partial.count

-- Register contents that refusals 4 and 5 exclude. ESCR and ESUR have no reserved bits (W6).
unfoldable pub excluded : Registers → Bool
excluded r =
    one_holds
    (reserved_set Control r.cr ∷
    reserved_set InterruptEnable r.ier ∷
    reserved_set WindowStart r.cwstrt ∷
    reserved_set WindowSize r.cwsize ∷
    unsupported r.cr ∷
    [])

-- RIS or IER above 31.
unfoldable pub bad_flags : Registers → Bool
bad_flags r = ltb 31 r.ris || ltb 31 r.ier

-- A frame open, a held word, a partial one or a rate counter above 0 while ENABLE is 0.
unfoldable pub active_disabled : Device → Bool
active_disabled d =
    not (enable d.core.capture.registers.cr) &&
    one_holds (is_open d.core.capture.frame ∷ ltb 0 d.core.output.held ∷ ltb 0 d.core.capture.partial.count ∷ ltb 0 d.core.capture.rate ∷ [])

-- A partial one outside a taken open frame.
unfoldable pub partial_outside : Capture → Bool
partial_outside s = ltb 0 s.partial.count && not (is_taken s.frame)

-- The rate counter not below 1, 2, 4 for its FCRC.
unfoldable pub bad_rate : Capture → Bool
bad_rate s = leb (rate_period s.registers.cr) s.rate

-- Line, column or completed above samples.
unfoldable pub above_samples : Device → Bool
above_samples d =
    one_holds
    (ltb d.core.output.counts.samples (lines d.core.capture.frame) ∷
    ltb d.core.output.counts.samples (pixels d.core.capture.frame) ∷
    ltb d.core.output.counts.samples d.core.output.counts.completed ∷
    [])

-- The clauses in the paper's order, and that of W9.
abbrev pub clauses : Device → List Bool
clauses d =
    bad_fifo (output_of d) ∷
    unused_bits d.core.capture ∷
    full_partial d.core.capture ∷
    excluded d.core.capture.registers ∷
    bad_flags d.core.capture.registers ∷
    active_disabled d ∷
    partial_outside d.core.capture ∷
    bad_rate d.core.capture ∷
    above_samples d ∷
    bad_place d.core.output ∷
    bad_counts d.core.output ∷
    bad_depth d.core.output.depth ∷
    []

-- Malformed means one of them: refusal 1.
unfoldable pub malformed : Device → Bool
malformed d = one_holds (clauses d)
