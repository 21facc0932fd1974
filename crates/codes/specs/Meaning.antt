-- W6, from a code to its meaning (004, 32.3.6, 32.5.7 and 32.5.8): which delimiter of ESCR the XY of a code matches under the unmask bits of ESUR.
use Rattle.std.specs.Prelude.{Bool, cond, not, ◌&&◌, ◌||◌, ℕ, eqb}
use Rattle.std.specs.Int.Bits.{bit_and}
use Rattle.registers.specs.Codes.{fsc, lsc, lec, fec, fsu, lsu, leu, feu}
use Rattle.codes.specs.declared.Meaning.{Meaning}
use Rattle.codes.specs.declared.Meaning.TheVariants.{FrameEnd, FrameStart, LineEnd, LineStart, Unmatched}

-- XY and a delimiter agree on the unmask bits that are 1.
unfoldable pub agrees : ℕ → ℕ → ℕ → Bool
agrees unmask delimiter xy = eqb (bit_and unmask xy) (bit_and unmask delimiter)

-- FSC 0xFF: no code is a frame start, and the first line start after a frame end starts the frame.
unfoldable pub by_line_starts : ℕ → Bool
by_line_starts escr = eqb (fsc escr) 0xFF

-- FSC 0xFF, whatever its unmask, matches nothing.
unfoldable pub starts_frame : ℕ → ℕ → ℕ → Bool
starts_frame escr esur xy = not (by_line_starts escr) && agrees (fsu esur) (fsc escr) xy

unfoldable pub ends_line : ℕ → ℕ → ℕ → Bool
ends_line escr esur xy = agrees (leu esur) (lec escr) xy

unfoldable pub starts_line : ℕ → ℕ → ℕ → Bool
starts_line escr esur xy = agrees (lsu esur) (lsc escr) xy

-- The codes that match none of these three: the manual's unused codes.
unfoldable pub unused : ℕ → ℕ → ℕ → Bool
unused escr esur xy = not (starts_frame escr esur xy || ends_line escr esur xy || starts_line escr esur xy)

-- FEC 0xFF, whatever its unmask, matches just the unused codes.
unfoldable pub ends_frame : ℕ → ℕ → ℕ → Bool
ends_frame escr esur xy = cond (eqb (fec escr) 0xFF) (unused escr esur xy) (agrees (feu esur) (fec escr) xy)

-- Of several that match, frame end, frame start, line end, line start is the order.
unfoldable pub meaning : ℕ → ℕ → ℕ → Meaning
meaning escr esur xy =
    cond (ends_frame escr esur xy) FrameEnd
    (cond (starts_frame escr esur xy) FrameStart
    (cond (ends_line escr esur xy) LineEnd
    (cond (starts_line escr esur xy) LineStart Unmatched)))
