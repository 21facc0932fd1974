-- What the unmask bits mean, and the settings that the manual describes (004, 32.3.6). Assumes nothing.
use mathlib.Core.Bool.{true, not}
use mathlib.Core.Path.{◌≡◌, refl}
use Prim.Native.Nat.{ℕ, zero, suc, ◌*◌, ◌/◌, ◌%◌, ◌^◌, ◌<◌}
use native.Mathlib.Nat.{mod-lt, mod-eq_of_lt}
use native.Mathlib.Omega.{arith}
use lib.Bits.{and_comm, and_mask, and_high}
use lib.Dec.{eqb}
use lib.Pow.{pow_pos}
use Rattle.bits.specs.Bits.{bit}
use Rattle.codes.specs.declared.Meaning.TheVariants.{FrameEnd, FrameStart, LineEnd, LineStart, Unmatched}
use Rattle.codes.specs.Meaning.{agrees, by_line_starts, starts_frame, ends_line, starts_line, unused, ends_frame, meaning}

-- Unmask 0 matches everything.
pub all_masked : (d xy : ℕ) → agrees 0 d xy ≡ true
unfolding agrees
all_masked d xy = refl

-- Unmask 0xFF matches the delimiter alone.
pub none_masked : (d xy : ℕ) → d < 2 ^ 8 → xy < 2 ^ 8 → agrees 0xFF d xy ≡ eqb xy d
unfolding agrees
none_masked d xy hd hxy = rw (and_comm 0xFF xy, and_comm 0xFF d, and_mask xy 8, and_mask d 8, mod-eq_of_lt hxy, mod-eq_of_lt hd)

-- The manual's example, FS 0xA5 with unmask 0x10: bit 4 alone tells a frame start.
pub in_bit_4 : (xy : ℕ) → agrees 0x10 0xA5 xy ≡ not (bit 4 xy)
unfolding agrees
in_bit_4 xy = rw (and_comm 0x10 xy, and_high xy 1 4) (go (xy / 2 ^ 4 % 2) (mod-lt (xy / 2 ^ 4) (pow_pos 1)))
  where
    go : (t : ℕ) → t < 2 → eqb (t * 2 ^ 4) 0 ≡ not (eqb t 1)
    go zero h = refl
    go (suc zero) h = refl
    go (suc (suc t)) h = absurd (omega arith)

-- ITU 656, the manual's mode 1: FS and FE 0xFF, LS 0x80, LE 0x9D, every bit compared. All other codes are frame ends, and FF too.
pub itu_656_starts : by_line_starts 0xFF9D80FF ≡ true
unfolding by_line_starts
itu_656_starts = refl

pub itu_656 : (meaning 0xFF9D80FF 0xFFFFFFFF 0x80 ≡ LineStart)
    × (meaning 0xFF9D80FF 0xFFFFFFFF 0x9D ≡ LineEnd)
    × (meaning 0xFF9D80FF 0xFFFFFFFF 0xAB ≡ FrameEnd)
    × (meaning 0xFF9D80FF 0xFFFFFFFF 0xB6 ≡ FrameEnd)
    × (meaning 0xFF9D80FF 0xFFFFFFFF 0xFF ≡ FrameEnd)
unfolding agrees by_line_starts starts_frame ends_line starts_line unused ends_frame meaning
itu_656 = (refl, refl, refl, refl, refl)

-- Four codes, the manual's mode 2, here FE 0xDA, LE 0xBB, LS 0xA0 and FS 0xC7, every bit compared: any other code means nothing.
pub four_codes : (meaning 0xDABBA0C7 0xFFFFFFFF 0xDA ≡ FrameEnd)
    × (meaning 0xDABBA0C7 0xFFFFFFFF 0xC7 ≡ FrameStart)
    × (meaning 0xDABBA0C7 0xFFFFFFFF 0xBB ≡ LineEnd)
    × (meaning 0xDABBA0C7 0xFFFFFFFF 0xA0 ≡ LineStart)
    × (meaning 0xDABBA0C7 0xFFFFFFFF 0xFF ≡ Unmatched)
unfolding agrees by_line_starts starts_frame ends_line starts_line unused ends_frame meaning
four_codes = (refl, refl, refl, refl, refl)

-- ESCR and ESUR as at reset: every code matches each delimiter, and frame end is the first.
pub at_reset : (xy : ℕ) → meaning 0 0 xy ≡ FrameEnd
unfolding ends_frame meaning
at_reset xy = rw (all_masked 0 xy)
