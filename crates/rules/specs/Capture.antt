-- Rules 2 to 8 of one sample (document 01, "One sample"), over the capture state: no FIFO, no memory and no grant. A sample answers
-- no word or one for rule 9, and whether FRAME is due after it. Each rule is a definition of its own, in the paper's order; the manual's section stands beside its number.
-- With ESS 1 codes stand in place of the sync pins (W6): `Codes`. A sample whole: `Sample`.
use Rattle.std.specs.Prelude.{Bool, false, cond, not, ◌&&◌, ◌||◌, ℕ, ◌+◌, ◌-◌, ◌%◌, eqb, ltb, leb, Option, None, Some}
use Rattle.std.specs.Bool.{beq}
use Rattle.registers.specs.Control.{capture, snapshot, crop, jpeg, pckpol, hspol, vspol, fcrc, edm, enable}
use Rattle.samples.specs.Samples.{hsync_pin, vsync_pin, clock_pin}
use Rattle.packing.specs.Packing.{per_word, joined, zero_filled}
use Rattle.rules.specs.declared.Syncs.{Syncs}
use Rattle.rules.specs.declared.Scan.{Scan}
use Rattle.rules.specs.declared.Frame.{Frame}
use Rattle.rules.specs.declared.Frame.TheVariants.{Closed, Open}
use Rattle.rules.specs.declared.Capture.{Capture}
use Rattle.rules.specs.CropWindow.{lines_to_window_end, inside}
use Rattle.rules.specs.State.{no_partial, raise, clear_capture, close_frame, with_pins, with_syncs, with_frame, with_rate, with_partial}

-- What the rules 2 to 8 make of a sample: the state after it; the full word, or the padded one (W4), if there is one; whether FRAME is due; and
-- whether ERR rose (W6): then the held words are discarded.
pub record Captured : Type 0 where
  pub state : Capture
  pub word : Option ℕ
  pub due : Bool
  pub error : Bool

unfoldable pub no_word : Capture → Captured
no_word s = record { state = s; word = None; due = false; error = false }

-- FRAME, where it is due. W4: it rises after rule 9, and not with a word that overruns.
unfoldable pub flagged : Captured → Capture
flagged c = cond c.due (raise 0 c.state) c.state

-- Rule 2 (004, 32.5.1 PCKPOL): the clock fell (PCKPOL 0) or rose (PCKPOL 1) since the last sample.
unfoldable pub working_edge : Capture → ℕ → Bool
working_edge s w =
    cond (pckpol s.registers.cr) (not s.pins.clock && clock_pin w) (s.pins.clock && not (clock_pin w))

-- Rule 2: ENABLE is 1.
abbrev pub enabled : Capture → Bool
enabled s = enable s.registers.cr

-- Rule 2: the sample's levels are remembered.
unfoldable pub remember_pins : ℕ → Capture → Capture
remember_pins w s = with_pins (record { hsync = hsync_pin w; vsync = vsync_pin w; clock = clock_pin w }) s

-- Rule 3 (004, 32.3.6, 32.5.1 VSPOL and HSPOL): a pin blanks when it equals its polarity bit.
abbrev pub blanks : Bool → Bool → Bool
blanks level polarity = beq level polarity

unfoldable pub blanking : Capture → ℕ → Syncs
blanking s w =
    record { hsync = blanks (hsync_pin w) (hspol s.registers.cr); vsync = blanks (vsync_pin w) (vspol s.registers.cr) }

-- A sync blanks.
abbrev pub any_blanks : Syncs → Bool
any_blanks now = now.hsync || now.vsync

-- Rule 3 (004, 32.5.3 VSYNC_RIS and LINE_RIS): a sync that did not blank at the last working edge, `s.syncs`, and blanks now raises its flag.
unfoldable pub vsync_flag : Capture → Syncs → Capture
vsync_flag s now = cond (not s.syncs.vsync && now.vsync) (raise 3 s) s

unfoldable pub line_flag : Capture → Syncs → Capture
line_flag s now = cond (not s.syncs.hsync && now.hsync) (raise 4 s) s

unfoldable pub sync_flags : Capture → Syncs → Capture
sync_flags s now = line_flag (vsync_flag s now) now

-- Rule 4, W1: line VST + VLINE, the crop window's last, has begun; a later line has begun. Lines count from 0.
abbrev pub reached_last_line : Capture → Scan → Bool
reached_last_line s f = leb (lines_to_window_end s.registers) f.lines

abbrev pub past_last_line : Capture → Scan → Bool
past_last_line s f = ltb (lines_to_window_end s.registers) f.lines

-- Rule 4, W1 (004, 32.5.3 FRAME_RIS): that line has ended: HSYNC has blanked at a working edge since it began. Then a later line has begun, or HSYNC blanked at the last
-- working edge; that this is the history of the frame is a law (crate laws, `window_ended_is_history`).
unfoldable pub window_ended : Capture → Scan → Bool
window_ended s f = reached_last_line s f && (past_last_line s f || s.syncs.hsync)

-- Rule 4, W1: "where HSYNC blanks after line VST + VLINE".
unfoldable pub hsync_after_window : Capture → Scan → Syncs → Bool
hsync_after_window s f now = reached_last_line s f && now.hsync

-- Rule 4 (004, 32.5.3 FRAME_RIS, 32.3.8): when FRAME rises in a taken frame. With CROP 0 at frame end, where VSYNC blanks. With CROP 1 (W1) where HSYNC blanks after the window's
-- last line, once in a frame; at frame end if that line never ended.
unfoldable pub frame_rises : Capture → Scan → Syncs → Bool
frame_rises s f now =
    cond (crop s.registers.cr) (not (window_ended s f) && (hsync_after_window s f now || now.vsync)) now.vsync

-- Rule 4: FRAME is due, in a taken frame.
unfoldable pub frame_due : Frame → Capture → Syncs → Bool
frame_due Closed s now = false
frame_due (Open taken f) s now = taken && frame_rises s f now

-- Rules 4 and 8, W4 (004, 32.3.9): with JPEG 1 the partial word of a taken frame that ends is filled with zero bytes. A word without data is none.
unfoldable pub padded : Frame → Capture → Option ℕ
padded Closed s = None
padded (Open taken f) s =
    cond (taken && jpeg s.registers.cr && ltb 0 s.partial.count)
    (Some (zero_filled (edm s.registers.cr) s.partial.count s.partial.bits))
    None

-- Rule 4 (004, 32.3.7): of a taken frame that ends CAPTURE becomes 0 with CM 1; a partial word is dropped, with JPEG 1 once it has been answered.
unfoldable pub end_of : Frame → Capture → Capture
end_of Closed s = s
end_of (Open taken f) s = close_frame (cond (taken && snapshot s.registers.cr) (clear_capture s) s)

-- Rule 4 (004, 32.3.6): an open frame closes when VSYNC blanks.
unfoldable pub frame_closes : Capture → Syncs → Capture
frame_closes s now = cond now.vsync (end_of s.frame s) s

unfoldable pub frame_pads : Capture → Syncs → Option ℕ
frame_pads s now = cond now.vsync (padded s.frame s) None

-- Rules 2 and 4, W4 (004, 32.3.9): the word that a sample by the sync pins pads.
unfoldable pub padded_at : Capture → ℕ → Option ℕ
padded_at s w = cond (working_edge s w && enabled s) (frame_pads s (blanking s w)) None

-- Rule 4: the frame's end, the word that it pads, and whether FRAME is due. FRAME itself rises behind rule 9 (W4, `flagged`).
unfoldable pub frame_end : Capture → Syncs → Captured
frame_end s now = record { state = frame_closes s now; word = frame_pads s now; due = frame_due s.frame s now; error = false }

-- Rule 5 (004, 32.5.1 FCRC): the rate counter counts modulo 1, 2 or 4.
unfoldable pub rate_period : ℕ → ℕ
rate_period cr = cond (eqb (fcrc cr) 0) 1 (cond (eqb (fcrc cr) 1) 2 4)

unfoldable pub next_rate : Capture → ℕ
next_rate s = cond (snapshot s.registers.cr) s.rate ((s.rate + 1) % rate_period s.registers.cr)

-- Rule 5: the frame is taken if CM is 1 or the rate counter is 0.
unfoldable pub takes : Capture → Bool
takes s = snapshot s.registers.cr || eqb s.rate 0

unfoldable pub open_frame : Capture → Capture
open_frame s = with_rate (next_rate s) (with_frame (Open (takes s) (record { lines = 0; pixels = 0 })) s)

-- Rule 5: CAPTURE is 1, and VSYNC blanked at the last working edge and does not now.
unfoldable pub starts : Capture → Syncs → Bool
starts s now = capture s.registers.cr && s.syncs.vsync && not now.vsync

unfoldable pub start_of : Frame → Syncs → Capture → Capture
start_of Closed now s = cond (starts s now) (open_frame s) s
start_of (Open taken f) now s = s

-- Rule 5 (004, 32.3.6, 32.3.7): a frame starts where none is open.
unfoldable pub frame_start : Capture → Syncs → Capture
frame_start s now = start_of s.frame now s

-- Rule 6 (004, 32.3.5): a line begins if HSYNC blanked at the last working edge or no line has begun in this frame. Kept are lines begun and pixels of the last.
unfoldable pub line_begins : Capture → Scan → Bool
line_begins s f = s.syncs.hsync || eqb f.lines 0

unfoldable pub next_pixel : Capture → Scan → Scan
next_pixel s f =
    cond (line_begins s f)
    (record { lines = f.lines + 1; pixels = 1 })
    (record { lines = f.lines; pixels = f.pixels + 1 })

-- Rule 7 (004, 32.3.8): the last pixel's line and column, counted from 0, are in the crop window.
unfoldable pub in_window : Capture → Scan → Bool
in_window s f = inside s.registers (f.lines - 1) (f.pixels - 1)

unfoldable pub captured : Capture → Bool → Scan → Bool
captured s taken f = taken && (not (crop s.registers.cr) || in_window s f)

-- Rule 8 (004, tables 262 to 265): the partial word's bits with a datum above them, as EDM packs them.
unfoldable pub packed_bits : Capture → ℕ → ℕ
packed_bits s x = joined (edm s.registers.cr) s.partial.count s.partial.bits x

-- Rule 8: the datum joins the partial word, which is then partial still, or full. Packing runs on across lines.
unfoldable pub pack : Capture → ℕ → Captured
pack s x =
    cond (ltb (s.partial.count + 1) (per_word (edm s.registers.cr)))
    (no_word (with_partial (record { count = s.partial.count + 1; bits = packed_bits s x }) s))
    (record { state = with_partial no_partial s; word = Some (packed_bits s x); due = false; error = false })

-- Rules 6 to 8 at a pixel of an open frame, taken or not: its place, whether it is captured, and the packing.
unfoldable pub pixel : Capture → Bool → Scan → ℕ → Captured
pixel s taken f x =
    cond (captured s taken (next_pixel s f))
    (pack (with_frame (Open taken (next_pixel s f)) s) x)
    (no_word (with_frame (Open taken (next_pixel s f)) s))

unfoldable pub pixel_in : Frame → Capture → Syncs → ℕ → Captured
pixel_in Closed s now x = no_word s
pixel_in (Open taken f) s now x = cond (any_blanks now) (no_word s) (pixel s taken f x)

-- Rule 6 (004, 32.3.6): with both syncs not blanking in an open frame, the edge carries a pixel.
unfoldable pub pixel_edge : Capture → Syncs → ℕ → Captured
pixel_edge s now x = pixel_in s.frame s now x

-- The word of a frame's end, or else of a pixel. Where VSYNC blanks the edge carries no pixel.
unfoldable pub either_word : Option ℕ → Option ℕ → Option ℕ
either_word None w = w
either_word (Some v) w = Some v

-- Rules 3 to 8 at a working edge, one after the other: flags (3), frame end (4), frame start (5), pixel (6 to 8). Whether each sync blanks is remembered last: until then
-- `syncs` is that of the last working edge.
unfoldable pub at_edge : Capture → Syncs → ℕ → Captured
at_edge s now x =
    let flags = sync_flags s now in
    let end = frame_end flags now in
    let start = frame_start end.state now in
    let carried = pixel_edge start now x in
    record { state = with_syncs now carried.state; word = either_word end.word carried.word; due = end.due; error = false }
