-- Rules 3 to 8 with ESS 1 (W6; 004, 32.3.6): frames and lines begin and end by codes in the data. How bytes become data and codes, and what a code means, is in the crate
-- `codes`; here is what a datum and a meaning do. Taking of frames, window, packing, FRAME and the frame's end are those of `Capture`.
-- "Sync pins are ignored: VSYNC blanks outside a frame, HSYNC outside a line": `syncs` is what the codes said last. A frame end makes both blank, a line end HSYNC; a frame
-- start or a line start neither. Enabling, ERR and an overrun leave VSYNC not blanking with no frame open: then only a frame start counts.
use Rattle.std.specs.Prelude.{Bool, true, false, cond, not, ◌&&◌, List, [], ◌∷◌, ℕ, ◌+◌, ◌-◌, length, None}
use Rattle.registers.specs.Control.{capture}
use Rattle.codes.specs.declared.Waiting.TheVariants.{Zero}
use Rattle.codes.specs.declared.Meaning.{Meaning}
use Rattle.codes.specs.declared.Meaning.TheVariants.{FrameEnd, FrameStart, LineEnd, LineStart, Unmatched}
use Rattle.codes.specs.Bytes.{waiting_count, is_code, waiting_after, released}
use Rattle.codes.specs.Meaning.{meaning, by_line_starts}
use Rattle.rules.specs.declared.Syncs.{Syncs}
use Rattle.rules.specs.declared.Scan.{Scan}
use Rattle.rules.specs.declared.Frame.{Frame}
use Rattle.rules.specs.declared.Frame.TheVariants.{Closed, Open}
use Rattle.rules.specs.declared.Capture.{Capture}
use Rattle.rules.specs.State.{is_open, not_blanking, raise, close_frame, with_syncs, with_frame, with_rate, with_waiting}
use Rattle.rules.specs.Capture.{Captured, no_word, sync_flags, frame_due, frame_closes, next_rate, takes, captured, pack, either_word}

-- A line is open in an open frame; outside a line HSYNC blanks, outside a frame VSYNC.
unfoldable pub in_line : Capture → Bool
in_line s = is_open s.frame && not s.syncs.hsync

unfoldable pub coded_syncs : Capture → Syncs
coded_syncs s = record { hsync = not (in_line s); vsync = not (is_open s.frame) }

-- After enabling, ERR or overrun: no frame is open, and none has ended since.
unfoldable pub seeks : Capture → Bool
seeks s = not (is_open s.frame) && not s.syncs.vsync

-- Rule 6: a byte counts in its line as it arrives. A datum after which `later` bytes have come has its place before them.
unfoldable pub arrived : Scan → Scan
arrived f = record { lines = f.lines; pixels = f.pixels + 1 }

unfoldable pub before : ℕ → Scan → Scan
before later f = record { lines = f.lines; pixels = f.pixels - later }

-- Rules 7 and 8: a datum at its place is captured or not, and packed.
unfoldable pub datum : Capture → Bool → Scan → ℕ → Captured
datum s taken f x = cond (captured s taken f) (pack s x) (no_word s)

-- The data that a byte releases, in order, while some bytes still wait. They are at most three, and so fill at most one word.
unfoldable pub each_datum : Capture → Bool → Scan → List ℕ → ℕ → Captured
each_datum s taken f [] still = no_word s
each_datum s taken f (x ∷ xs) still =
    let c = datum s taken (before (length xs + still) f) x in
    let r = each_datum c.state taken f xs still in
    record { state = r.state; word = either_word c.word r.word; due = false; error = false }

-- A byte that is not the last of a code: in an open line it counts, and what it releases are pixels; "pixels lie in lines".
unfoldable pub byte_in : Frame → Capture → ℕ → Captured
byte_in Closed s x = no_word (with_waiting (waiting_after s.waiting x) s)
byte_in (Open taken f) s x =
    let still = waiting_after s.waiting x in
    cond s.syncs.hsync
    (no_word (with_waiting still s))
    (each_datum (with_waiting still (with_frame (Open taken (arrived f)) s)) taken (arrived f) (released s.waiting x) (waiting_count still))

-- The last byte of a code: none of its four bytes is captured, so that the three that waited are taken out of their line.
unfoldable pub taken_out : Frame → Capture → Capture
taken_out Closed s = s
taken_out (Open taken f) s = cond s.syncs.hsync s (with_frame (Open taken (before 3 f)) s)

-- Rule 5: the frame's start opens its first line. With CAPTURE 0 the frame is not taken or counted.
unfoldable pub first_place : Scan
first_place = record { lines = 1; pixels = 0 }

unfoldable pub frame_opens : Capture → Capture
frame_opens s =
    with_syncs not_blanking
    (cond (capture s.registers.cr)
    (with_rate (next_rate s) (with_frame (Open (takes s) first_place) s))
    (with_frame (Open false first_place) s))

-- Rule 6: the next line, counted from its code.
unfoldable pub line_opens : Bool → Scan → Capture → Capture
line_opens taken f s = with_syncs not_blanking (with_frame (Open taken (record { lines = f.lines + 1; pixels = 0 })) s)

-- Rules 3 and 4 at an end code, after which the syncs are `now`. With CAPTURE 1 the flags VSYNC and LINE rise where it closes a frame or a line.
unfoldable pub closes : Capture → Syncs → Captured
closes s now =
    let u = with_syncs (coded_syncs s) s in
    record {
      state = with_syncs now (frame_closes (cond (capture s.registers.cr) (sync_flags u now) u) now);
      word = None;
      due = frame_due s.frame u now;
      error = false;
    }

abbrev pub line_ended : Syncs
line_ended = record { hsync = true; vsync = false }

abbrev pub frame_ended : Syncs
frame_ended = record { hsync = true; vsync = true }

-- ERR (004, 32.5.3 ERR_RIS): the frame closes without FRAME, the partial word is dropped, held words are discarded.
unfoldable pub errs : Capture → Captured
errs s = record { state = raise 2 (with_syncs not_blanking (close_frame s)); word = None; due = false; error = true }

-- A line start: in an open line it is an error; outside a frame too, but where FSC is 0xFF it starts the frame.
unfoldable pub line_start : Frame → Capture → Captured
line_start Closed s = cond (by_line_starts s.registers.escr) (no_word (frame_opens s)) (errs s)
line_start (Open taken f) s = cond (in_line s) (errs s) (no_word (line_opens taken f s))

-- What a code does by its meaning; and while only a frame start counts, or a frame end if FSC is 0xFF.
unfoldable pub obeyed : Meaning → Capture → Captured
obeyed FrameEnd s = cond (is_open s.frame) (closes s frame_ended) (no_word s)
obeyed FrameStart s = cond (is_open s.frame) (errs s) (no_word (frame_opens s))
obeyed LineEnd s = cond (in_line s) (closes s line_ended) (errs s)
obeyed LineStart s = line_start s.frame s
obeyed Unmatched s = no_word s

unfoldable pub sought : Meaning → Capture → Capture
sought FrameEnd s = cond (by_line_starts s.registers.escr) (with_syncs frame_ended s) s
sought FrameStart s = frame_opens s
sought LineEnd s = s
sought LineStart s = s
sought Unmatched s = s

unfoldable pub at_code : Meaning → Capture → Captured
at_code m s = cond (seeks s) (no_word (sought m s)) (obeyed m s)

-- Rules 3 to 8 at a working edge that carries the byte x: the last of a code, or another.
unfoldable pub at_byte : Capture → ℕ → Captured
at_byte s x =
    cond (is_code s.waiting)
    (at_code (meaning s.registers.escr s.registers.esur x) (with_waiting Zero (taken_out s.frame s)))
    (byte_in s.frame s x)
