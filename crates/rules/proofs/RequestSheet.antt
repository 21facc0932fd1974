-- The change requests (document 02), sentence by sentence: calls in a row, worked out from the request by hand, proved of the rules by computation under one
-- statement, `request_sheet`. A table for each request; each row says which words it is for.
--   early_frame W1, FRAME when the window's last line ends
--   depths      W9, a FIFO of another depth; and depth_judged, the devices that its clause of "malformed" judges
--   compressed  W4, compressed pictures; and jpeg_judged, the devices with JPEG 1 that "malformed" judges
-- W6, codes in the data, has a sheet of its own, `CodesSheet`.
use mathlib.Core.Bool.{true, false}
use mathlib.Core.List.{List, [], ◌∷◌, ◌++◌, map}
use Rattle.std.specs.Prelude.{None, Some}
use mathlib.Core.Path.{◌≡◌, refl}
use Prim.Native.Nat.{ℕ, zero, suc, ◌+◌, ◌-◌}
use lib.ListN.{length, replicate}
use Rattle.output.specs.Output.{slot_count}
use Rattle.output.specs.declared.Packing.{Packing as Packed}
use Rattle.output.specs.declared.Packing.TheVariants.{Nothing as nothing, Completed as completed, Lost as lost}
use Rattle.codes.specs.declared.Waiting.TheVariants.{Zero}
use Rattle.rules.specs.declared.Frame.{Frame}
use Rattle.rules.specs.declared.Frame.TheVariants.{Closed, Open}
use Rattle.rules.specs.declared.Capture.{Capture}
use Rattle.rules.specs.declared.Device.{Device}
use Rattle.rules.specs.State.{device, capture_of, fresh_of, fresh, with_cr}
use Rattle.rules.specs.RegisterCalls.{write, made}
use Rattle.rules.specs.WellFormed.{malformed}
use Rattle.rules.specs.Run.{run}
use Rattle.rules.proofs.EveryRule.{every_rule}
use Rattle.rules.proofs.BenchSheet.{◌≔◌, CR, SR, RIS, ICR, CWSTRT, CWSIZE, edge, granted, edges, blank, line_gap, frame_gap, Entry, ◌▸◌, a_write, a_read, a_run, a_sample, the_counts, the_memory, done, refused, reads, sampled, counts, holds, all_refused, Judged, well, ill, Log, log, told, told_by, played, partial_is, frame_is, registered, capturing}

-- W1. A fresh device with a window and a CR, and samples; RIS after some samples.
abbrev pub cropped : ℕ → ℕ → ℕ → List Entry → Log
cropped start size cr entries = log fresh [] (a_write CWSTRT start ▸ done ∷ a_write CWSIZE size ▸ done ∷ a_write CR cr ▸ done ∷ entries)

abbrev pub leads_to : List ℕ → ℕ → List Entry
leads_to samples ris = a_run 0 samples ▸ done ∷ a_read RIS ▸ reads ris ∷ []

unfoldable pub early_frame : List Log
early_frame =
    -- "when the last window line ends": lines 1 and 2, columns 0 and 1 (VST 1, VLINE 1, CAPCNT 1). Not at its last pixel, nor at the one after it, nor where the pin
    -- blanks without a working edge: "at the working edge where HSYNC blanks after line VST + VLINE"
    cropped 0x10000 0x10001 0x48E5
    (leads_to (edges (blank ∷ 1 ∷ 2 ∷ line_gap ∷ 3 ∷ 4 ∷ line_gap ∷ 5 ∷ 6 ∷ [])) 0x18 ++
    leads_to (edge 7) 0x18 ++
    leads_to (0x04000 ∷ 0x00000 ∷ 0x04000 ∷ []) 0x18 ++
    leads_to (0x14000 ∷ []) 0x19) ∷
    -- with CROP 0 not before frame end
    cropped 0x10000 0x10001 0x48E1
    (leads_to (edges (blank ∷ 1 ∷ 2 ∷ line_gap ∷ 3 ∷ 4 ∷ line_gap ∷ 5 ∷ 6 ∷ line_gap ∷ 7 ∷ line_gap ∷ [])) 0x18 ++
    leads_to (edge blank) 0x19) ∷
    -- "even if nothing was captured": column 100 of lines with two pixels
    cropped 0x64 0 0x48E5 (leads_to (edges (blank ∷ 1 ∷ 2 ∷ [])) 0x18 ++ leads_to (edge line_gap) 0x19 ++ the_counts ▸ counts 8 0 0 0 0 0 ∷ []) ∷
    -- "in taken frames": with FCRC 1 the first and the third, not the second
    cropped 0 0 0x49E5
    (leads_to (edges (blank ∷ 1 ∷ line_gap ∷ blank ∷ [])) 0x19 ++
    a_write ICR 1 ▸ done ∷
    leads_to (edges (2 ∷ line_gap ∷ 3 ∷ blank ∷ [])) 0x18 ++
    leads_to (edges (4 ∷ line_gap ∷ [])) 0x19) ∷
    -- and with CAPTURE 0 as well, if it was cleared in the frame
    cropped 0 0 0x48E5
    (leads_to (edges (blank ∷ 1 ∷ [])) 0x18 ++
    a_write CR 0x48E4 ▸ done ∷
    leads_to (edge line_gap) 0x19) ∷
    -- "once in a frame": cleared by ICR it does not rise again, at the end of a later line, at frame end, with both syncs at once; in the next frame it does
    cropped 0 0 0x48E5
    (leads_to (edges (blank ∷ 1 ∷ line_gap ∷ [])) 0x19 ++
    a_write ICR 1 ▸ done ∷
    leads_to (edges (line_gap ∷ 2 ∷ line_gap ∷ 3 ∷ [])) 0x18 ++
    leads_to (edges (frame_gap ∷ blank ∷ [])) 0x18 ++
    leads_to (edges (4 ∷ line_gap ∷ [])) 0x19) ∷
    cropped 0 0 0x48E5
    (leads_to (edges (blank ∷ 1 ∷ line_gap ∷ 2 ∷ [])) 0x19 ++
    a_write ICR 1 ▸ done ∷
    leads_to (edge blank) 0x18) ∷
    -- also where the line has more pixels than the window lines
    cropped 0 0 0x48E5
    (leads_to (edges (blank ∷ 1 ∷ 2 ∷ line_gap ∷ [])) 0x19 ++
    a_write ICR 1 ▸ done ∷
    leads_to (edges (line_gap ∷ frame_gap ∷ [])) 0x18) ∷
    -- "at frame end if that line never ended": the window is below the picture, lines 2 and 3 of two lines
    cropped 0x20000 0x10000 0x48E5
    (leads_to (edges (blank ∷ 1 ∷ line_gap ∷ 2 ∷ line_gap ∷ [])) 0x18 ++
    leads_to (edge frame_gap) 0x19) ∷
    -- its last line does not begin: line 2 ends, line 3 doesn't
    cropped 0x20000 0x10000 0x48E5
    (leads_to (edges (blank ∷ 1 ∷ line_gap ∷ 2 ∷ line_gap ∷ 3 ∷ line_gap ∷ [])) 0x18 ++
    leads_to (edge blank) 0x19) ∷
    -- the line runs when VSYNC blanks
    cropped 0 0 0x48E5 (leads_to (edges (blank ∷ 1 ∷ 2 ∷ [])) 0x18 ++ leads_to (edge frame_gap) 0x19) ∷
    -- both syncs blank at once: FRAME rises, the frame is over, and nothing rises again
    cropped 0 0 0x48E5
    (leads_to (edges (blank ∷ 1 ∷ [])) 0x18 ++
    leads_to (edge blank) 0x19 ++
    a_write ICR 0x1F ▸ done ∷
    leads_to (edges (blank ∷ frame_gap ∷ line_gap ∷ [])) 0x10) ∷
    -- HSYNC that does not blank between working edges is no line: line 1 has not begun
    cropped 0x10000 0 0x48E5
    (leads_to (edges (blank ∷ 1 ∷ line_gap ∷ [])) 0x18 ++
    leads_to (0x00000 ∷ 0x04000 ∷ 0x14000 ∷ 0x10000 ∷ 0x04000 ∷ 0x14000 ∷ []) 0x18 ++
    leads_to (edge 2) 0x18 ++
    leads_to (edge line_gap) 0x19) ∷
    -- nor does HSYNC at the frame's start end a line
    cropped 0 0 0x48E5 (leads_to (edges (blank ∷ line_gap ∷ line_gap ∷ [])) 0x18 ++ leads_to (edge 1) 0x18 ++ leads_to (edge line_gap) 0x19) ∷
    -- "a snapshot's CAPTURE is still cleared at frame end"
    cropped 0 0 0x48E7
    (leads_to (edges (blank ∷ 1 ∷ line_gap ∷ 2 ∷ line_gap ∷ [])) 0x19 ++
    a_read CR ▸ reads 0x48E7 ∷
    leads_to (edge blank) 0x19 ++
    a_read CR ▸ reads 0x48E6 ∷
    []) ∷
    -- "an overrun before that moment still means no FRAME"
    cropped 0 0x3FFF 0x48E5
    (leads_to (edges (blank ∷ 1 ∷ 2 ∷ 3 ∷ 4 ∷ 5 ∷ 6 ∷ 7 ∷ 8 ∷ 9 ∷ 10 ∷ 11 ∷ [])) 0x1A ++
    leads_to (edges (line_gap ∷ 12 ∷ line_gap ∷ [])) 0x1A ++
    leads_to (edge blank) 0x1A) ∷
    []

-- The capture state at the early moment: FRAME and LINE have risen; the frame is open, the partial word there, CAPTURE 1 and the rate counter as it was.
unfoldable pub at_the_early_moment : Capture
at_the_early_moment = capture_of (run (write fresh CR 0x49E5).device [] 0 (edges (blank ∷ 5 ∷ 6 ∷ line_gap ∷ []))).device

-- W9. So many pixels, 1, 2 and so on; a device of a depth, written and run up to them, after one blank edge.
unfoldable pub pixels_up : ℕ → ℕ → List ℕ
pixels_up zero first = []
pixels_up (suc n) first = edge first ++ pixels_up n (first + 1)

abbrev pub filled : ℕ → ℕ → List Entry → Log
filled depth pixels entries =
    log (fresh_of depth) (replicate 8 0) (a_write CR 0x48E1 ▸ done ∷ a_run 0 (edge blank ++ pixels_up pixels 1) ▸ done ∷ entries)

unfoldable pub depths : List Log
depths =
    -- "rule 9 speaks of the depth for four": at depth 1 a word is held, and the second overruns: both are discarded
    filled 1 3 (the_counts ▸ counts 8 1 0 0 1 0 ∷ a_run 0 (edge 4) ▸ done ∷ a_read RIS ▸ reads 0x1A ∷ the_counts ▸ counts 10 2 0 2 0 0 ∷ []) ∷
    -- with as many held as the depth a grant in the completing sample makes room, also at depth 1
    filled 1 3
    (a_run 0 (granted 4) ▸ done ∷
    a_read RIS ▸ reads 0x18 ∷
    the_counts ▸ counts 10 2 1 0 1 1 ∷
    the_memory ▸ holds (1 ∷ 0 ∷ 2 ∷ 0 ∷ 0 ∷ 0 ∷ 0 ∷ 0 ∷ []) ∷
    []) ∷
    -- at depth 3 three are held, and the fourth overruns
    filled 3 7 (the_counts ▸ counts 16 3 0 0 3 0 ∷ a_run 0 (edge 8) ▸ done ∷ the_counts ▸ counts 18 4 0 4 0 0 ∷ []) ∷
    -- at depth 5 five are held; they land in order
    filled 5 11
    (the_counts ▸ counts 24 5 0 0 5 0 ∷
    a_run 0 (0x20000 ∷ 0x20000 ∷ []) ▸ done ∷
    the_memory ▸ holds (1 ∷ 0 ∷ 2 ∷ 0 ∷ 3 ∷ 0 ∷ 4 ∷ 0 ∷ []) ∷
    the_counts ▸ counts 26 5 2 0 3 2 ∷
    []) ∷
    -- at depth 32 thirty-two are held, and the next overruns
    filled 32 65 (the_counts ▸ counts 132 32 0 0 32 0 ∷ a_run 0 (edge 66) ▸ done ∷ a_read RIS ▸ reads 0x1A ∷ the_counts ▸ counts 134 33 0 33 0 0 ∷ []) ∷
    -- "fixed when the device is made": disabling and enabling leave the depth
    filled 1 3
    (a_write CR 0x08E0 ▸ done ∷
    a_write CR 0x48E1 ▸ done ∷
    a_run 0 (edge blank ++ pixels_up 4 1) ▸ done ∷
    a_read RIS ▸ reads 0x1A ∷
    the_counts ▸ counts 18 3 0 3 0 0 ∷
    []) ∷
    -- "four stays the depth where none is named"
    log fresh [] (a_write CR 0x48E1 ▸ done ∷ a_run 0 (edge blank ++ pixels_up 9 1) ▸ done ∷ the_counts ▸ counts 20 4 0 0 4 0 ∷ a_run 0 (edge 10) ▸ done ∷ the_counts ▸ counts 22 5 0 5 0 0 ∷ []) ∷
    -- a bad depth in a device that is handed in is 1, never 18
    log (fresh_of 33) [] (a_read CR ▸ refused 1 ∷ a_run 0 [] ▸ refused 1 ∷ []) ∷
    []

-- "A depth outside 1 to 32 is malformed"; unused slots are all from the held ones to the last, also beyond the depth.
abbrev pub enabled_of : ℕ → List ℕ → ℕ → Device
enabled_of depth slots held =
    device (capture_of (write fresh CR 0x48E1).device)
    (record {
      output = record { held = held; place = 0; depth = depth; counts = record { samples = 99; completed = held; landed = 0; discarded = 0 } };
      slots = slots ++ replicate (slot_count - length slots) 0;
    })

unfoldable pub depth_judged : List Judged
depth_judged =
    ill (enabled_of 0 [] 0) ∷
    well (enabled_of 1 [] 0) ∷
    well (enabled_of 32 [] 0) ∷
    ill (enabled_of 33 [] 0) ∷
    well (enabled_of 1 (7 ∷ []) 1) ∷
    ill (enabled_of 1 (7 ∷ 8 ∷ []) 2) ∷
    ill (enabled_of 1 (7 ∷ 8 ∷ []) 1) ∷
    ill (enabled_of 1 (replicate 31 0 ++ 8 ∷ []) 0) ∷
    well (enabled_of 32 (replicate 32 9) 32) ∷
    ill (enabled_of 31 (replicate 32 9) 32) ∷
    []

-- "Depth 0 or above 32 is 18, the first check where a device is made": the number and the depth that is left.
unfoldable pub made_of : ℕ → List ℕ
made_of depth = (made depth).number ∷ (made depth).device.core.output.depth ∷ []

-- W4. CR values that are accepted one after the other, and read back.
abbrev pub all_accepted : List ℕ → List Entry
all_accepted [] = []
all_accepted (v ∷ vs) = a_write CR v ▸ done ∷ a_read CR ▸ reads v ∷ all_accepted vs

-- A device of a depth with a CR; no byte of the memory is 0 before.
abbrev pub compressing : ℕ → ℕ → List Entry → Log
compressing depth cr entries = log (fresh_of depth) (replicate 8 0xEE) (a_write CR cr ▸ done ∷ entries)

-- Both syncs blank: nothing before the working edge; what became of a word at it, and RIS. A word lands at a byte, while both blank.
abbrev pub ends_with : Packed → ℕ → List Entry
ends_with packed ris = a_sample 0 0x0C000 ▸ sampled None nothing ∷ a_sample 0 0x1C000 ▸ sampled None packed ∷ a_read RIS ▸ reads ris ∷ []

abbrev pub lands_at : ℕ → Entry
lands_at byte = a_sample 0 0x2C000 ▸ sampled (Some byte) nothing

unfoldable pub compressed : List Log
compressed =
    -- "JPEG 1 is to be accepted with EDM 0 and CROP 0 only": alone; with CM, FCRC 1 and 2, each polarity, and all of these; with ENABLE, and with CAPTURE
    log fresh [] (all_accepted (0x8 ∷ 0xA ∷ 0x108 ∷ 0x208 ∷ 0x28 ∷ 0x48 ∷ 0x88 ∷ 0x2EA ∷ 0x4008 ∷ 0x4009 ∷ [])) ∷
    -- "JPEG otherwise is 5": with EDM 1, 2, 3, with CROP, with both, with ESS; the same with the rest of a set-up; EDM and CROP without JPEG are not
    log fresh []
    (all_refused 5 (CR ≔ 0x408 ∷ CR ≔ 0x808 ∷ CR ≔ 0xC08 ∷ CR ≔ 0xC ∷ CR ≔ 0x40C ∷ CR ≔ 0xC0C ∷ CR ≔ 0x18 ∷ []) ++
    all_refused 5 (CR ≔ 0x44E9 ∷ CR ≔ 0x48E9 ∷ CR ≔ 0x4CE9 ∷ CR ≔ 0x40ED ∷ CR ≔ 0x44ED ∷ CR ≔ 0x40F9 ∷ []) ++
    a_read CR ▸ reads 0 ∷
    all_accepted (0xC04 ∷ [])) ∷
    -- with JPEG too, FCRC 3 and CAPTURE 1 with ENABLE 0 are 5; 4 is before 5, and 5 before 6
    log fresh []
    (all_refused 5 (CR ≔ 0x308 ∷ CR ≔ 0x9 ∷ []) ++
    all_refused 4 (CR ≔ 0x100C ∷ CR ≔ 0x1408 ∷ CR ≔ 0x8018 ∷ []) ++
    a_write CR 0x40E9 ▸ done ∷
    all_refused 4 (CR ≔ 0x50ED ∷ []) ++
    all_refused 5 (CR ≔ 0x40ED ∷ CR ≔ 0x44E9 ∷ CR ≔ 0x40F9 ∷ [])) ∷
    -- JPEG that would change while ENABLE is 1 is 6, from 1 and from 0, also where the write disables; while ENABLE is 0 it may
    log fresh []
    (a_write CR 0x40E9 ▸ done ∷
    all_refused 6 (CR ≔ 0x40E1 ∷ CR ≔ 0xE0 ∷ []) ++
    all_accepted (0x40E8 ∷ 0xE8 ∷ 0xE0 ∷ 0x40E1 ∷ []) ++
    all_refused 6 (CR ≔ 0x40E9 ∷ CR ≔ 0xE8 ∷ []) ++
    all_accepted (0xE0 ∷ 0x40E9 ∷ [])) ∷
    -- "HSYNC then marks valid data; LINE rises as before": two bytes, a gap of two edges, a byte, a gap of one, a byte. Bytes in the gaps are not captured, packing runs on
    -- across them, and LINE rises at the first edge of each
    compressing 4 0x40E9
    (leads_to (edges (blank ∷ 0x11 ∷ 0x22 ∷ [])) 0x18 ++
    a_write ICR 0x1F ▸ done ∷
    leads_to (edge 0x4099) 0x10 ++
    a_write ICR 0x10 ▸ done ∷
    leads_to (edges (0x4098 ∷ 0x33 ∷ [])) 0 ++
    leads_to (edge 0x4097) 0x10 ++
    the_counts ▸ counts 14 0 0 0 0 0 ∷
    a_sample 0 0x00044 ▸ sampled None nothing ∷
    a_sample 0 0x10044 ▸ sampled None (completed 0x44332211) ∷
    []) ∷
    -- it marks them as its polarity says: with all polarities 0 a pin blanks at 0, and the clock falls at a working edge
    compressing 4 0x4009
    (a_run 0 (0x10000 ∷ 0x00000 ∷ 0x1C011 ∷ 0x0C011 ∷ 0x18099 ∷ 0x08099 ∷ 0x1C022 ∷ 0x0C022 ∷ 0x10000 ∷ []) ▸ done ∷
    a_sample 0 0x00000 ▸ sampled None (completed 0x2211) ∷
    a_read RIS ▸ reads 0x19 ∷
    the_counts ▸ counts 10 1 0 0 1 0 ∷
    []) ∷
    -- "At frame end a partial word is filled with zero bytes and completed by rule 9, before FRAME": one byte is left over (8 bits of the data). Its word is held, and
    -- lands with a later grant; the frame has closed, so that nothing comes after it
    compressing 4 0x40E9
    (leads_to (edges (blank ∷ 0x3F11 ∷ [])) 0x18 ++
    ends_with (completed 0x11) 0x19 ++
    the_counts ▸ counts 6 1 0 0 1 0 ∷
    a_read SR ▸ reads 7 ∷
    the_memory ▸ holds (replicate 8 0xEE) ∷
    lands_at 0 ∷
    the_memory ▸ holds (0x11 ∷ 0 ∷ 0 ∷ 0 ∷ 0xEE ∷ 0xEE ∷ 0xEE ∷ 0xEE ∷ []) ∷
    a_write ICR 0x1F ▸ done ∷
    ends_with nothing 0 ++
    the_counts ▸ counts 9 1 1 0 0 1 ∷
    []) ∷
    -- two bytes, and three
    compressing 4 0x40E9
    (leads_to (edges (blank ∷ 0xFF ∷ 0xFE ∷ [])) 0x18 ++
    ends_with (completed 0xFEFF) 0x19 ++
    lands_at 0 ∷
    the_memory ▸ holds (0xFF ∷ 0xFE ∷ 0 ∷ 0 ∷ 0xEE ∷ 0xEE ∷ 0xEE ∷ 0xEE ∷ []) ∷
    the_counts ▸ counts 9 1 1 0 0 1 ∷
    []) ∷
    compressing 4 0x40E9
    (leads_to (edges (blank ∷ 0xA1 ∷ 0xB2 ∷ 0xC3 ∷ [])) 0x18 ++
    ends_with (completed 0xC3B2A1) 0x19 ++
    lands_at 0 ∷
    the_memory ▸ holds (0xA1 ∷ 0xB2 ∷ 0xC3 ∷ 0 ∷ 0xEE ∷ 0xEE ∷ 0xEE ∷ 0xEE ∷ []) ∷
    the_counts ▸ counts 11 1 1 0 0 1 ∷
    []) ∷
    -- one byte behind a full word
    compressing 4 0x40E9
    (leads_to (edges (blank ∷ 0x11 ∷ 0x22 ∷ 0x33 ∷ 0x44 ∷ 0x55 ∷ [])) 0x18 ++
    ends_with (completed 0x55) 0x19 ++
    the_counts ▸ counts 14 2 0 0 2 0 ∷
    lands_at 0 ∷
    lands_at 4 ∷
    the_memory ▸ holds (0x11 ∷ 0x22 ∷ 0x33 ∷ 0x44 ∷ 0x55 ∷ 0 ∷ 0 ∷ 0 ∷ []) ∷
    the_counts ▸ counts 16 2 2 0 0 2 ∷
    []) ∷
    -- a byte 0 that is left over is a partial word like any other
    compressing 4 0x40E9 (leads_to (edges (blank ∷ 0 ∷ [])) 0x18 ++ ends_with (completed 0) 0x19 ++ the_counts ▸ counts 6 1 0 0 1 0 ∷ []) ∷
    -- none is left over: no empty word, and FRAME rises
    compressing 4 0x40E9
    (leads_to (edges (blank ∷ 0x11 ∷ 0x22 ∷ 0x33 ∷ 0x44 ∷ [])) 0x18 ++
    the_counts ▸ counts 10 1 0 0 1 0 ∷
    ends_with nothing 0x19 ++
    the_counts ▸ counts 12 1 0 0 1 0 ∷
    []) ∷
    -- nor of an empty frame; and with CAPTURE 0 there is no frame
    compressing 4 0x40E9 (leads_to (edges (blank ∷ line_gap ∷ [])) 0x18 ++ ends_with nothing 0x19 ++ the_counts ▸ counts 6 0 0 0 0 0 ∷ []) ∷
    compressing 4 0x40E8 (leads_to (edges (blank ∷ 1 ∷ 2 ∷ [])) 0x18 ++ ends_with nothing 0x18 ++ the_counts ▸ counts 8 0 0 0 0 0 ∷ []) ∷
    -- with FCRC 1 the second frame is not taken: no word, and no FRAME; of the first and the third both
    compressing 4 0x41E9
    (leads_to (edges (blank ∷ 1 ∷ [])) 0x18 ++
    ends_with (completed 1) 0x19 ++
    a_write ICR 0x1F ▸ done ∷
    leads_to (edges (2 ∷ 3 ∷ [])) 0 ++
    ends_with nothing 0x18 ++
    the_counts ▸ counts 12 1 0 0 1 0 ∷
    leads_to (edge 4) 0x18 ++
    ends_with (completed 4) 0x19 ++
    the_counts ▸ counts 16 2 0 0 2 0 ∷
    []) ∷
    -- "at frame end": with VSYNC alone, LINE does not rise; with both syncs at once; with VSYNC behind HSYNC
    compressing 4 0x40E9
    (leads_to (edges (blank ∷ 1 ∷ [])) 0x18 ++
    a_write ICR 0x1F ▸ done ∷
    a_sample 0 0x08000 ▸ sampled None nothing ∷
    a_sample 0 0x18000 ▸ sampled None (completed 1) ∷
    a_read RIS ▸ reads 0x09 ∷
    []) ∷
    compressing 4 0x40E9 (leads_to (edges (blank ∷ 1 ∷ [])) 0x18 ++ a_write ICR 0x1F ▸ done ∷ ends_with (completed 1) 0x19) ∷
    compressing 4 0x40E9 (leads_to (edges (blank ∷ 1 ∷ line_gap ∷ [])) 0x18 ++ a_write ICR 0x1F ▸ done ∷ ends_with (completed 1) 0x09) ∷
    -- and there alone: disabling drops the partial word, so that completed stays; nothing is filled after it, and the next frame's word has its own bytes
    compressing 4 0x40E9
    (leads_to (edges (blank ∷ 1 ∷ 2 ∷ 3 ∷ 4 ∷ 5 ∷ 6 ∷ [])) 0x18 ++
    the_counts ▸ counts 14 1 0 0 1 0 ∷
    a_write CR 0xE8 ▸ done ∷
    the_counts ▸ counts 14 1 0 1 0 0 ∷
    ends_with nothing 0x18 ++
    a_write CR 0x40E9 ▸ done ∷
    ends_with nothing 0x18 ++
    leads_to (edge 7) 0x18 ++
    ends_with (completed 7) 0x19 ++
    the_counts ▸ counts 22 2 0 1 1 0 ∷
    []) ∷
    -- CAPTURE cleared in the frame: it "still runs to its end", and its last word is filled
    compressing 4 0x40E9
    (leads_to (edges (blank ∷ 1 ∷ [])) 0x18 ++
    a_write CR 0x40E8 ▸ done ∷
    leads_to (edge 2) 0x18 ++
    ends_with (completed 0x0201) 0x19 ++
    leads_to (edge 3) 0x19 ++
    ends_with nothing 0x19 ++
    the_counts ▸ counts 12 1 0 0 1 0 ∷
    []) ∷
    -- of a snapshot CAPTURE becomes 0
    compressing 4 0x40EB (leads_to (edges (blank ∷ 1 ∷ [])) 0x18 ++ ends_with (completed 1) 0x19 ++ a_read CR ▸ reads 0x40EA ∷ the_counts ▸ counts 6 1 0 0 1 0 ∷ []) ∷
    -- with JPEG 0 bytes left over are dropped
    compressing 4 0x40E1 (leads_to (edges (blank ∷ 1 ∷ 2 ∷ 3 ∷ [])) 0x18 ++ ends_with nothing 0x19 ++ the_counts ▸ counts 10 0 0 0 0 0 ∷ []) ∷
    -- the frame after a filled word begins with a word of its own
    log fresh (replicate 16 0xEE)
    (a_write CR 0x40E9 ▸ done ∷
    a_run 0 (edges (blank ∷ 0x11 ∷ 0x22 ∷ 0x33 ∷ 0x44 ∷ 0x55 ∷ blank ∷ 0x61 ∷ 0x62 ∷ 0x63 ∷ 0x64 ∷ 0x65 ∷ blank ∷ [])) ▸ done ∷
    lands_at 0 ∷
    lands_at 4 ∷
    lands_at 8 ∷
    lands_at 12 ∷
    the_memory ▸ holds (0x11 ∷ 0x22 ∷ 0x33 ∷ 0x44 ∷ 0x55 ∷ 0 ∷ 0 ∷ 0 ∷ 0x61 ∷ 0x62 ∷ 0x63 ∷ 0x64 ∷ 0x65 ∷ 0 ∷ 0 ∷ 0 ∷ []) ∷
    the_counts ▸ counts 30 4 4 0 0 4 ∷
    []) ∷
    -- "if it overruns, FRAME doesn't rise": OVR rises, and VSYNC and LINE as at any frame end; the four held and it are discarded. The next frame is captured, and has its FRAME
    compressing 4 0x40E9
    (leads_to (edge blank ++ pixels_up 17 1) 0x18 ++
    a_write ICR 0x1F ▸ done ∷
    the_counts ▸ counts 36 4 0 0 4 0 ∷
    ends_with lost 0x1A ++
    a_read CR ▸ reads 0x40E9 ∷
    a_read SR ▸ reads 3 ∷
    the_counts ▸ counts 38 5 0 5 0 0 ∷
    leads_to (edges (0x21 ∷ 0x22 ∷ [])) 0x1A ++
    ends_with (completed 0x2221) 0x1B ++
    the_counts ▸ counts 44 6 0 5 1 0 ∷
    lands_at 0 ∷
    the_memory ▸ holds (0x21 ∷ 0x22 ∷ 0 ∷ 0 ∷ 0xEE ∷ 0xEE ∷ 0xEE ∷ 0xEE ∷ []) ∷
    []) ∷
    -- a snapshot's CAPTURE becomes 0 then too, and no other frame starts; at depth 1 two words are discarded
    compressing 1 0x40EB
    (leads_to (edge blank ++ pixels_up 5 1) 0x18 ++
    a_write ICR 0x1F ▸ done ∷
    ends_with lost 0x1A ++
    a_read CR ▸ reads 0x40EA ∷
    the_counts ▸ counts 14 2 0 2 0 0 ∷
    leads_to (edges (6 ∷ 7 ∷ 8 ∷ 9 ∷ [])) 0x1A ++
    ends_with nothing 0x1A ++
    the_counts ▸ counts 24 2 0 2 0 0 ∷
    []) ∷
    -- FRAME of an earlier frame stays up
    compressing 1 0x40E9
    (leads_to (edges (blank ∷ 1 ∷ [])) 0x18 ++
    ends_with (completed 1) 0x19 ++
    leads_to (edge 2) 0x19 ++
    ends_with lost 0x1B ++
    the_counts ▸ counts 10 2 0 2 0 0 ∷
    []) ∷
    -- a frame that overran before its end has no partial word
    compressing 1 0x40E9 (leads_to (edge blank ++ pixels_up 9 1) 0x1A ++ ends_with nothing 0x1A ++ the_counts ▸ counts 22 2 0 2 0 0 ∷ []) ∷
    -- "completed by rule 9": a grant in the sample that ends the frame makes room, also at depth 1
    compressing 4 0x40E9
    (leads_to (edge blank ++ pixels_up 17 1) 0x18 ++
    a_sample 0 0x0C000 ▸ sampled None nothing ∷
    a_sample 0 0x3C000 ▸ sampled (Some 0) (completed 17) ∷
    a_read RIS ▸ reads 0x19 ∷
    the_memory ▸ holds (1 ∷ 2 ∷ 3 ∷ 4 ∷ 0xEE ∷ 0xEE ∷ 0xEE ∷ 0xEE ∷ []) ∷
    the_counts ▸ counts 38 5 1 0 4 1 ∷
    []) ∷
    compressing 1 0x40E9
    (leads_to (edge blank ++ pixels_up 5 1) 0x18 ++
    a_sample 0 0x0C000 ▸ sampled None nothing ∷
    a_sample 0 0x3C000 ▸ sampled (Some 0) (completed 5) ∷
    a_read RIS ▸ reads 0x19 ∷
    the_counts ▸ counts 14 2 1 0 1 1 ∷
    lands_at 4 ∷
    the_memory ▸ holds (1 ∷ 2 ∷ 3 ∷ 4 ∷ 5 ∷ 0 ∷ 0 ∷ 0 ∷ []) ∷
    the_counts ▸ counts 15 2 2 0 0 2 ∷
    []) ∷
    -- "a padded word can come four samples after the one before", a full one or a padded one
    compressing 4 0x40E9
    (a_run 0 (edges (blank ∷ 1 ∷ 2 ∷ 3 ∷ []) ++ 4 ∷ []) ▸ done ∷
    a_sample 0 0x10004 ▸ sampled None (completed 0x04030201) ∷
    a_sample 0 0x00005 ▸ sampled None nothing ∷
    a_sample 0 0x10005 ▸ sampled None nothing ∷
    ends_with (completed 5) 0x19 ++
    a_sample 0 0x00006 ▸ sampled None nothing ∷
    a_sample 0 0x10006 ▸ sampled None nothing ∷
    ends_with (completed 6) 0x19 ++
    the_counts ▸ counts 18 3 0 0 3 0 ∷
    []) ∷
    []

-- Lines and pixels count as before: two bytes, a gap, a byte.
unfoldable pub in_a_compressed_frame : Frame
in_a_compressed_frame = (run (write fresh CR 0x40E9).device [] 0 (edges (blank ∷ 5 ∷ 6 ∷ line_gap ∷ 7 ∷ []))).device.core.capture.frame

-- The capture state after a frame's end with a padded word: FRAME has risen, the frame is closed, no byte is left, CAPTURE is 1 and the rate counter as it was.
unfoldable pub at_a_padded_end : Capture
at_a_padded_end = capture_of (run (write fresh CR 0x41E9).device [] 0 (edges (blank ∷ 5 ∷ line_gap ∷ 6 ∷ blank ∷ []))).device

-- And after one that overran, of a snapshot at depth 1: OVR for FRAME, and CAPTURE 0. VSYNC alone blanks.
unfoldable pub at_a_lost_end : Capture
at_a_lost_end = capture_of (run (write (fresh_of 1) CR 0x40EB).device [] 0 (edge blank ++ pixels_up 5 1 ++ edge frame_gap)).device

-- "Register contents that refusals 4 and 5 exclude", with JPEG 1; the partial word of a compressed frame is one of 8 bits.
unfoldable pub jpeg_judged : List Judged
jpeg_judged =
    well (registered (with_cr 0x8)) ∷
    well (registered (with_cr 0x2EA)) ∷
    ill (registered (with_cr 0xC)) ∷
    ill (registered (with_cr 0x408)) ∷
    ill (registered (with_cr 0x808)) ∷
    ill (registered (with_cr 0xC08)) ∷
    ill (registered (with_cr 0x18)) ∷
    ill (registered (with_cr 0x308)) ∷
    ill (registered (with_cr 0x1008)) ∷
    well (capturing 0x40E9 (partial_is 3 0xFFFFFF)) ∷
    ill (capturing 0x40E9 (partial_is 3 0x1000000)) ∷
    ill (capturing 0x40E9 (partial_is 4 0)) ∷
    ill (capturing 0x41E9 (λ s. partial_is 1 0 (frame_is false 1 3 s))) ∷
    []

pub request_sheet : (map played early_frame ≡ map (λ l. map (λ e. e.said) l.entries) early_frame)
    × (at_the_early_moment ≡
    record {
      registers = record { cr = 0x49E5; ris = 0x19; ier = 0; cwstrt = 0; cwsize = 0; escr = 0; esur = 0 };
      pins = record { hsync = true; vsync = false; clock = true };
      frame = Open true (record { lines = 1; pixels = 2 });
      syncs = record { hsync = true; vsync = false };
      rate = 1;
      partial = record { count = 1; bits = 5 };
      waiting = Zero;
    })
    × (map played depths ≡ map (λ l. map (λ e. e.said) l.entries) depths)
    × (map (λ j. malformed j.device) depth_judged ≡ map (λ j. j.malformed) depth_judged)
    × (map made_of (0 ∷ 1 ∷ 4 ∷ 32 ∷ 33 ∷ 260 ∷ []) ≡ (18 ∷ 0 ∷ []) ∷ (0 ∷ 1 ∷ []) ∷ (0 ∷ 4 ∷ []) ∷ (0 ∷ 32 ∷ []) ∷ (18 ∷ 0 ∷ []) ∷ (18 ∷ 0 ∷ []) ∷ [])
    × (map played compressed ≡ map (λ l. map (λ e. e.said) l.entries) compressed)
    × (in_a_compressed_frame ≡ Open true (record { lines = 2; pixels = 1 }))
    × (at_a_padded_end ≡
    record {
      registers = record { cr = 0x41E9; ris = 0x19; ier = 0; cwstrt = 0; cwsize = 0; escr = 0; esur = 0 };
      pins = record { hsync = true; vsync = true; clock = true };
      frame = Closed;
      syncs = record { hsync = true; vsync = true };
      rate = 1;
      partial = record { count = 0; bits = 0 };
      waiting = Zero;
    })
    × (at_a_lost_end ≡
    record {
      registers = record { cr = 0x40EA; ris = 0x1A; ier = 0; cwstrt = 0; cwsize = 0; escr = 0; esur = 0 };
      pins = record { hsync = false; vsync = true; clock = true };
      frame = Closed;
      syncs = record { hsync = false; vsync = true };
      rate = 0;
      partial = record { count = 0; bits = 0 };
      waiting = Zero;
    })
    × (map (λ j. malformed j.device) jpeg_judged ≡ map (λ j. j.malformed) jpeg_judged)
unfolding told told_by played early_frame at_the_early_moment pixels_up depths depth_judged made_of compressed in_a_compressed_frame at_a_padded_end at_a_lost_end jpeg_judged every_rule
request_sheet = (refl, refl, refl, refl, refl, refl, refl, refl, refl, refl)
