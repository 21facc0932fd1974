-- W6, codes in the data (document 02), sentence by sentence and reading by reading: calls in a row, worked out from the request by hand, proved of the rules by
-- computation under one statement, `codes_sheet`. Each row says which words it is for.
--   code_meanings     ESCR and ESUR: what a code means
--   coded_frames      frames and lines by codes: pixels, flags, CAPTURE, the rate, snapshots, FRAME
--   code_errors       ERR
--   only_frame_starts after enabling, ERR and overrun
--   releases          bytes that begin like a code and are none; bytes that wait
--   code_registers    ESCR, ESUR, ESS and SR
--   code_judged       the devices that "malformed" judges
-- and what only the state shows: place, rate counter, partial word, bytes that wait.
use mathlib.Core.Bool.{Bool, true, false}
use mathlib.Core.List.{List, [], ◌∷◌, ◌++◌, map}
use Rattle.std.specs.Prelude.{None, Some}
use mathlib.Core.Path.{◌≡◌, refl}
use Prim.Native.Nat.{ℕ, ◌+◌}
use lib.ListN.{replicate}
use Rattle.registers.specs.Map.{offset}
use Rattle.registers.specs.declared.Register.TheVariants.{EmbeddedCode, EmbeddedUnmask}
use Rattle.codes.specs.declared.Waiting.{Waiting}
use Rattle.codes.specs.declared.Waiting.TheVariants.{Zero, One, Two, Three}
use Rattle.rules.specs.declared.Syncs.{Syncs}
use Rattle.rules.specs.declared.Frame.{Frame}
use Rattle.rules.specs.declared.Frame.TheVariants.{Closed, Open}
use Rattle.rules.specs.declared.Capture.{Capture}
use Rattle.rules.specs.declared.Device.{Device}
use Rattle.rules.specs.State.{device, capture_of, fresh_of, fresh, with_cr, with_escr, with_esur, with_syncs, with_rate, with_waiting}
use Rattle.rules.specs.RegisterCalls.{write}
use Rattle.rules.specs.WellFormed.{malformed}
use Rattle.output.specs.declared.Packing.{Packing as Packed}
use Rattle.output.specs.declared.Packing.TheVariants.{Nothing as nothing, Completed as completed, Lost as lost}
use Rattle.rules.specs.Run.{run}
use Rattle.rules.proofs.EveryRule.{every_rule}
use Rattle.rules.proofs.BenchSheet.{◌≔◌, CR, SR, RIS, IER, ICR, CWSTRT, CWSIZE, edge, edges, blank, Entry, ◌▸◌, a_write, a_read, a_run, a_sample, a_rearming, the_line, the_counts, the_memory, done, refused, reads, line, sampled, counts, holds, all_refused, Judged, well, ill, Log, log, told, told_by, played, words_are, no_slots, partial_is, frame_is, registered}
use Rattle.rules.proofs.RequestSheet.{all_accepted, lands_at}

abbrev pub ESCR : ℕ
ESCR = offset EmbeddedCode

abbrev pub ESUR : ℕ
ESUR = offset EmbeddedUnmask

-- The four bytes of a code, and the four codes of mode 2 as ESCR 0xD4C3B2A1 has them: frame start, line start, line end, frame end.
abbrev pub code : ℕ → List ℕ
code xy = 0xFF ∷ 0 ∷ 0 ∷ xy ∷ []

abbrev pub FS : List ℕ
FS = code 0xA1

abbrev pub LS : List ℕ
LS = code 0xB2

abbrev pub LE : List ℕ
LE = code 0xC3

abbrev pub FE : List ℕ
FE = code 0xD4

-- A line as ITU-R BT.656 orders it: EAV, with the V of this line, horizontal blanking, SAV with the same V, its bytes.
abbrev pub line_656 : ℕ → ℕ → List ℕ → List ℕ
line_656 eav sav bytes = code eav ++ 0x80 ∷ 0x10 ∷ code sav ++ bytes

-- A device of a depth with ESCR, ESUR and CR; with the codes above, all bits compared, also with a window; with FSC and FEC 0xFF and two of ITU 656's codes, as the
-- Linux driver sets them. No byte of the memory is 0 before.
abbrev pub coded : ℕ → ℕ → ℕ → ℕ → List Entry → Log
coded depth escr esur cr entries =
    log (fresh_of depth) (replicate 8 0xEE) (a_write ESCR escr ▸ done ∷ a_write ESUR esur ▸ done ∷ a_write CR cr ▸ done ∷ entries)

abbrev pub mode_2 : ℕ → ℕ → List Entry → Log
mode_2 depth cr entries = coded depth 0xD4C3B2A1 0xFFFFFFFF cr entries

abbrev pub mode_1 : ℕ → ℕ → List Entry → Log
mode_1 depth cr entries = coded depth 0xFF9D80FF 0xFFFFFFFF cr entries

abbrev pub windowed : ℕ → ℕ → ℕ → List Entry → Log
windowed start size cr entries = mode_2 4 0x30 (a_write CWSTRT start ▸ done ∷ a_write CWSIZE size ▸ done ∷ a_write CR cr ▸ done ∷ entries)

-- RIS and SR; these after some bytes, each at a rising clock edge; a byte, and what became of a word at its edge.
abbrev pub shows : ℕ → ℕ → List Entry
shows ris sr = a_read RIS ▸ reads ris ∷ a_read SR ▸ reads sr ∷ []

abbrev pub sends : List ℕ → ℕ → ℕ → List Entry
sends bytes ris sr = a_run 0 (edges bytes) ▸ done ∷ shows ris sr

abbrev pub byte : ℕ → Packed → List Entry
byte x packed = a_sample 0 x ▸ sampled None nothing ∷ a_sample 0 (x + 0x10000) ▸ sampled None packed ∷ []

-- A device with a CR after 8 samples, made by hand.
abbrev pub coded_with : ℕ → (Capture → Capture) → Device
coded_with cr change = device (change (capture_of (write fresh CR cr).device)) (words_are no_slots 0 0 8 0 0 0)

-- What a code means.
unfoldable pub code_meanings : List Log
code_meanings =
    -- 004, mode 2: four codes. A code that matches no delimiter does nothing: before a frame, in a line, between lines, after a frame
    mode_2 4 0x4031
    (sends (code 0x77) 0 3 ++ sends FS 0 0 ++ sends (code 0x77) 0 0 ++ sends LE 0x10 1 ++ sends (code 0x77) 0x10 1 ++ sends LS 0x10 0 ++
    sends FE 0x19 3 ++ sends (code 0x77) 0x19 3 ++ sends FS 0x19 0) ∷
    -- 004, mode 1, SAV and EAV in pairs: line start 0x80 and line end 0x9D; the codes of blanking lines, 0xB6 and 0xAB, and 0xFF match no other and are frame ends.
    -- Enabled in mid frame: the frame begins with the first line start after a frame end
    mode_1 4 0x4031
    (sends (code 0x80) 0 3 ++ sends (1 ∷ 2 ∷ 3 ∷ 4 ∷ code 0x9D) 0 3 ++ sends (code 0xB6 ++ code 0xAB) 0 3 ++ sends (code 0x80) 0 0 ++
    sends (1 ∷ 2 ∷ 3 ∷ 4 ∷ []) 0 4 ++ sends (code 0x9D) 0x10 5 ++ sends (code 0x80 ++ 5 ∷ 6 ∷ 7 ∷ 8 ∷ []) 0x10 4 ++
    sends (code 0x9D) 0x10 5 ++ sends (code 0xB6) 0x19 7 ++ sends (code 0xAB) 0x19 7 ++ lands_at 0 ∷ lands_at 4 ∷
    the_memory ▸ holds (1 ∷ 2 ∷ 3 ∷ 4 ∷ 5 ∷ 6 ∷ 7 ∷ 8 ∷ []) ∷ a_write ICR 0x1F ▸ done ∷ sends (code 0xFF) 0 3 ++ sends (code 0x80) 0 0 ++
    sends (code 0xFF) 0x19 3) ∷
    -- "FSC 0xFF matches nothing", whatever its unmask, not even XY FF
    coded 4 0xD4C3B2FF 0xFFFFFF00 0x4031
    (sends (FS ++ code 0xFF) 0 3 ++ sends (FE ++ FS ++ code 0xFF) 0 3 ++ sends LS 0 0 ++ sends (FS ++ code 0xFF) 0 0 ++ sends FE 0x19 3) ∷
    coded 4 0xD4C3B2FF 0xFFFFFFFF 0x4031 (sends (FE ++ code 0xFF) 0 3 ++ sends LS 0 0 ++ sends (code 0xFF) 0 0) ∷
    -- "FEC 0xFF makes just the codes that match no other a frame end", whatever its unmask
    coded 4 0xFFC3B2A1 0x00FFFFFF 0x4031
    (sends FS 0 0 ++ sends LE 0x10 1 ++ sends LS 0x10 0 ++ sends (code 0x77) 0x19 3 ++ sends FS 0x19 0 ++ sends LE 0x19 1) ∷
    coded 4 0xFFC3B2A1 0xFFFFFFFF 0x4031 (sends FS 0 0 ++ sends (code 0x77) 0x19 3 ++ sends FS 0x19 0 ++ a_write ICR 0x1F ▸ done ∷ sends (code 0xFF) 0x19 3) ∷
    -- LSC and LEC 0xFF are ordinary, also where FEC or FSC is 0xFF
    coded 4 0xD4C3FFA1 0xFFFFFFFF 0x4031 (sends (FS ++ LE) 0x10 1 ++ sends LS 0x10 1 ++ sends (code 0xFF) 0x10 0) ∷
    coded 4 0xFFC3FFA1 0xFFFFFFFF 0x4031 (sends (FS ++ LE) 0x10 1 ++ sends (code 0xFF) 0x10 0 ++ sends (code 0x77) 0x19 3) ∷
    coded 4 0xFFFFB2A1 0xFFFFFFFF 0x4031 (sends FS 0 0 ++ sends (code 0xFF) 0x10 1) ∷
    coded 4 0xD4C3FFFF 0xFFFFFFFF 0x4031 (sends FE 0 3 ++ sends (code 0xFF) 0 0) ∷
    -- the manual's example, FS 0xA5 with unmask 0x10: bit 4 is compared alone, and is 0
    coded 4 0x333231A5 0xFFFFFF10 0x4031
    (sends (code 0x10 ++ code 0xB5) 0 3 ++ sends (code 0) 0 0 ++ sends (code 0x32) 0x10 1 ++ sends (code 0x31) 0x10 0 ++
    sends (code 0x33) 0x19 3 ++ sends (code 0xA5) 0x19 0) ∷
    coded 4 0x333231A5 0xFFFFFF10 0x4031 (sends (code 0xEF) 0 0 ++ sends (code 0xEF) 4 3) ∷
    -- "if they agree on the unmask bits that are 1": FEU 0x81, LEU 0xF0, LSU 0x0F
    coded 4 0xD4C3B2A1 0x81F00FFF 0x4031
    (sends FS 0 0 ++ sends (code 0x81) 0 0 ++ sends (code 0xC9) 0x10 1 ++ sends (code 0x73 ++ code 0) 0x10 1 ++ sends (code 0x72) 0x10 0 ++
    sends (code 0x80) 0x19 3) ∷
    -- unmask 0 matches everything, and "frame end, frame start, line end, line start is the order": all four, with delimiters and at reset
    coded 4 0xD4C3B2A1 0x00000000 0x4031 (sends (FS ++ LS ++ LE ++ FE ++ code 0x77) 0 3) ∷
    coded 4 0 0 0x4031 (sends (code 0 ++ code 0xFF ++ FS) 0 3) ∷
    -- frame start, line end and line start; line end and line start
    coded 4 0xD4C3B2A1 0xFF000000 0x4031 (sends (code 0x77) 0 0 ++ sends FE 0x19 3 ++ sends LS 0x19 0 ++ sends LE 0x1D 3) ∷
    coded 4 0xD4C3B2A1 0xFF0000FF 0x4031 (sends FS 0 0 ++ sends LS 0x10 1 ++ sends LS 0x14 3) ∷
    -- frame end with each of the others; frame start with line end and with line start; line end with line start
    coded 4 0xA4C3B2A1 0xF0FFFFFF 0x4031 (sends FS 0 3) ∷
    coded 4 0xD4D3B2A1 0xF0FFFFFF 0x4031 (sends FS 0 0 ++ sends (code 0xD3) 0x19 3) ∷
    coded 4 0xD4C3D2A1 0xF0FFFFFF 0x4031 (sends (FS ++ LE) 0x10 1 ++ sends (code 0xD2) 0x19 3) ∷
    coded 4 0xD4A3B2A1 0xFFFFFFF0 0x4031 (sends (code 0xA3) 0 0 ++ sends (code 0xA3) 4 3) ∷
    coded 4 0xD4C3A2A1 0xFFFFFFF0 0x4031 (sends (FS ++ LE) 0x10 1 ++ sends (code 0xA2) 0x14 3) ∷
    coded 4 0xD4C3C2A1 0xFFF0FFFF 0x4031 (sends FS 0 0 ++ sends (code 0xC2) 0x10 1 ++ sends (code 0xC2) 0x14 3) ∷
    []

-- Frames and lines.
unfoldable pub coded_frames : List Log
coded_frames =
    -- "none of its four bytes is captured"; "a frame lasts from its start code, which opens its first line": nothing is captured before it or after its end
    mode_2 4 0x4031
    (sends (1 ∷ 2 ∷ 3 ∷ 4 ∷ []) 0 3 ++ sends (FS ++ 5 ∷ 6 ∷ 7 ∷ []) 0 0 ++ byte 8 (completed 0x08070605) ++ sends LE 0x10 5 ++
    sends FE 0x19 7 ++ sends (9 ∷ 0x0A ∷ 0x0B ∷ 0x0C ∷ []) 0x19 7 ++ lands_at 0 ∷
    the_memory ▸ holds (5 ∷ 6 ∷ 7 ∷ 8 ∷ 0xEE ∷ 0xEE ∷ 0xEE ∷ 0xEE ∷ []) ∷ the_counts ▸ counts 49 1 1 0 0 1 ∷ []) ∷
    -- "to its end code, which closes any": LINE rises where it closes a line, and not between lines
    mode_2 4 0x4031 (sends FS 0 0 ++ sends FE 0x19 3) ∷
    mode_2 4 0x4031 (sends (FS ++ LE) 0x10 1 ++ a_write ICR 0x1F ▸ done ∷ sends FE 9 3) ∷
    -- "pixels lie in lines": bytes between lines are none, and packing runs on across lines; the partial word of a frame is no part of the next
    mode_2 4 0x4031
    (sends (FS ++ 1 ∷ 2 ∷ LE) 0x10 1 ++ sends (9 ∷ 9 ∷ 9 ∷ 9 ∷ []) 0x10 1 ++ sends (LS ++ 3 ∷ []) 0x10 0 ++ byte 4 (completed 0x04030201) ++
    the_counts ▸ counts 40 1 0 0 1 0 ∷ sends (5 ∷ FE) 0x19 7 ++ sends (FS ++ 6 ∷ 7 ∷ 8 ∷ []) 0x19 4 ++ byte 9 (completed 0x09080706)) ∷
    -- "lines count from their codes, empty ones too": line 2 behind an empty line 1, and line 1 behind an empty line 0; in the next frame from 0 again
    windowed 0x20000 3 0x4035
    (sends (FS ++ 1 ∷ 2 ∷ 3 ∷ 4 ∷ LE ++ LS ++ LE ++ LS) 0x10 0 ++ sends (5 ∷ 6 ∷ 7 ∷ []) 0x10 0 ++ byte 8 (completed 0x08070605) ++
    sends LE 0x11 5 ++ sends FE 0x19 7) ∷
    windowed 0x10000 3 0x4035
    (sends (FS ++ LE ++ LS ++ 1 ∷ 2 ∷ 3 ∷ []) 0x10 0 ++ byte 4 (completed 0x04030201) ++ sends FE 0x19 7 ++
    sends (FS ++ 5 ∷ 6 ∷ 7 ∷ 8 ∷ []) 0x19 4 ++ sends (LE ++ LS ++ 5 ∷ 6 ∷ 7 ∷ []) 0x19 4 ++ byte 8 (completed 0x08070605)) ∷
    -- columns count the data bytes of a line, from 0 in each: columns 1 and 2 of lines 0 and 1; bytes between lines count nowhere
    windowed 1 0x10001 0x4035
    (sends (FS ++ 1 ∷ 2 ∷ 3 ∷ 4 ∷ []) 0 0 ++ sends (LE ++ 9 ∷ 9 ∷ LS ++ 5 ∷ 6 ∷ []) 0x10 0 ++ byte 7 (completed 0x07060302) ++
    sends (8 ∷ []) 0x10 4) ∷
    -- "8 bits only": the data bits above 7 are ignored, in codes and in data
    mode_2 4 0x4031
    (sends (0x1FF ∷ 0x100 ∷ 0x200 ∷ 0x3FA1 ∷ 0x3F11 ∷ 0x122 ∷ 0x233 ∷ []) 0 0 ++ byte 0x2144 (completed 0x44332211) ++
    sends (0x2FF ∷ 0x3F00 ∷ 0x100 ∷ 0x1C3 ∷ []) 0x10 5) ∷
    -- "sync pins are ignored", whatever their polarities: in codes, in a line and outside; no pin ends a line or raises a flag
    mode_2 4 0x40F1
    (sends (0xC0FF ∷ 0x4000 ∷ 0x8000 ∷ 0xA1 ∷ 0xC001 ∷ 0x4002 ∷ 0x8003 ∷ []) 0 0 ++ byte 0xC004 (completed 0x04030201) ++
    sends (0xFF ∷ 0xC000 ∷ 0 ∷ 0x40C3 ∷ []) 0x10 5 ++ sends (0xC000 ∷ 0 ∷ 0x8000 ∷ []) 0x10 5) ∷
    mode_2 4 0x4031
    (sends (0xFF ∷ 0xC000 ∷ 0x4000 ∷ 0x80A1 ∷ 1 ∷ 0x4002 ∷ 0x8003 ∷ []) 0 0 ++ byte 0xC004 (completed 0x04030201) ++
    sends (0xC0FF ∷ 0 ∷ 0xC000 ∷ 0xD4 ∷ []) 0x19 7) ∷
    -- a byte comes at a working edge: with PCKPOL 0 where the clock falls; samples without one leave the bytes that wait
    mode_2 4 0x4011 (a_run 0 (0x10055 ∷ 0x000FF ∷ 0x10055 ∷ 0x00000 ∷ 0x100FF ∷ 0x00000 ∷ 0x10055 ∷ 0x000A1 ∷ []) ▸ done ∷ a_read SR ▸ reads 0 ∷ []) ∷
    mode_2 4 0x4031
    (a_run 0 (edges (0xFF ∷ 0 ∷ []) ++ 0x10055 ∷ 0x100FF ∷ 0x00066 ∷ 0x000FF ∷ 0x10000 ∷ 0x00000 ∷ 0x100A1 ∷ []) ▸ done ∷
    a_read SR ▸ reads 0 ∷ []) ∷
    -- "with CAPTURE 1": with CAPTURE 0 neither flag rises; the frame is open all the same, and not taken
    mode_2 4 0x4030 (sends FS 0 0 ++ sends (1 ∷ 2 ∷ 3 ∷ 4 ∷ LE) 0 1 ++ sends LS 0 0 ++ sends FE 0 3 ++ the_counts ▸ counts 40 0 0 0 0 0 ∷ []) ∷
    -- CAPTURE cleared in a taken frame: it runs to its end, and FRAME rises alone
    mode_2 4 0x4031
    (sends (FS ++ 1 ∷ 2 ∷ []) 0 0 ++ a_write CR 0x4030 ▸ done ∷ sends LE 0 1 ++ sends (LS ++ 3 ∷ []) 0 0 ++ byte 4 (completed 0x04030201) ++
    sends FE 1 7) ∷
    -- CAPTURE set in a frame that began without it: VSYNC and LINE rise, FRAME does not; nothing is captured, a snapshot goes on, and the next frame is taken
    mode_2 4 0x4030
    (sends FS 0 0 ++ a_write CR 0x4031 ▸ done ∷ sends (1 ∷ 2 ∷ 3 ∷ 4 ∷ LE) 0x10 1 ++ sends (LS ++ FE) 0x18 3 ++
    the_counts ▸ counts 40 0 0 0 0 0 ∷ sends (FS ++ 5 ∷ 6 ∷ 7 ∷ []) 0x18 0 ++ byte 8 (completed 0x08070605)) ∷
    mode_2 4 0x4032
    (sends FS 0 0 ++ a_write CR 0x4033 ▸ done ∷ sends (1 ∷ 2 ∷ 3 ∷ 4 ∷ FE) 0x18 3 ++ a_read CR ▸ reads 0x4033 ∷
    sends (FS ++ 5 ∷ 6 ∷ 7 ∷ []) 0x18 0 ++ byte 8 (completed 0x08070605) ++ sends FE 0x19 7 ++ a_read CR ▸ reads 0x4032 ∷ []) ∷
    -- CAPTURE is read at XY: written between FF 00 00 and the XY of a frame start, a line end and a frame end
    mode_2 4 0x4030 (sends (0xFF ∷ 0 ∷ 0 ∷ []) 0 3 ++ a_write CR 0x4031 ▸ done ∷ sends (0xA1 ∷ 1 ∷ 2 ∷ 3 ∷ []) 0 0 ++ byte 4 (completed 0x04030201)) ∷
    mode_2 4 0x4031
    (sends (0xFF ∷ 0 ∷ 0 ∷ []) 0 3 ++ a_write CR 0x4030 ▸ done ∷ sends (0xA1 ∷ 1 ∷ 2 ∷ 3 ∷ 4 ∷ []) 0 0 ++ sends (0xFF ∷ 0 ∷ 0 ∷ []) 0 0 ++
    a_write CR 0x4031 ▸ done ∷ sends (0xC3 ∷ []) 0x10 1 ++ sends (0xFF ∷ 0 ∷ 0 ∷ []) 0x10 1 ++ a_write CR 0x4030 ▸ done ∷
    sends (0xD4 ∷ []) 0x10 3 ++ the_counts ▸ counts 32 0 0 0 0 0 ∷ []) ∷
    -- FCRC 1: the second frame is not taken, and raises VSYNC and LINE; the third is taken
    mode_2 4 0x4131
    (sends (FS ++ 1 ∷ 2 ∷ 3 ∷ 4 ∷ FE) 0x19 7 ++ a_write ICR 0x1F ▸ done ∷ sends (FS ++ 5 ∷ 6 ∷ 7 ∷ 8 ∷ FE) 0x18 7 ++
    the_counts ▸ counts 48 1 0 0 1 0 ∷ sends (FS ++ 9 ∷ 0x0A ∷ 0x0B ∷ []) 0x18 4 ++ byte 0x0C (completed 0x0C0B0A09)) ∷
    -- "with CAPTURE 0 it is not taken or counted": CAPTURE is set again in the frame, which leaves the counter, so that the next frame is the second; CAPTURE set outside a
    -- frame begins anew
    mode_2 4 0x4131
    (sends (FS ++ FE) 0x19 3 ++ a_write CR 0x4130 ▸ done ∷ a_write ICR 0x1F ▸ done ∷ sends FS 0 0 ++ a_write CR 0x4131 ▸ done ∷
    sends FE 0x18 3 ++ sends (FS ++ 1 ∷ 2 ∷ 3 ∷ 4 ∷ FE) 0x18 3 ++ sends (FS ++ 5 ∷ 6 ∷ 7 ∷ []) 0x18 0 ++ byte 8 (completed 0x08070605) ++
    sends FE 0x19 7) ∷
    mode_2 4 0x4131 (sends (FS ++ FE) 0x19 3 ++ a_write CR 0x4130 ▸ done ∷ a_write CR 0x4131 ▸ done ∷ a_write ICR 0x1F ▸ done ∷ sends (FS ++ FE) 0x19 3) ∷
    -- FSC 0xFF: frames count, not lines
    mode_1 4 0x4131
    (sends (code 0xB6 ++ code 0x80 ++ 1 ∷ 2 ∷ code 0x9D ++ code 0x80 ++ 3 ∷ []) 0x10 0 ++ byte 4 (completed 0x04030201) ++ sends (code 0xB6) 0x19 7 ++
    a_write ICR 0x1F ▸ done ∷ sends (code 0x80 ++ 5 ∷ 6 ∷ 7 ∷ 8 ∷ code 0xB6) 0x18 7 ++ the_counts ▸ counts 72 1 0 0 1 0 ∷
    sends (code 0x80 ++ 5 ∷ 6 ∷ 7 ∷ []) 0x18 4 ++ byte 8 (completed 0x08070605)) ∷
    mode_1 4 0x4030
    (sends (code 0xB6) 0 3 ++ sends (code 0x80) 0 0 ++ sends (1 ∷ 2 ∷ 3 ∷ 4 ∷ code 0x9D) 0 1 ++ sends (code 0xAB) 0 3 ++ the_counts ▸ counts 40 0 0 0 0 0 ∷ []) ∷
    mode_2 4 0x4031 (sends (FS ++ 1 ∷ 2 ∷ 3 ∷ 4 ∷ []) 0 4 ++ a_write CR 0x4030 ▸ done ∷ sends LS 4 3 ++ the_counts ▸ counts 24 1 0 1 0 0 ∷ []) ∷
    mode_2 4 0x4031 (sends (0xFF ∷ 0 ∷ 0 ∷ []) 0 3 ++ a_write ICR 0x1F ▸ done ∷ a_write IER 0 ▸ done ∷ sends (0xA1 ∷ []) 0 0) ∷
    -- a stream in ITU-R BT.656's own order with FSC 0xAB, FEC 0xB6 and a window from line 1 on: each line of blanking is a frame, and the last one's goes on with the
    -- lines of the picture, as line 1 and so on
    coded 4 0xB69D80AB 0xFFFFFFFF 0x34
    (a_write CWSTRT 0x10000 ▸ done ∷ a_write CWSIZE 0x10003 ▸ done ∷ a_write CR 0x4035 ▸ done ∷
    sends (line_656 0xB6 0xAB (0x80 ∷ 0x10 ∷ 0x80 ∷ 0x10 ∷ [])) 0 0 ++ sends (line_656 0xB6 0xAB (0x80 ∷ 0x10 ∷ 0x80 ∷ 0x10 ∷ [])) 0x19 0 ++
    a_write ICR 0x1F ▸ done ∷ sends (line_656 0x9D 0x80 (1 ∷ 2 ∷ 3 ∷ 4 ∷ [])) 0x10 4 ++ sends (line_656 0x9D 0x80 (5 ∷ 6 ∷ 7 ∷ 8 ∷ [])) 0x10 4 ++
    sends (line_656 0xB6 0xAB (0x80 ∷ 0x10 ∷ 0x80 ∷ 0x10 ∷ [])) 0x19 4 ++ lands_at 0 ∷ lands_at 4 ∷
    the_memory ▸ holds (1 ∷ 2 ∷ 3 ∷ 4 ∷ 5 ∷ 6 ∷ 7 ∷ 8 ∷ []) ∷ []) ∷
    -- a snapshot: the flags rise before its CAPTURE is cleared, and the next frame raises none
    mode_2 4 0x4033
    (sends (FS ++ 1 ∷ []) 0 0 ++ sends FE 0x19 3 ++ a_read CR ▸ reads 0x4032 ∷ a_write ICR 0x1F ▸ done ∷
    sends (FS ++ 1 ∷ 2 ∷ 3 ∷ 4 ∷ LE ++ FE) 0 3 ++ the_counts ▸ counts 50 0 0 0 0 0 ∷ []) ∷
    -- W1: the line end of line VST + VLINE is the early moment, once in a frame, "even if nothing was captured"; a later line end or frame end does not raise it again
    windowed 0 3 0x4035
    (sends (FS ++ 1 ∷ 2 ∷ 3 ∷ 4 ∷ []) 0 4 ++ sends LE 0x11 5 ++ a_write ICR 1 ▸ done ∷ sends (LS ++ 5 ∷ LE) 0x10 5 ++ sends FE 0x18 7 ++
    sends (FS ++ LE) 0x19 5) ∷
    windowed 0x10000 0 0x4035 (sends (FS ++ LE ++ LS) 0x10 0 ++ sends LE 0x11 1 ++ a_write ICR 0x1F ▸ done ∷ sends LS 0 0 ++ sends FE 0x18 3) ∷
    -- a frame end code that closes that line is the frame end, and so is one before that line
    windowed 0 3 0x4035 (sends (FS ++ 1 ∷ []) 0 0 ++ sends FE 0x19 3) ∷
    windowed 0x10000 0 0x4035 (sends (FS ++ LE) 0x10 1 ++ sends FE 0x19 3) ∷
    -- with CROP 0 not before frame end; not in an untaken frame; with CAPTURE cleared FRAME alone; a snapshot keeps its CAPTURE to the frame end
    windowed 0 0 0x4031 (sends (FS ++ LE) 0x10 1 ++ sends FE 0x19 3) ∷
    windowed 0 0 0x4135 (sends (FS ++ LE ++ FE) 0x19 3 ++ a_write ICR 0x1F ▸ done ∷ sends (FS ++ LE) 0x10 1 ++ sends FE 0x18 3) ∷
    windowed 0 0 0x4035 (sends FS 0 0 ++ a_write CR 0x4034 ▸ done ∷ sends LE 1 1 ++ sends FE 1 3) ∷
    windowed 0 0 0x4037 (sends (FS ++ LE) 0x11 1 ++ a_read CR ▸ reads 0x4037 ∷ sends FE 0x19 3 ++ a_read CR ▸ reads 0x4036 ∷ []) ∷
    []

-- ERR.
unfoldable pub code_errors : List Log
code_errors =
    -- "a line start in an open line": ERR rises, the held word is discarded, the partial word dropped, the frame closed without FRAME; CAPTURE stays. The next frame is
    -- captured
    mode_2 4 0x4031
    (sends (FS ++ 1 ∷ 2 ∷ 3 ∷ 4 ∷ 5 ∷ []) 0 4 ++ sends (0xFF ∷ 0 ∷ 0 ∷ []) 0 4 ++ byte 0xB2 nothing ++ shows 4 3 ++
    a_read CR ▸ reads 0x4031 ∷ the_counts ▸ counts 26 1 0 1 0 0 ∷ sends (6 ∷ 7 ∷ 8 ∷ 9 ∷ []) 4 3 ++ sends FE 4 3 ++
    sends (FS ++ 6 ∷ 7 ∷ 8 ∷ []) 4 0 ++ byte 9 (completed 0x09080706) ++ sends FE 0x1D 7) ∷
    -- in a frame that CAPTURE or the rate does not take: the word of the frame before is discarded
    mode_2 4 0x4030 (sends (FS ++ LS) 4 3) ∷
    mode_2 4 0x4131 (sends (FS ++ 1 ∷ 2 ∷ 3 ∷ 4 ∷ FE) 0x19 7 ++ a_write ICR 0x1F ▸ done ∷ sends (FS ++ LS) 4 3 ++ the_counts ▸ counts 40 1 0 1 0 0 ∷ []) ∷
    -- "a frame start in a frame", in a line and between lines: it starts nothing, and the one after it does
    mode_2 4 0x4031
    (sends (FS ++ 1 ∷ []) 0 0 ++ sends FS 4 3 ++ sends (2 ∷ 3 ∷ 4 ∷ 5 ∷ []) 4 3 ++ the_counts ▸ counts 26 0 0 0 0 0 ∷ sends FS 4 0 ++
    sends (6 ∷ 7 ∷ 8 ∷ []) 4 0 ++ byte 9 (completed 0x09080706)) ∷
    mode_2 4 0x4031 (sends (FS ++ LE) 0x10 1 ++ sends FS 0x14 3) ∷
    mode_2 4 0x4030 (sends (FS ++ FS) 4 3 ++ sends FS 4 0) ∷
    mode_2 4 0x4131 (sends (FS ++ 1 ∷ 2 ∷ 3 ∷ 4 ∷ FE) 0x19 7 ++ a_write ICR 0x1F ▸ done ∷ sends (FS ++ FS) 4 3 ++ the_counts ▸ counts 40 1 0 1 0 0 ∷ []) ∷
    -- "a line end outside a line": between lines, taken and not; between frames, where the held word is discarded too
    mode_2 4 0x4031 (sends (FS ++ LE) 0x10 1 ++ sends LE 0x14 3) ∷
    mode_2 4 0x4030 (sends (FS ++ LE) 0 1 ++ sends LE 4 3) ∷
    mode_2 4 0x4131 (sends (FS ++ FE) 0x19 3 ++ a_write ICR 0x1F ▸ done ∷ sends (FS ++ LE) 0x10 1 ++ sends LE 0x14 3) ∷
    mode_2 4 0x4031 (sends (FS ++ 1 ∷ 2 ∷ 3 ∷ 4 ∷ FE) 0x19 7 ++ sends LE 0x1D 3 ++ the_counts ▸ counts 32 1 0 1 0 0 ∷ []) ∷
    mode_2 4 0x4030 (sends (FS ++ FE) 0 3 ++ sends LE 4 3) ∷
    -- "a line start outside a frame", where FSC is not 0xFF
    mode_2 4 0x4031 (sends (FS ++ 1 ∷ 2 ∷ 3 ∷ 4 ∷ FE) 0x19 7 ++ sends LS 0x1D 3 ++ the_counts ▸ counts 32 1 0 1 0 0 ∷ []) ∷
    mode_2 4 0x4030 (sends (FS ++ FE) 0 3 ++ sends LS 4 3) ∷
    -- where it is 0xFF: a line start in an open line, a line end between lines and between frames
    mode_1 4 0x4031 (sends (code 0xB6 ++ code 0x80) 0 0 ++ sends (code 0x80) 4 3) ∷
    mode_1 4 0x4031 (sends (code 0xB6 ++ code 0x80 ++ code 0x9D) 0x10 1 ++ sends (code 0x9D) 0x14 3) ∷
    mode_1 4 0x4031 (sends (code 0xB6) 0 3 ++ sends (code 0x9D) 4 3) ∷
    -- so of a stream in ITU-R BT.656's own order, where V changes with EAV, nothing is captured: a line of blanking, two of the picture, and once more. The first 9D
    -- behind B6 .. AB is a line end between frames, and until the next B6 no code counts, neither 80 nor 9D
    mode_1 4 0x4031
    (sends (line_656 0xB6 0xAB (0x80 ∷ 0x10 ∷ [])) 0 3 ++ sends (line_656 0x9D 0x80 (1 ∷ 2 ∷ 3 ∷ 4 ∷ [])) 4 3 ++
    sends (line_656 0x9D 0x80 (5 ∷ 6 ∷ 7 ∷ 8 ∷ [])) 4 3 ++ a_write ICR 4 ▸ done ∷ sends (line_656 0xB6 0xAB (0x80 ∷ 0x10 ∷ [])) 0 3 ++
    sends (code 0x9D) 4 3 ++ sends (0x80 ∷ 0x10 ∷ code 0x80 ++ 1 ∷ 2 ∷ 3 ∷ 4 ∷ line_656 0x9D 0x80 (5 ∷ 6 ∷ 7 ∷ 8 ∷ [])) 4 3 ++
    sends (line_656 0xB6 0xAB (0x80 ∷ 0x10 ∷ [])) 4 3 ++ the_counts ▸ counts 184 0 0 0 0 0 ∷ []) ∷
    -- a frame end outside a frame is no error and does nothing: the held word stays, and a frame may start
    mode_2 4 0x4031
    (sends (FS ++ 1 ∷ 2 ∷ 3 ∷ 4 ∷ FE) 0x19 7 ++ a_write ICR 0x1F ▸ done ∷ sends (FE ++ FE) 0 7 ++ the_counts ▸ counts 40 1 0 0 1 0 ∷
    sends FS 0 4) ∷
    -- all held words are discarded, landed ones are not, and the place stays; a grant at the edge of XY comes first
    mode_2 4 0x4031
    (sends (FS ++ 1 ∷ 2 ∷ 3 ∷ 4 ∷ 5 ∷ 6 ∷ 7 ∷ 8 ∷ 9 ∷ 0x0A ∷ 0x0B ∷ 0x0C ∷ []) 0 4 ++ lands_at 0 ∷ sends FS 4 3 ++
    the_counts ▸ counts 41 3 1 2 0 1 ∷ sends (FS ++ 0x21 ∷ 0x22 ∷ 0x23 ∷ []) 4 0 ++ byte 0x24 (completed 0x24232221) ++ lands_at 4 ∷
    the_memory ▸ holds (1 ∷ 2 ∷ 3 ∷ 4 ∷ 0x21 ∷ 0x22 ∷ 0x23 ∷ 0x24 ∷ []) ∷ []) ∷
    mode_2 4 0x4031
    (sends (FS ++ 1 ∷ 2 ∷ 3 ∷ 4 ∷ 5 ∷ 6 ∷ 7 ∷ 8 ∷ 0xFF ∷ 0 ∷ 0 ∷ []) 0 4 ++ a_sample 0 0x000A1 ▸ sampled None nothing ∷
    a_sample 0 0x300A1 ▸ sampled (Some 0) nothing ∷ the_counts ▸ counts 32 2 1 1 0 1 ∷ []) ∷
    -- with CM 1 CAPTURE stays, and the next frame is the snapshot; the rate counter stays
    mode_2 4 0x4033
    (sends (FS ++ 1 ∷ FS) 4 3 ++ a_read CR ▸ reads 0x4033 ∷ sends (FS ++ 1 ∷ 2 ∷ 3 ∷ []) 4 0 ++ byte 4 (completed 0x04030201) ++
    sends FE 0x1D 7 ++ a_read CR ▸ reads 0x4032 ∷ []) ∷
    mode_2 4 0x4131 (sends (FS ++ FS) 4 3 ++ sends (FS ++ 1 ∷ 2 ∷ 3 ∷ 4 ∷ FE) 0x1C 3 ++ sends (FS ++ 5 ∷ 6 ∷ 7 ∷ []) 0x1C 0 ++ byte 8 (completed 0x08070605)) ∷
    -- with CROP 1 an error before the window has ended leaves no FRAME
    windowed 0 0 0x4035 (sends (FS ++ 1 ∷ LS) 4 3 ++ sends (LE ++ FE) 4 3) ∷
    -- ERR is bit 2 of RIS and MIS, moves the interrupt line, and is cleared by ICR
    mode_2 4 0x4031
    (a_write IER 4 ▸ done ∷ sends FS 0 0 ++ the_line ▸ line false ∷ sends FS 4 3 ++ a_read 0x10 ▸ reads 4 ∷ the_line ▸ line true ∷
    a_write ICR 4 ▸ done ∷ shows 0 3 ++ the_line ▸ line false ∷ []) ∷
    []

-- What counts after enabling, ERR and overrun.
unfoldable pub only_frame_starts : List Log
only_frame_starts =
    -- "after enabling ... only a frame start counts": no other code has an effect, and enabling raises no flag
    mode_2 4 0x4031
    (sends (0x41 ∷ []) 0 3 ++ sends LS 0 3 ++ sends LE 0 3 ++ sends FE 0 3 ++ sends (LS ++ LE ++ LE) 0 3 ++
    sends (1 ∷ 2 ∷ 3 ∷ 4 ∷ []) 0 3 ++ the_counts ▸ counts 58 0 0 0 0 0 ∷ sends FS 0 0) ∷
    -- after ERR; after an overrun, of which CAPTURE stays with CM 0
    mode_2 4 0x4031
    (sends (FS ++ FS) 4 3 ++ a_write ICR 4 ▸ done ∷ sends LS 0 3 ++ sends LE 0 3 ++ sends FE 0 3 ++ sends LS 0 3 ++ sends LE 0 3 ++
    sends FS 0 0) ∷
    mode_2 1 0x4031
    (sends (FS ++ 1 ∷ 2 ∷ 3 ∷ 4 ∷ 5 ∷ 6 ∷ 7 ∷ []) 0 4 ++ byte 8 lost ++ shows 2 3 ++ a_read CR ▸ reads 0x4031 ∷
    the_counts ▸ counts 24 2 0 2 0 0 ∷ sends (9 ∷ LE) 2 3 ++ sends LS 2 3 ++ sends FE 2 3 ++ sends LE 2 3 ++ sends LS 2 3 ++ sends FS 2 0) ∷
    -- after ERR between lines, and between frames, also where FSC is 0xFF
    mode_2 4 0x4031 (sends (FS ++ LE ++ LE) 0x14 3 ++ a_write ICR 0x1F ▸ done ∷ sends LE 0 3 ++ sends LS 0 3 ++ sends FE 0 3 ++ sends FS 0 0) ∷
    mode_2 4 0x4031 (sends (FS ++ FE ++ LE) 0x1D 3 ++ a_write ICR 0x1F ▸ done ∷ sends LE 0 3 ++ sends LS 0 3 ++ sends FE 0 3 ++ sends LS 0 3 ++ sends FS 0 0) ∷
    mode_2 4 0x4031 (sends (FS ++ FE ++ LS) 0x1D 3 ++ a_write ICR 0x1F ▸ done ∷ sends LS 0 3 ++ sends LE 0 3 ++ sends FS 0 0) ∷
    mode_1 4 0x4031
    (sends (code 0xB6 ++ code 0x9D) 4 3 ++ a_write ICR 0x1F ▸ done ∷ sends (code 0x80) 0 3 ++ sends (code 0x9D) 0 3 ++
    sends (code 0xB6) 0 3 ++ sends (code 0x80) 0 0) ∷
    -- after enabling again, in a frame and between frames
    mode_2 4 0x4031 (sends FS 0 0 ++ a_write CR 0x30 ▸ done ∷ a_write CR 0x4031 ▸ done ∷ sends LE 0 3 ++ sends LS 0 3 ++ sends FE 0 3 ++ sends FS 0 0) ∷
    mode_2 4 0x4031
    (sends (FS ++ FE) 0x19 3 ++ a_write CR 0x30 ▸ done ∷ a_write CR 0x4031 ▸ done ∷ a_write ICR 0x1F ▸ done ∷ sends LS 0 3 ++
    sends LE 0 3 ++ sends FS 0 0) ∷
    -- "or a frame end if FSC is 0xFF": after enabling, ERR and an overrun; it raises no flag, and after it order is checked again
    mode_1 4 0x4031
    (sends (0x41 ∷ []) 0 3 ++ sends (code 0x80) 0 3 ++ sends (code 0x9D) 0 3 ++ sends (code 0xB6) 0 3 ++ sends (code 0x80) 0 0 ++
    sends (code 0x80) 4 3 ++ sends (code 0x80) 4 3 ++ sends (code 0x9D) 4 3 ++ sends (code 0xB6) 4 3 ++ sends (code 0x80) 4 0) ∷
    mode_1 1 0x4031
    (sends (code 0xB6 ++ code 0x80 ++ 1 ∷ 2 ∷ 3 ∷ 4 ∷ 5 ∷ 6 ∷ 7 ∷ 8 ∷ []) 2 3 ++ sends (code 0x80) 2 3 ++ sends (code 0x9D) 2 3 ++
    sends (code 0xAB) 2 3 ++ sends (code 0x80) 2 0) ∷
    mode_1 4 0x4031
    (sends (code 0xB6) 0 3 ++ a_write CR 0x30 ▸ done ∷ a_write CR 0x4031 ▸ done ∷ sends (code 0x80 ++ code 0x9D) 0 3 ++
    sends (code 0xB6) 0 3 ++ sends (code 0x9D) 4 3) ∷
    -- where FSC is not 0xFF a frame end does not count: order is not checked after it
    mode_2 4 0x4031 (sends (FE ++ LE ++ LS) 0 3 ++ sends FS 0 0) ∷
    -- no FRAME in a frame that overran, nor VSYNC or LINE; a snapshot lost in an overrun has CAPTURE 0, and no frame is taken after it
    mode_2 1 0x4033
    (sends (FS ++ 1 ∷ 2 ∷ 3 ∷ 4 ∷ 5 ∷ 6 ∷ 7 ∷ []) 0 4 ++ byte 8 lost ++ a_read CR ▸ reads 0x4032 ∷ sends (LE ++ FE) 2 3 ++
    sends (FS ++ 1 ∷ 2 ∷ 3 ∷ 4 ∷ FE) 2 3 ++ the_counts ▸ counts 64 2 0 2 0 0 ∷ []) ∷
    []

-- Bytes that wait, and their release.
unfoldable pub releases : List Log
releases =
    -- "bytes that begin like one and aren't are released as data in order": FF x; FF 00 x; nothing before the byte that releases them
    mode_2 4 0x4031 (sends (FS ++ 1 ∷ 2 ∷ 0xFF ∷ []) 0 0 ++ byte 0x33 (completed 0x33FF0201)) ∷
    mode_2 4 0x4031 (sends (FS ++ 1 ∷ 0xFF ∷ 0 ∷ []) 0 0 ++ byte 0x33 (completed 0x3300FF01)) ∷
    -- FF FF 00 00 XY: the first is a datum, the rest a code; FF 00 FF 00 00 XY: two are data
    mode_2 4 0x4031 (sends (FS ++ 1 ∷ 2 ∷ 3 ∷ 0xFF ∷ []) 0 0 ++ byte 0xFF (completed 0xFF030201) ++ sends (0 ∷ 0 ∷ 0xC3 ∷ []) 0x10 5) ∷
    mode_2 4 0x4031 (sends (FS ++ 1 ∷ 2 ∷ 0xFF ∷ 0 ∷ []) 0 0 ++ byte 0xFF (completed 0x00FF0201) ++ sends (0 ∷ 0 ∷ 0xC3 ∷ []) 0x10 5) ∷
    mode_2 4 0x4031 (sends (0xFF ∷ 0xFF ∷ 0 ∷ 0 ∷ 0xA1 ∷ []) 0 0 ++ sends (0xFF ∷ 0 ∷ 0xFF ∷ 0 ∷ 0 ∷ 0xC3 ∷ []) 0x10 1) ∷
    -- a code is one for every XY, from the left: in FF 00 00 FF 00 00 A1 the first four are, and 00 00 A1 are data; XY 0
    mode_2 4 0x4031 (sends (FS ++ 0xFF ∷ 0 ∷ 0 ∷ 0xFF ∷ []) 0 0 ++ sends (0 ∷ 0 ∷ 0xA1 ∷ []) 0 0 ++ byte 1 (completed 0x01A10000)) ∷
    mode_2 4 0x4031 (sends (FS ++ 0xFF ∷ 0 ∷ 0 ∷ 0 ∷ []) 0 0 ++ sends (1 ∷ 2 ∷ 3 ∷ []) 0 0 ++ byte 4 (completed 0x04030201)) ∷
    -- a word that the first of them fills, and the others in the next: "two words four samples apart"
    mode_2 4 0x4031 (sends (FS ++ 1 ∷ 2 ∷ 3 ∷ 0xFF ∷ []) 0 0 ++ byte 4 (completed 0xFF030201) ++ sends (5 ∷ 6 ∷ []) 0 4 ++ byte 7 (completed 0x07060504)) ∷
    mode_2 4 0x4031
    (sends (FS ++ 1 ∷ 2 ∷ 3 ∷ 0xFF ∷ 0 ∷ []) 0 0 ++ byte 4 (completed 0xFF030201) ++ byte 5 nothing ++ byte 6 (completed 0x06050400) ++
    the_counts ▸ counts 24 2 0 0 2 0 ∷ []) ∷
    -- "judged then", at their columns: 1 to 4 of FF 05 FF 00 06 07 and of FF FF FF FF 01; 0 to 3 of 1 2 FF 00 9; 1 to 4 with a code in the line, whose bytes have no
    -- column; 2 to 5 of FF 00 FF 00 05 06
    windowed 1 3 0x4035
    (sends (FS ++ 0xFF ∷ 5 ∷ 0xFF ∷ 0 ∷ []) 0 0 ++ byte 6 (completed 0x0600FF05) ++ sends (7 ∷ 8 ∷ 9 ∷ 0x0A ∷ []) 0 4 ++
    the_counts ▸ counts 26 1 0 0 1 0 ∷ []) ∷
    windowed 1 3 0x4035 (sends (FS ++ 0xFF ∷ 0xFF ∷ 0xFF ∷ 0xFF ∷ []) 0 0 ++ byte 1 (completed 0x01FFFFFF)) ∷
    windowed 0 3 0x4035 (sends (FS ++ 1 ∷ 2 ∷ 0xFF ∷ 0 ∷ []) 0 0 ++ byte 9 (completed 0x00FF0201) ++ sends LE 0x11 5) ∷
    windowed 1 3 0x4035 (sends (FS ++ 1 ∷ 2 ∷ code 0x77 ++ 3 ∷ 4 ∷ []) 0 0 ++ byte 5 (completed 0x05040302)) ∷
    windowed 2 3 0x4035 (sends (FS ++ 0xFF ∷ 0 ∷ 0xFF ∷ 0 ∷ []) 0 0 ++ byte 5 nothing ++ byte 6 (completed 0x060500FF)) ∷
    -- released between lines they are no pixels, nor outside a frame
    mode_2 4 0x4031
    (sends (0xFF ∷ 5 ∷ 0xFF ∷ 0 ∷ 6 ∷ FS ++ 1 ∷ 2 ∷ 3 ∷ LE) 0x10 1 ++ sends (0xFF ∷ 5 ∷ 0xFF ∷ 0 ∷ 6 ∷ []) 0x10 1 ++ sends LS 0x10 0 ++
    byte 4 (completed 0x04030201)) ∷
    -- an overrun at the first of two, and of three: those after it find no frame, and the next frame begins with a word of its own
    mode_2 1 0x4031
    (sends (FS ++ 1 ∷ 2 ∷ 3 ∷ 4 ∷ 5 ∷ 6 ∷ 7 ∷ 0xFF ∷ []) 0 4 ++ byte 8 lost ++ shows 2 3 ++ the_counts ▸ counts 26 2 0 2 0 0 ∷
    sends (FS ++ 1 ∷ 2 ∷ 3 ∷ []) 2 0 ++ byte 4 (completed 0x04030201)) ∷
    mode_2 1 0x4031
    (sends (FS ++ 1 ∷ 2 ∷ 3 ∷ 4 ∷ 5 ∷ 6 ∷ 7 ∷ 0xFF ∷ 0 ∷ []) 0 4 ++ byte 8 lost ++ shows 2 3 ++ the_counts ▸ counts 28 2 0 2 0 0 ∷
    sends (FS ++ 1 ∷ 2 ∷ 3 ∷ []) 2 0 ++ byte 4 (completed 0x04030201)) ∷
    -- at the second of two, at the second and at the third of three
    mode_2 1 0x4031 (sends (FS ++ 1 ∷ 2 ∷ 3 ∷ 4 ∷ 5 ∷ 6 ∷ 0xFF ∷ []) 0 4 ++ byte 8 lost ++ shows 2 3 ++ the_counts ▸ counts 24 2 0 2 0 0 ∷ []) ∷
    mode_2 1 0x4031 (sends (FS ++ 1 ∷ 2 ∷ 3 ∷ 4 ∷ 5 ∷ 6 ∷ 0xFF ∷ 0 ∷ []) 0 4 ++ byte 8 lost ++ shows 2 3 ++ the_counts ▸ counts 26 2 0 2 0 0 ∷ []) ∷
    mode_2 1 0x4031 (sends (FS ++ 1 ∷ 2 ∷ 3 ∷ 4 ∷ 5 ∷ 0xFF ∷ 0 ∷ []) 0 4 ++ byte 8 lost ++ shows 2 3 ++ the_counts ▸ counts 24 2 0 2 0 0 ∷ []) ∷
    -- an FF that begins to wait at that edge keeps waiting: 00 00 A1 after it is a frame start
    mode_2 1 0x4031 (sends (FS ++ 1 ∷ 2 ∷ 3 ∷ 4 ∷ 5 ∷ 6 ∷ 7 ∷ 0xFF ∷ []) 0 4 ++ byte 0xFF lost ++ shows 2 3 ++ sends (0 ∷ 0 ∷ 0xA1 ∷ []) 2 0) ∷
    mode_2 1 0x4031 (sends (FS ++ 1 ∷ 2 ∷ 3 ∷ 4 ∷ 5 ∷ 6 ∷ 0xFF ∷ 0 ∷ []) 0 4 ++ byte 0xFF lost ++ shows 2 3 ++ sends (0 ∷ 0 ∷ 0xA1 ∷ []) 2 0) ∷
    -- a grant at that edge makes room; of a snapshot CAPTURE becomes 0
    mode_2 1 0x4031
    (sends (FS ++ 1 ∷ 2 ∷ 3 ∷ 4 ∷ 5 ∷ 6 ∷ 7 ∷ 0xFF ∷ []) 0 4 ++ a_sample 0 0x00008 ▸ sampled None nothing ∷
    a_sample 0 0x30008 ▸ sampled (Some 0) (completed 0xFF070605) ∷ sends (9 ∷ 0x0A ∷ []) 0 4 ++ the_counts ▸ counts 30 2 1 0 1 1 ∷ []) ∷
    mode_2 1 0x4033 (sends (FS ++ 1 ∷ 2 ∷ 3 ∷ 4 ∷ 5 ∷ 6 ∷ 7 ∷ 0xFF ∷ []) 0 4 ++ byte 8 lost ++ shows 2 3 ++ a_read CR ▸ reads 0x4032 ∷ []) ∷
    -- re-arming leaves them: between FF 00 00 and XY, and between an FF and what releases it
    mode_2 4 0x4031
    (sends (0xFF ∷ 0 ∷ 0 ∷ []) 0 3 ++ a_rearming ▸ done ∷ sends (0xA1 ∷ 1 ∷ 2 ∷ 0xFF ∷ []) 0 0 ++ a_rearming ▸ done ∷
    byte 3 (completed 0x03FF0201)) ∷
    -- "disabling drops waiting bytes": no code and no data come of them; bytes while disabled are none
    mode_2 4 0x4031 (sends (0xFF ∷ 0 ∷ 0 ∷ []) 0 3 ++ a_write CR 0x30 ▸ done ∷ a_write CR 0x4031 ▸ done ∷ sends (0xA1 ∷ []) 0 3 ++ sends FS 0 0) ∷
    mode_2 4 0x4031 (sends (0xFF ∷ 0 ∷ []) 0 3 ++ a_write CR 0x30 ▸ done ∷ a_write CR 0x4031 ▸ done ∷ sends (0 ∷ 0xA1 ∷ []) 0 3 ++ sends FS 0 0) ∷
    mode_2 4 0x4031
    (sends (FS ++ 1 ∷ 2 ∷ 3 ∷ 0xFF ∷ []) 0 0 ++ a_write CR 0x30 ▸ done ∷ a_write CR 0x4031 ▸ done ∷ sends (4 ∷ []) 0 3 ++
    the_counts ▸ counts 18 0 0 0 0 0 ∷ sends (FS ++ 5 ∷ 6 ∷ 7 ∷ []) 0 0 ++ byte 8 (completed 0x08070605)) ∷
    mode_2 4 0x30 (sends (0xFF ∷ 0 ∷ 0 ∷ []) 0 3 ++ a_write CR 0x4031 ▸ done ∷ sends (0xA1 ∷ []) 0 3) ∷
    -- enabling drops them too, of a device that is handed in so
    log (coded_with 0x30 (with_waiting Three)) []
    (a_write ESCR 0xD4C3B2A1 ▸ done ∷ a_write ESUR 0xFFFFFFFF ▸ done ∷ a_write CR 0x4031 ▸ done ∷ sends (0xA1 ∷ []) 0 3) ∷
    []

-- ESCR, ESUR, ESS and SR.
unfoldable pub code_registers : List Log
code_registers =
    -- "registers ESCR 0x18 and ESUR 0x1C": read and written, each of its own, no reserved bits, 0 at reset; "neither is 2 any longer", but the offsets beside them
    log fresh []
    (a_read 0x18 ▸ reads 0 ∷ a_read 0x1C ▸ reads 0 ∷ a_write 0x18 0xFFFFFFFF ▸ done ∷ a_read 0x1C ▸ reads 0 ∷
    a_write 0x1C 0x12345678 ▸ done ∷ a_read 0x18 ▸ reads 0xFFFFFFFF ∷ a_read 0x1C ▸ reads 0x12345678 ∷ a_write 0x18 0 ▸ done ∷
    a_read 0x18 ▸ reads 0 ∷ all_refused 2 (0x17 ≔ 0 ∷ 0x19 ≔ 0 ∷ 0x1D ≔ 0 ∷ 0x28 ≔ 0 ∷ []) ++ a_read 0x1A ▸ refused 2 ∷
    a_read CR ▸ reads 0 ∷ []) ∷
    -- "ESCR and ESUR while enabled are 6", even with the same value, with ESS and without; they may be read, and written once disabled; enabling and disabling leave them
    mode_2 4 0x4031
    (all_refused 6 (ESCR ≔ 0xD4C3B2A1 ∷ ESUR ≔ 0xFFFFFFFF ∷ ESCR ≔ 0 ∷ ESUR ≔ 0 ∷ []) ++ a_read ESCR ▸ reads 0xD4C3B2A1 ∷
    a_read ESUR ▸ reads 0xFFFFFFFF ∷ a_write CR 0x30 ▸ done ∷ a_read ESCR ▸ reads 0xD4C3B2A1 ∷ a_write ESCR 0xFF9D80FF ▸ done ∷
    a_write ESUR 0xFFFFFF00 ▸ done ∷ a_read ESCR ▸ reads 0xFF9D80FF ∷ a_read ESUR ▸ reads 0xFFFFFF00 ∷ []) ∷
    log fresh []
    (a_write CR 0x4000 ▸ done ∷ all_refused 6 (ESCR ≔ 0 ∷ ESUR ≔ 0 ∷ ESCR ≔ 1 ∷ ESUR ≔ 1 ∷ []) ++ a_write CR 0 ▸ done ∷
    a_write ESCR 1 ▸ done ∷ a_write ESUR 1 ▸ done ∷ []) ∷
    -- a write between frames is refused and changes no delimiter
    mode_2 4 0x4031
    (sends (FS ++ FE) 0x19 3 ++ all_refused 6 (ESCR ≔ 0x77C3B2A1 ∷ ESUR ≔ 0 ∷ []) ++ a_write ICR 0x1F ▸ done ∷ sends FS 0 0 ++
    sends FE 0x19 3) ∷
    -- ESS is accepted, also with CM, CROP, FCRC 1 and 2, each polarity, and all of these; with ENABLE, and with CAPTURE
    log fresh [] (all_accepted (0x10 ∷ 0x12 ∷ 0x14 ∷ 0x110 ∷ 0x210 ∷ 0x30 ∷ 0x50 ∷ 0x90 ∷ 0x2F6 ∷ 0x4010 ∷ 0x4011 ∷ 0x10 ∷ 0x4037 ∷ 0x36 ∷ 0 ∷ [])) ∷
    -- "ESS with another EDM or with JPEG is 5", also with the rest of a set-up; FCRC 3 and CAPTURE 1 with ENABLE 0 are, with ESS too; 4 is before 5, and 5 before 6
    log fresh []
    (all_refused 5 (CR ≔ 0x410 ∷ CR ≔ 0x810 ∷ CR ≔ 0xC10 ∷ CR ≔ 0x18 ∷ CR ≔ 0x418 ∷ CR ≔ 0x1C ∷ CR ≔ 0x44F1 ∷ CR ≔ 0x48F1 ∷ CR ≔ 0x4CF5 ∷ CR ≔ 0x40F9 ∷ CR ≔ 0x310 ∷ CR ≔ 0x11 ∷ []) ++
    all_refused 4 (CR ≔ 0x1410 ∷ CR ≔ 0x8018 ∷ []) ++ a_read CR ▸ reads 0 ∷ a_write CR 0x4031 ▸ done ∷ all_refused 4 (CR ≔ 0x5431 ∷ []) ++
    all_refused 5 (CR ≔ 0x4431 ∷ CR ≔ 0x4039 ∷ CR ≔ 0x31 ∷ []) ++ a_read CR ▸ reads 0x4031 ∷ []) ∷
    -- ESS that would change while ENABLE is 1 is 6
    log fresh []
    (a_write CR 0x4031 ▸ done ∷ all_refused 6 (CR ≔ 0x4021 ∷ CR ≔ 0x20 ∷ []) ++ all_accepted (0x4030 ∷ 0x30 ∷ 0x20 ∷ 0x4021 ∷ []) ++
    all_refused 6 (CR ≔ 0x4031 ∷ CR ≔ 0x30 ∷ []) ++ all_accepted (0x20 ∷ 0x30 ∷ 0x4031 ∷ [])) ∷
    -- SR: "VSYNC blanks outside a frame, HSYNC outside a line", also while disabled, whatever the pins; their levels are remembered, and show once ESS is 0
    log fresh []
    (a_write CR 0x10 ▸ done ∷ a_read SR ▸ reads 3 ∷ a_run 0 (0x0C000 ∷ []) ▸ done ∷ a_read SR ▸ reads 3 ∷ a_write CR 0 ▸ done ∷
    a_read SR ▸ reads 0 ∷ a_write CR 0x10 ▸ done ∷ a_run 0 (0x04000 ∷ []) ▸ done ∷ a_read SR ▸ reads 3 ∷ a_write CR 0 ▸ done ∷
    a_read SR ▸ reads 2 ∷ a_write CR 0xC0 ▸ done ∷ a_read SR ▸ reads 1 ∷ []) ∷
    mode_2 4 0x40F1
    (a_read SR ▸ reads 3 ∷ sends FS 0 0 ++ sends (0xC001 ∷ 0x4002 ∷ []) 0 0 ++ sends (0xFF ∷ 0 ∷ 0 ∷ 0x80C3 ∷ []) 0x10 1 ++
    a_write CR 0xF0 ▸ done ∷ a_read SR ▸ reads 3 ∷ a_write CR 0xE0 ▸ done ∷ a_read SR ▸ reads 2 ∷ a_write CR 0x20 ▸ done ∷
    a_read SR ▸ reads 1 ∷ []) ∷
    mode_2 4 0x4031 (sends FS 0 0 ++ a_write CR 0x30 ▸ done ∷ a_read SR ▸ reads 3 ∷ a_write CR 0x4031 ▸ done ∷ a_read SR ▸ reads 3 ∷ []) ∷
    -- enabling with ESS 1 raises no flag, whatever the pins; nor does ESS 0 after it see what the codes left
    mode_2 4 0x40F1 (sends (0x41 ∷ []) 0 3 ++ sends (0xC041 ∷ []) 0 3) ∷
    mode_2 4 0x40F1
    (sends (FS ++ FE) 0x19 3 ++ a_write CR 0xF0 ▸ done ∷ a_write CR 0x40E1 ▸ done ∷ a_write ICR 0x1F ▸ done ∷
    a_run 0 (edges (0x41 ∷ 0x42 ∷ [])) ▸ done ∷ a_read RIS ▸ reads 0 ∷ a_read SR ▸ reads 0 ∷ the_counts ▸ counts 20 0 0 0 0 0 ∷
    a_run 0 (edge blank) ▸ done ∷ a_read RIS ▸ reads 0x18 ∷ []) ∷
    -- CR written between frames with CAPTURE 0 again leaves the rate counter, so that the next frame counted is the second
    mode_2 4 0x4131
    (sends (FS ++ FE) 0x19 3 ++ a_write CR 0x4130 ▸ done ∷ a_write CR 0x4130 ▸ done ∷ a_write ICR 0x1F ▸ done ∷ sends FS 0 0 ++
    a_write CR 0x4131 ▸ done ∷ sends FE 0x18 3 ++ sends (FS ++ 1 ∷ 2 ∷ 3 ∷ 4 ∷ FE) 0x18 3) ∷
    []

-- "ESS with another EDM or with JPEG" is excluded; ESCR and ESUR may hold anything. Bytes that wait and what the codes said last are free, with a frame open,
-- taken or not, and closed, also while ENABLE is 0 and with ESS 0.
abbrev pub every_syncs : List Syncs
every_syncs =
    record { hsync = false; vsync = false } ∷
    record { hsync = true; vsync = false } ∷
    record { hsync = false; vsync = true } ∷
    record { hsync = true; vsync = true } ∷
    []

abbrev pub with_every_sync : ℕ → Waiting → (Capture → Capture) → List Judged
with_every_sync cr k change = map (λ y. well (coded_with cr (λ s. with_waiting k (with_syncs y (change s))))) every_syncs

abbrev pub with_every_wait : ℕ → (Capture → Capture) → List Judged
with_every_wait cr change = with_every_sync cr Zero change ++ with_every_sync cr One change ++ with_every_sync cr Two change ++ with_every_sync cr Three change

unfoldable pub code_judged : List Judged
code_judged =
    well (registered (with_cr 0x10)) ∷
    well (registered (with_cr 0x2F6)) ∷
    ill (registered (with_cr 0x410)) ∷
    ill (registered (with_cr 0x810)) ∷
    ill (registered (with_cr 0xC10)) ∷
    ill (registered (with_cr 0x18)) ∷
    ill (registered (with_cr 0x310)) ∷
    ill (registered (with_cr 0x11)) ∷
    ill (registered (with_cr 0x1010)) ∷
    well (registered (with_escr 0xFFFFFFFF)) ∷
    well (registered (with_esur 0xFFFFFFFF)) ∷
    with_every_wait 0x4131 (λ s. s) ++
    with_every_wait 0x4131 (frame_is true 1 3) ++
    with_every_wait 0x4131 (frame_is false 2 0) ++
    with_every_wait 0x110 (λ s. s) ++
    with_every_wait 0x4121 (frame_is true 1 3) ++
    -- the other clauses are as before: a partial word in a taken frame, outside one, and of too many bytes; a frame open while ENABLE is 0; the rate counter; line and column
    well (coded_with 0x4131 (λ s. partial_is 3 0xFFFFFF (frame_is true 1 3 s))) ∷
    ill (coded_with 0x4131 (λ s. partial_is 1 0 (frame_is false 1 3 s))) ∷
    ill (coded_with 0x4131 (partial_is 1 0)) ∷
    ill (coded_with 0x4131 (λ s. partial_is 4 0 (frame_is true 1 4 s))) ∷
    ill (coded_with 0x4131 (λ s. partial_is 3 0x1000000 (frame_is true 1 3 s))) ∷
    ill (coded_with 0x110 (frame_is false 1 3)) ∷
    well (coded_with 0x4131 (with_rate 1)) ∷
    ill (coded_with 0x4131 (with_rate 2)) ∷
    well (coded_with 0x4131 (frame_is true 8 8)) ∷
    ill (coded_with 0x4131 (frame_is true 9 8)) ∷
    ill (coded_with 0x4131 (frame_is true 8 9)) ∷
    []

-- The state after some bytes, with the codes of mode 2; and what it must be: CR, RIS, frame, HSYNC and VSYNC as the codes said last, rate counter, partial word,
-- bytes that wait.
unfoldable pub after_bytes : ℕ → ℕ → List ℕ → Device
after_bytes depth cr bytes =
    let d = (write (write (fresh_of depth) ESCR 0xD4C3B2A1).device ESUR 0xFFFFFFFF).device in
    (run (write d CR cr).device [] 0 (edges bytes)).device

abbrev pub capture_is : ℕ → ℕ → Frame → Bool → Bool → ℕ → ℕ → ℕ → Waiting → Capture
capture_is cr ris frame hsync vsync rate count bits k =
    record {
      registers = record { cr = cr; ris = ris; ier = 0; cwstrt = 0; cwsize = 0; escr = 0xD4C3B2A1; esur = 0xFFFFFFFF };
      pins = record { hsync = false; vsync = false; clock = true };
      frame = frame;
      syncs = record { hsync = hsync; vsync = vsync };
      rate = rate;
      partial = record { count = count; bits = bits };
      waiting = k;
    }

abbrev pub place : Bool → ℕ → ℕ → Frame
place taken lines pixels = Open taken (record { lines = lines; pixels = pixels })

pub record Shown : Type 0 where
  pub device : Device
  pub capture : Capture

abbrev pub leaves : Device → Capture → Shown
leaves d s = record { device = d; capture = s }

unfoldable pub states : List Shown
states =
    -- in a line, the place with the byte that waits; the frame is counted
    leaves (after_bytes 4 0x4131 (FS ++ 5 ∷ 6 ∷ 0xFF ∷ [])) (capture_is 0x4131 0 (place true 1 3) false false 1 2 0x0605 One) ∷
    -- "with CAPTURE 0 it is not taken or counted"
    leaves (after_bytes 4 0x4130 (FS ++ 5 ∷ 0xFF ∷ 0 ∷ [])) (capture_is 0x4130 0 (place false 1 3) false false 0 0 0 Two) ∷
    -- between lines, after an empty line: bytes that wait there are in no line
    leaves (after_bytes 4 0x4131 (FS ++ 5 ∷ LE ++ LS ++ LE ++ 7 ∷ 0xFF ∷ 0 ∷ 0 ∷ [])) (capture_is 0x4131 0x10 (place true 2 0) true false 1 1 5 Three) ∷
    -- the bytes of a code have no column
    leaves (after_bytes 4 0x4131 (FS ++ 5 ∷ 6 ∷ code 0x77 ++ 7 ∷ [])) (capture_is 0x4131 0 (place true 1 3) false false 1 3 0x070605 Zero) ∷
    -- nor those of one between lines
    leaves (after_bytes 4 0x4131 (FS ++ 5 ∷ 6 ∷ 7 ∷ 8 ∷ 9 ∷ LE ++ code 0x77)) (capture_is 0x4131 0x10 (place true 1 5) true false 1 1 9 Zero) ∷
    -- after a frame end, and after ERR
    leaves (after_bytes 4 0x4131 (FS ++ 5 ∷ FE)) (capture_is 0x4131 0x19 Closed true true 1 0 0 Zero) ∷
    leaves (after_bytes 4 0x4131 (FS ++ 5 ∷ FS)) (capture_is 0x4131 4 Closed false false 1 0 0 Zero) ∷
    -- after an overrun at the first of two bytes, and at one that is followed by an FF
    leaves (after_bytes 1 0x4131 (FS ++ 1 ∷ 2 ∷ 3 ∷ 4 ∷ 5 ∷ 6 ∷ 7 ∷ 0xFF ∷ 8 ∷ [])) (capture_is 0x4131 2 Closed false false 1 0 0 Zero) ∷
    leaves (after_bytes 1 0x4131 (FS ++ 1 ∷ 2 ∷ 3 ∷ 4 ∷ 5 ∷ 6 ∷ 7 ∷ 0xFF ∷ 0xFF ∷ [])) (capture_is 0x4131 2 Closed false false 1 0 0 One) ∷
    -- "disabling drops waiting bytes"
    leaves (write (after_bytes 4 0x4131 (FS ++ 5 ∷ 0xFF ∷ 0 ∷ [])) CR 0x130).device (capture_is 0x130 0 Closed false false 0 0 0 Zero) ∷
    []

pub codes_sheet : (map played code_meanings ≡ map (λ l. map (λ e. e.said) l.entries) code_meanings)
    × (map played coded_frames ≡ map (λ l. map (λ e. e.said) l.entries) coded_frames)
    × (map played code_errors ≡ map (λ l. map (λ e. e.said) l.entries) code_errors)
    × (map played only_frame_starts ≡ map (λ l. map (λ e. e.said) l.entries) only_frame_starts)
    × (map played releases ≡ map (λ l. map (λ e. e.said) l.entries) releases)
    × (map played code_registers ≡ map (λ l. map (λ e. e.said) l.entries) code_registers)
    × (map (λ j. malformed j.device) code_judged ≡ map (λ j. j.malformed) code_judged)
    × (map (λ t. capture_of t.device) states ≡ map (λ t. t.capture) states)
unfolding told told_by played code_meanings coded_frames code_errors only_frame_starts releases code_registers code_judged after_bytes states every_rule
codes_sheet = (refl, refl, refl, refl, refl, refl, refl, refl)
