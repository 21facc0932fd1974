-- The bench sheet (document 01, "Bench sheet"), proved of the rules by computation: tables worked out from the paper by hand, under one statement, `bench_sheet`.
--   starred     the starred lines, in the paper's order
--   mistakes    those of "Mistakes that look right" that the starred lines don't catch
-- and what these leave open, since a definition changed together with its code would pass every other proof; each row says which sentence it is for:
--   by_rule     cases of the same form, in the order of the rules
--   by_call     calls in a row, with what each tells: registers, refusals, writing CR, single samples, memory
--   judged      devices at the bounds of "Malformed means one of"
-- and what only the state shows.
use mathlib.Core.Bool.{Bool, true, false, cond}
use mathlib.Core.List.{List, [], ◌∷◌, ◌++◌, map}
use Rattle.std.specs.Prelude.{Option, None, Some}
use mathlib.Core.Path.{◌≡◌, refl}
use Prim.Native.Nat.{ℕ, zero, suc, ◌+◌, ◌-◌}
use lib.Dec.{eqb}
use lib.ListN.{length, drop, replicate}
use Rattle.registers.specs.Map.{offset}
use Rattle.registers.specs.declared.Register.TheVariants.{Control, Status, RawStatus, InterruptEnable, InterruptClear, WindowStart, WindowSize}
use Rattle.samples.specs.Samples.{pixel_data}
use Rattle.refusals.specs.Refusals as refusals
use Rattle.output.specs.declared.Output.{Output}
use Rattle.numbers.specs.Numbers.{number, number_at}
use Rattle.output.specs.Output.{slot_count, usual_depth, OutputState, word_at}
use Rattle.output.specs.declared.Packing.{Packing as Packed}
use Rattle.output.specs.declared.Packing.TheVariants.{Nothing as nothing, Completed as completed, Lost as lost}
use Rattle.rules.specs.declared.Syncs.{Syncs}
use Rattle.rules.specs.declared.Frame.{Frame}
use Rattle.rules.specs.declared.Frame.TheVariants.{Closed, Open}
use Rattle.rules.specs.declared.Registers.{Registers}
use Rattle.rules.specs.declared.Capture.{Capture}
use Rattle.rules.specs.declared.Device.{Device}
use Rattle.rules.specs.State.{device, capture_of, output_of, fresh_capture, fresh, with_cr, with_ris, with_ier, with_cwstrt, with_cwsize, with_registers, with_syncs, with_frame, with_rate, with_partial}
use Rattle.rules.specs.Capture.{pixel_edge}
use Rattle.rules.specs.Answers.{Changed}
use Rattle.rules.specs.WellFormed.{malformed}
use Rattle.rules.specs.RegisterCalls.{status, read, write, interrupt, rearm}
use Rattle.rules.specs.Run.{RunResult, run, SampleResult, sample}
use Rattle.rules.proofs.EveryRule.{every_rule}

-- A register write: offset and value.
pub record Write : Type 0 where
  pub offset : ℕ
  pub value : ℕ

abbrev pub ◌≔◌ : ℕ → ℕ → Write
o ≔ v = record { offset = o; value = v }

infix 68 ◌≔◌
-- What a case leaves: the calls' refusal numbers in order (0: accepted), the landed words as memory has them, the number held and
-- discarded, CR, RIS and SR.
pub record Sheet : Type 0 where
  pub numbers : List ℕ
  pub words : List ℕ
  pub held : ℕ
  pub discarded : ℕ
  pub cr : ℕ
  pub ris : ℕ
  pub sr : ℕ

abbrev pub leaves : List ℕ → List ℕ → ℕ → ℕ → ℕ → ℕ → ℕ → Sheet
leaves numbers words held discarded cr ris sr =
    record { numbers = numbers; words = words; held = held; discarded = discarded; cr = cr; ris = ris; sr = sr }

-- A case: writes on a fresh device, one run over 32 zero bytes from byte 0, writes after it, and what that must leave.
pub record Case : Type 0 where
  pub before : List Write
  pub samples : List ℕ
  pub after : List Write
  pub sheet : Sheet

abbrev pub case : List Write → List ℕ → List Write → Sheet → Case
case before samples after sheet = record { before = before; samples = samples; after = after; sheet = sheet }

-- The rules at work on a case.
pub record Progress : Type 0 where
  pub numbers : List ℕ
  pub device : Device

unfoldable pub written : Progress → List Write → Progress
written p [] = p
written p (w ∷ ws) =
    let c = write p.device w.offset w.value in
    written (record { numbers = p.numbers ++ (c.number ∷ []); device = c.device }) ws

unfoldable pub words : ℕ → List ℕ → List ℕ
words zero m = []
words (suc n) m = word_at m 0 ∷ words n (drop 4 m)

unfoldable pub made : Case → Sheet
made c =
    let p = written (record { numbers = []; device = fresh }) c.before in
    let r = run p.device (replicate 32 0) 0 c.samples in
    let q = written (record { numbers = p.numbers ++ (r.number ∷ []); device = r.device }) c.after in
    leaves
    q.numbers
    (words q.device.core.output.counts.landed r.memory)
    q.device.core.output.held
    q.device.core.output.counts.discarded
    q.device.core.capture.registers.cr
    q.device.core.capture.registers.ris
    (status q.device)

-- The offsets of the registers by name, and trace T.
abbrev pub CR : ℕ
CR = offset Control

abbrev pub SR : ℕ
SR = offset Status

abbrev pub RIS : ℕ
RIS = offset RawStatus

abbrev pub IER : ℕ
IER = offset InterruptEnable

abbrev pub ICR : ℕ
ICR = offset InterruptClear

abbrev pub CWSTRT : ℕ
CWSTRT = offset WindowStart

abbrev pub CWSIZE : ℕ
CWSIZE = offset WindowSize

abbrev pub T : List ℕ
T = 0x0C000 ∷ 0x1C000 ∷ 0x00AAB ∷ 0x10AAB ∷ 0x0091B ∷ 0x1091B ∷ 0x2C000 ∷ 0x1C000 ∷ []

-- A rising clock edge at some data and syncs, without a grant and with one at the edge; with polarities 1 `blank` blanks both syncs,
-- `line_gap` HSYNC alone and `frame_gap` VSYNC alone.
abbrev pub edge : ℕ → List ℕ
edge x = x ∷ (x + 0x10000) ∷ []

abbrev pub granted : ℕ → List ℕ
granted x = x ∷ (x + 0x30000) ∷ []

abbrev pub edges : List ℕ → List ℕ
edges [] = []
edges (x ∷ xs) = edge x ++ edges xs

abbrev pub blank : ℕ
blank = 0xC000

abbrev pub line_gap : ℕ
line_gap = 0x4000

abbrev pub frame_gap : ℕ
frame_gap = 0x8000

abbrev pub nine : List ℕ
nine = edges (blank ∷ 1 ∷ 2 ∷ 3 ∷ 4 ∷ 5 ∷ 6 ∷ 7 ∷ 8 ∷ 9 ∷ [])

abbrev pub accepted : List ℕ
accepted = 0 ∷ 0 ∷ []

-- The starred lines.
unfoldable pub starred : List Case
starred =
    -- T at 12, 10 and 8 bits
    case (CR ≔ 0x48E3 ∷ []) T [] (leaves accepted (0x091B0AAB ∷ []) 0 0 0x48E2 0x19 3) ∷
    case (CR ≔ 0x44E3 ∷ []) T [] (leaves accepted (0x011B02AB ∷ []) 0 0 0x44E2 0x19 3) ∷
    case (CR ≔ 0x40E3 ∷ []) T [] (leaves accepted [] 0 0 0x40E2 0x19 3) ∷
    -- nine pixels without a grant; ten; ten with a grant in the tenth pixel's working sample
    case (CR ≔ 0x48E3 ∷ []) nine [] (leaves accepted [] 4 0 0x48E3 0x18 4) ∷
    case (CR ≔ 0x48E3 ∷ []) (nine ++ edge 10) [] (leaves accepted [] 0 5 0x48E2 0x1A 0) ∷
    case (CR ≔ 0x48E3 ∷ []) (nine ++ granted 10) [] (leaves accepted (0x00020001 ∷ []) 4 0 0x48E3 0x18 4) ∷
    -- a window of two pixels from column 1
    case
    (CWSTRT ≔ 1 ∷ CWSIZE ≔ 1 ∷ CR ≔ 0x48E7 ∷ [])
    (edges (blank ∷ 2731 ∷ 2331 ∷ 2732 ∷ []) ++ granted 2733)
    []
    (leaves (0 ∷ 0 ∷ 0 ∷ 0 ∷ []) (0x0AAC091B ∷ []) 0 0 0x48E7 0x18 0) ∷
    -- CR 0x8, accepted since W4, and refused writes
    case (CR ≔ 0x8 ∷ CR ≔ 0x1008 ∷ []) [] [] (leaves (0 ∷ 4 ∷ 0 ∷ []) [] 0 0 0x8 0 3) ∷
    case (CR ≔ 0x48E3 ∷ CWSTRT ≔ 0 ∷ []) [] [] (leaves (0 ∷ 6 ∷ 0 ∷ []) [] 0 0 0x48E3 0 0) ∷
    -- a sample with a bit above 17, and with all bits up to it
    case [] (0x40000 ∷ []) [] (leaves (7 ∷ []) [] 0 0 0 0 3) ∷
    case [] (0x3FFFF ∷ []) [] (leaves (0 ∷ []) [] 0 0 0 0 0) ∷
    -- RIS 0x19, ICR 1
    case (CR ≔ 0x48E3 ∷ []) T (ICR ≔ 1 ∷ []) (leaves (0 ∷ 0 ∷ 0 ∷ []) (0x091B0AAB ∷ []) 0 0 0x48E2 0x18 3) ∷
    []

-- Mistakes that look right and that the starred cases don't catch.
unfoldable pub mistakes : List Case
mistakes =
    -- enabled while VSYNC does not blank: no frame starts, and nothing is captured
    case (CR ≔ 0x48E3 ∷ []) (edges (2731 ∷ 2331 ∷ [])) [] (leaves accepted [] 0 0 0x48E3 0 0) ∷
    -- packing runs on across lines
    case (CR ≔ 0x48E3 ∷ []) (edges (blank ∷ 2731 ∷ line_gap ∷ []) ++ edge 2331 ++ granted line_gap) []
    (leaves accepted (0x091B0AAB ∷ []) 0 0 0x48E3 0x18 1) ∷
    -- VST 1, VLINE 1, CAPCNT 0: the first pixels of lines 1 and 2, of lines 0 to 3
    case
    (CWSTRT ≔ 0x10000 ∷ CWSIZE ≔ 0x10000 ∷ CR ≔ 0x48E7 ∷ [])
    (edges (blank ∷ 1 ∷ 2 ∷ line_gap ∷ 3 ∷ 4 ∷ line_gap ∷ 5 ∷ 6 ∷ line_gap ∷ 7 ∷ 8 ∷ []) ++ granted line_gap)
    []
    (leaves (0 ∷ 0 ∷ 0 ∷ 0 ∷ []) (0x00050003 ∷ []) 0 0 0x48E7 0x19 1) ∷
    -- continuous mode: a word lands, the frame overruns, and the next frame's word goes to the next place
    case
    (CR ≔ 0x48E1 ∷ [])
    (edges (blank ∷ 1 ∷ 2 ∷ []) ++
    granted 3 ++
    edges (4 ∷ 5 ∷ 6 ∷ 7 ∷ 8 ∷ 9 ∷ 10 ∷ 11 ∷ 12 ∷ blank ∷ 13 ∷ 14 ∷ []) ++
    granted blank)
    []
    (leaves accepted (0x00020001 ∷ 0x000E000D ∷ []) 0 5 0x48E1 0x1B 3) ∷
    []

-- By rule: what the starred lines and the mistakes leave open, in the order of the rules.
unfoldable pub by_rule : List Case
by_rule =
    -- rule 1: CAPTURE plays no part, a word held when the snapshot ends is still taken
    case (CR ≔ 0x48E3 ∷ []) (edges (blank ∷ 1 ∷ 2 ∷ blank ∷ []) ++ granted blank) [] (leaves accepted (0x00020001 ∷ []) 0 0 0x48E2 0x19 3) ∷
    -- rule 2: with PCKPOL 1 the clock must rise: at reset it is remembered as 0, and one that falls or stays is no edge
    case (CR ≔ 0x48E3 ∷ []) (0x1C000 ∷ []) [] (leaves accepted [] 0 0 0x48E3 0x18 3) ∷
    case
    (CR ≔ 0x48E3 ∷ [])
    (edges (blank ∷ 1 ∷ []) ++ 0x10002 ∷ 0x00003 ∷ 0x00004 ∷ 0x10005 ∷ 0x30006 ∷ [])
    []
    (leaves accepted (0x00050001 ∷ []) 0 0 0x48E3 0x18 0) ∷
    -- rules 2, 3 and 8: with PCKPOL 0 it must fall; HSPOL 1 and VSPOL 0; EDM 0 keeps 8 bits (0x1AA leaves 0xAA), four to a word, first lowest
    case
    (CR ≔ 0x4041 ∷ [])
    (0x14000 ∷ 0x04000 ∷ 0x18000 ∷ 0x081AA ∷ 0x08000 ∷ 0x18000 ∷ 0x18000 ∷ 0x08055 ∷ 0x18000 ∷ 0x08080 ∷ 0x18000 ∷ 0x080FF ∷ 0x18000 ∷ 0x28001 ∷ [])
    []
    (leaves accepted (0xFF8055AA ∷ []) 0 0 0x4041 0x18 0) ∷
    -- rule 3: each sync raises its flag by itself, and is its bit of SR; CAPTURE plays no part
    case (CR ≔ 0x48E0 ∷ []) (edge frame_gap) [] (leaves accepted [] 0 0 0x48E0 0x08 2) ∷
    case (CR ≔ 0x48E0 ∷ []) (edge line_gap) [] (leaves accepted [] 0 0 0x48E0 0x10 1) ∷
    case (CR ≔ 0x48E0 ∷ []) (edges (frame_gap ∷ blank ∷ [])) [] (leaves accepted [] 0 0 0x48E0 0x18 3) ∷
    case (CR ≔ 0x48E0 ∷ []) (edges (line_gap ∷ blank ∷ [])) [] (leaves accepted [] 0 0 0x48E0 0x18 3) ∷
    case (CR ≔ 0x48E2 ∷ []) (edge blank) [] (leaves accepted [] 0 0 0x48E2 0x18 3) ∷
    -- rule 4: VSYNC alone closes an open frame, which drops the partial word
    case (CR ≔ 0x48E3 ∷ []) (edges (blank ∷ 1 ∷ frame_gap ∷ 2 ∷ [])) [] (leaves accepted [] 0 0 0x48E2 0x19 0) ∷
    -- rule 5: with CAPTURE 0 no frame starts; one starts while HSYNC blanks
    case (CR ≔ 0x48E0 ∷ []) (edges (blank ∷ 1 ∷ 2 ∷ [])) [] (leaves accepted [] 0 0 0x48E0 0x18 0) ∷
    case (CR ≔ 0x48E3 ∷ []) (edges (blank ∷ line_gap ∷ 1 ∷ 2 ∷ [])) [] (leaves accepted [] 1 0 0x48E3 0x18 4) ∷
    -- rules 4 and 5, FCRC 0: every frame is taken, and the partial word of one is no part of the next
    case
    (CR ≔ 0x4CE1 ∷ [])
    (edges (blank ∷ 1 ∷ 2 ∷ 3 ∷ blank ∷ 4 ∷ 5 ∷ []) ++ granted blank ++ granted blank)
    []
    (leaves accepted (0x00020001 ∷ 0x00050004 ∷ []) 0 0 0x4CE1 0x19 3) ∷
    -- rule 5, FCRC 1 and FCRC 2: every second and every fourth frame is taken, from the first
    case
    (CR ≔ 0x49E1 ∷ [])
    (edges (blank ∷ 1 ∷ 2 ∷ blank ∷ 3 ∷ 4 ∷ blank ∷ 5 ∷ 6 ∷ []) ++ granted blank ++ granted blank)
    []
    (leaves accepted (0x00020001 ∷ 0x00060005 ∷ []) 0 0 0x49E1 0x19 3) ∷
    case
    (CR ≔ 0x4AE1 ∷ [])
    (edges (blank ∷ 1 ∷ 2 ∷ blank ∷ 3 ∷ 4 ∷ blank ∷ 5 ∷ 6 ∷ blank ∷ 7 ∷ 8 ∷ blank ∷ 9 ∷ 10 ∷ []) ++ granted blank ++ granted blank)
    []
    (leaves accepted (0x00020001 ∷ 0x000A0009 ∷ []) 0 0 0x4AE1 0x19 3) ∷
    -- rule 6: the first line of a frame begins without HSYNC; VST 1, VLINE 0, CAPCNT 1
    case
    (CWSTRT ≔ 0x10000 ∷ CWSIZE ≔ 1 ∷ CR ≔ 0x48E7 ∷ [])
    (edges (frame_gap ∷ 1 ∷ 2 ∷ line_gap ∷ 3 ∷ 4 ∷ line_gap ∷ 5 ∷ 6 ∷ []) ++ granted line_gap)
    []
    (leaves (0 ∷ 0 ∷ 0 ∷ 0 ∷ []) (0x00040003 ∷ []) 0 0 0x48E7 0x19 1) ∷
    -- rule 6: lines and columns count from 0 again in the next frame; VST 0, VLINE 0, HOFFCNT 0, CAPCNT 1
    case
    (CWSIZE ≔ 1 ∷ CR ≔ 0x48E5 ∷ [])
    (edges (blank ∷ 1 ∷ 2 ∷ 3 ∷ blank ∷ 4 ∷ 5 ∷ 6 ∷ []) ++ granted blank ++ granted blank)
    []
    (leaves (0 ∷ 0 ∷ 0 ∷ []) (0x00020001 ∷ 0x00050004 ∷ []) 0 0 0x48E5 0x19 3) ∷
    -- rule 7: line 1, columns 2 to 5 (VST 1, VLINE 0, HOFFCNT 2, CAPCNT 3), of lines 0 to 2
    case
    (CWSTRT ≔ 0x10002 ∷ CWSIZE ≔ 3 ∷ CR ≔ 0x48E7 ∷ [])
    (edges (blank ∷ 1 ∷ 2 ∷ 3 ∷ 4 ∷ 5 ∷ 6 ∷ line_gap ∷ 7 ∷ 8 ∷ 9 ∷ 10 ∷ 11 ∷ 12 ∷ 13 ∷ line_gap ∷ 14 ∷ 15 ∷ 16 ∷ 17 ∷ []) ++
    granted line_gap ++
    granted line_gap)
    []
    (leaves (0 ∷ 0 ∷ 0 ∷ 0 ∷ []) (0x000A0009 ∷ 0x000C000B ∷ []) 0 0 0x48E7 0x19 1) ∷
    -- rule 7: lines 0 and 1, columns 0 and 1, of lines 0 to 2
    case (CWSIZE ≔ 0x10001 ∷ CR ≔ 0x48E7 ∷ []) (edges (blank ∷ 1 ∷ 2 ∷ line_gap ∷ 3 ∷ 4 ∷ line_gap ∷ 5 ∷ 6 ∷ [])) []
    (leaves (0 ∷ 0 ∷ 0 ∷ []) [] 2 0 0x48E7 0x19 4) ∷
    -- rule 7: the top bits of VST, of HOFFCNT, and of VLINE and CAPCNT
    case (CWSTRT ≔ 0x10000000 ∷ CWSIZE ≔ 1 ∷ CR ≔ 0x48E7 ∷ []) (edges (blank ∷ 1 ∷ 2 ∷ [])) []
    (leaves (0 ∷ 0 ∷ 0 ∷ 0 ∷ []) [] 0 0 0x48E7 0x18 0) ∷
    case (CWSTRT ≔ 0x2000 ∷ CWSIZE ≔ 1 ∷ CR ≔ 0x48E7 ∷ []) (edges (blank ∷ 1 ∷ 2 ∷ [])) []
    (leaves (0 ∷ 0 ∷ 0 ∷ 0 ∷ []) [] 0 0 0x48E7 0x18 0) ∷
    case (CWSIZE ≔ 0x20002000 ∷ CR ≔ 0x48E7 ∷ []) (edges (blank ∷ 1 ∷ 2 ∷ line_gap ∷ 3 ∷ 4 ∷ [])) []
    (leaves (0 ∷ 0 ∷ 0 ∷ []) [] 2 0 0x48E7 0x18 4) ∷
    -- rule 8: EDM 1, 2 and 3 keep 10, 12 and 14 bits in 16, the rest 0
    case (CR ≔ 0x44E3 ∷ []) (edges (blank ∷ 0x3FFF ∷ 0x2401 ∷ []) ++ granted line_gap) [] (leaves accepted (0x000103FF ∷ []) 0 0 0x44E3 0x18 1) ∷
    case (CR ≔ 0x48E3 ∷ []) (edges (blank ∷ 0x3FFF ∷ 0x2401 ∷ []) ++ granted line_gap) [] (leaves accepted (0x04010FFF ∷ []) 0 0 0x48E3 0x18 1) ∷
    case (CR ≔ 0x4CE3 ∷ []) (edges (blank ∷ 0x3FFF ∷ 0x2401 ∷ []) ++ granted line_gap) [] (leaves accepted (0x24013FFF ∷ []) 0 0 0x4CE3 0x18 1) ∷
    -- "Memory and counts": the four bytes of a word; the first word has the fourth byte alone, the second all but that
    case
    (CR ≔ 0x40E3 ∷ [])
    (edges (blank ∷ 0 ∷ 0 ∷ 0 ∷ 1 ∷ 0xFF ∷ 0xFF ∷ 0xFF ∷ 0 ∷ []) ++ granted line_gap ++ granted line_gap)
    []
    (leaves accepted (0x01000000 ∷ 0x00FFFFFF ∷ []) 0 0 0x40E3 0x18 1) ∷
    -- rule 9: an overrun closes the frame, so that nothing more of it is captured and FRAME does not rise
    case (CR ≔ 0x48E1 ∷ []) (nine ++ edges (10 ∷ 11 ∷ 12 ∷ blank ∷ [])) [] (leaves accepted [] 0 5 0x48E1 0x1A 3) ∷
    -- "Registers": four held, and a flag cleared keeps them; CM may not change, nor bit 12 be 1
    case (CR ≔ 0x48E3 ∷ []) nine (ICR ≔ 8 ∷ CR ≔ 0x48E1 ∷ CR ≔ 0x58E3 ∷ []) (leaves (0 ∷ 0 ∷ 0 ∷ 6 ∷ 4 ∷ []) [] 4 0 0x48E3 0x10 4) ∷
    -- "Writing CR": disabling discards the four held, with CAPTURE 0 too, and flags stay; then CWSTRT and CR's other bits may be written
    case
    (CR ≔ 0x48E3 ∷ [])
    nine
    (CR ≔ 0x48E2 ∷ CR ≔ 0x08E2 ∷ CWSTRT ≔ 0x10002 ∷ CR ≔ 0x4021 ∷ [])
    (leaves (0 ∷ 0 ∷ 0 ∷ 0 ∷ 0 ∷ 0 ∷ []) [] 0 4 0x4021 0x18 3) ∷
    []

-- By call. A call on a device and the memory lent to it, or a look at the counts or at the memory.
pub data Call : Type 0 where
  a_write : (offset value : ℕ) → Call
  a_read : (offset : ℕ) → Call
  the_line : Call
  a_rearming : Call
  a_run : (start : ℕ) (samples : List ℕ) → Call
  a_sample : (start w : ℕ) → Call
  the_counts : Call
  the_memory : Call

-- What it tells: accepted, with no value; a refusal number; a register's value; the interrupt line; where a word landed and what became of a
-- full one; samples, completed, landed, discarded, held and place; the bytes.
pub data Said : Type 0 where
  done : Said
  refused : ℕ → Said
  reads : ℕ → Said
  line : Bool → Said
  sampled : Option ℕ → Packed → Said
  counts : ℕ → ℕ → ℕ → ℕ → ℕ → ℕ → Said
  holds : List ℕ → Said

-- A call with what it must tell; some writes that are all refused by one number.
pub record Entry : Type 0 where
  pub call : Call
  pub said : Said

abbrev pub ◌▸◌ : Call → Said → Entry
c ▸ s = record { call = c; said = s }

infix 68 ◌▸◌
abbrev pub all_refused : ℕ → List Write → List Entry
all_refused n ws = map (λ w. a_write w.offset w.value ▸ refused n) ws

-- A log: calls in a row, on a device and a memory.
pub record Log : Type 0 where
  pub device : Device
  pub memory : List ℕ
  pub entries : List Entry

abbrev pub log : Device → List ℕ → List Entry → Log
log d memory entries = record { device = d; memory = memory; entries = entries }

-- The rules at work on a call: what it tells, device and memory after it.
pub record Told : Type 0 where
  pub said : Said
  pub device : Device
  pub memory : List ℕ

abbrev pub by_number : ℕ → Said
by_number n = cond (eqb n 0) done (refused n)

abbrev pub by_answer : {A : Type 0} → (A → Said) → refusals.Answer A → Said
by_answer {A} said (refusals.refused n) = refused n
by_answer {A} said (refusals.answered a) = said a

abbrev pub counts_of : Output → Said
counts_of o =
    let c = o.counts in
    counts c.samples c.completed c.landed c.discarded o.held o.place

abbrev pub looks : Device → List ℕ → Said → Told
looks d m said = record { said = said; device = d; memory = m }

abbrev pub changes : List ℕ → Changed → Told
changes m c = record { said = by_number c.number; device = c.device; memory = m }

abbrev pub runs : RunResult → Told
runs r = record { said = by_number r.number; device = r.device; memory = r.memory }

abbrev pub samples_one : SampleResult → Told
samples_one r = record { said = by_answer (λ a. sampled a.landing a.packed) r.answer; device = r.device; memory = r.memory }

unfoldable pub told : Device → List ℕ → Call → Told
told d m (a_write o v) = changes m (write d o v)
told d m (a_read o) = looks d m (by_answer reads (read d o))
told d m the_line = looks d m (by_answer line (interrupt d))
told d m a_rearming = changes m (rearm d)
told d m (a_run start ws) = runs (run d m start ws)
told d m (a_sample start w) = samples_one (sample d m start w)
told d m the_counts = looks d m (counts_of d.core.output)
told d m the_memory = looks d m (holds m)

unfoldable pub told_by : Device → List ℕ → List Entry → List Said
told_by d m [] = []
told_by d m (e ∷ es) = let t = told d m e.call in t.said ∷ told_by t.device t.memory es

unfoldable pub played : Log → List Said
played l = told_by l.device l.memory l.entries

-- Devices made by hand. FIFO, place and counts, at the usual depth: the first slots, those behind them being 0, how many are held, the place, and samples, completed, landed,
-- discarded.
abbrev pub words_are : List ℕ → ℕ → ℕ → ℕ → ℕ → ℕ → ℕ → OutputState
words_are slots held place samples full landed discarded =
    record {
      output =
          record { held = held; place = place; depth = usual_depth; counts = record { samples = samples; completed = full; landed = landed; discarded = discarded } };
      slots = slots ++ replicate (slot_count - length slots) 0;
    }

abbrev pub no_slots : List ℕ
no_slots = []

-- The capture state with another partial word, and with an open frame.
abbrev pub partial_is : ℕ → ℕ → Capture → Capture
partial_is count bits s = with_partial (record { count = count; bits = bits }) s

abbrev pub frame_is : Bool → ℕ → ℕ → Capture → Capture
frame_is taken lines pixels s = with_frame (Open taken (record { lines = lines; pixels = pixels })) s

-- A fresh device with words, with its capture state changed, with other registers, and with a CR and a rate counter.
abbrev pub idle : OutputState → Device
idle x = device fresh_capture x

abbrev pub fresh_but : (Capture → Capture) → Device
fresh_but change = device (change fresh_capture) (output_of fresh)

abbrev pub registered : (Registers → Registers) → Device
registered change = fresh_but (λ s. with_registers (change s.registers) s)

abbrev pub rated : ℕ → ℕ → Device
rated cr n = fresh_but (λ s. with_rate n (with_registers (with_cr cr s.registers) s))

-- An enabled one with words; one after 8 samples in a taken frame, line 1, pixel 3, with its capture state changed.
abbrev pub enabled_with : OutputState → Device
enabled_with x = device (capture_of (write fresh CR 0x48E1).device) x

abbrev pub capturing : ℕ → (Capture → Capture) → Device
capturing cr change =
    let d = (run (write fresh CR cr).device [] 0 (edges (blank ∷ 1 ∷ 2 ∷ 3 ∷ []))).device in
    device (change (capture_of d)) (output_of d)

-- What every register that holds a value of its own reads as.
abbrev pub registers_are : ℕ → ℕ → ℕ → ℕ → ℕ → ℕ → ℕ → List Entry
registers_are cr ris ier cwstrt cwsize escr esur =
    a_read CR ▸ reads cr ∷
    a_read RIS ▸ reads ris ∷
    a_read IER ▸ reads ier ∷
    a_read CWSTRT ▸ reads cwstrt ∷
    a_read CWSIZE ▸ reads cwsize ∷
    a_read 0x18 ▸ reads escr ∷
    a_read 0x1C ▸ reads esur ∷
    []

-- What no case above shows.
unfoldable pub by_call : List Log
by_call =
    -- "Reset": each register of a fresh device at its offset, as a number; refusal 3 of ICR; the line and the counts
    log fresh []
    (a_read 0x00 ▸ reads 0 ∷
    a_read 0x04 ▸ reads 3 ∷
    a_read 0x08 ▸ reads 0 ∷
    a_read 0x0C ▸ reads 0 ∷
    a_read 0x10 ▸ reads 0 ∷
    a_read 0x14 ▸ refused 3 ∷
    a_read 0x18 ▸ reads 0 ∷
    a_read 0x1C ▸ reads 0 ∷
    a_read 0x20 ▸ reads 0 ∷
    a_read 0x24 ▸ reads 0 ∷
    the_line ▸ line false ∷
    the_counts ▸ counts 0 0 0 0 0 0 ∷
    []) ∷
    -- "Registers": each after writes and T; MIS has the bits of both RIS and IER; ICR clears those that are 1; with CROP 0 the window plays no part
    log fresh (replicate 8 0)
    (a_write 0x24 3 ▸ done ∷
    a_write 0x20 0x10002 ▸ done ∷
    a_write 0x00 0x48E3 ▸ done ∷
    a_run 0 T ▸ done ∷
    the_memory ▸ holds (0xAB ∷ 0x0A ∷ 0x1B ∷ 0x09 ∷ 0 ∷ 0 ∷ 0 ∷ 0 ∷ []) ∷
    the_counts ▸ counts 8 1 1 0 0 1 ∷
    a_write 0x0C 0x0A ▸ done ∷
    a_read 0x00 ▸ reads 0x48E2 ∷
    a_read 0x04 ▸ reads 3 ∷
    a_read 0x08 ▸ reads 0x19 ∷
    a_read 0x0C ▸ reads 0x0A ∷
    a_read 0x10 ▸ reads 0x08 ∷
    a_read 0x20 ▸ reads 0x10002 ∷
    a_read 0x24 ▸ reads 3 ∷
    the_line ▸ line true ∷
    a_write 0x14 0x0A ▸ done ∷
    a_write 0x00 0x08E2 ▸ done ∷
    a_write 0x20 0x20001 ▸ done ∷
    a_write 0x24 2 ▸ done ∷
    a_read 0x00 ▸ reads 0x08E2 ∷
    a_read 0x04 ▸ reads 3 ∷
    a_read 0x08 ▸ reads 0x11 ∷
    a_read 0x0C ▸ reads 0x0A ∷
    a_read 0x10 ▸ reads 0 ∷
    a_read 0x20 ▸ reads 0x20001 ∷
    a_read 0x24 ▸ reads 2 ∷
    the_line ▸ line false ∷
    []) ∷
    -- each register of its own: a write leaves every other, in one order and in the other
    log fresh []
    (a_write CR 0x48E1 ▸ done ∷
    a_run 0 (edge blank) ▸ done ∷
    a_write CR 0x08E0 ▸ done ∷
    a_write IER 0x15 ▸ done ∷
    a_write CWSTRT 0x10002 ▸ done ∷
    a_write CWSIZE 0x30004 ▸ done ∷
    a_write 0x18 0xD4C3B2A1 ▸ done ∷
    a_write 0x1C 0x80402010 ▸ done ∷
    registers_are 0x08E0 0x18 0x15 0x10002 0x30004 0xD4C3B2A1 0x80402010 ++
    a_write 0x1C 0x08040201 ▸ done ∷
    a_write 0x18 0xFF9D80FF ▸ done ∷
    a_write CWSIZE 0x50006 ▸ done ∷
    a_write CWSTRT 0x70008 ▸ done ∷
    a_write IER 0x0A ▸ done ∷
    registers_are 0x08E0 0x18 0x0A 0x70008 0x50006 0xFF9D80FF 0x08040201 ++
    a_write ICR 0x08 ▸ done ∷
    a_write CR 0x0440 ▸ done ∷
    registers_are 0x0440 0x10 0x0A 0x70008 0x50006 0xFF9D80FF 0x08040201) ∷
    -- the interrupt line for the lowest bit of MIS alone
    log fresh []
    (a_write CR 0x48E3 ▸ done ∷
    a_write IER 1 ▸ done ∷
    a_run 0 T ▸ done ∷
    the_line ▸ line true ∷
    a_write ICR 1 ▸ done ∷
    the_line ▸ line false ∷
    []) ∷
    -- refusals 2 and 3, before 4
    log fresh []
    (a_read 0x01 ▸ refused 2 ∷
    a_read 0x19 ▸ refused 2 ∷
    a_read 0x28 ▸ refused 2 ∷
    all_refused 2 (0x01 ≔ 0 ∷ 0x19 ≔ 0 ∷ 0x28 ≔ 0xFFFFFFFF ∷ []) ++
    all_refused 3 (0x04 ≔ 0 ∷ 0x08 ≔ 0 ∷ 0x10 ≔ 0 ∷ 0x10 ≔ 0xFFFFFFFF ∷ [])) ∷
    -- refusal 4: the lowest and the highest bit of each range of reserved bits; all other bits can be 1
    log fresh []
    (all_refused 4 (CR ≔ 0x1000 ∷ CR ≔ 0x2000 ∷ CR ≔ 0x8000 ∷ CR ≔ 0x80000000 ∷ IER ≔ 0x20 ∷ IER ≔ 0x80000000 ∷ ICR ≔ 0x20 ∷ ICR ≔ 0x80000000 ∷ []) ++
    all_refused 4 (CWSTRT ≔ 0x4000 ∷ CWSTRT ≔ 0x8000 ∷ CWSTRT ≔ 0x20000000 ∷ CWSTRT ≔ 0x80000000 ∷ []) ++
    all_refused 4 (CWSIZE ≔ 0x4000 ∷ CWSIZE ≔ 0x8000 ∷ CWSIZE ≔ 0x40000000 ∷ CWSIZE ≔ 0x80000000 ∷ []) ++
    a_write CR 0x0EE6 ▸ done ∷
    a_write IER 0x1F ▸ done ∷
    a_write ICR 0x1F ▸ done ∷
    a_write CWSTRT 0x1FFF3FFF ▸ done ∷
    a_write CWSIZE 0x3FFF3FFF ▸ done ∷
    a_read CR ▸ reads 0x0EE6 ∷
    a_read IER ▸ reads 0x1F ∷
    a_read CWSTRT ▸ reads 0x1FFF3FFF ∷
    a_read CWSIZE ▸ reads 0x3FFF3FFF ∷
    []) ∷
    -- refusal 5: FCRC 3, CAPTURE 1 with ENABLE 0 (JPEG and ESS are in RequestSheet); 4 and 5 are before 6
    log fresh []
    (all_refused 5 (CR ≔ 0x300 ∷ CR ≔ 0x01 ∷ []) ++
    a_write CR 0x4001 ▸ done ∷
    all_refused 5 (CR ≔ 0x4301 ∷ []) ++
    all_refused 4 (CWSTRT ≔ 0x4000 ∷ CR ≔ 0x5003 ∷ [])) ∷
    -- refusal 6: enabled, each bit of CR that is not reserved or unsupported, but for 0 and 14 (JPEG is in RequestSheet); CWSIZE (CWSTRT is starred); IER and ICR are free
    log fresh []
    (a_write CR 0x48E2 ▸ done ∷
    all_refused 6 (CR ≔ 0x48E0 ∷ CR ≔ 0x48E6 ∷ CR ≔ 0x48C2 ∷ CR ≔ 0x48A2 ∷ CR ≔ 0x4862 ∷ CR ≔ 0x49E2 ∷ CR ≔ 0x4AE2 ∷ CR ≔ 0x4CE2 ∷ CR ≔ 0x40E2 ∷ []) ++
    all_refused 6 (CWSIZE ≔ 0 ∷ []) ++
    a_write IER 1 ▸ done ∷
    a_write ICR 1 ▸ done ∷
    a_write CR 0x48E3 ▸ done ∷
    a_write CR 0x08E2 ▸ done ∷
    a_read CR ▸ reads 0x08E2 ∷
    []) ∷
    -- "Writing CR", ENABLE 0 to 1: remembered syncs become "not blanking", so that both flags rise again
    log fresh []
    (a_write CR 0x48E1 ▸ done ∷
    a_run 0 (edge blank) ▸ done ∷
    a_write CR 0x08E0 ▸ done ∷
    a_write CR 0x48E0 ▸ done ∷
    a_write ICR 0x1F ▸ done ∷
    a_run 0 (edge blank) ▸ done ∷
    a_read RIS ▸ reads 0x18 ∷
    []) ∷
    -- ENABLE 1 to 0 in an open frame, with FCRC 1, a word held and a partial one: flags stay, the device is well-formed, and the next frame is taken
    log fresh (replicate 4 0)
    (a_write CR 0x49E1 ▸ done ∷
    a_run 0 (edges (blank ∷ 1 ∷ 2 ∷ 3 ∷ [])) ▸ done ∷
    a_write CR 0x09E0 ▸ done ∷
    a_read RIS ▸ reads 0x18 ∷
    the_counts ▸ counts 8 1 0 1 0 0 ∷
    a_write CR 0x49E1 ▸ done ∷
    a_run 0 (edges (4 ∷ blank ∷ 5 ∷ 6 ∷ []) ++ granted blank) ▸ done ∷
    the_memory ▸ holds (5 ∷ 0 ∷ 6 ∷ 0 ∷ []) ∷
    the_counts ▸ counts 18 2 1 1 0 1 ∷
    []) ∷
    -- rule 2: with ENABLE 0 the sample is over, but its levels are remembered, and enabling leaves them: with PCKPOL 0 the clock falls at the next one. VSPOL is not PCKPOL
    log fresh []
    (a_write CR 0x00E0 ▸ done ∷
    a_run 0 (edges (blank ∷ 1 ∷ blank ∷ [])) ▸ done ∷
    a_read RIS ▸ reads 0 ∷
    a_write CR 0x48C0 ▸ done ∷
    a_run 0 (0x0C000 ∷ []) ▸ done ∷
    a_read RIS ▸ reads 0x18 ∷
    []) ∷
    -- CAPTURE 0 to 1 outside an open frame: the rate counter is 0, and the second frame is taken
    log fresh []
    (a_write CR 0x49E1 ▸ done ∷
    a_run 0 (edges (blank ∷ 1 ∷ 2 ∷ blank ∷ [])) ▸ done ∷
    a_write CR 0x49E0 ▸ done ∷
    a_write CR 0x49E1 ▸ done ∷
    a_run 0 (edges (3 ∷ 4 ∷ [])) ▸ done ∷
    the_counts ▸ counts 12 2 0 0 2 0 ∷
    []) ∷
    -- CAPTURE that stays 1 leaves it, and the second frame is not taken
    log fresh []
    (a_write CR 0x49E1 ▸ done ∷
    a_run 0 (edges (blank ∷ 1 ∷ 2 ∷ blank ∷ [])) ▸ done ∷
    a_write CR 0x49E1 ▸ done ∷
    a_run 0 (edges (3 ∷ 4 ∷ [])) ▸ done ∷
    the_counts ▸ counts 12 1 0 0 1 0 ∷
    []) ∷
    -- inside one it stays, and the second frame is not taken
    log fresh []
    (a_write CR 0x49E1 ▸ done ∷
    a_run 0 (edges (blank ∷ 1 ∷ [])) ▸ done ∷
    a_write CR 0x49E0 ▸ done ∷
    a_write CR 0x49E1 ▸ done ∷
    a_run 0 (edges (2 ∷ blank ∷ 3 ∷ 4 ∷ [])) ▸ done ∷
    the_counts ▸ counts 12 1 0 0 1 0 ∷
    []) ∷
    -- CAPTURE cleared inside an open frame: that frame still runs to its end, and no other starts
    log fresh []
    (a_write CR 0x48E1 ▸ done ∷
    a_run 0 (edges (blank ∷ 1 ∷ [])) ▸ done ∷
    a_write CR 0x48E0 ▸ done ∷
    a_run 0 (edges (2 ∷ blank ∷ 3 ∷ 4 ∷ [])) ▸ done ∷
    a_read RIS ▸ reads 0x19 ∷
    the_counts ▸ counts 12 1 0 0 1 0 ∷
    []) ∷
    -- rule 3: a sync that goes on blanking raises no flag; rule 4: FRAME does not rise at the end of a frame that was not taken
    log fresh []
    (a_write CR 0x49E1 ▸ done ∷
    a_run 0 (edges (blank ∷ 1 ∷ blank ∷ [])) ▸ done ∷
    a_read RIS ▸ reads 0x19 ∷
    a_write ICR 0x1F ▸ done ∷
    a_run 0 (edge blank) ▸ done ∷
    a_read RIS ▸ reads 0 ∷
    a_run 0 (edges (2 ∷ blank ∷ [])) ▸ done ∷
    a_read RIS ▸ reads 0x18 ∷
    []) ∷
    -- rule 5: with CM 1 a frame is taken whatever the rate counter is; no frame starts where one is open. No calls from reset lead to these two devices
    log (rated 0x49E3 1) [] (a_run 0 (edges (blank ∷ 1 ∷ 2 ∷ [])) ▸ done ∷ the_counts ▸ counts 6 1 0 0 1 0 ∷ []) ∷
    log (capturing 0x48E1 (λ s. with_syncs (record { hsync = false; vsync = true }) (partial_is 0 0 (frame_is false 1 3 s)))) []
    (a_run 0 (edges (4 ∷ 5 ∷ [])) ▸ done ∷ the_counts ▸ counts 12 1 0 0 1 0 ∷ []) ∷
    -- single samples from byte 3 of 13: the landing is a byte of the lent memory; a third word has no room; no other byte changes; re-arming sets the place to 0
    log fresh (replicate 13 0xEE)
    (a_write CR 0x48E3 ▸ done ∷
    a_run 3 (edges (blank ∷ 1 ∷ []) ++ 2 ∷ []) ▸ done ∷
    a_sample 3 0x10002 ▸ sampled None (completed 0x00020001) ∷
    a_sample 3 0x20003 ▸ sampled (Some 3) nothing ∷
    a_sample 3 0x10003 ▸ sampled None nothing ∷
    a_sample 3 0x00004 ▸ sampled None nothing ∷
    a_sample 3 0x10004 ▸ sampled None (completed 0x00040003) ∷
    a_sample 3 0x20005 ▸ sampled (Some 7) nothing ∷
    the_memory ▸ holds (0xEE ∷ 0xEE ∷ 0xEE ∷ 1 ∷ 0 ∷ 2 ∷ 0 ∷ 3 ∷ 0 ∷ 4 ∷ 0 ∷ 0xEE ∷ 0xEE ∷ []) ∷
    a_run 3 (0x10005 ∷ 0x00006 ∷ 0x10006 ∷ []) ▸ done ∷
    a_sample 3 0x20007 ▸ sampled None nothing ∷
    the_counts ▸ counts 15 3 2 0 1 2 ∷
    a_rearming ▸ done ∷
    the_counts ▸ counts 15 3 2 0 1 0 ∷
    a_sample 3 0x20007 ▸ sampled (Some 3) nothing ∷
    the_memory ▸ holds (0xEE ∷ 0xEE ∷ 0xEE ∷ 5 ∷ 0 ∷ 6 ∷ 0 ∷ 3 ∷ 0 ∷ 4 ∷ 0 ∷ 0xEE ∷ 0xEE ∷ []) ∷
    the_counts ▸ counts 16 3 3 0 0 1 ∷
    []) ∷
    -- the tenth pixel as a single sample: its word is lost; with a grant one word lands and another is completed
    log fresh []
    (a_write CR 0x48E3 ▸ done ∷
    a_run 0 (nine ++ 10 ∷ []) ▸ done ∷
    a_sample 0 0x1000A ▸ sampled None lost ∷
    the_counts ▸ counts 22 5 0 5 0 0 ∷
    []) ∷
    log fresh (replicate 4 0)
    (a_write CR 0x48E3 ▸ done ∷
    a_run 0 (nine ++ 10 ∷ []) ▸ done ∷
    a_sample 0 0x3000A ▸ sampled (Some 0) (completed 0x000A0009) ∷
    the_counts ▸ counts 22 5 1 0 4 1 ∷
    []) ∷
    -- the sheet's last line: of 8 bytes, start 4 has room for one word, 5 and 8 for none, 9 is refused 9; an empty trace changes nothing. Word 1 fits bytes 4 to 7
    log fresh (replicate 8 0)
    (a_write CR 0x48E3 ▸ done ∷
    a_run 0 (edges (blank ∷ 1 ∷ 2 ∷ 3 ∷ 4 ∷ [])) ▸ done ∷
    a_run 9 [] ▸ refused 9 ∷
    a_run 8 (0x20000 ∷ []) ▸ done ∷
    a_run 5 (0x20000 ∷ []) ▸ done ∷
    the_counts ▸ counts 12 2 0 0 2 0 ∷
    a_run 4 (0x20000 ∷ 0x20000 ∷ []) ▸ done ∷
    the_counts ▸ counts 14 2 1 0 1 1 ∷
    the_memory ▸ holds (0 ∷ 0 ∷ 0 ∷ 0 ∷ 1 ∷ 0 ∷ 2 ∷ 0 ∷ []) ∷
    a_run 8 [] ▸ done ∷
    the_counts ▸ counts 14 2 1 0 1 1 ∷
    a_run 0 (0x20000 ∷ []) ▸ done ∷
    the_memory ▸ holds (0 ∷ 0 ∷ 0 ∷ 0 ∷ 3 ∷ 0 ∷ 4 ∷ 0 ∷ []) ∷
    []) ∷
    -- a refused run or sample leaves device and memory, also if a later sample was the bad one; 9 is before 7
    log fresh (replicate 4 0)
    (a_write CR 0x48E3 ▸ done ∷
    a_run 0 (edges (blank ∷ 1 ∷ 2 ∷ [])) ▸ done ∷
    a_run 0 (0x20000 ∷ 0x40000 ∷ []) ▸ refused 7 ∷
    a_sample 0 0x60000 ▸ refused 7 ∷
    a_run 5 (0x20000 ∷ 0x40000 ∷ []) ▸ refused 9 ∷
    a_sample 5 0x60000 ▸ refused 9 ∷
    the_counts ▸ counts 6 1 0 0 1 0 ∷
    the_memory ▸ holds (replicate 4 0) ∷
    []) ∷
    -- refusal 8: there is one sample left; 7 is before 8
    log (idle (words_are no_slots 0 0 4294967294 0 0 0)) []
    (a_run 0 (0 ∷ 0 ∷ []) ▸ refused 8 ∷
    a_sample 0 0 ▸ sampled None nothing ∷
    a_sample 0 0 ▸ refused 8 ∷
    a_sample 0 0x40000 ▸ refused 7 ∷
    a_run 0 [] ▸ done ∷
    the_counts ▸ counts 4294967295 0 0 0 0 0 ∷
    []) ∷
    -- refusal 1, before 2 and 9: every call on a malformed device (place 1 above landed 0), which stays as it was
    log (idle (words_are no_slots 0 1 0 0 0 0)) []
    (a_read 0x00 ▸ refused 1 ∷
    a_read 0x28 ▸ refused 1 ∷
    all_refused 1 (IER ≔ 1 ∷ 0x28 ≔ 0 ∷ []) ++
    the_line ▸ refused 1 ∷
    a_rearming ▸ refused 1 ∷
    a_run 0 (0 ∷ []) ▸ refused 1 ∷
    a_run 1 [] ▸ refused 1 ∷
    a_sample 0 0 ▸ refused 1 ∷
    a_sample 1 0 ▸ refused 1 ∷
    the_counts ▸ counts 0 0 0 0 0 1 ∷
    []) ∷
    -- nor does its memory change: place 2 above landed 0, a word held, granted
    log (enabled_with (words_are (7 ∷ []) 1 2 9 1 0 0)) (replicate 12 0xEE)
    (a_run 0 (0x20000 ∷ []) ▸ refused 1 ∷
    a_sample 0 0x20000 ▸ refused 1 ∷
    the_memory ▸ holds (replicate 12 0xEE) ∷
    the_counts ▸ counts 9 1 0 0 1 2 ∷
    []) ∷
    []

-- Malformed devices. A device, and whether it is malformed.
pub record Judged : Type 0 where
  pub device : Device
  pub malformed : Bool

abbrev pub well : Device → Judged
well d = record { device = d; malformed = false }

abbrev pub ill : Device → Judged
ill d = record { device = d; malformed = true }

-- "Malformed means one of", clause by clause: devices just malformed by it alone, and ones that are just not.
unfoldable pub judged : List Judged
judged =
    well fresh ∷
    -- more than four held
    well (enabled_with (words_are (1 ∷ 2 ∷ 3 ∷ 4 ∷ []) 4 0 9 4 0 0)) ∷
    ill (enabled_with (words_are (1 ∷ 2 ∷ 3 ∷ 4 ∷ []) 5 0 9 5 0 0)) ∷
    -- an unused FIFO slot not 0
    well (enabled_with (words_are (1 ∷ 2 ∷ 0 ∷ 0 ∷ []) 2 0 9 2 0 0)) ∷
    ill (enabled_with (words_are (1 ∷ 2 ∷ 3 ∷ 0 ∷ []) 2 0 9 2 0 0)) ∷
    ill (enabled_with (words_are (1 ∷ 2 ∷ 0 ∷ 1 ∷ []) 2 0 9 2 0 0)) ∷
    -- unused partial bits not 0, at 12 bits and at 8
    well (capturing 0x49E1 (partial_is 1 0xFFF)) ∷
    ill (capturing 0x49E1 (partial_is 1 0x1000)) ∷
    ill (capturing 0x49E1 (partial_is 0 1)) ∷
    well (capturing 0x41E1 (partial_is 3 0xFFFFFF)) ∷
    ill (capturing 0x41E1 (partial_is 3 0x1000000)) ∷
    -- as many partial data as a full word
    ill (capturing 0x49E1 (partial_is 2 0)) ∷
    ill (capturing 0x49E1 (partial_is 3 0)) ∷
    ill (capturing 0x41E1 (partial_is 4 0)) ∷
    -- register contents that refusals 4 and 5 exclude
    ill (registered (with_cr 0x1000)) ∷
    ill (registered (with_cr 0x300)) ∷
    ill (registered (with_cwstrt 0x4000)) ∷
    ill (registered (with_cwstrt 0x20000000)) ∷
    ill (registered (with_cwsize 0x4000)) ∷
    well (registered (with_cwsize 0x20000000)) ∷
    ill (registered (with_cwsize 0x40000000)) ∷
    -- RIS or IER above 31
    well (registered (with_ris 31)) ∷
    ill (registered (with_ris 32)) ∷
    well (registered (with_ier 31)) ∷
    ill (registered (with_ier 32)) ∷
    -- a frame open, a held word or a rate counter above 0 while ENABLE is 0 (a partial word is outside a frame then)
    ill (fresh_but (frame_is false 0 0)) ∷
    well (enabled_with (words_are (1 ∷ 0 ∷ 0 ∷ 0 ∷ []) 1 0 9 1 0 0)) ∷
    ill (idle (words_are (1 ∷ 0 ∷ 0 ∷ 0 ∷ []) 1 0 9 1 0 0)) ∷
    well (rated 0x4100 1) ∷
    ill (rated 0x0100 1) ∷
    -- a partial one outside a taken open frame
    well (capturing 0x49E1 (partial_is 1 0)) ∷
    ill (capturing 0x49E1 (λ s. partial_is 1 0 (frame_is false 1 3 s))) ∷
    ill (capturing 0x49E1 (λ s. partial_is 1 0 (with_frame Closed s))) ∷
    -- the rate counter not below 1, 2, 4 for its FCRC
    ill (rated 0x4000 1) ∷
    ill (rated 0x4000 3) ∷
    ill (rated 0x4100 2) ∷
    well (rated 0x4200 3) ∷
    ill (rated 0x4200 4) ∷
    -- line, column or completed above samples
    well (capturing 0x49E1 (frame_is true 8 8)) ∷
    ill (capturing 0x49E1 (frame_is true 9 8)) ∷
    ill (capturing 0x49E1 (frame_is true 8 9)) ∷
    well (idle (words_are no_slots 0 0 9 9 4 5)) ∷
    ill (idle (words_are no_slots 0 0 8 9 4 5)) ∷
    -- place above landed
    well (idle (words_are no_slots 0 2 9 6 2 4)) ∷
    ill (idle (words_are no_slots 0 3 9 6 2 4)) ∷
    -- the equation of counts broken
    well (enabled_with (words_are (1 ∷ 2 ∷ 0 ∷ 0 ∷ []) 2 0 9 6 1 3)) ∷
    ill (enabled_with (words_are (1 ∷ 2 ∷ 0 ∷ 0 ∷ []) 2 0 9 5 1 3)) ∷
    ill (enabled_with (words_are (1 ∷ 2 ∷ 0 ∷ 0 ∷ []) 2 0 9 7 1 3)) ∷
    []

-- What only the state shows. Rule 5 with CM 1: FCRC 1, and the rate counter once a frame has started.
unfoldable pub snapshot_rate : ℕ
snapshot_rate = (run (write fresh CR 0x49E3).device [] 0 (edges (blank ∷ 1 ∷ []))).device.core.capture.rate

-- And it stays what it was, here 1. No calls from reset lead to this device.
unfoldable pub kept_rate : ℕ
kept_rate = (run (rated 0x49E3 1) [] 0 (edges (blank ∷ 1 ∷ []))).device.core.capture.rate

-- Rule 2: only a sample that goes on leaves whether each sync blanks; disabling leaves it, and so does a write of CR with ENABLE 0.
unfoldable pub syncs_while_disabled : Syncs
syncs_while_disabled =
    let d = (write (run (write fresh CR 0x48E1).device [] 0 (edge blank)).device CR 0x08E0).device in
    (run (write d CR 0x00E0).device [] 0 (edge 1)).device.core.capture.syncs

-- Rule 6: a line that has begun without a pixel runs on where HSYNC did not blank. No calls from reset lead to this device.
unfoldable pub same_line : Frame
same_line = (run (capturing 0x48E1 (λ s. partial_is 0 0 (frame_is true 1 0 s))) [] 0 (edge 4)).device.core.capture.frame

-- Rule 6 alone: an edge carries a pixel where neither sync blanks; here in line 1 after pixel 3, by whether HSYNC and VSYNC blank. By rule 4 no frame is open where VSYNC does.
unfoldable pub frame_after : Bool → Bool → Frame
frame_after hsync vsync = (pixel_edge (capture_of (capturing 0x48E1 (λ s. s))) (record { hsync = hsync; vsync = vsync }) 4).state.frame

-- Rule 6: kept are lines and pixels of an untaken frame too.
unfoldable pub untaken_frame : Frame
untaken_frame = (run (write fresh CR 0x49E1).device [] 0 (edges (blank ∷ 1 ∷ blank ∷ 2 ∷ 3 ∷ []))).device.core.capture.frame

-- Rule 6: lines and pixels are 0 when a frame starts, here at an edge without a pixel.
unfoldable pub frame_started : Frame
frame_started = (run (write fresh CR 0x48E3).device [] 0 (edges (blank ∷ line_gap ∷ []))).device.core.capture.frame

-- "Reset": the syncs are remembered as not blanking.
unfoldable pub syncs_at_reset : Syncs
syncs_at_reset = fresh.core.capture.syncs

-- The statement: every case leaves what its row says, every call tells what stands beside it, every device is judged so, and the state is as said.
abbrev pub cases : List Case
cases = starred ++ mistakes ++ by_rule

pub bench_sheet : (map made cases ≡ map (λ c. c.sheet) cases)
    × (map pixel_data (0xFFFFFFFF ∷ 0xD4C3B2A1 ∷ []) ≡ 0x3FFF ∷ 0x32A1 ∷ [])
    × (map played by_call ≡ map (λ l. map (λ e. e.said) l.entries) by_call)
    × (map (λ j. malformed j.device) judged ≡ map (λ j. j.malformed) judged)
    × (snapshot_rate ≡ 0)
    × (kept_rate ≡ 1)
    × (syncs_while_disabled ≡ record { hsync = true; vsync = true })
    × (same_line ≡ Open true (record { lines = 1; pixels = 1 }))
    × (frame_after false false ≡ Open true (record { lines = 1; pixels = 4 }))
    × (frame_after true false ≡ Open true (record { lines = 1; pixels = 3 }))
    × (frame_after false true ≡ Open true (record { lines = 1; pixels = 3 }))
    × (untaken_frame ≡ Open false (record { lines = 1; pixels = 2 }))
    × (frame_started ≡ Open true (record { lines = 0; pixels = 0 }))
    × (syncs_at_reset ≡ record { hsync = false; vsync = false })
unfolding number number_at written words made told told_by played starred mistakes by_rule by_call judged snapshot_rate kept_rate syncs_while_disabled same_line frame_after untaken_frame frame_started syncs_at_reset every_rule
bench_sheet = (refl, refl, refl, refl, refl, refl, refl, refl, refl, refl, refl, refl, refl, refl)
