-- W2, two frame buffers in turn (document 02), sentence by sentence and reading by reading: calls in a row, worked out from the request by hand, proved of the rules by computation under
-- one statement, `buffers_sheet`. Each row says which words it is for.
--   in_turn       the first frame to A, the switch, place 0, which frame is handed back
--   not_complete  overrun and disabling, in the frame and after it; re-arming; a padded word that is lost
--   by_codes      frames by codes (W6): a frame end, ERR, re-arming between FF 00 00 and XY
--   the_modes     setting the mode
--   mode_refusals 16, 9, 7 and their order
--   board_judged  the boards that "malformed" judges
use mathlib.Core.Bool.{Bool, true, false, cond}
use mathlib.Core.List.{List, [], ◌∷◌, ◌++◌, map}
use Rattle.std.specs.Prelude.{Option, None, Some}
use mathlib.Core.Path.{◌≡◌, refl}
use Prim.Native.Nat.{ℕ}
use lib.Dec.{eqb}
use lib.ListN.{replicate}
use Rattle.buffers.specs.declared.Buffer.{Buffer}
use Rattle.buffers.specs.declared.Buffer.TheVariants.{A, B}
use Rattle.buffers.specs.declared.Turns.{Turns}
use Rattle.buffers.specs.Turns as turn_rules
use Rattle.buffers.specs.Turns.{fresh_turns, with_turn, with_tags, with_place_b}
use Rattle.buffers.specs.Kept.{keep, keeps, landed_at}
use Rattle.refusals.specs.Refusals as refusals
use Rattle.output.specs.declared.Packing.{Packing as Packed}
use Rattle.output.specs.declared.Packing.TheVariants.{Nothing as nothing, Lost as lost}
use Rattle.rules.proofs.EveryRule.{every_rule}
use Rattle.rules.proofs.BenchSheet.{CR, RIS, CWSIZE, edges, blank, line_gap, idle, words_are, no_slots}
use Rattle.rules.proofs.CodesSheet.{ESCR, ESUR, FS, LS, FE}
use Rattle.board_rules.specs.declared.Mode.TheVariants.{One, Two}
use Rattle.board_rules.specs.declared.Board.{Board}
use Rattle.board_rules.specs.State.{bad_turns, malformed}
use Rattle.board_rules.specs.Answers.{Changed}
use Rattle.board_rules.specs.TwoBuffers.{Pair, frame_event, sample_events, two_step, two_steps}
use Rattle.board_rules.specs.declared.Landing.{Landing}
use Rattle.board_rules.specs.BoardCalls as calls
use Rattle.board_rules.specs.BoardCalls.{fresh_of}
use Rattle.board_rules.specs.BoardRuns as board_runs
use Rattle.board_rules.specs.BoardRuns.{Both, one_refusal, two_refusal, turns_of}
use Rattle.board_rules.specs.HandingBack as handing
use Rattle.board_rules.specs.declared.Handed.TheVariants as handed_cases
use Rattle.board_rules.specs.declared.Handed.{Handed}
use Rattle.board_rules.specs.HandingBack.{hand_back, handed_part}

-- Every rule of boards opened by one name.
unfoldable pub every_board_rule : Unit {0}
unfolding every_rule fresh_turns with_turn with_tags with_place_b turn_rules.with_latest turn_rules.with_content turn_rules.first_word turn_rules.word_held turn_rules.discarded turn_rules.word_lost turn_rules.oldest_buffer turn_rules.oldest_opens turn_rules.oldest_place turn_rules.frame_over turn_rules.last_of_frame turn_rules.word_landed turn_rules.frame_ended turn_rules.rearmed turn_rules.latest_complete keep keeps landed_at bad_turns malformed frame_event sample_events two_step two_steps calls.made calls.read calls.interrupt calls.disabled calls.mode_after calls.write calls.rearmed_mode calls.rearm calls.set_mode one_refusal board_runs.run board_runs.sample two_refusal turns_of board_runs.run_two board_runs.in_memory board_runs.sample_two handing.handing_refusal handing.handed_from handing.handed_latest handing.latest_frame handed_part
every_board_rule = tt

-- A call on a board and the two memories lent to it, of which the calls over one get A; handing back also from others. Or a look at the places of A and B, or at the memories.
pub data Call : Type 0 where
  a_write : (offset value : ℕ) → Call
  a_read : (offset : ℕ) → Call
  a_rearming : Call
  one_buffer : Call
  two_buffers : Call
  one_run : (samples : List ℕ) → Call
  one_sample : (w : ℕ) → Call
  a_run : (samples : List ℕ) → Call
  a_sample : (w : ℕ) → Call
  handed : Call
  handed_of : Both → Call
  a_run_of : Both → List ℕ → Call
  the_places : Call
  the_memories : Call

-- What it tells: accepted, with no value; a refusal number; a register's value; where a word landed and what became of a full one; no frame, a buffer whose memory is too short for so many
-- bytes, or a buffer and its frame's bytes; the two places; the bytes.
pub data Said : Type 0 where
  done : Said
  refused : ℕ → Said
  reads : ℕ → Said
  at : ℕ → Packed → Said
  sampled : Option Landing → Packed → Said
  no_frame : Said
  too_short : Buffer → ℕ → Said
  frame : Buffer → List ℕ → Said
  places : ℕ → ℕ → Said
  hold : List ℕ → List ℕ → Said

pub record Entry : Type 0 where
  pub call : Call
  pub said : Said

abbrev pub ◌▸◌ : Call → Said → Entry
c ▸ s = record { call = c; said = s }

infix 68 ◌▸◌
pub record Log : Type 0 where
  pub board : Board
  pub lent : Both
  pub entries : List Entry

abbrev pub log : Board → Both → List Entry → Log
log b l entries = record { board = b; lent = l; entries = entries }

pub record Told : Type 0 where
  pub said : Said
  pub board : Board
  pub memories : Pair

abbrev pub by_number : ℕ → Said
by_number n = cond (eqb n 0) done (refused n)

abbrev pub by_answer : {X : Type 0} → (X → Said) → refusals.Answer X → Said
by_answer {X} said (refusals.refused n) = refused n
by_answer {X} said (refusals.answered a) = said a

abbrev pub looks : Board → Both → Said → Told
looks b l said = record { said = said; board = b; memories = board_runs.memories l }

abbrev pub changes : Both → Changed → Told
changes l c = record { said = by_number c.number; board = c.board; memories = board_runs.memories l }

abbrev pub hands : List ℕ → Handed → Said
hands bytes handed_cases.Nothing = no_frame
hands bytes (handed_cases.TooShort u n) = too_short u n
hands bytes (handed_cases.FrameIn u n) = frame u bytes

abbrev pub handing_told : Board → Both → Both → Told
handing_told b l other = looks b l (by_answer (hands (handed_part (hand_back b other) other)) (hand_back b other))

abbrev pub one_told : Both → board_runs.OneRun → Told
one_told l r = record { said = by_number r.number; board = r.board; memories = record { a = r.memory; b = l.b.memory } }

abbrev pub landing_byte : Option ℕ → ℕ
landing_byte None = 0
landing_byte (Some byte) = byte

abbrev pub sample_told : Both → board_runs.OneSample → Told
sample_told l r =
    record { said = by_answer (λ a. at (landing_byte a.landing) a.packed) r.answer; board = r.board; memories = record { a = r.memory; b = l.b.memory } }

abbrev pub run_told : board_runs.TwoRun → Told
run_told r = record { said = by_number r.number; board = r.board; memories = r.memories }

unfoldable pub told : Board → Both → Call → Told
told b l (a_write o v) = changes l (calls.write b o v)
told b l (a_read o) = looks b l (by_answer reads (calls.read b o))
told b l a_rearming = changes l (calls.rearm b)
told b l one_buffer = changes l (calls.one_buffer b)
told b l two_buffers = changes l (calls.two_buffers b)
told b l (one_run ws) = one_told l (board_runs.run b l.a.memory l.a.start ws)
told b l (one_sample w) = sample_told l (board_runs.sample b l.a.memory l.a.start w)
told b l (a_run ws) = run_told (board_runs.run_two b l ws)
told b l (a_sample w) =
    let r = board_runs.sample_two b l w in
    record { said = by_answer (λ a. sampled a.landing a.packed) r.answer; board = r.board; memories = r.memories }
told b l handed = handing_told b l l
told b l (handed_of other) = handing_told b l other
told b l (a_run_of other ws) = looks b l (by_number (board_runs.run_two b other ws).number)
told b l the_places = looks b l (places b.device.core.output.place (turns_of b.mode).place)
told b l the_memories = looks b l (hold l.a.memory l.b.memory)

abbrev pub relent : Both → Pair → Both
relent l p = record { a = record { memory = p.a; start = l.a.start }; b = record { memory = p.b; start = l.b.start } }

unfoldable pub told_by : Board → Both → List Entry → List Said
told_by b l [] = []
told_by b l (e ∷ es) = let t = told b l e.call in t.said ∷ told_by t.board (relent l t.memories) es

unfoldable pub played : Log → List Said
played l = told_by l.board l.lent l.entries

-- Memories of a length, with a start byte; no byte of them is a word's. A has room for three words, B from byte 4 on for two.
abbrev pub lending : ℕ → ℕ → ℕ → ℕ → Both
lending la sa lb sb = record { a = record { memory = replicate la 0xAA; start = sa }; b = record { memory = replicate lb 0xBB; start = sb } }

abbrev pub usual : Both
usual = lending 12 0 12 4

-- A board of a depth in mode two: 12 bits, two pixels a word, continuous, polarities 1.
abbrev pub two : ℕ → Both → List Entry → Log
two depth l entries = log (fresh_of depth) l (two_buffers ▸ done ∷ a_write CR 0x48E1 ▸ done ∷ entries)

-- Edges; a sample that grants the bus and has no working edge.
abbrev pub feed : List ℕ → Entry
feed xs = a_run (edges xs) ▸ done

abbrev pub granting : Option Landing → Entry
granting l = a_sample 0x2C000 ▸ sampled l nothing

abbrev pub lands : Buffer → ℕ → Entry
lands u byte = granting (Some (record { buffer = u; byte = byte }))

-- The bytes of a word of two pixels.
abbrev pub pixels : ℕ → ℕ → List ℕ
pixels x y = x ∷ 0 ∷ y ∷ 0 ∷ []

unfoldable pub in_turn : List Log
in_turn =
    -- "The first after a mode change goes to A"; "the first word a frame completes switches to the other"; "such a word lands at place 0"; "a landing names A or B", and its byte of that memory.
    -- "Ceases to be when another frame's first word lands there": until then the old frame is handed back. Of two complete frames the latest
    two 4 usual
    (feed (blank ∷ 1 ∷ 2 ∷ []) ∷
    lands A 0 ∷
    handed ▸ no_frame ∷
    feed (blank ∷ []) ∷
    handed ▸ frame A (pixels 1 2) ∷
    feed (3 ∷ 4 ∷ []) ∷
    handed ▸ frame A (pixels 1 2) ∷
    lands B 4 ∷
    handed ▸ frame A (pixels 1 2) ∷
    feed (blank ∷ []) ∷
    handed ▸ frame B (pixels 3 4) ∷
    feed (5 ∷ 6 ∷ 7 ∷ 8 ∷ []) ∷
    handed ▸ frame B (pixels 3 4) ∷
    lands A 0 ∷
    handed ▸ frame B (pixels 3 4) ∷
    lands A 4 ∷
    the_places ▸ places 2 1 ∷
    feed (blank ∷ []) ∷
    handed ▸ frame A (pixels 5 6 ++ pixels 7 8) ∷
    the_memories ▸ hold (pixels 5 6 ++ pixels 7 8 ++ replicate 4 0xAA) (replicate 4 0xBB ++ pixels 3 4 ++ replicate 4 0xBB) ∷
    []) ∷
    -- "All its words have landed": complete at its last landing after the frame's end; a frame whose words wait behind another's, too
    two 4 usual
    (feed (blank ∷ 1 ∷ 2 ∷ blank ∷ 3 ∷ 4 ∷ blank ∷ []) ∷
    handed ▸ no_frame ∷
    lands A 0 ∷
    handed ▸ frame A (pixels 1 2) ∷
    lands B 4 ∷
    handed ▸ frame B (pixels 3 4) ∷
    granting None ∷
    []) ∷
    -- "The first word a frame completes": also if it is lost. At depth 1 the second frame's is, and the third goes to A
    two 1 usual
    (feed (blank ∷ 1 ∷ 2 ∷ blank ∷ 3 ∷ []) ∷
    a_run (4 ∷ []) ▸ done ∷
    a_sample 0x10004 ▸ sampled None lost ∷
    a_read RIS ▸ reads 0x1B ∷
    feed (blank ∷ 5 ∷ 6 ∷ []) ∷
    lands A 0 ∷
    []) ∷
    -- frames without a word do not switch
    two 4 usual (feed (blank ∷ 1 ∷ blank ∷ 2 ∷ blank ∷ 3 ∷ 4 ∷ []) ∷ lands A 0 ∷ []) ∷
    -- "Room is room for each frame in its buffer": none for a word in B keeps the one for A behind it waiting
    two 4 (lending 12 0 4 4)
    (feed (blank ∷ 1 ∷ 2 ∷ blank ∷ 3 ∷ 4 ∷ blank ∷ 5 ∷ 6 ∷ []) ∷
    lands A 0 ∷
    granting None ∷
    granting None ∷
    the_memories ▸ hold (pixels 1 2 ++ replicate 8 0xAA) (replicate 4 0xBB) ∷
    []) ∷
    -- "That memory is too short": the latest frame's; an older one that would fit is not handed back
    two 4 usual
    (feed (blank ∷ 1 ∷ 2 ∷ blank ∷ 3 ∷ 4 ∷ 5 ∷ 6 ∷ blank ∷ []) ∷
    lands A 0 ∷
    lands B 4 ∷
    lands B 8 ∷
    handed_of (lending 12 0 11 4) ▸ too_short B 8 ∷
    handed_of (lending 0 0 12 4) ▸ frame B (replicate 8 0xBB) ∷
    handed ▸ frame B (pixels 3 4 ++ pixels 5 6) ∷
    []) ∷
    -- in A too; it says which, and how many bytes the frame has, whatever is there or missing
    two 4 usual
    (feed (blank ∷ 1 ∷ 2 ∷ blank ∷ 3 ∷ 4 ∷ []) ∷
    lands A 0 ∷
    handed_of (lending 3 0 12 4) ▸ too_short A 4 ∷
    handed_of (lending 7 4 12 4) ▸ too_short A 4 ∷
    handed_of (lending 4 0 0 0) ▸ frame A (replicate 4 0xAA) ∷
    []) ∷
    -- "All its words have landed": the last lands in the sample of the frame's end, by rule 1 before rule 4
    two 4 usual
    (feed (blank ∷ 1 ∷ 2 ∷ []) ∷
    a_run (blank ∷ []) ▸ done ∷
    handed ▸ no_frame ∷
    a_sample 0x3C000 ▸ sampled (Some (record { buffer = A; byte = 0 })) nothing ∷
    handed ▸ frame A (pixels 1 2) ∷
    []) ∷
    -- handing back is accepted enabled, in a frame and disabled; disabling ends no completeness
    two 4 usual
    (feed (blank ∷ 1 ∷ 2 ∷ []) ∷
    lands A 0 ∷
    feed (blank ∷ 3 ∷ []) ∷
    handed ▸ frame A (pixels 1 2) ∷
    a_write CR 0x08E0 ▸ done ∷
    handed ▸ frame A (pixels 1 2) ∷
    []) ∷
    -- W1: FRAME has risen early, and all words have landed; complete at frame end
    log (fresh_of 4) usual
    (two_buffers ▸ done ∷
    a_write CWSIZE 1 ▸ done ∷
    a_write CR 0x48E5 ▸ done ∷
    feed (blank ∷ 1 ∷ 2 ∷ line_gap ∷ []) ∷
    lands A 0 ∷
    a_read RIS ▸ reads 0x19 ∷
    handed ▸ no_frame ∷
    feed (blank ∷ []) ∷
    handed ▸ frame A (pixels 1 2) ∷
    []) ∷
    []

-- A board for JPEG, and for codes as CodesSheet has them.
abbrev pub two_with : ℕ → ℕ → List Entry → Log
two_with depth cr entries = log (fresh_of depth) usual (two_buffers ▸ done ∷ a_write CR cr ▸ done ∷ entries)

abbrev pub two_coded : ℕ → List Entry → Log
two_coded depth entries =
    log (fresh_of depth) usual
    (two_buffers ▸ done ∷ a_write ESCR 0xD4C3B2A1 ▸ done ∷ a_write ESUR 0xFFFFFFFF ▸ done ∷ a_write CR 0x4031 ▸ done ∷ entries)

unfoldable pub by_codes : List Log
by_codes =
    -- W6: a frame end code ends a frame as rule 4 does; the next frame's word switches
    two_coded 4
    (feed (FS ++ 1 ∷ 2 ∷ 3 ∷ 4 ∷ []) ∷
    lands A 0 ∷
    handed ▸ no_frame ∷
    feed FE ∷
    handed ▸ frame A (1 ∷ 2 ∷ 3 ∷ 4 ∷ []) ∷
    feed (FS ++ 5 ∷ 6 ∷ 7 ∷ 8 ∷ FE) ∷
    lands B 4 ∷
    handed ▸ frame B (5 ∷ 6 ∷ 7 ∷ 8 ∷ []) ∷
    []) ∷
    -- ERR, of a frame whose only word has landed
    two_coded 4
    (feed (FS ++ 1 ∷ 2 ∷ 3 ∷ 4 ∷ []) ∷
    lands A 0 ∷
    feed LS ∷
    a_read RIS ▸ reads 4 ∷
    handed ▸ no_frame ∷
    feed (FS ++ 5 ∷ 6 ∷ 7 ∷ 8 ∷ []) ∷
    lands B 4 ∷
    []) ∷
    -- ERR between frames: the ended one's second word is discarded, and it is not complete
    two_coded 4
    (feed (FS ++ 1 ∷ 2 ∷ 3 ∷ 4 ∷ 5 ∷ 6 ∷ 7 ∷ 8 ∷ FE) ∷
    lands A 0 ∷
    feed LS ∷
    a_read RIS ▸ reads 0x1D ∷
    granting None ∷
    handed ▸ no_frame ∷
    []) ∷
    -- or the word that opens it, with which its turn has passed: the next frame goes to B
    two_coded 4
    (feed (FS ++ 1 ∷ 2 ∷ 3 ∷ 4 ∷ FE) ∷
    feed LS ∷
    granting None ∷
    handed ▸ no_frame ∷
    feed (FS ++ 5 ∷ 6 ∷ 7 ∷ 8 ∷ FE) ∷
    lands B 4 ∷
    handed ▸ frame B (5 ∷ 6 ∷ 7 ∷ 8 ∷ []) ∷
    []) ∷
    -- re-arming between FF 00 00 and XY: the bytes wait on, and XY makes the code
    two_coded 4
    (feed (0xFF ∷ 0 ∷ 0 ∷ []) ∷
    a_rearming ▸ done ∷
    feed (0xA1 ∷ 1 ∷ 2 ∷ 3 ∷ 4 ∷ 0xFF ∷ 0 ∷ 0 ∷ []) ∷
    a_rearming ▸ done ∷
    lands A 0 ∷
    handed ▸ no_frame ∷
    feed (0xD4 ∷ []) ∷
    handed ▸ frame A (1 ∷ 2 ∷ 3 ∷ 4 ∷ []) ∷
    []) ∷
    []

unfoldable pub not_complete : List Log
not_complete =
    -- "Ended by rule 4": not by an overrun
    two 1 usual
    (feed (blank ∷ 1 ∷ 2 ∷ []) ∷
    lands A 0 ∷
    feed (3 ∷ 4 ∷ 5 ∷ 6 ∷ blank ∷ []) ∷
    a_read RIS ▸ reads 0x1A ∷
    handed ▸ no_frame ∷
    []) ∷
    -- nor by disabling, which leaves the turn: the next frame goes to B
    two 4 usual
    (feed (blank ∷ 1 ∷ 2 ∷ []) ∷
    lands A 0 ∷
    a_write CR 0x08E0 ▸ done ∷
    handed ▸ no_frame ∷
    a_write CR 0x48E1 ▸ done ∷
    feed (blank ∷ 3 ∷ 4 ∷ []) ∷
    lands B 4 ∷
    handed ▸ no_frame ∷
    []) ∷
    -- "All its words have landed since the last re-arming": one did before; the others land from place 0 on
    two 4 usual
    (feed (blank ∷ 1 ∷ 2 ∷ []) ∷
    lands A 0 ∷
    a_rearming ▸ done ∷
    the_places ▸ places 0 0 ∷
    feed (3 ∷ 4 ∷ []) ∷
    lands A 0 ∷
    feed (blank ∷ []) ∷
    handed ▸ no_frame ∷
    []) ∷
    -- in B too: its place is 0 again, and a frame's second word lands there
    two 4 usual
    (feed (blank ∷ 1 ∷ 2 ∷ blank ∷ 3 ∷ 4 ∷ []) ∷
    lands A 0 ∷
    lands B 4 ∷
    the_places ▸ places 1 1 ∷
    a_rearming ▸ done ∷
    the_places ▸ places 0 0 ∷
    feed (5 ∷ 6 ∷ []) ∷
    lands B 4 ∷
    feed (blank ∷ []) ∷
    handed ▸ no_frame ∷
    []) ∷
    -- but one whose first word is still held is complete as usual; a complete one is not any more, and the turn stays
    two 4 usual
    (feed (blank ∷ 1 ∷ 2 ∷ []) ∷
    a_rearming ▸ done ∷
    lands A 0 ∷
    feed (blank ∷ []) ∷
    handed ▸ frame A (pixels 1 2) ∷
    a_rearming ▸ done ∷
    handed ▸ no_frame ∷
    feed (3 ∷ 4 ∷ []) ∷
    lands B 4 ∷
    []) ∷
    -- W4: a padded word that is lost at the frame's end; one that is held
    two_with 1 0x40E9 (feed (blank ∷ 1 ∷ 2 ∷ 3 ∷ 4 ∷ 5 ∷ blank ∷ []) ∷ granting None ∷ handed ▸ no_frame ∷ []) ∷
    two_with 2 0x40E9
    (feed (blank ∷ 1 ∷ 2 ∷ 3 ∷ 4 ∷ 5 ∷ blank ∷ []) ∷
    lands A 0 ∷
    handed ▸ no_frame ∷
    lands A 4 ∷
    handed ▸ frame A (1 ∷ 2 ∷ 3 ∷ 4 ∷ 5 ∷ 0 ∷ 0 ∷ 0 ∷ []) ∷
    []) ∷
    -- a frame that has ended loses a held word to the next one's overrun
    two 2 usual
    (feed (blank ∷ 1 ∷ 2 ∷ 3 ∷ 4 ∷ blank ∷ []) ∷
    lands A 0 ∷
    feed (5 ∷ 6 ∷ 7 ∷ 8 ∷ blank ∷ []) ∷
    a_read RIS ▸ reads 0x1B ∷
    granting None ∷
    handed ▸ no_frame ∷
    []) ∷
    -- or to disabling; the next frame is handed back
    two 4 usual
    (feed (blank ∷ 1 ∷ 2 ∷ 3 ∷ 4 ∷ blank ∷ []) ∷
    lands A 0 ∷
    a_write CR 0x08E0 ▸ done ∷
    handed ▸ no_frame ∷
    a_write CR 0x48E1 ▸ done ∷
    feed (blank ∷ 5 ∷ 6 ∷ blank ∷ []) ∷
    handed ▸ no_frame ∷
    lands B 4 ∷
    handed ▸ frame B (pixels 5 6) ∷
    []) ∷
    -- "The first word a frame completes switches": also if it was held and then discarded, by disabling or by an overrun
    two 4 usual
    (feed (blank ∷ 1 ∷ 2 ∷ []) ∷
    a_write CR 0x08E0 ▸ done ∷
    a_write CR 0x48E1 ▸ done ∷
    feed (blank ∷ 3 ∷ 4 ∷ []) ∷
    lands B 4 ∷
    []) ∷
    two 1 usual (feed (blank ∷ 1 ∷ 2 ∷ 3 ∷ 4 ∷ blank ∷ 5 ∷ 6 ∷ []) ∷ lands B 4 ∷ []) ∷
    []

unfoldable pub the_modes : List Log
the_modes =
    -- "A buffer mode, one (at reset) or two"; in mode one the place runs on over frames, as before
    log (fresh_of 4) usual
    (a_write CR 0x48E1 ▸ done ∷
    one_run (edges (blank ∷ 1 ∷ 2 ∷ blank ∷ 3 ∷ 4 ∷ blank ∷ [])) ▸ done ∷
    one_sample 0x2C000 ▸ at 0 nothing ∷
    one_sample 0x2C000 ▸ at 4 nothing ∷
    the_memories ▸ hold (pixels 1 2 ++ pixels 3 4 ++ replicate 4 0xAA) (replicate 12 0xBB) ∷
    []) ∷
    -- "Mode change while enabled is 6"
    two 4 usual (two_buffers ▸ refused 6 ∷ one_buffer ▸ refused 6 ∷ feed (blank ∷ 1 ∷ 2 ∷ []) ∷ lands A 0 ∷ []) ∷
    -- "Setting it, also to the same, is a change and re-arms": nothing is complete, and the next frame goes to A again
    two 4 usual
    (feed (blank ∷ 1 ∷ 2 ∷ []) ∷
    lands A 0 ∷
    feed (blank ∷ []) ∷
    a_write CR 0x08E0 ▸ done ∷
    two_buffers ▸ done ∷
    the_places ▸ places 0 0 ∷
    handed ▸ no_frame ∷
    a_write CR 0x48E1 ▸ done ∷
    feed (blank ∷ 3 ∷ 4 ∷ []) ∷
    lands A 0 ∷
    []) ∷
    -- back to one: the next word goes to place 0 of the one memory
    two 4 usual
    (feed (blank ∷ 1 ∷ 2 ∷ blank ∷ 3 ∷ 4 ∷ []) ∷
    lands A 0 ∷
    lands B 4 ∷
    a_write CR 0x08E0 ▸ done ∷
    one_buffer ▸ done ∷
    a_write CR 0x48E1 ▸ done ∷
    one_run (edges (blank ∷ 5 ∷ 6 ∷ [])) ▸ done ∷
    one_sample 0x2C000 ▸ at 0 nothing ∷
    []) ∷
    -- one again: it re-arms too
    log (fresh_of 4) usual
    (a_write CR 0x48E1 ▸ done ∷
    one_run (edges (blank ∷ 1 ∷ 2 ∷ blank ∷ [])) ▸ done ∷
    one_sample 0x2C000 ▸ at 0 nothing ∷
    the_places ▸ places 1 0 ∷
    one_buffer ▸ refused 6 ∷
    a_write CR 0x08E0 ▸ done ∷
    one_buffer ▸ done ∷
    the_places ▸ places 0 0 ∷
    []) ∷
    []

unfoldable pub mode_refusals : List Log
mode_refusals =
    -- "Memories not matching the mode is 16": runs, samples and handing back, before 9 and 7
    log (fresh_of 4) usual (a_run [] ▸ refused 16 ∷ a_sample 0x40000 ▸ refused 16 ∷ handed ▸ refused 16 ∷ handed_of (lending 0 1 0 1) ▸ refused 16 ∷ []) ∷
    two 4 usual (one_run [] ▸ refused 16 ∷ one_sample 0x40000 ▸ refused 16 ∷ []) ∷
    -- 9: either start above its own length, also where nothing lands, before 7; handing back too
    two 4 usual
    (a_run_of (lending 3 4 12 0) (0x40000 ∷ []) ▸ refused 9 ∷
    a_run_of (lending 12 0 3 4) (0x40000 ∷ []) ▸ refused 9 ∷
    a_run_of (lending 4 4 3 3) (0x40000 ∷ []) ▸ refused 7 ∷
    a_run_of (lending 4 4 3 3) [] ▸ done ∷
    a_sample 0x40000 ▸ refused 7 ∷
    handed_of (lending 3 4 12 0) ▸ refused 9 ∷
    handed_of (lending 12 0 3 4) ▸ refused 9 ∷
    []) ∷
    -- 16 before 9, of runs and samples
    log (fresh_of 4) usual (a_run_of (lending 3 4 12 0) [] ▸ refused 16 ∷ []) ∷
    two 4 (lending 3 4 12 0) (one_run [] ▸ refused 16 ∷ one_sample 0 ▸ refused 16 ∷ []) ∷
    -- 8, after 7
    log (record { device = idle (words_are no_slots 0 0 4294967294 0 0 0); mode = Two fresh_turns }) usual
    (a_run (0 ∷ 0 ∷ []) ▸ refused 8 ∷
    a_run (0 ∷ 0x40000 ∷ []) ▸ refused 7 ∷
    a_sample 0 ▸ sampled None nothing ∷
    a_sample 0 ▸ refused 8 ∷
    a_run [] ▸ done ∷
    []) ∷
    -- 1, of every call, for B's place alone; before 6, 9 and 7
    log (record { device = (calls.write (fresh_of 4) 0 0x4000).board.device; mode = Two (with_place_b 1 fresh_turns) }) usual
    (a_read CR ▸ refused 1 ∷
    a_write CR 0 ▸ refused 1 ∷
    a_rearming ▸ refused 1 ∷
    one_buffer ▸ refused 1 ∷
    two_buffers ▸ refused 1 ∷
    one_run [] ▸ refused 1 ∷
    one_sample 0 ▸ refused 1 ∷
    a_run_of (lending 3 4 12 0) (0x40000 ∷ []) ▸ refused 1 ∷
    a_sample 0x40000 ▸ refused 1 ∷
    handed_of (lending 3 4 12 0) ▸ refused 1 ∷
    []) ∷
    -- 1 before 16, of every call
    log (record { device = (fresh_of 0).device; mode = One }) usual
    (a_run [] ▸ refused 1 ∷
    handed ▸ refused 1 ∷
    one_buffer ▸ refused 1 ∷
    two_buffers ▸ refused 1 ∷
    []) ∷
    log (record { device = (fresh_of 0).device; mode = Two fresh_turns }) usual (one_run [] ▸ refused 1 ∷ one_sample 0 ▸ refused 1 ∷ a_rearming ▸ refused 1 ∷ []) ∷
    []

-- A fresh board in mode two with other turns, and what "malformed" says of it.
pub record Judged : Type 0 where
  pub turns : Turns
  pub malformed : Bool

abbrev pub judge : Turns → Bool → Judged
judge t m = record { turns = t; malformed = m }

unfoldable pub board_judged : List Judged
board_judged =
    judge fresh_turns false ∷
    -- "Malformed now covers both places"
    judge (with_place_b 1 fresh_turns) true ∷
    -- an unused slot's buffer and opening mark
    judge (with_tags 1 0 fresh_turns) true ∷
    judge (with_tags 0 1 fresh_turns) true ∷
    -- the list is closed: any turn is well-formed
    judge (with_turn A true fresh_turns) false ∷
    []

pub buffers_sheet : (map played in_turn ≡ map (λ l. map (λ e. e.said) l.entries) in_turn)
    × (map played not_complete ≡ map (λ l. map (λ e. e.said) l.entries) not_complete)
    × (map played by_codes ≡ map (λ l. map (λ e. e.said) l.entries) by_codes)
    × (map played the_modes ≡ map (λ l. map (λ e. e.said) l.entries) the_modes)
    × (map played mode_refusals ≡ map (λ l. map (λ e. e.said) l.entries) mode_refusals)
    × (map (λ j. malformed (record { device = (fresh_of 4).device; mode = Two j.turns })) board_judged ≡ map (λ j. j.malformed) board_judged)
unfolding told told_by played in_turn not_complete by_codes the_modes mode_refusals board_judged every_board_rule
buffers_sheet = (refl, refl, refl, refl, refl, refl)
