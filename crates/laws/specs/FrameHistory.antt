-- FRAME, from the history (request W1): what has happened in the frame that started last, kept by the events of a list of calls alone.
use Rattle.std.specs.Prelude.{Bool, true, false, cond, not, ◌&&◌, ◌||◌, List, [], ◌∷◌, ℕ, ◌+◌, ltb}
use Rattle.registers.specs.Control.{embedded}
use Rattle.registers.specs.Window.{vst, vline}
use Rattle.codes.specs.declared.Meaning.{Meaning}
use Rattle.codes.specs.declared.Meaning.TheVariants.{FrameEnd, FrameStart, LineEnd, LineStart, Unmatched}
use Rattle.codes.specs.Bytes.{is_code}
use Rattle.codes.specs.Meaning.{meaning, by_line_starts}
use Rattle.rules.specs.declared.Registers.{Registers}
use Rattle.rules.specs.declared.Syncs.{Syncs}
use Rattle.rules.specs.declared.Frame.{Frame}
use Rattle.rules.specs.declared.Frame.TheVariants.{Closed, Open}
use Rattle.rules.specs.declared.Capture.{Capture}
use Rattle.rules.specs.Capture.{working_edge, enabled, blanking, frame_due, starts}
use Rattle.rules.specs.State.{is_open}
use Rattle.rules.specs.Codes.{in_line, seeks, line_ended, frame_ended}
use Rattle.rules.specs.Sample.{byte_of}
use Rattle.output.specs.declared.Packing.{Packing as Packed}
use Rattle.output.specs.declared.Packing.TheVariants.{Nothing as nothing, Completed as completed, Lost as lost}
use Rattle.laws.specs.Histories.{Event, sampled, disabled}

-- Since the frame started, HSYNC has blanked at a working edge after line VST + VLINE had begun, or with ESS 1 an end code has come after that (W6); and how often FRAME was
-- due by rule 4.
pub record FrameHistory : Type 0 where
  pub ended : Bool
  pub due : ℕ

unfoldable pub no_history : FrameHistory
no_history = record { ended = false; due = 0 }

-- Line VST + VLINE has begun in an open frame. Lines count from 0, so more than VST + VLINE have.
unfoldable pub last_line_begun : Registers → Frame → Bool
last_line_begun r Closed = false
last_line_begun r (Open taken f) = ltb (vst r.cwstrt + vline r.cwsize) f.lines

-- Rule 5 starts a frame at a working edge.
unfoldable pub edge_starts : Frame → Capture → Syncs → Bool
edge_starts Closed s now = starts s now
edge_starts (Open taken f) s now = false

-- A working edge, which finds s.
unfoldable pub edge_entry : FrameHistory → Capture → Syncs → FrameHistory
edge_entry h s now =
    cond (edge_starts s.frame s now)
    no_history
    (record {
      ended = h.ended || (last_line_begun s.registers s.frame && now.hsync);
      due = cond (frame_due s.frame s now) (h.due + 1) h.due;
    })

-- W6. FRAME is due by a code: at a frame end, or at a line end that ends a line. They leave the syncs as `frame_ended` and `line_ended` say.
unfoldable pub code_due : Meaning → Capture → Bool
code_due FrameEnd s = frame_due s.frame s frame_ended
code_due FrameStart s = false
code_due LineEnd s = in_line s && frame_due s.frame s line_ended
code_due LineStart s = false
code_due Unmatched s = false

unfoldable pub byte_due : Capture → ℕ → Bool
byte_due s x = is_code s.waiting && code_due (meaning s.registers.escr s.registers.esur x) s

-- A code starts a frame where none is open: a frame start; with FSC 0xFF a line start, but not while only a frame start or end counts.
unfoldable pub code_starts : Meaning → Capture → Bool
code_starts FrameEnd s = false
code_starts FrameStart s = not (is_open s.frame)
code_starts LineEnd s = false
code_starts LineStart s = not (is_open s.frame) && not (seeks s) && by_line_starts s.registers.escr
code_starts Unmatched s = false

-- The end codes.
abbrev pub is_end : Meaning → Bool
is_end FrameEnd = true
is_end FrameStart = false
is_end LineEnd = true
is_end LineStart = false
is_end Unmatched = false

-- A code, which finds s; and a byte that may be one's last.
unfoldable pub code_entry : Meaning → FrameHistory → Capture → FrameHistory
code_entry m h s =
    cond (code_starts m s)
    no_history
    (record { ended = h.ended || (last_line_begun s.registers s.frame && is_end m); due = cond (code_due m s) (h.due + 1) h.due })

unfoldable pub byte_entry : FrameHistory → Capture → ℕ → FrameHistory
byte_entry h s x = cond (is_code s.waiting) (code_entry (meaning s.registers.escr s.registers.esur x) h s) h

-- FRAME is due at a sample, and what the sample enters: by the sync pins, or with ESS 1 by codes.
unfoldable pub due_at : Capture → ℕ → Bool
due_at s w = (working_edge s w && enabled s) && cond (embedded s.registers.cr) (byte_due s (byte_of w)) (frame_due s.frame s (blanking s w))

unfoldable pub sampling_entry : FrameHistory → Capture → ℕ → FrameHistory
sampling_entry h s w = cond (working_edge s w && enabled s) (cond (embedded s.registers.cr) (byte_entry h s (byte_of w)) (edge_entry h s (blanking s w))) h

unfoldable pub frame_entry : FrameHistory → Event → FrameHistory
frame_entry h (sampled s w landing packed) = sampling_entry h s w
frame_entry h disabled = h

unfoldable pub frame_entries : FrameHistory → List Event → FrameHistory
frame_entries h [] = h
frame_entries h (e ∷ es) = frame_entries (frame_entry h e) es

abbrev pub frame_history : List Event → FrameHistory
frame_history es = frame_entries no_history es

-- W4: a sample's word was lost. FRAME rises where it is due and no word is lost (`frame_rises_by_rule_4`).
unfoldable pub is_lost : Packed → Bool
is_lost nothing = false
is_lost (completed v) = false
is_lost lost = true
