-- The image of a device: 58 words of 32 bits, as include/dcmi.h names them.
use Rattle.std.specs.Prelude.{Bool, cond, not, ◌&&◌, ◌||◌, List, [], ◌∷◌, ◌++◌, ℕ, ◌+◌, eqb, leb, take, drop, get_or}
use Rattle.codes.specs.declared.Waiting.{Waiting}
use Rattle.codes.specs.declared.Waiting.TheVariants.{Zero, One, Two, Three}
use Rattle.codes.specs.Bytes.{waiting_count}
use Rattle.rules.specs.declared.Frame.{Frame}
use Rattle.rules.specs.declared.Frame.TheVariants.{Closed, Open}
use Rattle.rules.specs.declared.Capture.{Capture}
use Rattle.rules.specs.declared.Core.{Core}
use Rattle.rules.specs.declared.Device.{Device}
use Rattle.output.specs.declared.Output.{Output}
use Rattle.output.specs.Output.{slot_count}

-- A word that is 0 or 1 says no or yes.
abbrev pub flag : Bool → ℕ
flag b = cond b 1 0

-- The frame: 0 closed, 1 open and not taken, 2 open and taken; its lines and pixels, 0 in a closed one.
abbrev pub frame_word : Frame → ℕ
frame_word Closed = 0
frame_word (Open taken s) = cond taken 2 1

abbrev pub lines_word : Frame → ℕ
lines_word Closed = 0
lines_word (Open taken s) = s.lines

abbrev pub pixels_word : Frame → ℕ
pixels_word Closed = 0
pixels_word (Open taken s) = s.pixels

-- How many words there are; the index of the first slot, and that of the first word behind the slots.
abbrev pub image_words : ℕ
image_words = 26 + slot_count

abbrev pub slot : ℕ
slot = 16

abbrev pub behind : ℕ
behind = slot + slot_count

-- The words of a device: those before the slots, the slots, and those behind them.
abbrev pub words_before : Capture → List ℕ
words_before s =
    s.registers.cr ∷
    s.registers.ris ∷
    s.registers.ier ∷
    s.registers.cwstrt ∷
    s.registers.cwsize ∷
    flag s.pins.hsync ∷
    flag s.pins.vsync ∷
    flag s.pins.clock ∷
    flag s.syncs.hsync ∷
    flag s.syncs.vsync ∷
    frame_word s.frame ∷
    lines_word s.frame ∷
    pixels_word s.frame ∷
    s.rate ∷
    s.partial.count ∷
    s.partial.bits ∷
    []

abbrev pub words_behind : Core → List ℕ
words_behind s =
    s.output.held ∷
    s.output.place ∷
    s.output.counts.samples ∷
    s.output.counts.completed ∷
    s.output.counts.landed ∷
    s.output.counts.discarded ∷
    s.output.depth ∷
    s.capture.registers.escr ∷
    s.capture.registers.esur ∷
    waiting_count s.capture.waiting ∷
    []

unfoldable pub image_of : Device → List ℕ
image_of d = words_before d.core.capture ++ d.slots ++ words_behind d.core

-- An image encodes a device: its flags are 0 or 1, the frame is at most 2, a closed one has no lines and no pixels, and at
-- most 3 bytes wait.
unfoldable pub flags_encode : ℕ → ℕ → ℕ → ℕ → ℕ → Bool
flags_encode a b c d e = leb a 1 && (leb b 1 && (leb c 1 && (leb d 1 && leb e 1)))

unfoldable pub frame_encodes : ℕ → ℕ → ℕ → Bool
frame_encodes frame lines pixels = leb frame 2 && (not (eqb frame 0) || (eqb lines 0 && eqb pixels 0))

unfoldable pub encodes : List ℕ → Bool
encodes w =
    flags_encode (get_or w 5 0) (get_or w 6 0) (get_or w 7 0) (get_or w 8 0) (get_or w 9 0) &&
    (frame_encodes (get_or w 10 0) (get_or w 11 0) (get_or w 12 0) && leb (get_or (drop behind w) 9 0) 3)

-- The device of an image: its parts from the words, and from those behind the slots.
unfoldable pub frame_of : ℕ → ℕ → ℕ → Frame
frame_of frame lines pixels = cond (eqb frame 0) Closed (Open (eqb frame 2) (record { lines = lines; pixels = pixels }))

unfoldable pub waiting_of : ℕ → Waiting
waiting_of count = cond (eqb count 0) Zero (cond (eqb count 1) One (cond (eqb count 2) Two Three))

abbrev pub capture_of : List ℕ → List ℕ → Capture
capture_of w b =
    record {
      registers =
          record { cr = get_or w 0 0; ris = get_or w 1 0; ier = get_or w 2 0; cwstrt = get_or w 3 0; cwsize = get_or w 4 0; escr = get_or b 7 0; esur = get_or b 8 0 };
      pins = record { hsync = eqb (get_or w 5 0) 1; vsync = eqb (get_or w 6 0) 1; clock = eqb (get_or w 7 0) 1 };
      syncs = record { hsync = eqb (get_or w 8 0) 1; vsync = eqb (get_or w 9 0) 1 };
      frame = frame_of (get_or w 10 0) (get_or w 11 0) (get_or w 12 0);
      rate = get_or w 13 0;
      partial = record { count = get_or w 14 0; bits = get_or w 15 0 };
      waiting = waiting_of (get_or b 9 0);
    }

abbrev pub output_of : List ℕ → Output
output_of b =
    record {
      held = get_or b 0 0;
      place = get_or b 1 0;
      depth = get_or b 6 0;
      counts = record { samples = get_or b 2 0; completed = get_or b 3 0; landed = get_or b 4 0; discarded = get_or b 5 0 };
    }

unfoldable pub device_of : List ℕ → Device
device_of w =
    record { core = record { capture = capture_of w (drop behind w); output = output_of (drop behind w) }; slots = take slot_count (drop slot w) }
