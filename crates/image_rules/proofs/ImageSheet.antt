-- The words of an image as include/dcmi.h numbers them, proved of the definitions by computation: `image_sheet`, and `judged_sheet` on which words encode a device. Inverse says that device and image give each other back,
-- in whatever order the words are.
use mathlib.Core.Bool.{Bool, true, false}
use mathlib.Core.List.{List, [], ◌∷◌, ◌++◌, map}
use mathlib.Core.Path.{◌≡◌, refl}
use Prim.Native.Nat.{ℕ, zero, suc, ◌+◌}
use Rattle.codes.specs.declared.Waiting.{Waiting}
use Rattle.codes.specs.declared.Waiting.TheVariants.{Zero, One, Two, Three}
use Rattle.rules.specs.declared.Frame.{Frame}
use Rattle.rules.specs.declared.Frame.TheVariants.{Closed, Open}
use Rattle.rules.specs.declared.Device.{Device}
use Rattle.image_rules.specs.Image.{image_of, flags_encode, frame_encodes, encodes}

-- So many numbers from one on.
abbrev up : ℕ → ℕ → List ℕ
up zero from = []
up (suc n) from = from ∷ up n (from + 1)

-- A device whose numbers are 100 and their index, with flags, frame and waiting bytes.
abbrev with_flags : Bool → Bool → Bool → Bool → Bool → Frame → Waiting → Device
with_flags hsync vsync clock hsync_blanked vsync_blanked frame waiting =
    record {
      core =
          record {
            capture =
                record {
                  registers = record { cr = 100; ris = 101; ier = 102; cwstrt = 103; cwsize = 104; escr = 155; esur = 156 };
                  pins = record { hsync = hsync; vsync = vsync; clock = clock };
                  syncs = record { hsync = hsync_blanked; vsync = vsync_blanked };
                  frame = frame;
                  rate = 113;
                  partial = record { count = 114; bits = 115 };
                  waiting = waiting;
                };
            output =
                record { held = 148; place = 149; depth = 154; counts = record { samples = 150; completed = 151; landed = 152; discarded = 153 } };
          };
      slots = up 32 116;
    }

-- Its image: the five flags, frame, lines and pixels, and how many bytes wait.
abbrev words : List ℕ → List ℕ → ℕ → List ℕ
words flags frame waiting = up 5 100 ++ flags ++ frame ++ up 3 113 ++ up 32 116 ++ up 9 148 ++ waiting ∷ []

pub image_sheet :
    map image_of
    (with_flags true false false true false (Open true (record { lines = 111; pixels = 112 })) Three ∷
    with_flags false true false true true (Open false (record { lines = 111; pixels = 112 })) One ∷
    with_flags false false true false true Closed Two ∷
    with_flags false false false false false Closed Zero ∷
    []) ≡
    words (1 ∷ 0 ∷ 0 ∷ 1 ∷ 0 ∷ []) (2 ∷ 111 ∷ 112 ∷ []) 3 ∷
    words (0 ∷ 1 ∷ 0 ∷ 1 ∷ 1 ∷ []) (1 ∷ 111 ∷ 112 ∷ []) 1 ∷
    words (0 ∷ 0 ∷ 1 ∷ 0 ∷ 1 ∷ []) (0 ∷ 0 ∷ 0 ∷ []) 2 ∷
    words (0 ∷ 0 ∷ 0 ∷ 0 ∷ 0 ∷ []) (0 ∷ 0 ∷ 0 ∷ []) 0 ∷
    []
unfolding image_of
image_sheet = refl

-- One that does, and then a flag above 1, the first and the last; a frame above 2; a closed frame with lines, and with pixels; four bytes waiting.
pub judged_sheet :
    map encodes
    (words (1 ∷ 0 ∷ 0 ∷ 1 ∷ 1 ∷ []) (2 ∷ 111 ∷ 112 ∷ []) 3 ∷
    words (2 ∷ 0 ∷ 0 ∷ 1 ∷ 1 ∷ []) (2 ∷ 111 ∷ 112 ∷ []) 3 ∷
    words (1 ∷ 0 ∷ 0 ∷ 1 ∷ 2 ∷ []) (2 ∷ 111 ∷ 112 ∷ []) 3 ∷
    words (1 ∷ 0 ∷ 0 ∷ 1 ∷ 1 ∷ []) (3 ∷ 111 ∷ 112 ∷ []) 3 ∷
    words (1 ∷ 0 ∷ 0 ∷ 1 ∷ 1 ∷ []) (0 ∷ 111 ∷ 0 ∷ []) 3 ∷
    words (1 ∷ 0 ∷ 0 ∷ 1 ∷ 1 ∷ []) (0 ∷ 0 ∷ 112 ∷ []) 3 ∷
    words (1 ∷ 0 ∷ 0 ∷ 1 ∷ 1 ∷ []) (2 ∷ 111 ∷ 112 ∷ []) 4 ∷
    []) ≡
    true ∷ false ∷ false ∷ false ∷ false ∷ false ∷ false ∷ []
unfolding encodes flags_encode frame_encodes
judged_sheet = refl
