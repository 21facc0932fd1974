-- The words of the calls' answers as include/dcmi.h numbers them, what a refused call leaves, and calls on images, proved of the definitions by computation.
use mathlib.Core.Bool.{true, false}
use mathlib.Core.List.{[], ◌∷◌, map}
use Rattle.std.specs.Prelude.{None, Some}
use mathlib.Core.Path.{◌≡◌, refl}
use lib.ListN.{replicate}
use Rattle.buffers.specs.declared.Buffer.TheVariants.{A, B}
use Rattle.refusals.specs.Refusals.{refused, answered}
use Rattle.output.specs.declared.Packing.TheVariants.{Nothing as nothing, Completed as completed, Lost as lost}
use Rattle.board_rules.specs.HandingBack as handing
use Rattle.board_rules.proofs.BuffersSheet.{every_board_rule}
use Rattle.image_rules.specs.Image as image
use Rattle.image_rules.specs.BoardImage.{image_of, encodes, mode_encodes, zeros_encode, mode_of, board_of}
use Rattle.board_rules.specs.declared.Handed.TheVariants as handed_cases
use Rattle.call_rules.specs.DeviceCalls.{called, reset, write, gave, got, got_line, read, answer_words, two_words, frame_called, frame_words}

-- A sample's answers over one memory.
pub words_sheet :
    map answer_words
    (record { landing = None; packed = nothing } ∷ record { landing = Some 8; packed = completed 99 } ∷ record { landing = Some 0; packed = lost } ∷ []) ≡
    (0 ∷ 0 ∷ 0 ∷ 0 ∷ []) ∷
    (1 ∷ 8 ∷ 1 ∷ 99 ∷ []) ∷
    (1 ∷ 0 ∷ 2 ∷ 0 ∷ []) ∷
    []
words_sheet = refl

-- Over two.
pub two_words_sheet :
    map two_words
    (record { landing = None; packed = lost } ∷
    record { landing = Some (record { buffer = A; byte = 8 }); packed = completed 99 } ∷
    record { landing = Some (record { buffer = B; byte = 4 }); packed = nothing } ∷
    []) ≡
    (0 ∷ 0 ∷ 2 ∷ 0 ∷ []) ∷
    (1 ∷ 8 ∷ 1 ∷ 99 ∷ []) ∷
    (2 ∷ 4 ∷ 0 ∷ 0 ∷ []) ∷
    []
two_words_sheet = refl

-- Where the latest frame is, the memories starting at bytes 5 and 6.
pub frame_sheet :
    map (frame_words (7 ∷ 7 ∷ 7 ∷ []) (record { a = record { length = 50; start = 5 }; b = record { length = 60; start = 6 } }))
    (refused 16 ∷ answered handed_cases.Nothing ∷ answered (handed_cases.FrameIn A 12) ∷ answered (handed_cases.FrameIn B 16) ∷ answered (handed_cases.TooShort A 48) ∷ answered (handed_cases.TooShort B 64) ∷ []) ≡
    frame_called 16 (7 ∷ 7 ∷ 7 ∷ []) ∷
    frame_called 0 (0 ∷ 0 ∷ 0 ∷ []) ∷
    frame_called 0 (1 ∷ 5 ∷ 12 ∷ []) ∷
    frame_called 0 (2 ∷ 6 ∷ 16 ∷ []) ∷
    frame_called 0 (3 ∷ 5 ∷ 48 ∷ []) ∷
    frame_called 0 (4 ∷ 6 ∷ 64 ∷ []) ∷
    []
frame_sheet = refl

-- A value that is read, an interrupt line, and, refused, the output as it was: 7.
pub got_sheet : map (got 7) (answered 3 ∷ refused 2 ∷ []) ≡ gave 0 3 ∷ gave 2 7 ∷ []
got_sheet = refl

pub line_sheet : map (got_line 7) (answered true ∷ answered false ∷ refused 1 ∷ []) ≡ gave 0 1 ∷ gave 0 0 ∷ gave 1 7 ∷ []
line_sheet = refl

-- Calls on images: CR of a fresh device gets ENABLE, and is read; offset 16384 is none, nor is 2; and words that encode no board.
pub reads_sheet :
    read (write reset.image 0 16384).image 0 7 ∷ read (write reset.image 16384 0).image 0 7 ∷ read reset.image 2 7 ∷ read (replicate 67 9) 0 7 ∷ [] ≡
    gave 0 16384 ∷ gave 0 0 ∷ gave 2 7 ∷ gave 1 7 ∷ []
unfolding every_board_rule image.image_of image.flags_encode image.frame_encodes image.encodes image.frame_of image.waiting_of image.device_of image_of zeros_encode mode_encodes encodes mode_of board_of reset write read
reads_sheet = refl

pub writes_sheet : write reset.image 16384 0 ∷ write (replicate 67 9) 0 16384 ∷ [] ≡ called 2 reset.image ∷ called 1 (replicate 67 9) ∷ []
unfolding every_board_rule image.image_of image.flags_encode image.frame_encodes image.encodes image.frame_of image.waiting_of image.device_of image_of zeros_encode mode_encodes encodes mode_of board_of reset write
writes_sheet = refl
