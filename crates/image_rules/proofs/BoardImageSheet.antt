-- The nine words of the buffer mode as include/dcmi.h numbers them, behind those of the device, proved of the definitions by computation: `board_image_sheet`, and `judged_sheet` on which
-- words encode a mode.
use mathlib.Core.Bool.{true, false}
use mathlib.Core.List.{List, [], ◌∷◌, ◌++◌, map}
use mathlib.Core.Path.{◌≡◌, refl}
use Prim.Native.Nat.{ℕ, ◌-◌}
use lib.ListN.{replicate}
use Rattle.buffers.specs.declared.Buffer.TheVariants.{A, B}
use Rattle.buffers.specs.declared.Content.TheVariants.{Nothing, Landing, Complete}
use Rattle.rules.specs.declared.Device.{Device}
use Rattle.board_rules.specs.declared.Mode.{Mode}
use Rattle.board_rules.specs.declared.Mode.TheVariants.{One, Two}
use Rattle.image_rules.specs.Image as image
use Rattle.image_rules.specs.BoardImage.{image_of, zeros_encode, turns_encode, mode_encodes}

unfoldable pub modes : List Mode
modes =
    One ∷
    Two (record { place = 159; in_b = 160; opening = 161; turn = B; begun = false; a = Landing; b = Complete; latest = A }) ∷
    Two (record { place = 159; in_b = 160; opening = 161; turn = A; begun = true; a = Complete; b = Nothing; latest = A }) ∷
    Two (record { place = 159; in_b = 160; opening = 161; turn = A; begun = false; a = Nothing; b = Landing; latest = B }) ∷
    []

unfoldable pub mode_words : List (List ℕ)
mode_words =
    (0 ∷ 0 ∷ 0 ∷ 0 ∷ 0 ∷ 0 ∷ 0 ∷ 0 ∷ 0 ∷ []) ∷
    (1 ∷ 159 ∷ 160 ∷ 161 ∷ 1 ∷ 0 ∷ 1 ∷ 2 ∷ 0 ∷ []) ∷
    (1 ∷ 159 ∷ 160 ∷ 161 ∷ 0 ∷ 1 ∷ 2 ∷ 0 ∷ 0 ∷ []) ∷
    (1 ∷ 159 ∷ 160 ∷ 161 ∷ 0 ∷ 0 ∷ 0 ∷ 1 ∷ 1 ∷ []) ∷
    []

pub board_image_sheet : (d : Device) → map (λ m. image_of (record { device = d; mode = m })) modes ≡ map (λ w. image.image_of d ++ w) mode_words
unfolding image_of modes mode_words
board_image_sheet d = refl

-- The words of mode one, but for one of the eight behind it.
abbrev but_one : ℕ → List ℕ
but_one i = 0 ∷ replicate i 0 ++ 1 ∷ replicate (7 - i) 0

-- Those of `mode_words` do. Those of mode one with another word not; nor a mode above 1; nor, in mode two, a turn, `begun`, a frame in A, a frame in B and a latest one above what they may be.
pub judged_sheet :
    map mode_encodes mode_words ++
    map mode_encodes (map but_one (0 ∷ 1 ∷ 2 ∷ 3 ∷ 4 ∷ 5 ∷ 6 ∷ 7 ∷ [])) ++
    map mode_encodes
    ((2 ∷ 159 ∷ 160 ∷ 161 ∷ 1 ∷ 0 ∷ 1 ∷ 2 ∷ 0 ∷ []) ∷
    (1 ∷ 159 ∷ 160 ∷ 161 ∷ 2 ∷ 0 ∷ 1 ∷ 2 ∷ 0 ∷ []) ∷
    (1 ∷ 159 ∷ 160 ∷ 161 ∷ 1 ∷ 2 ∷ 1 ∷ 2 ∷ 0 ∷ []) ∷
    (1 ∷ 159 ∷ 160 ∷ 161 ∷ 1 ∷ 0 ∷ 3 ∷ 2 ∷ 0 ∷ []) ∷
    (1 ∷ 159 ∷ 160 ∷ 161 ∷ 1 ∷ 0 ∷ 1 ∷ 3 ∷ 0 ∷ []) ∷
    (1 ∷ 159 ∷ 160 ∷ 161 ∷ 1 ∷ 0 ∷ 1 ∷ 2 ∷ 2 ∷ []) ∷
    []) ≡
    replicate 4 true ++ replicate 14 false
unfolding mode_words mode_encodes zeros_encode turns_encode
judged_sheet = refl
