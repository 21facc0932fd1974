-- The image of a board (W2): 67 words of 32 bits, as include/dcmi.h names them: those of its device (Image), and then nine for the buffer mode.
use Rattle.std.specs.Prelude.{Bool, cond, ◌&&◌, List, [], ◌∷◌, ◌++◌, ℕ, eqb, leb, take, drop, get_or}
use Rattle.buffers.specs.declared.Buffer.{Buffer}
use Rattle.buffers.specs.declared.Buffer.TheVariants.{A, B}
use Rattle.buffers.specs.declared.Content.{Content}
use Rattle.buffers.specs.declared.Content.TheVariants.{Nothing, Landing, Complete}
use Rattle.buffers.specs.declared.Turns.{Turns}
use Rattle.board_rules.specs.declared.Mode.{Mode}
use Rattle.board_rules.specs.declared.Mode.TheVariants.{One, Two}
use Rattle.board_rules.specs.declared.Board.{Board}
use Rattle.image_rules.specs.Image.{flag, image_words}
use Rattle.image_rules.specs.Image as image

-- A buffer: 0 A, 1 B. What is known of the frame in one: 0 nothing, 1 its words land, 2 it is complete.
abbrev pub buffer_word : Buffer → ℕ
buffer_word A = 0
buffer_word B = 1

abbrev pub content_word : Content → ℕ
content_word Nothing = 0
content_word Landing = 1
content_word Complete = 2

-- The words of the mode: 0 one, and then eight zeros; 1 two, and then the turns.
abbrev pub mode_words : Mode → List ℕ
mode_words One = 0 ∷ 0 ∷ 0 ∷ 0 ∷ 0 ∷ 0 ∷ 0 ∷ 0 ∷ 0 ∷ []
mode_words (Two t) =
    1 ∷
    t.place ∷
    t.in_b ∷
    t.opening ∷
    buffer_word t.turn ∷
    flag t.begun ∷
    content_word t.a ∷
    content_word t.b ∷
    buffer_word t.latest ∷
    []

unfoldable pub image_of : Board → List ℕ
image_of b = image.image_of b.device ++ mode_words b.mode

-- Nine words encode a mode: the first is 0 and all others are, or it is 1, those of buffers and `begun` are 0 or 1, and those of frames at most 2.
unfoldable pub zeros_encode : ℕ → ℕ → ℕ → ℕ → ℕ → ℕ → ℕ → ℕ → Bool
zeros_encode a b c d e f g h = eqb a 0 && (eqb b 0 && (eqb c 0 && (eqb d 0 && (eqb e 0 && (eqb f 0 && (eqb g 0 && eqb h 0))))))

unfoldable pub turns_encode : ℕ → ℕ → ℕ → ℕ → ℕ → Bool
turns_encode turn begun a b latest = leb turn 1 && (leb begun 1 && (leb a 2 && (leb b 2 && leb latest 1)))

unfoldable pub mode_encodes : List ℕ → Bool
mode_encodes m =
    cond (eqb (get_or m 0 0) 0)
    (zeros_encode (get_or m 1 0) (get_or m 2 0) (get_or m 3 0) (get_or m 4 0) (get_or m 5 0) (get_or m 6 0) (get_or m 7 0) (get_or m 8 0))
    (eqb (get_or m 0 0) 1 && turns_encode (get_or m 4 0) (get_or m 5 0) (get_or m 6 0) (get_or m 7 0) (get_or m 8 0))

unfoldable pub encodes : List ℕ → Bool
encodes w = image.encodes (take image_words w) && mode_encodes (drop image_words w)

-- The board of an image.
unfoldable pub buffer_of : ℕ → Buffer
buffer_of x = cond (eqb x 0) A B

unfoldable pub content_of : ℕ → Content
content_of x = cond (eqb x 0) Nothing (cond (eqb x 1) Landing Complete)

abbrev pub turns_of : List ℕ → Turns
turns_of m =
    record {
      place = get_or m 1 0;
      in_b = get_or m 2 0;
      opening = get_or m 3 0;
      turn = buffer_of (get_or m 4 0);
      begun = eqb (get_or m 5 0) 1;
      a = content_of (get_or m 6 0);
      b = content_of (get_or m 7 0);
      latest = buffer_of (get_or m 8 0);
    }

unfoldable pub mode_of : List ℕ → Mode
mode_of m = cond (eqb (get_or m 0 0) 0) One (Two (turns_of m))

unfoldable pub board_of : List ℕ → Board
board_of w = record { device = image.device_of (take image_words w); mode = mode_of (drop image_words w) }
