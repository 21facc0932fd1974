-- Stretches of samples with two frame buffers that run over one of them: the turns before and after them. No contract of a call that users make cites them.
use Rattle.std.specs.Prelude.{Bool, true, false, cond, not, ◌&&◌, ◌||◌, List, [], ◌∷◌, ◌≡◌, ℕ, ◌+◌, ◌-◌, ◌*◌, ◌^◌, eqb, ltb, leb, get_or, drop}
use Rattle.std.specs.Bool.{beq}
use Rattle.registers.specs.Control.{embedded, vspol}
use Rattle.samples.specs.Samples.{vsync_pin, level_run}
use Rattle.codes.specs.declared.Waiting.TheVariants.{Zero}
use Rattle.codes.specs.Bytes.{waiting_count}
use Rattle.buffers.specs.declared.Buffer.{Buffer}
use Rattle.buffers.specs.declared.Buffer.TheVariants.{A, B}
use Rattle.buffers.specs.declared.Content.TheVariants.{Landing}
use Rattle.buffers.specs.declared.Turns.{Turns}
use Rattle.buffers.specs.Turns.{other, with_tags, with_place_b, with_content, first_word, discarded, word_lost, oldest_buffer, oldest_opens, next_place, oldest_place}
use Rattle.output.specs.declared.Counts.{Counts}
use Rattle.output.specs.declared.Output.{Output}
use Rattle.rules.specs.declared.Capture.{Capture}
use Rattle.rules.specs.declared.Core.{Core}
use Rattle.rules.specs.State.{is_open}
use Rattle.sampling.specs.DataBytes.{NoneBegins, data_run}

-- The tags of so many held words that all go to one buffer.
unfoldable pub tags_in : Buffer → ℕ → ℕ
tags_in A held = 0
tags_in B held = 2 ^ held - 1

-- The buffer of the words that come next; all held words are of it, and the oldest alone may open a frame.
unfoldable pub next_buffer : Turns → Buffer
next_buffer t = cond t.begun t.turn (other t.turn)

unfoldable pub alone : ℕ → Turns → Bool
alone held t = eqb held 0 || (t.begun && (eqb t.in_b (tags_in t.turn held) && leb t.opening 1))

-- Whether the first of the held words and those that come opens a frame, and the place at which it lands.
unfoldable pub first_opens : ℕ → Turns → Bool
first_opens held t = cond (eqb held 0) (not t.begun) (oldest_opens t)

unfoldable pub first_place : ℕ → ℕ → Turns → ℕ
first_place held place_a t = cond (first_opens held t) 0 (next_place place_a (next_buffer t) t)

-- The tag of the first of them, held; and the places once words have landed.
unfoldable pub opening_in : Bool → ℕ → ℕ
opening_in opens held = cond opens (cond (ltb 0 held) 1 0) 0

unfoldable pub place_b : Buffer → Bool → ℕ → Turns → Turns
place_b A landed place t = t
place_b B landed place t = cond landed (with_place_b place t) t

unfoldable pub place_a : Buffer → Bool → ℕ → ℕ → ℕ
place_a A landed place before = cond landed place before
place_a B landed place before = before

-- What a stretch has done: whether a word was completed, landed, or lost; the number of held words and the place of the next one. By the counts before and after it.
pub record Done : Type 0 where
  pub completed : Bool
  pub landed : Bool
  pub lost : Bool
  pub held : ℕ
  pub place : ℕ

abbrev pub done : Counts → Output → Done
done before after =
    record {
      completed = ltb before.completed after.counts.completed;
      landed = ltb before.landed after.counts.landed;
      lost = ltb before.discarded after.counts.discarded;
      held = after.held;
      place = after.place;
    }

-- The turns after it.
unfoldable pub turns_by : Buffer → Bool → Turns → Done → Turns
turns_by u opens t m =
    let s = cond m.completed (first_word t) t in
    let k = cond (opens && m.landed) (with_content u Landing s) s in
    place_b u m.landed m.place
    (cond m.lost (discarded k) (with_tags (tags_in u m.held) (opening_in (opens && not m.landed) m.held) k))

unfoldable pub turns_after : Turns → ℕ → Counts → Output → Turns
turns_after t held before after = turns_by (next_buffer t) (first_opens held t) t (done before after)

-- The oldest held word has no room, the frame buffers being so long.
abbrev pub long : Buffer → ℕ → ℕ → ℕ
long A a b = a
long B a b = b

unfoldable pub no_room : Output → Turns → ℕ → ℕ → Bool
no_room o t a b = not (eqb o.held 0) && ltb (long (oldest_buffer t) a b) (4 * oldest_place o.place t + 4)

-- While it has none no word lands. The tag of a word that comes behind so many others, where it opens a frame; the turns with words held behind those that were, so many before and so many in all; and
-- those after a stretch, in which a word may be lost.
unfoldable pub opening_behind : Bool → ℕ → ℕ
opening_behind begun before = cond begun 0 (2 ^ before)

unfoldable pub words_behind : ℕ → ℕ → Turns → Turns
words_behind before held t =
    let s = first_word t in
    with_tags (t.in_b + (tags_in s.turn held - tags_in s.turn before)) (t.opening + opening_behind t.begun before) s

unfoldable pub turns_behind : ℕ → Bool → ℕ → Turns → Turns
turns_behind before lost held t = cond lost (word_lost t) (cond (ltb before held) (words_behind before held t) t)

-- Held words that let a stretch run: all of one buffer, or the oldest without room.
unfoldable pub runs : Output → Turns → ℕ → ℕ → Bool
runs o t a b = alone o.held t || no_room o t a b

-- VSYNC's level at some samples: it blanks at all, or at none.
unfoldable pub AllBlank : Bool → Bool → List ℕ → Type 0
AllBlank blank polarity [] = Unit {0}
AllBlank blank polarity (w ∷ ws) = (beq (vsync_pin w) polarity ≡ blank) × AllBlank blank polarity ws

-- Samples at which no frame ends, ERR does not rise, and at most one frame completes words. By the pins: VSYNC keeps its level, and no frame is open where it blanks. With ESS 1: data, where no
-- byte waits.
pub record AtLevel (s : Capture) (ws : List ℕ) : Type 0 where
  pub blank : Bool
  pub levels : AllBlank blank (vspol s.registers.cr) ws
  pub idle : blank ≡ true → is_open s.frame ≡ false

abbrev pub Lasts : Bool → Capture → List ℕ → Type 0
Lasts true s ws = (s.waiting ≡ Zero) × NoneBegins ws
Lasts false s ws = AtLevel s ws

-- How far they reach.
unfoldable pub goes_on : Bool → Bool → Bool
goes_on blank in_frame = not blank || not in_frame

unfoldable pub lasting_end : Capture → List ℕ → ℕ → ℕ
lasting_end s samples first =
    let cr = s.registers.cr in
    let level = vsync_pin (get_or samples first 0) in
    cond (embedded cr)
    (cond (eqb (waiting_count s.waiting) 0) (first + data_run (drop first samples)) first)
    (cond (goes_on (beq level (vspol cr)) (is_open s.frame)) (first + level_run level (drop first samples)) first)

-- How far a stretch reaches.
unfoldable pub stretch_end : Core → Turns → ℕ → ℕ → List ℕ → ℕ → ℕ
stretch_end c t a b samples first = cond (runs c.output t a b) (lasting_end c.capture samples first) first
