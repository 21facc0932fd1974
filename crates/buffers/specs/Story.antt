-- W2, from the history: what became of each frame that completed a word since the mode was set, told by the events alone; and from that which frame is complete.
use Rattle.std.specs.Prelude.{Bool, true, false, cond, not, ◌&&◌, ◌||◌, List, [], ◌∷◌, ◌++◌, map, ℕ, ◌+◌, eqb, ltb, length, Option, None, Some}
use Rattle.buffers.specs.declared.Buffer.{Buffer}
use Rattle.buffers.specs.declared.Buffer.TheVariants.{A, B}
use Rattle.buffers.specs.Turns.{other}

-- A word is completed, and held, this one, or lost; the oldest held word lands; rule 4 ends a frame; a frame is closed otherwise, with the held words discarded (ERR, disabling); re-arming.
pub data Event : Type 0 where
  held : ℕ → Event
  lost : Event
  landed : Event
  ended : Event
  discarded : Event
  rearmed : Event

-- What became of a frame: its buffer, the words it completed, in order, how many of them landed, and how many since the last re-arming; whether rule 4 ended it, and whether words of it
-- were discarded or it was closed otherwise. A lost word is not among its words: with it the frame is gone.
pub record Tale : Type 0 where
  pub buffer : Buffer
  pub words : List ℕ
  pub landed : ℕ
  pub since : ℕ
  pub ended : Bool
  pub gone : Bool

-- How many words it completed. It is the open frame; words of it are held.
abbrev pub completed : Tale → ℕ
completed f = length f.words

abbrev pub running : Tale → Bool
running f = not f.ended && not f.gone

abbrev pub waiting : Tale → Bool
waiting f = not f.gone && ltb f.landed (completed f)

unfoldable pub any_waiting : List Tale → Bool
any_waiting [] = false
any_waiting (f ∷ fs) = waiting f || any_waiting fs

-- The frames, newest first. "The first word a frame completes switches to the other (the first after a mode change goes to A)".
abbrev pub last_buffer : List Tale → Buffer
last_buffer [] = B
last_buffer (f ∷ fs) = f.buffer

-- With the word itself, or with none where it is lost.
abbrev pub first_of : List ℕ → Buffer → Tale
first_of vs u = record { buffer = u; words = vs; landed = 0; since = 0; ended = false; gone = false }

abbrev pub one_more : List ℕ → Tale → Tale
one_more vs f = record { buffer = f.buffer; words = f.words ++ vs; landed = f.landed; since = f.since; ended = f.ended; gone = f.gone }

unfoldable pub word_of : List ℕ → List Tale → List Tale
word_of vs [] = first_of vs A ∷ []
word_of vs (f ∷ fs) = cond (running f) (one_more vs f ∷ fs) (first_of vs (other f.buffer) ∷ f ∷ fs)

-- Held words land in the order in which they were completed: one of the oldest frame that has some.
abbrev pub one_landed : Tale → Tale
one_landed f = record { buffer = f.buffer; words = f.words; landed = f.landed + 1; since = f.since + 1; ended = f.ended; gone = f.gone }

unfoldable pub landing_of : List Tale → List Tale
landing_of [] = []
landing_of (f ∷ fs) = cond (any_waiting fs) (f ∷ landing_of fs) (cond (waiting f) (one_landed f ∷ fs) (f ∷ fs))

-- Rule 4 ends the open frame, if it has completed a word.
abbrev pub by_rule_4 : Tale → Tale
by_rule_4 f = record { buffer = f.buffer; words = f.words; landed = f.landed; since = f.since; ended = true; gone = f.gone }

unfoldable pub ending_of : List Tale → List Tale
ending_of [] = []
ending_of (f ∷ fs) = cond (running f) (by_rule_4 f ∷ fs) (f ∷ fs)

-- Held words are discarded, and the open frame is closed.
abbrev pub closed_otherwise : Tale → Tale
closed_otherwise f =
    record { buffer = f.buffer; words = f.words; landed = f.landed; since = f.since; ended = f.ended; gone = f.gone || (running f || waiting f) }

abbrev pub armed_anew : Tale → Tale
armed_anew f = record { buffer = f.buffer; words = f.words; landed = f.landed; since = 0; ended = f.ended; gone = f.gone }

unfoldable pub tell : List Tale → Event → List Tale
tell fs (held v) = word_of (v ∷ []) fs
tell fs lost = map closed_otherwise (word_of [] fs)
tell fs landed = landing_of fs
tell fs ended = ending_of fs
tell fs discarded = map closed_otherwise fs
tell fs rearmed = map armed_anew fs

unfoldable pub story : List Tale → List Event → List Tale
story fs [] = fs
story fs (e ∷ es) = story (tell fs e) es

-- The frame in a buffer: the newest of it of which a word has landed. "Ceases to be when another frame's first word lands there."
abbrev pub same_buffer : Buffer → Buffer → Bool
same_buffer A A = true
same_buffer A B = false
same_buffer B A = false
same_buffer B B = true

unfoldable pub frame_in : Buffer → List Tale → Option Tale
frame_in u [] = None
frame_in u (f ∷ fs) = cond (same_buffer u f.buffer && ltb 0 f.landed) (Some f) (frame_in u fs)

-- "A buffer's frame is complete when it ended by rule 4 and all its words, at least one, have landed since the last re-arming": the frame in a buffer, if it is complete.
abbrev pub complete : Tale → Bool
complete f = f.ended && eqb f.since (completed f)

unfoldable pub if_complete : Option Tale → Option Tale
if_complete None = None
if_complete (Some f) = cond (complete f) (Some f) None

unfoldable pub complete_in : Buffer → List Tale → Option Tale
complete_in u fs = if_complete (frame_in u fs)

-- "The part of A or B that holds the latest complete frame": of the frames complete now, the one that came last. That is the newest of which a word has landed, if it is complete, or else
-- the one in the other buffer, if that is.
unfoldable pub latest_in : List Tale → Option Tale
latest_in [] = None
latest_in (f ∷ fs) = cond (ltb 0 f.landed) (cond (complete f) (Some f) (complete_in (other f.buffer) fs)) (latest_in fs)

-- Of such a frame: how many words, and its buffer.
unfoldable pub word_count : Option Tale → Option ℕ
word_count None = None
word_count (Some f) = Some (completed f)

unfoldable pub which : Option Tale → Option Buffer
which None = None
which (Some f) = Some f.buffer
