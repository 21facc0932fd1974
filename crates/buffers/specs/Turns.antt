-- W2, two frame buffers in turn (document 02; 004, 32.3.6: "successive buffers"): what a completed word, a landing, the end of a frame, discarding and re-arming do.
use Rattle.std.specs.Prelude.{Bool, true, false, cond, not, ℕ, ◌+◌, ◌-◌, ◌/◌, ◌^◌, ltb, Option, None, Some}
use Rattle.bits.specs.Bits.{bit}
use Rattle.buffers.specs.declared.Buffer.{Buffer}
use Rattle.buffers.specs.declared.Buffer.TheVariants.{A, B}
use Rattle.buffers.specs.declared.Content.{Content}
use Rattle.buffers.specs.declared.Content.TheVariants.{Nothing, Landing, Complete}
use Rattle.buffers.specs.declared.Turns.{Turns}

abbrev pub other : Buffer → Buffer
other A = B
other B = A

abbrev pub is_b : Buffer → Bool
is_b A = false
is_b B = true

-- "The first after a mode change goes to A": B counts as the last. Nothing has landed.
unfoldable pub fresh_turns : Turns
fresh_turns = record { place = 0; in_b = 0; opening = 0; turn = B; begun = false; a = Nothing; b = Nothing; latest = A }

-- What is kept with one part changed.
unfoldable pub with_turn : Buffer → Bool → Turns → Turns
with_turn u begun t =
    record { place = t.place; in_b = t.in_b; opening = t.opening; turn = u; begun = begun; a = t.a; b = t.b; latest = t.latest }

unfoldable pub with_tags : ℕ → ℕ → Turns → Turns
with_tags in_b opening t =
    record { place = t.place; in_b = in_b; opening = opening; turn = t.turn; begun = t.begun; a = t.a; b = t.b; latest = t.latest }

unfoldable pub with_place_b : ℕ → Turns → Turns
with_place_b k t =
    record { place = k; in_b = t.in_b; opening = t.opening; turn = t.turn; begun = t.begun; a = t.a; b = t.b; latest = t.latest }

unfoldable pub with_latest : Buffer → Turns → Turns
with_latest l t =
    record { place = t.place; in_b = t.in_b; opening = t.opening; turn = t.turn; begun = t.begun; a = t.a; b = t.b; latest = l }

-- What is known of the frame in a buffer.
abbrev pub content : Buffer → Turns → Content
content A t = t.a
content B t = t.b

unfoldable pub with_content : Buffer → Content → Turns → Turns
with_content A c t =
    record { place = t.place; in_b = t.in_b; opening = t.opening; turn = t.turn; begun = t.begun; a = c; b = t.b; latest = t.latest }
with_content B c t =
    record { place = t.place; in_b = t.in_b; opening = t.opening; turn = t.turn; begun = t.begun; a = t.a; b = c; latest = t.latest }

-- Rule 9 is reached: "the first word a frame completes switches to the other".
unfoldable pub first_word : Turns → Turns
first_word t = cond t.begun t (with_turn (other t.turn) true t)

-- The word is held, behind so many others: it "carries its buffer and whether it opens a frame".
unfoldable pub word_held : ℕ → Turns → Turns
word_held held t =
    let u = first_word t in
    with_tags (cond (is_b u.turn) (u.in_b + 2 ^ held) u.in_b) (cond t.begun u.opening (u.opening + 2 ^ held)) u

-- The held words are discarded, and the open frame is gone; a word that is lost has switched all the same.
unfoldable pub discarded : Turns → Turns
discarded t = with_turn t.turn false (with_tags 0 0 t)

unfoldable pub word_lost : Turns → Turns
word_lost t = discarded (first_word t)

-- Of the oldest held word: its buffer, and whether it opens a frame.
unfoldable pub oldest_buffer : Turns → Buffer
oldest_buffer t = cond (bit 0 t.in_b) B A

unfoldable pub oldest_opens : Turns → Bool
oldest_opens t = bit 0 t.opening

-- The place at which it lands, A's next place being given: "such a word lands at place 0".
abbrev pub next_place : ℕ → Buffer → Turns → ℕ
next_place place_a A t = place_a
next_place place_a B t = t.place

unfoldable pub oldest_place : ℕ → Turns → ℕ
oldest_place place_a t = cond (oldest_opens t) 0 (next_place place_a (oldest_buffer t) t)

-- The frame in a buffer has ended by rule 4 and no word of it is held: "complete when ... all its words, at least one, have landed since the last re-arming".
abbrev pub is_landing : Content → Bool
is_landing Nothing = false
is_landing Landing = true
is_landing Complete = false

unfoldable pub frame_over : Buffer → Turns → Turns
frame_over u t = cond (is_landing (content u t)) (with_latest u (with_content u Complete t)) t

-- No word of the oldest word's frame is held, and it has ended, once it has landed and so many others are held: the next of these opens a frame; or there is none, and the open frame
-- has completed no word. What closes a frame otherwise discards the held words, so that a frame with words held that is not the open one has ended by rule 4.
unfoldable pub last_of_frame : ℕ → Turns → Bool
last_of_frame held t = cond (ltb 0 held) (bit 0 t.opening) (not t.begun)

-- The oldest of `held` words has landed. A frame's first word ends what was known of another frame there.
unfoldable pub word_landed : ℕ → Turns → Turns
word_landed held t =
    let u = oldest_buffer t in
    let l = with_tags (t.in_b / 2) (t.opening / 2) (cond (oldest_opens t) (with_content u Landing t) t) in
    cond (last_of_frame (held - 1) l) (frame_over u l) l

-- Rule 4 ends the open frame, with so many words held. Its words have landed if none is held.
unfoldable pub frame_ended : ℕ → Turns → Turns
frame_ended held t =
    with_turn t.turn false
    (cond t.begun (cond (ltb 0 held) t (frame_over t.turn t)) t)

-- Re-arming: both places 0, and no frame is complete. The turn stays.
unfoldable pub rearmed : Turns → Turns
rearmed t = with_place_b 0 (with_content A Nothing (with_content B Nothing t))

-- The latest complete frame: the one that became complete last, or else the other.
abbrev pub is_complete : Content → Bool
is_complete Nothing = false
is_complete Landing = false
is_complete Complete = true

unfoldable pub latest_complete : Turns → Option Buffer
latest_complete t =
    cond (is_complete (content t.latest t)) (Some t.latest)
    (cond (is_complete (content (other t.latest) t)) (Some (other t.latest)) None)
