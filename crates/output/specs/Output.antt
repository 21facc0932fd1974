-- Words on their way to memory (document 01, "One sample" and "Memory and counts"): rule 1, and of rule 9 what is no camera's matter. The FIFO is defined on
-- its contents, the list of the held words.
use Rattle.std.specs.Prelude.{Bool, cond, ◌&&◌, List, [], ◌∷◌, ◌++◌, ℕ, ◌+◌, ◌-◌, ◌*◌, ltb, leb, length, take, drop, replicate, Option, None, Some}
use Rattle.numbers.specs.Numbers.{little, number_at}
use Rattle.output.specs.declared.Counts.{Counts}
use Rattle.output.specs.declared.Output.{Output}
use Rattle.output.specs.declared.Fate.{Fate}
use Rattle.output.specs.declared.Fate.TheVariants.{Held, Lost}
-- A sample's second answer: whether it completed no word, completed one, with its value, or lost one; and its two answers together.
use Rattle.output.specs.declared.Packing.{Packing as Packed}
use Rattle.output.specs.declared.Packing.TheVariants.{Nothing as nothing, Completed as completed, Lost as lost}
use Rattle.output.specs.declared.SampleAnswer.{SampleAnswer}

-- How many slots there are, for the greatest depth; and the depth where none is named (W9; the paper decides, 004, 32.3.10 has 8).
abbrev pub slot_count : ℕ
slot_count = 32

abbrev pub usual_depth : ℕ
usual_depth = 4

-- Number held, place, depth and counts, with the slots.
pub record OutputState : Type 0 where
  pub output : Output
  pub slots : List ℕ

-- The held words, oldest first.
unfoldable pub contents : OutputState → List ℕ
contents x = take x.output.held x.slots

-- Words laid out in the slots: the words, then zeros.
unfoldable pub laid : List ℕ → List ℕ
laid vs = vs ++ replicate (slot_count - length vs) 0

-- The output with another number held, and with n words vs held.
unfoldable pub with_held : ℕ → Output → Output
with_held n o = record { held = n; place = o.place; depth = o.depth; counts = o.counts }

unfoldable pub holding : ℕ → List ℕ → Output → OutputState
holding n vs o = record { output = with_held n o; slots = laid vs }

-- The oldest word leaves; a word is taken in behind the others.
abbrev pub pop : List ℕ → List ℕ
pop vs = drop 1 vs

abbrev pub push : ℕ → List ℕ → List ℕ
push v vs = vs ++ v ∷ []

-- At reset, with a depth: nothing is held, all counts and places are 0.
unfoldable pub fresh_output : ℕ → OutputState
fresh_output depth =
    holding 0 []
    (record { held = 0; place = 0; depth = depth; counts = record { samples = 0; completed = 0; landed = 0; discarded = 0 } })

-- The output with other counts.
unfoldable pub with_counts : Counts → Output → Output
with_counts c o = record { held = o.held; place = o.place; depth = o.depth; counts = c }

-- One more sample.
unfoldable pub count_sample : Output → Output
count_sample o =
    let c = o.counts in
    with_counts (record { samples = c.samples + 1; completed = c.completed; landed = c.landed; discarded = c.discarded }) o

unfoldable pub counted : OutputState → OutputState
counted x = record { output = count_sample x.output; slots = x.slots }

-- One more word completed: the number of times rule 9 was reached.
unfoldable pub count_word : Output → Output
count_word o =
    let c = o.counts in
    with_counts (record { samples = c.samples; completed = c.completed + 1; landed = c.landed; discarded = c.discarded }) o

-- Some more words discarded.
unfoldable pub count_discarded : ℕ → Output → Output
count_discarded n o =
    let c = o.counts in
    with_counts (record { samples = c.samples; completed = c.completed; landed = c.landed; discarded = c.discarded + n }) o

-- One more word landed: the next one goes to the next place.
unfoldable pub with_place : ℕ → Output → Output
with_place k o = record { held = o.held; place = k; depth = o.depth; counts = o.counts }

unfoldable pub count_landed : Output → Output
count_landed o =
    let c = o.counts in
    with_place (o.place + 1)
    (with_counts (record { samples = c.samples; completed = c.completed; landed = c.landed + 1; discarded = c.discarded }) o)

-- A word's four bytes, little-endian.
abbrev pub bytes : ℕ → List ℕ
bytes v = little 4 v

-- The bytes of some words, in order.
unfoldable pub all_bytes : List ℕ → List ℕ
all_bytes [] = []
all_bytes (v ∷ vs) = bytes v ++ all_bytes vs

-- Word k of the frame buffer, bytes 4k to 4k + 3. "Room" means that those bytes exist.
unfoldable pub room : ℕ → List ℕ → Bool
room k buffer = leb (4 * k + 4) (length buffer)

unfoldable pub stored : ℕ → ℕ → List ℕ → List ℕ
stored k v buffer = take (4 * k) buffer ++ bytes v ++ drop (4 * k + 4) buffer

-- The word whose four bytes stand from a byte of a memory on; a byte beyond the end counts as 0.
abbrev pub word_at : List ℕ → ℕ → ℕ
word_at memory at = number_at memory at 4

-- What rule 1 makes of output and frame buffer, and the byte of the buffer at which a word landed, if one did.
pub record Granted : Type 0 where
  pub state : OutputState
  pub buffer : List ℕ
  pub landing : Option ℕ

unfoldable pub no_landing : OutputState → List ℕ → Granted
no_landing x buffer = record { state = x; buffer = buffer; landing = None }

-- Rule 1: the oldest held word, v, goes to memory, at the next place, and the others, vs, stay.
unfoldable pub lands : ℕ → List ℕ → Output → List ℕ → Granted
lands v vs o buffer =
    record { state = holding (o.held - 1) vs (count_landed o); buffer = stored o.place v buffer; landing = Some (4 * o.place) }

-- Rule 1, by the held words: one is held, and there is room for it.
unfoldable pub oldest_lands : List ℕ → OutputState → List ℕ → Granted
oldest_lands [] x buffer = no_landing x buffer
oldest_lands (v ∷ vs) x buffer = cond (room x.output.place buffer) (lands v vs x.output buffer) (no_landing x buffer)

-- Rule 1 (004, 32.3.4): the bus grants and ENABLE is 1. CAPTURE plays no part.
unfoldable pub grant : Bool → Bool → OutputState → List ℕ → Granted
grant granted enabled x buffer = cond (granted && enabled) (oldest_lands (contents x) x buffer) (no_landing x buffer)

-- Rule 9: a full word is counted as completed. With fewer held than the depth it is held; else it is lost.
pub record Offered : Type 0 where
  pub state : OutputState
  pub fate : Fate

unfoldable pub offer : ℕ → OutputState → Offered
offer v x =
    cond (ltb x.output.held x.output.depth)
    (record { state = holding (x.output.held + 1) (push v (contents x)) (count_word x.output); fate = Held })
    (record { state = record { output = count_word x.output; slots = x.slots }; fate = Lost })

-- The held words and some more besides are discarded.
unfoldable pub discard : ℕ → OutputState → OutputState
discard more x = holding 0 [] (count_discarded (x.output.held + more) x.output)

-- A sample's first answer, the landing, as a byte of the lent memory, in which the frame buffer begins at the start byte.
unfoldable pub in_memory : ℕ → Option ℕ → Option ℕ
in_memory start None = None
in_memory start (Some byte) = Some (start + byte)
