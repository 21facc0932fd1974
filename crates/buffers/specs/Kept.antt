-- W2: what is kept for two buffers, over a list of events, with A's next place and the number of held words beside it; and from that which buffer holds a complete frame, of how many words.
use Rattle.std.specs.Prelude.{cond, List, [], ◌∷◌, ℕ, ◌+◌, ◌-◌, ltb, Option, None, Some}
use Rattle.buffers.specs.declared.Buffer.{Buffer}
use Rattle.buffers.specs.declared.Buffer.TheVariants.{A, B}
use Rattle.buffers.specs.declared.Turns.{Turns}
use Rattle.buffers.specs.Turns as rules
use Rattle.buffers.specs.Turns.{fresh_turns, with_place_b, content, word_held, word_lost, oldest_buffer, oldest_place, word_landed, frame_ended, is_complete}
use Rattle.buffers.specs.Story.{Event, held, lost, landed, ended, discarded, rearmed}

pub record Kept : Type 0 where
  pub turns : Turns
  pub place_a : ℕ
  pub held : ℕ

unfoldable pub start : Kept
start = record { turns = fresh_turns; place_a = 0; held = 0 }

-- The oldest held word lands in this buffer, at this place.
unfoldable pub landed_at : Buffer → ℕ → Kept → Kept
landed_at A p k = record { turns = word_landed k.held k.turns; place_a = p + 1; held = k.held - 1 }
landed_at B p k = record { turns = with_place_b (p + 1) (word_landed k.held k.turns); place_a = k.place_a; held = k.held - 1 }

unfoldable pub keep : Kept → Event → Kept
keep k (held v) = record { turns = word_held k.held k.turns; place_a = k.place_a; held = k.held + 1 }
keep k lost = record { turns = word_lost k.turns; place_a = k.place_a; held = 0 }
keep k landed = cond (ltb 0 k.held) (landed_at (oldest_buffer k.turns) (oldest_place k.place_a k.turns) k) k
keep k ended = record { turns = frame_ended k.held k.turns; place_a = k.place_a; held = k.held }
keep k discarded = record { turns = rules.discarded k.turns; place_a = k.place_a; held = 0 }
keep k rearmed = record { turns = rules.rearmed k.turns; place_a = 0; held = k.held }

unfoldable pub keeps : Kept → List Event → Kept
keeps k [] = k
keeps k (e ∷ es) = keeps (keep k e) es

-- The place of the next word in a buffer, which is the number of words that its frame has there; and that number if the frame is complete.
abbrev pub place_in : Buffer → Kept → ℕ
place_in A k = k.place_a
place_in B k = k.turns.place

unfoldable pub complete_of : Buffer → Kept → Option ℕ
complete_of u k = cond (is_complete (content u k.turns)) (Some (place_in u k)) None
