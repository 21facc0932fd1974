-- W2, sentence by sentence: events in a row, worked out from the request by hand, proved of the definitions by computation under one statement, `turns_sheet`.
use mathlib.Core.List.{List, [], ◌∷◌, ◌++◌, map}
use Rattle.std.specs.Prelude.{Option, None, Some}
use mathlib.Core.Path.{◌≡◌, refl}
use Prim.Native.Nat.{ℕ}
use lib.ListN.{length}
use Rattle.buffers.specs.declared.Buffer.{Buffer}
use Rattle.buffers.specs.declared.Buffer.TheVariants.{A, B}
use Rattle.buffers.specs.Turns as rules
use Rattle.buffers.specs.Turns.{fresh_turns, with_turn, with_tags, with_place_b, with_latest, with_content, first_word, word_held, word_lost, oldest_buffer, oldest_opens, oldest_place, frame_over, last_of_frame, word_landed, frame_ended, latest_complete}
use Rattle.buffers.specs.Kept.{start, landed_at, keep, keeps, complete_of}
use Rattle.buffers.specs.Story.{Event, held, lost, landed, ended, discarded, rearmed, Tale, any_waiting, word_of, landing_of, ending_of, tell, story, frame_in, if_complete, complete_in, latest_in, which}

-- What is kept says: how many words the complete frame in A has, and that in B, if there is one; the buffer of the latest; the next places in A and B. What the history says: the words of the
-- complete frame in A, and of that in B, and the buffer of the latest.
pub record Seen : Type 0 where
  pub in_a : Option ℕ
  pub in_b : Option ℕ
  pub latest : Option Buffer
  pub place_a : ℕ
  pub place_b : ℕ
  pub words_a : List ℕ
  pub words_b : List ℕ
  pub latest_told : Option Buffer

abbrev words_of : Option Tale → List ℕ
words_of None = []
words_of (Some f) = f.words

abbrev seen : List Event → Seen
seen es =
    let k = keeps start es in
    let fs = story [] es in
    record {
      in_a = complete_of A k;
      in_b = complete_of B k;
      latest = latest_complete k.turns;
      place_a = k.place_a;
      place_b = k.turns.place;
      words_a = words_of (complete_in A fs);
      words_b = words_of (complete_in B fs);
      latest_told = which (latest_in fs);
    }

-- Complete in A are these words, in B these, none where there are none.
abbrev number : List ℕ → Option ℕ
number [] = None
number (v ∷ vs) = Some (length (v ∷ vs))

abbrev shows : List ℕ → List ℕ → Option Buffer → ℕ → ℕ → Seen
shows a b latest place_a place_b =
    record {
      in_a = number a;
      in_b = number b;
      latest = latest;
      place_a = place_a;
      place_b = place_b;
      words_a = a;
      words_b = b;
      latest_told = latest;
    }

-- A frame of one word that lands before it ends.
abbrev one_word : ℕ → List Event
one_word v = held v ∷ landed ∷ ended ∷ []

pub turns_sheet :
    map seen
    ((held 10 ∷ held 11 ∷ landed ∷ landed ∷ ended ∷ []) ∷
    (held 10 ∷ held 11 ∷ landed ∷ ended ∷ []) ∷
    (held 10 ∷ held 11 ∷ landed ∷ ended ∷ landed ∷ []) ∷
    (one_word 10 ++ held 20 ∷ []) ∷
    (held 10 ∷ ended ∷ held 20 ∷ landed ∷ []) ∷
    (one_word 10 ++ one_word 20 ++ held 30 ∷ landed ∷ []) ∷
    (lost ∷ one_word 20) ∷
    (one_word 10 ++ one_word 20 ++ held 30 ∷ discarded ∷ []) ∷
    (one_word 10 ++ one_word 20 ++ rearmed ∷ []) ∷
    []) ≡
    -- All words of the first frame have landed, and it has ended: complete in A.
    shows (10 ∷ 11 ∷ []) [] (Some A) 2 0 ∷
    -- "All its words ... have landed": not while one is held, then it is.
    shows [] [] None 1 0 ∷
    shows (10 ∷ 11 ∷ []) [] (Some A) 2 0 ∷
    -- The next frame's first word is completed: the places stay.
    shows (10 ∷ []) [] (Some A) 1 0 ∷
    -- A held word carries its buffer: that of the first frame lands in A after the second has switched to B.
    shows (10 ∷ []) [] (Some A) 1 0 ∷
    -- The first word of a frame lands at place 0; the frame before it in that buffer is no longer complete.
    shows [] (20 ∷ []) (Some B) 1 1 ∷
    -- A first word that is lost has switched all the same.
    shows [] (20 ∷ []) (Some B) 0 1 ∷
    -- A frame of which no word has landed leaves the one in its buffer.
    shows (10 ∷ []) (20 ∷ []) (Some B) 1 1 ∷
    -- Re-arming: both places are 0, and no frame is complete.
    shows [] [] None 0 0 ∷
    []
unfolding fresh_turns with_turn with_tags with_place_b with_latest with_content first_word word_held rules.discarded word_lost oldest_buffer oldest_opens oldest_place frame_over last_of_frame word_landed frame_ended rules.rearmed latest_complete start landed_at keep keeps complete_of any_waiting word_of landing_of ending_of tell story frame_in if_complete complete_in latest_in which
turns_sheet = refl
