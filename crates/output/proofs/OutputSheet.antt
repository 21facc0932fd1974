-- Rule 1, of rule 9 counting, holding and discarding, and the clauses of FIFO, place and counts, computed of small outputs, since a definition changed together with its code would pass
-- every other proof. Each row says which sentence it is for (document 01). Assumes nothing.
use mathlib.Core.Bool.{Bool, true, false}
use mathlib.Core.List.{List, [], ◌∷◌, ◌++◌, map}
use Rattle.std.specs.Prelude.{None, Some}
use mathlib.Core.Path.{◌≡◌, refl}
use Prim.Native.Nat.{ℕ}
use lib.ListN.{length, replicate}
use Rattle.numbers.specs.Numbers.{little}
use Rattle.output.specs.declared.Fate.TheVariants.{Held, Lost}
use Rattle.output.specs.Output.{OutputState, contents, laid, with_held, holding, fresh_output, with_counts, count_sample, counted, count_word, count_discarded, with_place, count_landed, all_bytes, room, stored, Granted, no_landing, lands, oldest_lands, grant, offer, discard, in_memory}
use Rattle.output.specs.WellFormed.{all_zero, bad_depth, bad_fifo, bad_place, bad_counts}

-- An output with a depth that holds some words, its place, and its counts of samples and of words completed, landed and discarded.
abbrev out : ℕ → List ℕ → ℕ → ℕ → ℕ → ℕ → ℕ → OutputState
out depth vs place samples completed landed discarded =
    record {
      output =
          record { held = length vs; place = place; depth = depth; counts = record { samples = samples; completed = completed; landed = landed; discarded = discarded } };
      slots = laid vs;
    }

-- Words of four bytes each, no two the same.
abbrev v1 : ℕ
v1 = 0x04030201

abbrev v2 : ℕ
v2 = 0x14131211

-- One word has landed, at word 0, and two are held.
abbrev two_held : OutputState
two_held = out 4 (v1 ∷ v2 ∷ []) 1 9 3 1 0

abbrev granted : Bool → Bool → OutputState → ℕ → Granted
granted grants enabled x n = grant grants enabled x (replicate n 0xEE)

abbrev nothing_lands : OutputState → ℕ → Granted
nothing_lands x n = record { state = x; buffer = replicate n 0xEE; landing = None }

pub rule_1 :
    map (λ (n : ℕ). granted true true two_held n) (8 ∷ 9 ∷ 7 ∷ [])
    ≡
    -- the oldest goes to the next place, its lowest byte first; its byte is the answer; the others move up, place and landed go up by one
    record { state = out 4 (v2 ∷ []) 2 9 3 2 0; buffer = 0xEE ∷ 0xEE ∷ 0xEE ∷ 0xEE ∷ 1 ∷ 2 ∷ 3 ∷ 4 ∷ []; landing = Some 4 } ∷
    record { state = out 4 (v2 ∷ []) 2 9 3 2 0; buffer = 0xEE ∷ 0xEE ∷ 0xEE ∷ 0xEE ∷ 1 ∷ 2 ∷ 3 ∷ 4 ∷ 0xEE ∷ []; landing = Some 4 } ∷
    -- "room" means that its four bytes exist
    nothing_lands two_held 7 ∷
    []
unfolding contents laid with_held holding with_counts with_place count_landed little room stored no_landing lands oldest_lands grant
rule_1 = refl

pub no_grant :
    granted true true (out 4 [] 1 9 1 1 0) 8 ∷ granted false true two_held 8 ∷ granted true false two_held 8 ∷ []
    ≡
    -- none is held; the bus does not grant; ENABLE is 0
    nothing_lands (out 4 [] 1 9 1 1 0) 8 ∷ nothing_lands two_held 8 ∷ nothing_lands two_held 8 ∷ []
unfolding contents laid no_landing oldest_lands grant
no_grant = refl

-- The bytes of words that landed one after the other.
pub in_order : all_bytes (v1 ∷ v2 ∷ []) ≡ 1 ∷ 2 ∷ 3 ∷ 4 ∷ 0x11 ∷ 0x12 ∷ 0x13 ∷ 0x14 ∷ []
unfolding all_bytes little
in_order = refl

-- The answer as a byte of the lent memory.
pub from_the_start : in_memory 10 (Some 4) ∷ in_memory 10 None ∷ [] ≡ Some 14 ∷ None ∷ []
unfolding in_memory
from_the_start = refl

pub rule_9 :
    map (λ (depth : ℕ). offer 7 (out depth (v1 ∷ v2 ∷ []) 1 9 3 1 0)) (3 ∷ 2 ∷ 32 ∷ [])
    ≡
    -- "with fewer than" the depth held it is held, behind the others; else it is lost, and counted as completed either way
    record { state = out 3 (v1 ∷ v2 ∷ 7 ∷ []) 1 9 4 1 0; fate = Held } ∷
    record { state = out 2 (v1 ∷ v2 ∷ []) 1 9 4 1 0; fate = Lost } ∷
    record { state = out 32 (v1 ∷ v2 ∷ 7 ∷ []) 1 9 4 1 0; fate = Held } ∷
    []
unfolding contents laid with_held holding with_counts count_word offer
rule_9 = refl

pub discarding : map (λ (more : ℕ). discard more two_held) (0 ∷ 1 ∷ []) ≡ out 4 [] 1 9 3 1 2 ∷ out 4 [] 1 9 3 1 3 ∷ []
unfolding laid with_held holding with_counts count_discarded discard
discarding = refl

pub counting : counted two_held ∷ fresh_output 5 ∷ [] ≡ out 4 (v1 ∷ v2 ∷ []) 1 10 3 1 0 ∷ out 5 [] 0 0 0 0 0 ∷ []
unfolding laid with_held holding with_counts count_sample counted fresh_output
counting = refl

-- The clauses, each with the last output that is not malformed by it and the first that is.
pub judged :
    map bad_depth (1 ∷ 32 ∷ 0 ∷ 33 ∷ []) ∷
    map bad_fifo (out 2 (v1 ∷ v2 ∷ []) 0 9 2 0 0 ∷ out 1 (v1 ∷ v2 ∷ []) 0 9 2 0 0 ∷ record { output = two_held.output; slots = v1 ∷ v2 ∷ replicate 29 0 ++ 1 ∷ [] } ∷ []) ∷
    map (λ (place : ℕ). bad_place (out 4 (v1 ∷ []) place 9 2 1 0).output) (1 ∷ 2 ∷ []) ∷
    map (λ (completed : ℕ). bad_counts (out 4 (v1 ∷ []) 1 9 completed 2 3).output) (6 ∷ 5 ∷ 7 ∷ []) ∷
    []
    ≡
    (false ∷ false ∷ true ∷ true ∷ []) ∷ (false ∷ true ∷ true ∷ []) ∷ (false ∷ true ∷ []) ∷ (false ∷ true ∷ true ∷ []) ∷ []
unfolding laid all_zero bad_depth bad_fifo bad_place bad_counts
judged = refl
