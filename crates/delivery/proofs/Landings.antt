-- What a landing does, where the words in order that have not landed are known: to the memories, and to the count of landed words. Assumes nothing.
use mathlib.Core.Bool.{Bool, true, false, cond, ◌&&◌}
use mathlib.Core.List.{List, [], ◌∷◌}
use Rattle.std.specs.Prelude.{Option, None, Some}
use mathlib.Core.Path.{◌≡◌, refl, sym}
use Prim.Native.Nat.{ℕ, ◌+◌}
use native.Mathlib.Nat.{add-zero}
use native.Mathlib.Omega.{arith}
use lib.ListN.{length, take-append-drop}
use Rattle.buffers.specs.declared.Buffer.{Buffer}
use Rattle.buffers.specs.Story.{same_buffer}
use Rattle.output.specs.Output.{OutputState, contents, with_held, holding, with_counts, with_place, count_landed, stored, no_landing, lands, oldest_lands, grant}
use Rattle.output.proofs.Untouched.{offer_untouched}
use Rattle.landing.specs.Landing.{take_in}
use Rattle.board_rules.specs.BoardRuns.{Lent, frame_buffer, refilled}
use Rattle.delivery.specs.Noted.{Noted, words}
use Rattle.delivery.specs.Placed.{with_word, standing_at, with_noted}
use Rattle.delivery.proofs.Following.{leaving, buffer_after, Roomy}
use Rattle.delivery.proofs.Stored.{refilled_word}
use Rattle.delivery.proofs.Chain.{gone}

-- The first of the words that have not landed goes to buffer u, at place p.
abbrev pub First : Buffer → ℕ → List Noted → Type 0
First u p [] = Unit {0}
First u p (n ∷ ns) = (u ≡ n.turn.buffer) × (p ≡ n.turn.number)

-- A memory after a landing in buffer u, or none.
pub landing_memory : (v u : Buffer) (p : ℕ) (granted : Bool) (ns : List Noted) (l : Lent) → First u p ns
    → refilled l (cond (same_buffer v u) (buffer_after p (leaving granted (words ns)) (frame_buffer l)) (frame_buffer l)) ≡ with_noted v l.start (gone granted ns) l.memory
unfolding with_noted
landing_memory v u p granted ns l = go granted ns
  where
    whole : (b : Bool) → refilled l (cond b (frame_buffer l) (frame_buffer l)) ≡ l.memory
    whole true = take-append-drop l.start l.memory
    whole false = take-append-drop l.start l.memory

    one : (n : Noted) (b : Bool)
        → refilled l (cond b (stored n.turn.number n.word (frame_buffer l)) (frame_buffer l)) ≡ cond b (with_word (standing_at l.start n) n.word l.memory) l.memory
    one n true = refilled_word l.start n.turn.number n.word l.memory
    one n false = take-append-drop l.start l.memory

    go : (granted : Bool) (ns : List Noted) → First u p ns
        → refilled l (cond (same_buffer v u) (buffer_after p (leaving granted (words ns)) (frame_buffer l)) (frame_buffer l)) ≡ with_noted v l.start (gone granted ns) l.memory
    go granted [] f = whole (same_buffer v u)
    go true (n ∷ ns) f = rw (f.0, f.1) (one n (same_buffer v n.turn.buffer))
    go false (n ∷ ns) f = whole (same_buffer v u)

-- Landed counts what lands: rule 1, and rule 9 leaves it.
pub rule_landed : (g on : Bool) (x : OutputState) (b : List ℕ) (ns : List Noted) → contents x ≡ words ns → Roomy (contents x) x.output.place b
    → (grant g on x b).state.output.counts.landed ≡ x.output.counts.landed + length (gone (g && on) ns)
unfolding grant oldest_lands no_landing lands holding with_held count_landed with_place with_counts
rule_landed g on x b ns e space = rw e (go (g && on) ns (rw e at space))
  where
    go : (t : Bool) (ns : List Noted) → Roomy (words ns) x.output.place b
        → (cond t (oldest_lands (words ns) x b) (no_landing x b)).state.output.counts.landed ≡ x.output.counts.landed + length (gone t ns)
    go true [] h = sym (add-zero _)
    go true (n ∷ ns) h = rw (h (omega arith))
    go false [] h = sym (add-zero _)
    go false (n ∷ ns) h = sym (add-zero _)

pub take_in_landed : (o : Option ℕ) (x : OutputState) → (take_in o x).output.counts.landed ≡ x.output.counts.landed
unfolding take_in
take_in_landed None x = refl
take_in_landed (Some v) x = (offer_untouched v x).landed
