-- What stands in two frame buffers, and which words are held, as the story's frames tell (`Holds`); and that each event keeps it so. Of the frame in a buffer the words that landed stand from
-- the buffer's first byte on, unless a re-arming came among its landings. The idea: a word lands at the place that counts its frame's landings since the last re-arming (`oldest_since`).
-- Assumes nothing.
use mathlib.Core.Bool.{Bool, true, false, cond, not, ◌&&◌}
use mathlib.Core.List.{List, [], ◌∷◌, ◌++◌, map}
use Rattle.std.specs.Prelude.{Option, None, Some}
use mathlib.Core.Path.{◌≡◌, refl, sym, ap, ◌∙◌, subst}
use Prim.Native.Nat.{ℕ, suc, ◌+◌, ◌*◌, ◌≤◌, ◌<◌}
use native.Mathlib.Numerals.{add-one}
use native.Mathlib.Omega.{arith}
use lib.Dec.{eqb, ltb}
use lib.ListN.{length, take, drop, get_or, length-append}
use lib.Seq.{length-take-le, take-suc, take-append-le, take_at}
use borrow.Author.Tests.{ltb-true, eqb-true}
use Rattle.bits.specs.Bits.{bit}
use Rattle.bits.proofs.Booleans.{and_true, by_cond}
use Rattle.buffers.specs.declared.Buffer.{Buffer}
use Rattle.buffers.specs.declared.Buffer.TheVariants.{A, B}
use Rattle.buffers.specs.Turns.{other, oldest_buffer, oldest_opens, next_place, oldest_place}
use Rattle.buffers.specs.Story.{Tale, completed, running, any_waiting, first_of, one_more, word_of, one_landed, landing_of, by_rule_4, ending_of, closed_otherwise, armed_anew, same_buffer, frame_in}
use Rattle.buffers.specs.Kept.{Kept}
use Rattle.buffers.proofs.Frames.{Sound, eldest, eldest_waits, eldest_counts}
use Rattle.buffers.proofs.Tags.{Tag, in_b, opening, weigh, weigh_first, tag_of, queue, queue_landing}
use Rattle.buffers.proofs.Sights.{Sight, sight_of, sight_in, skip, frame_landing, frame_eldest}
use Rattle.buffers.proofs.Told.{Tells, oldest_is}
use Rattle.buffers.proofs.Words.{held_words, words_none, words_word, words_landing, words_closed, words_end, words_armed}
use Rattle.numbers.proofs.Numbers.{length_little}
use Rattle.output.specs.Output.{bytes, all_bytes, room, stored}
use Rattle.output.proofs.Bytes.{all_bytes_last}
use Rattle.output.proofs.Granting.{has_room}
use Rattle.board_rules.specs.TwoBuffers.{Pair, part, with_part}

-- In a buffer, by the frame in it.
abbrev pub Stands : List ℕ → Option Tale → Type 0
Stands m None = Unit {0}
Stands m (Some f) = f.since ≡ f.landed → take (4 * f.landed) m ≡ all_bytes (take f.landed f.words)

abbrev is_in : Buffer → Tale → Bool
is_in u f = same_buffer u f.buffer && ltb 0 f.landed

-- A word, held or lost.
stands_word : (u : Buffer) (vs m : List ℕ) (fs : List Tale) → Sound fs → Stands m (frame_in u fs) → Stands m (frame_in u (word_of vs fs))
unfolding word_of frame_in
stands_word u vs m [] s h = subst (Stands m) (sym (skip u (first_of vs A) [] refl)) h
stands_word u vs m (f ∷ fs) s h =
    by_cond (λ (l : List Tale). Stands m (frame_in u l)) (running f) _ _
    (λ e. go (is_in u f) h)
    (λ e. subst (Stands m) (sym (skip u (first_of vs (other f.buffer)) (f ∷ fs) refl)) h)
  where
    go : (b : Bool) → Stands m (cond b (Some f) (frame_in u fs)) → Stands m (cond b (Some (one_more vs f)) (frame_in u fs))
    go true h = λ e. h e ∙ ap all_bytes (sym (take-append-le f.landed f.words vs s.0.part))
    go false h = h

-- The held words are discarded.
stands_closed : (u : Buffer) (m : List ℕ) (fs : List Tale) → Stands m (frame_in u fs) → Stands m (frame_in u (map closed_otherwise fs))
unfolding frame_in
stands_closed u m [] h = h
stands_closed u m (f ∷ fs) h = go (is_in u f) (stands_closed u m fs) h
  where
    go : (b : Bool) → (Stands m (frame_in u fs) → Stands m (frame_in u (map closed_otherwise fs))) → Stands m (cond b (Some f) (frame_in u fs)) → Stands m (cond b (Some (closed_otherwise f)) (frame_in u (map closed_otherwise fs)))
    go true rest h = h
    go false rest h = rest h

-- Re-arming: what stands then is nothing.
nothing_stands : (n : ℕ) (m vs : List ℕ) → n ≡ 0 → take (4 * n) m ≡ all_bytes (take n vs)
unfolding all_bytes
nothing_stands n m vs e = rw e

stands_armed : (u : Buffer) (m : List ℕ) (fs : List Tale) → Stands m (frame_in u (map armed_anew fs))
unfolding frame_in
stands_armed u m [] = tt
stands_armed u m (f ∷ fs) = go (is_in u f) (stands_armed u m fs)
  where
    go : (b : Bool) → Stands m (frame_in u (map armed_anew fs)) → Stands m (cond b (Some (armed_anew f)) (frame_in u (map armed_anew fs)))
    go true rest = λ e. nothing_stands f.landed m f.words (sym e)
    go false rest = rest

-- The end by rule 4.
stands_end : (u : Buffer) (m : List ℕ) (fs : List Tale) → Stands m (frame_in u fs) → Stands m (frame_in u (ending_of fs))
unfolding ending_of frame_in
stands_end u m [] h = h
stands_end u m (f ∷ fs) h = by_cond (λ (l : List Tale). Stands m (frame_in u l)) (running f) _ _ (λ e. go (is_in u f) h) (λ e. h)
  where
    go : (b : Bool) → Stands m (cond b (Some f) (frame_in u fs)) → Stands m (cond b (Some (by_rule_4 f)) (frame_in u fs))
    go true h = h
    go false h = h

-- A landing: one word more stands in the buffer.
one_stored : (n v : ℕ) (m : List ℕ) → 4 * n + 4 ≤ length m → take (4 * (n + 1)) (stored n v m) ≡ take (4 * n) m ++ bytes v
unfolding stored
one_stored n v m space =
    let front : length (take (4 * n) m) ≡ 4 * n = length-take-le (4 * n) m (omega arith) in
    let long : length (take (4 * n) m ++ bytes v) ≡ 4 * (n + 1) = rw (length-append, front, length_little 4 v) (omega arith) in
    take_at (take (4 * n) m ++ bytes v) (drop (4 * n + 4) m) (4 * (n + 1)) long

one_stands : (f : Tale) (m : List ℕ) → f.landed < completed f → f.since ≤ f.landed → room f.since m ≡ true → (eqb f.landed 0 ≡ false → Stands m (Some f))
    → Stands (stored f.since (get_or f.words f.landed 0) m) (Some (one_landed f))
one_stands f m less recent space before = λ e.
    let n = f.landed in
    let is : f.since ≡ n = omega arith in
    let v = get_or f.words n 0 in
    rw (is, one_stored n v m (has_room n m (rw is at space)), add-one, take-suc f.words n 0 less, all_bytes_last (take n f.words) v)
    (ap (λ l. l ++ bytes v) (go (eqb n 0) refl is))
  where
    go : (b : Bool) → eqb f.landed 0 ≡ b → f.since ≡ f.landed → take (4 * f.landed) m ≡ all_bytes (take f.landed f.words)
    go true z is = nothing_stands f.landed m f.words (eqb-true f.landed 0 z)
    go false z is = before z is

part_with : (w u : Buffer) (m : List ℕ) (p : Pair) → part w (with_part u m p) ≡ cond (same_buffer w u) m (part w p)
part_with A A m p = refl
part_with A B m p = refl
part_with B A m p = refl
part_with B B m p = refl

stands_landed : (fs : List Tale) (p : Pair) → Sound fs → any_waiting fs ≡ true → ((u : Buffer) → Stands (part u p) (frame_in u fs))
    → let g = eldest fs in
    let m = part g.buffer p in
    room g.since m ≡ true → (u : Buffer) → Stands (part u (with_part g.buffer (stored g.since (get_or g.words g.landed 0) m) p)) (frame_in u (landing_of fs))
stands_landed fs p s w h space u =
    rw (part_with u (eldest fs).buffer (stored (eldest fs).since (get_or (eldest fs).words (eldest fs).landed 0) (part (eldest fs).buffer p)) p, frame_landing u fs s w) (go (same_buffer u (eldest fs).buffer) refl)
  where
    now : Stands (stored (eldest fs).since (get_or (eldest fs).words (eldest fs).landed 0) (part (eldest fs).buffer p)) (Some (one_landed (eldest fs)))
    now =
        one_stands (eldest fs) (part (eldest fs).buffer p)
        (ltb-true (eldest fs).landed (completed (eldest fs)) (and_true (not (eldest fs).gone) (ltb (eldest fs).landed (completed (eldest fs))) (eldest_waits fs w)).1)
        (eldest_counts fs s w).recent space
        (λ z. subst (Stands (part (eldest fs).buffer p)) (frame_eldest fs s w z) (h (eldest fs).buffer))

    go : (b : Bool) → same_buffer u (eldest fs).buffer ≡ b
        → Stands (cond b (stored (eldest fs).since (get_or (eldest fs).words (eldest fs).landed 0) (part (eldest fs).buffer p)) (part u p)) (cond b (Some (one_landed (eldest fs))) (frame_in u fs))
    go true e = now
    go false e = h u

-- What is kept says where the oldest held word lands: in its frame's buffer, at the place that counts the frame's landings since the last re-arming.
module _ (k : Kept) (fs : List Tale) (t : Tells k fs) (w : any_waiting fs ≡ true) where
  first_tag : (p : Tag → Bool) → bit 0 (weigh p (queue fs)) ≡ p (tag_of (eldest fs))
  first_tag p = rw (queue_landing fs w) (weigh_first p (tag_of (eldest fs)) (queue (landing_of fs)))

  pub oldest_in : oldest_buffer k.turns ≡ (eldest fs).buffer
  oldest_in = oldest_is k.turns (eldest fs).buffer (ap (λ n. bit 0 n) t.buffers ∙ first_tag in_b)

  places : (u : Buffer) → next_place k.place_a u k.turns ≡ (sight_in u fs).place
  places A = ap (λ (x : Sight). x.place) t.in_a
  places B = ap (λ (x : Sight). x.place) t.in_b

  opens : oldest_opens k.turns ≡ eqb (eldest fs).landed 0
  unfolding oldest_opens
  opens = ap (λ n. bit 0 n) t.openings ∙ first_tag opening

  pub oldest_since : oldest_place k.place_a k.turns ≡ (eldest fs).since
  unfolding oldest_place
  oldest_since = rw (oldest_in, opens, places (eldest fs).buffer) (go (eqb (eldest fs).landed 0) refl)
    where
      go : (b : Bool) → eqb (eldest fs).landed 0 ≡ b → cond b 0 (sight_in (eldest fs).buffer fs).place ≡ (eldest fs).since
      go true z = omega (arith, eqb-true (eldest fs).landed 0 z, (eldest_counts fs t.sound w).recent)
      go false z = ap (λ (o : Option Tale). (sight_of o).place) (frame_eldest fs t.sound w z)

-- The held words, and both buffers.
pub record Holds (vs : List ℕ) (p : Pair) (fs : List Tale) : Type 0 where
  pub words : vs ≡ held_words fs
  pub stands : (u : Buffer) → Stands (part u p) (frame_in u fs)

pub holds_held : {vs : List ℕ} {p : Pair} {fs : List Tale} (v : ℕ) → Sound fs → Holds vs p fs → Holds (vs ++ v ∷ []) p (word_of (v ∷ []) fs)
holds_held {p = p} {fs = fs} v s h =
    record { words = rw (words_word v fs s, h.words); stands = λ u. stands_word u (v ∷ []) (part u p) fs s (h.stands u) }

pub holds_discarded : {vs : List ℕ} {p : Pair} {fs : List Tale} → Holds vs p fs → Holds [] p (map closed_otherwise fs)
holds_discarded {p = p} {fs = fs} h = record { words = sym (words_closed fs); stands = λ u. stands_closed u (part u p) fs (h.stands u) }

pub holds_lost : {vs : List ℕ} {p : Pair} {fs : List Tale} → Sound fs → Holds vs p fs → Holds [] p (map closed_otherwise (word_of [] fs))
holds_lost {p = p} {fs = fs} s h =
    record { words = sym (words_closed (word_of [] fs)); stands = λ u. stands_closed u (part u p) (word_of [] fs) (stands_word u [] (part u p) fs s (h.stands u)) }

pub holds_ended : {vs : List ℕ} {p : Pair} {fs : List Tale} → Holds vs p fs → Holds vs p (ending_of fs)
holds_ended {p = p} {fs = fs} h = record { words = h.words ∙ sym (words_end fs); stands = λ u. stands_end u (part u p) fs (h.stands u) }

pub holds_rearmed : {vs : List ℕ} {p : Pair} {fs : List Tale} → Holds vs p fs → Holds vs p (map armed_anew fs)
holds_rearmed {p = p} {fs = fs} h = record { words = h.words ∙ sym (words_armed fs); stands = λ u. stands_armed u (part u p) fs }

pub holds_landed : (k : Kept) (v : ℕ) (vs : List ℕ) (p : Pair) (fs : List Tale) → Tells k fs → Holds (v ∷ vs) p fs
    → let u = oldest_buffer k.turns in
    let q = oldest_place k.place_a k.turns in
    room q (part u p) ≡ true → Holds vs (with_part u (stored q v (part u p)) p) (landing_of fs)
holds_landed k v vs p fs t h = go (any_waiting fs) refl
  where
    go : (b : Bool) → any_waiting fs ≡ b
        → let u = oldest_buffer k.turns in
        let q = oldest_place k.place_a k.turns in
        room q (part u p) ≡ true → Holds vs (with_part u (stored q v (part u p)) p) (landing_of fs)
    go false w = absurd (some_held (h.words ∙ words_none fs w))
      where
        some_held : v ∷ vs ≡ [] → ⊥
        some_held e = let z : ◌≡◌ {A = ℕ} (suc (length vs)) 0 = ap length e in omega arith
    go true w =
        let same_words = h.words ∙ words_landing fs w in
        let is : v ≡ get_or (eldest fs).words (eldest fs).landed 0 = ap (λ l. get_or l 0 0) same_words in
        rw (oldest_in k fs t w, oldest_since k fs t w, is)
        (λ space. record { words = ap (λ l. drop 1 l) same_words; stands = stands_landed fs p t.sound w h.stands space })
