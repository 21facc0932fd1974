-- What the story says of a buffer: what is known of the frame in it, and the place of its next word (`sight_in`); what each event does to that; and that it tells the complete frame and its
-- words (`read_off`). The idea: while a frame waits no newer one is in a buffer, so a landing puts it there. Assumes nothing.
use mathlib.Core.Bool.{Bool, true, false, cond, not, ◌&&◌, ◌||◌, false≢true}
use mathlib.Core.List.{List, [], ◌∷◌, map}
use Rattle.std.specs.Prelude.{Option, None, Some}
use mathlib.Core.Path.{◌≡◌, refl, sym, ap, ◌∙◌}
use Prim.Native.Nat.{ℕ, ◌+◌, ◌≤◌, ◌<◌}
use native.Mathlib.Omega.{arith}
use lib.Dec.{eqb, ltb}
use borrow.Author.Tests.{ltb-true, ltb-false, eqb-true, eqb-false, lt-ltb, le-ltb, eq-eqb, ne_eqb}
use Rattle.bits.proofs.Booleans.{or_false, and_true, by_cond, and_zero}
use Rattle.buffers.specs.declared.Buffer.{Buffer}
use Rattle.buffers.specs.declared.Buffer.TheVariants.{A, B}
use Rattle.buffers.specs.declared.Content.{Content}
use Rattle.buffers.specs.declared.Content.TheVariants.{Nothing, Landing, Complete}
use Rattle.buffers.specs.Turns.{other, is_landing, is_complete}
use Rattle.buffers.specs.Story.{Tale, completed, running, waiting, any_waiting, last_buffer, first_of, one_more, word_of, one_landed, landing_of, by_rule_4, ending_of, closed_otherwise, armed_anew, same_buffer, frame_in, complete, if_complete, word_count}
use Rattle.buffers.proofs.Frames.{any_open, Sound, eldest, eldest_waits, eldest_counts}
use Rattle.buffers.proofs.Tags.{over, is_open}

pub record Sight : Type 0 where
  pub content : Content
  pub place : ℕ

-- Of a frame, by how many of its words landed since the last re-arming, how many landed, how many it completed, and whether rule 4 ended it.
abbrev pub state : ℕ → ℕ → ℕ → Bool → Content
state since landed completed ended = cond (eqb since landed) (cond (ended && eqb landed completed) Complete Landing) Nothing

abbrev pub sight : Tale → Sight
sight f = record { content = state f.since f.landed (completed f) f.ended; place = f.since }

abbrev pub sight_of : Option Tale → Sight
sight_of None = record { content = Nothing; place = 0 }
sight_of (Some f) = sight f

abbrev pub sight_in : Buffer → List Tale → Sight
sight_in u fs = sight_of (frame_in u fs)

abbrev is_in : Buffer → Tale → Bool
is_in u f = same_buffer u f.buffer && ltb 0 f.landed

-- A frame of which no word has landed is in no buffer.
pub skip : (u : Buffer) (f : Tale) (fs : List Tale) → f.landed ≡ 0 → frame_in u (f ∷ fs) ≡ frame_in u fs
unfolding frame_in
skip u f fs z = rw (le-ltb 0 f.landed (omega arith), and_zero (same_buffer u f.buffer))

-- A word changes nothing: the frame that has one more is open.
pub sight_word : (u : Buffer) (vs : List ℕ) (fs : List Tale) → sight_in u (word_of vs fs) ≡ sight_in u fs
unfolding frame_in word_of
sight_word u vs [] = ap sight_of (skip u (first_of vs A) [] refl)
sight_word u vs (f ∷ fs) =
    by_cond (λ (l : List Tale). sight_in u l ≡ sight_in u (f ∷ fs)) (running f) _ _ (λ e. go (is_in u f) (is_open f e).0) (λ e. ap sight_of (skip u (first_of vs (other f.buffer)) (f ∷ fs) refl))
  where
    go : (c : Bool) → f.ended ≡ false → sight_of (cond c (Some (one_more vs f)) (frame_in u fs)) ≡ sight_of (cond c (Some f) (frame_in u fs))
    go true e = rw e
    go false e = refl

-- Discarding neither.
pub sight_closed : (u : Buffer) (fs : List Tale) → sight_in u (map closed_otherwise fs) ≡ sight_in u fs
unfolding frame_in
sight_closed u [] = refl
sight_closed u (f ∷ fs) = go (is_in u f) (sight_closed u fs)
  where
    go : (b : Bool) → sight_in u (map closed_otherwise fs) ≡ sight_in u fs
        → sight_of (cond b (Some (closed_otherwise f)) (frame_in u (map closed_otherwise fs))) ≡ sight_of (cond b (Some f) (frame_in u fs))
    go true e = refl
    go false e = e

-- Re-arming: a frame in a buffer has landed a word, and none since.
pub sight_armed : (u : Buffer) (fs : List Tale) → sight_in u (map armed_anew fs) ≡ record { content = Nothing; place = 0 }
unfolding frame_in
sight_armed u [] = refl
sight_armed u (f ∷ fs) =
    by_cond (λ (o : Option Tale). sight_of o ≡ record { content = Nothing; place = 0 }) (is_in u f) (Some (armed_anew f)) (frame_in u (map armed_anew fs))
    (λ e. rw (ne_eqb 0 f.landed (λ z. omega (arith, ltb-true 0 f.landed (and_true (same_buffer u f.buffer) (ltb 0 f.landed) e).1))))
    (λ e. sight_armed u fs)

-- The end by rule 4: where no frame is open; where words are held, of the open frame then; and where none is.
abbrev pub ended_content : Content → Content
ended_content c = cond (is_landing c) Complete c

abbrev pub ended_sight : Sight → Sight
ended_sight s = record { content = ended_content s.content; place = s.place }

pub end_none : (fs : List Tale) → any_open fs ≡ false → ending_of fs ≡ fs
unfolding ending_of
end_none [] e = refl
end_none (f ∷ fs) e = rw e

open_waits : (f : Tale) (fs : List Tale) → Sound (f ∷ fs) → running f ≡ true → any_waiting (f ∷ fs) ≡ true → f.landed < completed f
unfolding any_waiting
open_waits f fs s e w = go (ltb f.landed (completed f)) (any_waiting fs) refl refl w
  where
    go : (b c : Bool) → ltb f.landed (completed f) ≡ b → any_waiting fs ≡ c → (not f.gone && ltb f.landed (completed f)) || any_waiting fs ≡ true → f.landed < completed f
    go true c l v w = ltb-true _ _ l
    go false true l v w = omega (arith, s.1 v, s.0.filled (is_open f e).1)
    go false false l v w = absurd (false≢true (rw (l, v, and_zero (not f.gone)) at w))

pub sight_end_held : (u : Buffer) (fs : List Tale) → Sound fs → any_waiting fs ≡ true → sight_in u (ending_of fs) ≡ sight_in u fs
unfolding frame_in ending_of
sight_end_held u [] s w = refl
sight_end_held u (f ∷ fs) s w =
    by_cond (λ (l : List Tale). sight_in u l ≡ sight_in u (f ∷ fs)) (running f) _ _ (λ e. go (is_in u f) (open_waits f fs s e w)) (λ e. refl)
  where
    go : (c : Bool) → f.landed < completed f → sight_of (cond c (Some (by_rule_4 f)) (frame_in u fs)) ≡ sight_of (cond c (Some f) (frame_in u fs))
    go true less = rw (ne_eqb f.landed (completed f) (λ z. omega arith), and_zero f.ended)
    go false less = refl

pub open_landed : (f : Tale) (fs : List Tale) → Sound (f ∷ fs) → running f ≡ true → any_waiting (f ∷ fs) ≡ false → f.landed ≡ completed f
unfolding any_waiting
open_landed f fs s e w =
    let less = (or_false (waiting f) (any_waiting fs) w).0 in
    let c = s.0 in
    omega (arith, ltb-false f.landed (completed f) (rw (is_open f e).1 at less))

pub sight_end_over : (u : Buffer) (fs : List Tale) → Sound fs → any_open fs ≡ true → any_waiting fs ≡ false
    → sight_in u (ending_of fs) ≡ cond (same_buffer u (last_buffer fs)) (ended_sight (sight_in u fs)) (sight_in u fs)
unfolding frame_in ending_of any_waiting
sight_end_over u [] s e w = absurd (false≢true e)
sight_end_over u (f ∷ fs) s e w = rw e (go (same_buffer u f.buffer) (eqb f.since f.landed))
  where
    all : f.landed ≡ completed f
    all = open_landed f fs s e w

    go : (b c : Bool) → sight_of (cond (b && ltb 0 f.landed) (Some (by_rule_4 f)) (frame_in u fs))
        ≡ cond b (ended_sight (sight_of (cond (b && ltb 0 f.landed) (Some f) (frame_in u fs)))) (sight_of (cond (b && ltb 0 f.landed) (Some f) (frame_in u fs)))
    go true c = let p = s.0.filled (is_open f e).1 in rw (lt-ltb 0 f.landed (omega (arith, all)), eq-eqb f.landed (completed f) all, (is_open f e).0) (by (eqb f.since f.landed))
      where
        by : (b : Bool) → ◌≡◌ {A = Sight} (record { content = cond b Complete Nothing; place = f.since }) (record { content = ended_content (cond b Landing Nothing); place = f.since })
        by true = refl
        by false = refl
    go false c = refl

-- A landing: the oldest frame that waits is then the one in its buffer, and was so before if a word of it had landed.
pub frame_landing : (u : Buffer) (fs : List Tale) → Sound fs → any_waiting fs ≡ true
    → frame_in u (landing_of fs) ≡ cond (same_buffer u (eldest fs).buffer) (Some (one_landed (eldest fs))) (frame_in u fs)
unfolding frame_in landing_of any_waiting eldest
frame_landing u [] s e = absurd (false≢true e)
frame_landing u (f ∷ fs) s e = go (any_waiting fs) (waiting f) refl (frame_landing u fs s.3) e
  where
    by : (b : Bool) → cond (b && ltb 0 (f.landed + 1)) (Some (one_landed f)) (frame_in u fs)
        ≡ cond b (Some (one_landed f)) (cond (b && ltb 0 f.landed) (Some f) (frame_in u fs))
    by true = rw (lt-ltb 0 (f.landed + 1) (omega arith))
    by false = refl

    go : (b c : Bool) → any_waiting fs ≡ b
        → (any_waiting fs ≡ true → frame_in u (landing_of fs) ≡ cond (same_buffer u (eldest fs).buffer) (Some (one_landed (eldest fs))) (frame_in u fs)) → c || b ≡ true
        → frame_in u (cond b (f ∷ landing_of fs) (cond c (one_landed f ∷ fs) (f ∷ fs)))
        ≡ cond (same_buffer u (cond b (eldest fs) f).buffer) (Some (one_landed (cond b (eldest fs) f))) (frame_in u (f ∷ fs))
    go true c w rest e = rw (skip u f (landing_of fs) (s.1 w), skip u f fs (s.1 w)) (rest w)
    go false true w rest e = by (same_buffer u f.buffer)
    go false false w rest e = absurd (false≢true e)

pub same_same : (u : Buffer) → same_buffer u u ≡ true
same_same A = refl
same_same B = refl

pub same_is : (u v : Buffer) → same_buffer u v ≡ true → u ≡ v
same_is A A e = refl
same_is A B e = absurd (false≢true e)
same_is B A e = absurd (false≢true e)
same_is B B e = refl

pub frame_eldest : (fs : List Tale) → Sound fs → any_waiting fs ≡ true → eqb (eldest fs).landed 0 ≡ false → frame_in (eldest fs).buffer fs ≡ Some (eldest fs)
unfolding frame_in any_waiting eldest
frame_eldest [] s e z = absurd (false≢true e)
frame_eldest (f ∷ fs) s e z = go (any_waiting fs) refl (frame_eldest fs s.3) z
  where
    go : (b : Bool) → any_waiting fs ≡ b → (any_waiting fs ≡ true → eqb (eldest fs).landed 0 ≡ false → frame_in (eldest fs).buffer fs ≡ Some (eldest fs))
        → eqb (cond b (eldest fs) f).landed 0 ≡ false → frame_in (cond b (eldest fs) f).buffer (f ∷ fs) ≡ Some (cond b (eldest fs) f)
    go true w rest z = rw (skip (eldest fs).buffer f fs (s.1 w)) (rest w z)
    go false w rest z = rw (same_same f.buffer, lt-ltb 0 f.landed (omega (arith, eqb-false f.landed 0 z)))

-- What a word that opens a frame or not, and is its last or not, makes of what is known.
abbrev pub landed_content : Bool → Content → Content
landed_content opens c = cond opens Landing c

abbrev pub landed_sight : Bool → Bool → Sight → Sight
landed_sight opens last s =
    record { content = cond last (ended_content (landed_content opens s.content)) (landed_content opens s.content); place = cond opens 0 s.place + 1 }

one_landed_sight : (s n m : ℕ) (e : Bool) (x : Sight) → s ≤ n → n < m → (eqb n 0 ≡ false → x ≡ record { content = state s n m e; place = s })
    → ◌≡◌ {A = Sight} (record { content = state (s + 1) (n + 1) m e; place = s + 1 }) (landed_sight (eqb n 0) (e && eqb (n + 1) m) x)
one_landed_sight s n m e x le less before = go (eqb n 0) refl (e && eqb (n + 1) m)
  where
    by : (b c : Bool) → eqb s n ≡ b
        → ◌≡◌ {A = Sight} (record { content = cond (eqb (s + 1) (n + 1)) (cond c Complete Landing) Nothing; place = s + 1 }) (landed_sight false c (record { content = cond b Landing Nothing; place = s }))
    by true true q = rw (eq-eqb (s + 1) (n + 1) (omega (arith, eqb-true s n q)))
    by true false q = rw (eq-eqb (s + 1) (n + 1) (omega (arith, eqb-true s n q)))
    by false true q = rw (ne_eqb (s + 1) (n + 1) (λ z. eqb-false s n q (omega arith)))
    by false false q = rw (ne_eqb (s + 1) (n + 1) (λ z. eqb-false s n q (omega arith)))

    opened : (c : Bool) → ◌≡◌ {A = Sight} (record { content = cond c Complete Landing; place = 1 }) (landed_sight true c x)
    opened true = refl
    opened false = refl

    go : (b : Bool) → eqb n 0 ≡ b → (c : Bool)
        → ◌≡◌ {A = Sight} (record { content = cond (eqb (s + 1) (n + 1)) (cond c Complete Landing) Nothing; place = s + 1 }) (landed_sight b c x)
    go true z c = let s_zero : s ≡ 0 = omega (arith, eqb-true n 0 z) in rw (s_zero, eqb-true n 0 z) (opened c)
    go false z c = rw (before z, ne_eqb n m (λ q. omega arith), and_zero e) (by (eqb s n) c refl)

pub sight_landing : (u : Buffer) (fs : List Tale) → Sound fs → any_waiting fs ≡ true
    → let g = eldest fs in sight_in u (landing_of fs) ≡ cond (same_buffer u g.buffer) (landed_sight (eqb g.landed 0) (over g) (sight_in u fs)) (sight_in u fs)
sight_landing u fs s w = ap sight_of (frame_landing u fs s w) ∙ go (same_buffer u (eldest fs).buffer) refl
  where
    go : (b : Bool) → same_buffer u (eldest fs).buffer ≡ b
        → sight_of (cond b (Some (one_landed (eldest fs))) (frame_in u fs)) ≡ cond b (landed_sight (eqb (eldest fs).landed 0) (over (eldest fs)) (sight_in u fs)) (sight_in u fs)
    go true e =
        let g = eldest fs in
        one_landed_sight g.since g.landed (completed g) g.ended (sight_in u fs) (eldest_counts fs s w).recent
        (ltb-true g.landed (completed g) (and_true (not g.gone) (ltb g.landed (completed g)) (eldest_waits fs w)).1)
        (λ z. rw (same_is u g.buffer e) (ap sight_of (frame_eldest fs s w z)))
    go false e = refl

-- What is known to be complete is complete.
pub read_off : (u : Buffer) (fs : List Tale) → Sound fs → cond (is_complete (sight_in u fs).content) (Some (sight_in u fs).place) None ≡ word_count (if_complete (frame_in u fs))
unfolding frame_in if_complete word_count
read_off u [] s = refl
read_off u (f ∷ fs) s = go (is_in u f) (read_off u fs s.3)
  where
    by : (n l m : ℕ) (e : Bool) → n ≤ l → l ≤ m → cond (is_complete (state n l m e)) (Some n) None ≡ cond (e && eqb n m) (Some m) None
    by n l m e le le' = back (eqb n l) refl
      where
        each : (c d : Bool) → eqb l m ≡ d → cond (is_complete (cond (c && d) Complete Landing)) (Some l) None ≡ cond (c && d) (Some m) None
        each true true q = ap Some (eqb-true l m q)
        each true false q = refl
        each false d q = refl

        back : (b : Bool) → eqb n l ≡ b → cond (is_complete (state n l m e)) (Some n) None ≡ cond (e && eqb n m) (Some m) None
        back true q = rw (q, eqb-true n l q) (each e (eqb l m) refl)
        back false q = rw (q, ne_eqb n m (λ z. eqb-false n l q (omega arith)), and_zero e)

    counted : (b : Bool) → word_count (cond b (Some f) None) ≡ cond b (Some (completed f)) None
    counted true = refl
    counted false = refl

    go : (b : Bool) → cond (is_complete (sight_in u fs).content) (Some (sight_in u fs).place) None ≡ word_count (if_complete (frame_in u fs))
        → let o = cond b (Some f) (frame_in u fs) in cond (is_complete (sight_of o).content) (Some (sight_of o).place) None ≡ word_count (if_complete o)
    go true rest = let c = s.0 in by f.since f.landed (completed f) f.ended c.recent c.part ∙ sym (counted (complete f))
    go false rest = rest
