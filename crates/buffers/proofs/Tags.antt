-- The held words of the story's frames, oldest first, each with its buffer and whether it opens a frame (`queue`); and these as the bits of a number (`weigh`). A word comes last, a landing
-- takes the first, and the one after it tells whether the frame is over (`queue_over`). By induction on the frames. Assumes nothing.
use mathlib.Core.Bool.{Bool, true, false, cond, not, ◌&&◌, ◌||◌, false≢true}
use mathlib.Core.List.{List, [], ◌∷◌, ◌++◌, map, append_assoc}
use mathlib.Core.Path.{◌≡◌, refl, sym, ap, ◌∙◌}
use Prim.Native.Nat.{ℕ, zero, suc, ◌+◌, ◌-◌, ◌*◌, ◌/◌, ◌%◌, ◌^◌, ◌≤◌, ◌<◌}
use native.Mathlib.Omega.{arith}
use lib.Dec.{eqb, ltb}
use lib.ListN.{length}
use borrow.Author.Tests.{ltb-true, ltb-false, lt-ltb, eq-eqb, ne_eqb, not-true}
use Rattle.bits.specs.Bits.{bit}
use Rattle.bits.proofs.Booleans.{or_false, and_true, either, and_zero}
use Rattle.buffers.specs.declared.Buffer.{Buffer}
use Rattle.buffers.specs.Turns.{is_b}
use Rattle.buffers.specs.Story.{Tale, completed, running, waiting, any_waiting, last_buffer, one_more, word_of, one_landed, landing_of, ending_of, armed_anew}
use Rattle.buffers.proofs.Frames.{any_open, Counts, Sound, eldest, more_words}

pub record Tag : Type 0 where
  pub buffer : Buffer
  pub opens : Bool

abbrev pub tag : Buffer → Bool → Tag
tag u o = record { buffer = u; opens = o }

abbrev pub in_b : Tag → Bool
in_b t = is_b t.buffer

abbrev pub opening : Tag → Bool
opening t = t.opens

-- The number whose bits are a test of the tags, the first being bit 0.
unfoldable pub weigh : (Tag → Bool) → List Tag → ℕ
weigh p [] = 0
weigh p (t ∷ ts) = cond (p t) 1 0 + 2 * weigh p ts

pub weigh_append : (p : Tag → Bool) (ts : List Tag) (t : Tag) → weigh p (ts ++ (t ∷ [])) ≡ cond (p t) (weigh p ts + 2 ^ length ts) (weigh p ts)
unfolding weigh
weigh_append p [] t = go (p t)
  where
    go : (b : Bool) → cond b 1 0 + 2 * 0 ≡ cond b (0 + 2 ^ 0) 0
    go true = refl
    go false = refl
weigh_append p (s ∷ ts) t = rw (weigh_append p ts t) (go (p t))
  where
    go : (b : Bool)
        → cond (p s) 1 0 + 2 * cond b (weigh p ts + 2 ^ length ts) (weigh p ts) ≡ cond b (cond (p s) 1 0 + 2 * weigh p ts + 2 ^ suc (length ts)) (cond (p s) 1 0 + 2 * weigh p ts)
    go true = omega arith
    go false = refl

halves : (b : Bool) (x : ℕ) → ((cond b 1 0 + 2 * x) / 2 ≡ x) × (bit 0 (cond b 1 0 + 2 * x) ≡ b)
halves true x = (omega arith, eq-eqb ((1 + 2 * x) / 1 % 2) 1 (omega arith))
halves false x = (omega arith, ne_eqb ((0 + 2 * x) / 1 % 2) 1 (λ e. omega arith))

pub weigh_rest : (p : Tag → Bool) (t : Tag) (ts : List Tag) → weigh p (t ∷ ts) / 2 ≡ weigh p ts
unfolding weigh
weigh_rest p t ts = (halves (p t) (weigh p ts)).0

pub weigh_first : (p : Tag → Bool) (t : Tag) (ts : List Tag) → bit 0 (weigh p (t ∷ ts)) ≡ p t
unfolding weigh
weigh_first p t ts = (halves (p t) (weigh p ts)).1

-- The tags of a frame's held words: of its buffer, so many landed of so many.
pub more : Buffer → ℕ → List Tag
more u zero = []
more u (suc n) = tag u false ∷ more u n

pub more_length : (u : Buffer) (n : ℕ) → length (more u n) ≡ n
unfolding more
more_length u zero = refl
more_length u (suc n) = ap suc (more_length u n)

more_append : (u : Buffer) (n : ℕ) → more u n ++ (tag u false ∷ []) ≡ more u (suc n)
unfolding more
more_append u zero = refl
more_append u (suc n) = ap (λ l. tag u false ∷ l) (more_append u n)

abbrev pub tags : Buffer → Bool → ℕ → ℕ → List Tag
tags u gone n m = cond (not gone && ltb n m) (tag u (eqb n 0) ∷ more u (m - (n + 1))) []

tags_more : (u : Buffer) (n m : ℕ) → n ≤ m → 1 ≤ m → tags u false n (m + 1) ≡ tags u false n m ++ (tag u false ∷ [])
unfolding more
tags_more u n m le pos = go (ltb n m) refl
  where
    go : (b : Bool) → ltb n m ≡ b → tags u false n (m + 1) ≡ tags u false n m ++ (tag u false ∷ [])
    go true e =
        let less = ltb-true n m e in
        let next : m + 1 - (n + 1) ≡ suc (m - (n + 1)) = omega arith in
        rw (lt-ltb n (m + 1) (omega arith), e, next) (ap (λ l. tag u (eqb n 0) ∷ l) (sym (more_append u (m - (n + 1)))))
    go false e =
        let all = ltb-false n m e in
        let next : m + 1 - (n + 1) ≡ 0 = omega arith in
        rw (lt-ltb n (m + 1) (omega arith), e, ne_eqb n 0 (λ z. omega arith), next)

tags_landed : (u : Buffer) (n m : ℕ) → n < m → tags u false n m ≡ tag u (eqb n 0) ∷ tags u false (n + 1) m
unfolding more
tags_landed u n m less = go (ltb (n + 1) m) refl
  where
    go : (b : Bool) → ltb (n + 1) m ≡ b → tags u false n m ≡ tag u (eqb n 0) ∷ tags u false (n + 1) m
    go true e =
        let next : m - (n + 1) ≡ suc (m - (n + 1 + 1)) = omega (arith, ltb-true (n + 1) m e) in
        rw (lt-ltb n m less, e, ne_eqb (n + 1) 0 (λ z. omega arith), next)
    go false e =
        let next : m - (n + 1) ≡ 0 = omega (arith, ltb-false (n + 1) m e) in
        rw (lt-ltb n m less, e, next)

-- The held words of a frame, and of all.
abbrev pub tags_of : Tale → List Tag
tags_of f = tags f.buffer f.gone f.landed (completed f)

abbrev pub tag_of : Tale → Tag
tag_of f = tag f.buffer (eqb f.landed 0)

unfoldable pub queue : List Tale → List Tag
queue [] = []
queue (f ∷ fs) = queue fs ++ tags_of f

pub queue_none : (fs : List Tale) → any_waiting fs ≡ false → queue fs ≡ []
unfolding queue any_waiting
queue_none [] e = refl
queue_none (f ∷ fs) e = let (a, b) = or_false (waiting f) (any_waiting fs) e in rw (queue_none fs b, a)

-- A word comes last.
frame_more : (v : ℕ) (f : Tale) → Counts f → f.gone ≡ false → tags_of (one_more (v ∷ []) f) ≡ tags_of f ++ (tag f.buffer false ∷ [])
frame_more v f c g = rw (g, more_words (v ∷ []) f) (tags_more f.buffer f.landed (completed f) c.part (c.filled g))

pub is_open : (f : Tale) → running f ≡ true → (f.ended ≡ false) × (f.gone ≡ false)
is_open f e = let (a, b) = and_true (not f.ended) (not f.gone) e in (not-true _ a, not-true _ b)

pub queue_word : (v : ℕ) (fs : List Tale) → Sound fs → queue (word_of (v ∷ []) fs) ≡ queue fs ++ (tag (last_buffer (word_of (v ∷ []) fs)) (not (any_open fs)) ∷ [])
unfolding queue word_of more
queue_word v [] s = refl
queue_word v (f ∷ fs) s = go (running f) refl
  where
    go : (b : Bool) → running f ≡ b → queue (word_of (v ∷ []) (f ∷ fs)) ≡ queue (f ∷ fs) ++ (tag (last_buffer (word_of (v ∷ []) (f ∷ fs))) (not (running f)) ∷ [])
    go true e = rw (e, frame_more v f s.0 (is_open f e).1) (sym (append_assoc (queue fs) (tags_of f) (tag f.buffer false ∷ [])))
    go false e = rw e

-- The oldest lands.
frame_landed : (f : Tale) → waiting f ≡ true → tags_of f ≡ tag_of f ∷ tags_of (one_landed f)
frame_landed f w =
    let (g, l) = and_true (not f.gone) (ltb f.landed (completed f)) w in
    rw (not-true f.gone g) (tags_landed f.buffer f.landed (completed f) (ltb-true _ _ l))

pub queue_landing : (fs : List Tale) → any_waiting fs ≡ true → queue fs ≡ tag_of (eldest fs) ∷ queue (landing_of fs)
unfolding queue any_waiting landing_of eldest
queue_landing [] e = absurd (false≢true e)
queue_landing (f ∷ fs) e = go (any_waiting fs) (waiting f) refl refl (queue_landing fs) e
  where
    go : (b c : Bool) → any_waiting fs ≡ b → waiting f ≡ c → (any_waiting fs ≡ true → queue fs ≡ tag_of (eldest fs) ∷ queue (landing_of fs)) → c || b ≡ true
        → queue fs ++ tags_of f ≡ tag_of (cond b (eldest fs) f) ∷ queue (cond b (f ∷ landing_of fs) (cond c (one_landed f ∷ fs) (f ∷ fs)))
    go true c w v rest e = rw (rest w)
    go false true w v rest e = rw (queue_none fs w) (frame_landed f v)
    go false false w v rest e = absurd (false≢true e)

-- The word after it opens a frame, or there is none and no frame is open: just if the frame has ended and no word of it is held any more.
abbrev pub next_opens : List Tag → Bool → Bool
next_opens [] begun = not begun
next_opens (t ∷ ts) begun = t.opens

abbrev pub over : Tale → Bool
over f = f.ended && eqb (f.landed + 1) (completed f)

over_tags : (u : Buffer) (ended : Bool) (n m : ℕ) → n < m → next_opens (tags u false (n + 1) m) (not ended && true) ≡ ended && eqb (n + 1) m
over_tags u ended n m less = go (ltb (n + 1) m) refl
  where
    go : (b : Bool) → ltb (n + 1) m ≡ b → next_opens (tags u false (n + 1) m) (not ended && true) ≡ ended && eqb (n + 1) m
    go true e =
        let less = ltb-true (n + 1) m e in
        rw (e, ne_eqb (n + 1) 0 (λ z. omega arith), ne_eqb (n + 1) m (λ z. omega arith)) (sym (and_zero ended))
    go false e =
        rw (e, eq-eqb (n + 1) m (omega (arith, ltb-false (n + 1) m e))) (either_way ended)
      where
        either_way : (b : Bool) → not (not b && true) ≡ b && true
        either_way true = refl
        either_way false = refl

frame_over : (f : Tale) → waiting f ≡ true → next_opens (tags_of (one_landed f)) (running f) ≡ over f
frame_over f w =
    let (g, l) = and_true (not f.gone) (ltb f.landed (completed f)) w in
    rw (not-true f.gone g) (over_tags f.buffer f.ended f.landed (completed f) (ltb-true _ _ l))

opens_next : (f : Tale) → Counts f → f.landed ≡ 0 → (b : Bool) → f.gone ≡ b → next_opens (tags_of f) (running f) ≡ true
opens_next f c z true g = rw (g, and_zero (not f.ended))
opens_next f c z false g = rw (g, lt-ltb f.landed (completed f) (omega (arith, c.filled g))) (eq-eqb f.landed 0 z)

next_frame : (ts : List Tag) (f : Tale) → Counts f → f.landed ≡ 0 → next_opens (ts ++ tags_of f) (running f) ≡ next_opens ts false
next_frame [] f c z = opens_next f c z f.gone refl
next_frame (t ∷ ts) f c z = refl

pub queue_over : (fs : List Tale) → Sound fs → any_waiting fs ≡ true → next_opens (queue (landing_of fs)) (any_open fs) ≡ over (eldest fs)
unfolding queue any_waiting landing_of eldest
queue_over [] s e = absurd (false≢true e)
queue_over (f ∷ fs) s e = go (any_waiting fs) (waiting f) refl refl (queue_over fs s.3) e
  where
    go : (b c : Bool) → any_waiting fs ≡ b → waiting f ≡ c → (any_waiting fs ≡ true → next_opens (queue (landing_of fs)) (any_open fs) ≡ over (eldest fs)) → c || b ≡ true
        → next_opens (queue (cond b (f ∷ landing_of fs) (cond c (one_landed f ∷ fs) (f ∷ fs)))) (running f) ≡ over (cond b (eldest fs) f)
    go true c w v rest e = next_frame (queue (landing_of fs)) f s.0 (s.1 w) ∙ (rw s.2 at (rest w))
    go false true w v rest e = rw (queue_none fs w) (frame_over f v)
    go false false w v rest e = absurd (false≢true e)

-- Other events.
pub queue_end : (fs : List Tale) → queue (ending_of fs) ≡ queue fs
unfolding queue ending_of
queue_end [] = refl
queue_end (f ∷ fs) = either (λ (l : List Tale). queue l ≡ queue (f ∷ fs)) (running f) refl refl

pub queue_armed : (fs : List Tale) → queue (map armed_anew fs) ≡ queue fs
unfolding queue
queue_armed [] = refl
queue_armed (f ∷ fs) = ap (λ l. l ++ tags_of f) (queue_armed fs)
