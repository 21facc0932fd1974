-- The words of the story's frames that are held, oldest first (`held_words`): a word comes last, a landing takes the oldest frame's next one, discarding leaves none, and the rest changes
-- nothing. By induction on the frames. Assumes nothing.
use mathlib.Core.Bool.{Bool, true, false, cond, not, ◌&&◌, ◌||◌, false≢true}
use mathlib.Core.List.{List, [], ◌∷◌, ◌++◌, map, append_assoc}
use mathlib.Core.Path.{◌≡◌, refl, sym, ap}
use Prim.Native.Nat.{ℕ, ◌+◌}
use native.Mathlib.Numerals.{add-one}
use native.Mathlib.Omega.{arith}
use lib.Dec.{ltb}
use lib.ListN.{length, drop, get_or, length-append, length-drop, drop_of_length-le}
use lib.Seq.{drop-cons, drop-append-le}
use borrow.Author.Tests.{ltb-true, ltb-false, not-true}
use Rattle.bits.proofs.Booleans.{or_false, and_true, either}
use Rattle.buffers.specs.Turns.{other}
use Rattle.buffers.specs.Story.{Tale, completed, running, waiting, any_waiting, first_of, one_more, word_of, one_landed, landing_of, ending_of, closed_otherwise, armed_anew}
use Rattle.buffers.proofs.Frames.{Sound, eldest, waiting_closed}
use Rattle.buffers.proofs.Tags.{more_length, tags, queue, is_open}

-- Those of a frame, and of all.
abbrev words_of : Tale → List ℕ
words_of f = cond f.gone [] (drop f.landed f.words)

unfoldable pub held_words : List Tale → List ℕ
held_words [] = []
held_words (f ∷ fs) = held_words fs ++ words_of f

-- As many as have tags.
pub words_count : (fs : List Tale) → length (held_words fs) ≡ length (queue fs)
unfolding held_words queue
words_count [] = refl
words_count (f ∷ fs) =
    rw (length-append (held_words fs) (words_of f), length-append (queue fs) (tags f.buffer f.gone f.landed (completed f)), words_count fs)
    (ap (λ n. length (queue fs) + n) (go f.gone (ltb f.landed (completed f)) refl))
  where
    go : (g b : Bool) → ltb f.landed (completed f) ≡ b → length (cond g [] (drop f.landed f.words)) ≡ length (tags f.buffer g f.landed (completed f))
    go true b e = refl
    go false true e = rw (e, length-drop, more_length) (omega (arith, ltb-true f.landed (completed f) e))
    go false false e = rw (e, length-drop) (omega (arith, ltb-false f.landed (completed f) e))

pub words_none : (fs : List Tale) → any_waiting fs ≡ false → held_words fs ≡ []
unfolding held_words any_waiting
words_none [] e = refl
words_none (f ∷ fs) e =
    let (a, b) = or_false (waiting f) (any_waiting fs) e in
    rw (words_none fs b) (go f.gone a)
  where
    go : (g : Bool) → not g && ltb f.landed (completed f) ≡ false → cond g [] (drop f.landed f.words) ≡ []
    go true e = refl
    go false e = drop_of_length-le f.words (ltb-false _ _ e)

-- A word comes last.
pub words_word : (v : ℕ) (fs : List Tale) → Sound fs → held_words (word_of (v ∷ []) fs) ≡ held_words fs ++ v ∷ []
unfolding held_words word_of
words_word v [] s = refl
words_word v (f ∷ fs) s = go (running f) refl
  where
    go : (b : Bool) → running f ≡ b → held_words (cond b (one_more (v ∷ []) f ∷ fs) (first_of (v ∷ []) (other f.buffer) ∷ f ∷ fs)) ≡ held_words (f ∷ fs) ++ v ∷ []
    go true e = rw ((is_open f e).1, drop-append-le f.landed f.words (v ∷ []) s.0.part) (sym (append_assoc (held_words fs) (drop f.landed f.words) (v ∷ [])))
    go false e = refl

-- The oldest lands.
frame_landed : (f : Tale) → waiting f ≡ true → words_of f ≡ get_or f.words f.landed 0 ∷ words_of (one_landed f)
frame_landed f w =
    let (g, l) = and_true (not f.gone) (ltb f.landed (completed f)) w in
    rw (not-true f.gone g, add-one) (drop-cons f.words f.landed 0 (ltb-true _ _ l))

pub words_landing : (fs : List Tale) → any_waiting fs ≡ true → held_words fs ≡ get_or (eldest fs).words (eldest fs).landed 0 ∷ held_words (landing_of fs)
unfolding held_words any_waiting landing_of eldest
words_landing [] e = absurd (false≢true e)
words_landing (f ∷ fs) e = go (any_waiting fs) (waiting f) refl refl (words_landing fs) e
  where
    go : (b c : Bool) → any_waiting fs ≡ b → waiting f ≡ c
        → (any_waiting fs ≡ true → held_words fs ≡ get_or (eldest fs).words (eldest fs).landed 0 ∷ held_words (landing_of fs)) → c || b ≡ true
        → let g = cond b (eldest fs) f in
        held_words fs ++ words_of f ≡ get_or g.words g.landed 0 ∷ held_words (cond b (f ∷ landing_of fs) (cond c (one_landed f ∷ fs) (f ∷ fs)))
    go true c w v rest e = rw (rest w)
    go false true w v rest e = rw (words_none fs w) (frame_landed f v)
    go false false w v rest e = absurd (false≢true e)

-- Other events.
pub words_closed : (fs : List Tale) → held_words (map closed_otherwise fs) ≡ []
words_closed fs = words_none (map closed_otherwise fs) (waiting_closed fs)

pub words_end : (fs : List Tale) → held_words (ending_of fs) ≡ held_words fs
unfolding held_words ending_of
words_end [] = refl
words_end (f ∷ fs) = either (λ (l : List Tale). held_words l ≡ held_words (f ∷ fs)) (running f) refl refl

pub words_armed : (fs : List Tale) → held_words (map armed_anew fs) ≡ held_words fs
unfolding held_words
words_armed [] = refl
words_armed (f ∷ fs) = ap (λ l. l ++ words_of f) (words_armed fs)
