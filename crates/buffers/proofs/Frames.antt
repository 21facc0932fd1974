-- What holds of the story's frames after every list of events (`Sound`): each has counts that fit, no word of it lands while an older one waits, and only the newest may be open.
-- By induction on the frames, an event at a time. Assumes nothing.
use mathlib.Core.Bool.{Bool, true, false, cond, not, ◌&&◌, ◌||◌, true≢false, false≢true}
use mathlib.Core.List.{List, [], ◌∷◌, map}
use mathlib.Core.Path.{◌≡◌, refl, sym, ap, ◌∙◌}
use Prim.Native.Nat.{ℕ, ◌+◌, ◌≤◌}
use native.Mathlib.Omega.{arith}
use lib.Dec.{ltb}
use lib.ListN.{length, length-append}
use borrow.Author.Tests.{ltb-true}
use Rattle.bits.proofs.Booleans.{or_false, and_true, by_cond, either}
use Rattle.buffers.specs.declared.Buffer.TheVariants.{A}
use Rattle.buffers.specs.Turns.{other}
use Rattle.buffers.specs.Story.{Tale, completed, running, waiting, any_waiting, last_buffer, first_of, one_more, word_of, one_landed, landing_of, ending_of, closed_otherwise, armed_anew}

-- Whether the newest frame is the open one.
abbrev pub any_open : List Tale → Bool
any_open [] = false
any_open (f ∷ fs) = running f

pub record Counts (f : Tale) : Type 0 where
  pub recent : f.since ≤ f.landed
  pub part : f.landed ≤ completed f
  pub filled : f.gone ≡ false → 1 ≤ completed f

-- Of each frame: its counts; no word of it has landed while an older one waits; and no older one is open.
abbrev pub Sound : List Tale → Type 0
Sound [] = Unit {0}
Sound (f ∷ fs) = Counts f × (any_waiting fs ≡ true → f.landed ≡ 0) × (any_open fs ≡ false) × Sound fs

-- The oldest frame that waits, if one does.
unfoldable pub eldest : List Tale → Tale
eldest [] = first_of [] A
eldest (f ∷ fs) = cond (any_waiting fs) (eldest fs) f

contra : {P : Type 0} {b : Bool} → b ≡ true → b ≡ false → P
contra e f = absurd (true≢false (sym e ∙ f))

pub eldest_waits : (fs : List Tale) → any_waiting fs ≡ true → waiting (eldest fs) ≡ true
unfolding eldest any_waiting
eldest_waits [] e = absurd (false≢true e)
eldest_waits (f ∷ fs) e = by_cond (λ (g : Tale). waiting g ≡ true) (any_waiting fs) _ _ (λ w. eldest_waits fs w) (λ n. or_left (waiting f) (any_waiting fs) e n)
  where
    or_left : (a b : Bool) → a || b ≡ true → b ≡ false → a ≡ true
    or_left true b e n = refl
    or_left false b e n = contra e n

pub eldest_counts : (fs : List Tale) → Sound fs → any_waiting fs ≡ true → Counts (eldest fs)
unfolding eldest any_waiting
eldest_counts [] s e = absurd (false≢true e)
eldest_counts (f ∷ fs) s e = by_cond Counts (any_waiting fs) _ _ (λ w. eldest_counts fs s.3 w) (λ n. s.0)

-- A landing.
pub none_lands : (fs : List Tale) → any_waiting fs ≡ false → landing_of fs ≡ fs
unfolding landing_of any_waiting
none_lands [] e = refl
none_lands (f ∷ fs) e = let (a, b) = or_false (waiting f) (any_waiting fs) e in rw (b, a)

pub open_landing : (fs : List Tale) → any_open (landing_of fs) ≡ any_open fs
unfolding landing_of
open_landing [] = refl
open_landing (f ∷ fs) = either (λ (l : List Tale). any_open l ≡ running f) (any_waiting fs) refl (either (λ (l : List Tale). any_open l ≡ running f) (waiting f) refl refl)

pub last_landing : (fs : List Tale) → last_buffer (landing_of fs) ≡ last_buffer fs
unfolding landing_of
last_landing [] = refl
last_landing (f ∷ fs) =
    either (λ (l : List Tale). last_buffer l ≡ f.buffer) (any_waiting fs) refl (either (λ (l : List Tale). last_buffer l ≡ f.buffer) (waiting f) refl refl)

landed_counts : (f : Tale) → Counts f → waiting f ≡ true → Counts (one_landed f)
landed_counts f c w =
    let less = ltb-true f.landed (completed f) (and_true (not f.gone) (ltb f.landed (completed f)) w).1 in
    record { recent = omega arith; part = omega arith; filled = c.filled }

pub sound_landing : (fs : List Tale) → Sound fs → Sound (landing_of fs)
unfolding landing_of
sound_landing [] s = tt
sound_landing (f ∷ fs) s =
    by_cond Sound (any_waiting fs) _ _
    (λ w. (s.0, λ v. s.1 w, rw (open_landing fs) s.2, sound_landing fs s.3))
    (λ n. by_cond Sound (waiting f) _ _ (λ w. (landed_counts f s.0 w, λ v. contra v n, s.2, s.3)) (λ v. s))

-- A word.
pub more_words : (vs : List ℕ) (f : Tale) → completed (one_more vs f) ≡ completed f + length vs
more_words vs f = rw length-append (omega arith)

pub sound_word : (v : ℕ) (fs : List Tale) → Sound fs → Sound (word_of (v ∷ []) fs)
unfolding word_of any_waiting
sound_word v [] s = (record { recent = omega arith; part = omega arith; filled = λ z. omega arith }, λ e. refl, refl, tt)
sound_word v (f ∷ fs) s =
    by_cond Sound (running f) _ _
    (λ e.
    let c = s.0 in
    (record { recent = c.recent; part = omega (arith, c.part, more_words (v ∷ []) f); filled = λ z. omega (arith, more_words (v ∷ []) f) }, s.1, s.2, s.3))
    (λ e. (record { recent = omega arith; part = omega arith; filled = λ z. omega arith }, λ e. refl, e, s))

pub open_word : (vs : List ℕ) (fs : List Tale) → any_open (word_of vs fs) ≡ true
unfolding word_of
open_word vs [] = refl
open_word vs (f ∷ fs) = by_cond (λ (l : List Tale). any_open l ≡ true) (running f) _ _ (λ e. e) (λ e. refl)

pub last_word : (vs : List ℕ) (fs : List Tale) → last_buffer (word_of vs fs) ≡ cond (any_open fs) (last_buffer fs) (other (last_buffer fs))
unfolding word_of
last_word vs [] = refl
last_word vs (f ∷ fs) = go (running f)
  where
    go : (b : Bool) → last_buffer (cond b (one_more vs f ∷ fs) (first_of vs (other f.buffer) ∷ f ∷ fs)) ≡ cond b f.buffer (other f.buffer)
    go true = refl
    go false = refl

-- The end by rule 4.
pub sound_end : (fs : List Tale) → Sound fs → Sound (ending_of fs)
unfolding ending_of
sound_end [] s = tt
sound_end (f ∷ fs) s =
    by_cond Sound (running f) _ _ (λ e. let c = s.0 in (record { recent = c.recent; part = c.part; filled = c.filled }, s.1, s.2, s.3)) (λ e. s)

pub last_end : (fs : List Tale) → last_buffer (ending_of fs) ≡ last_buffer fs
unfolding ending_of
last_end [] = refl
last_end (f ∷ fs) = either (λ (l : List Tale). last_buffer l ≡ f.buffer) (running f) refl refl

pub open_end : (fs : List Tale) → any_open (ending_of fs) ≡ false
unfolding ending_of
open_end [] = refl
open_end (f ∷ fs) = by_cond (λ (l : List Tale). any_open l ≡ false) (running f) _ _ (λ e. refl) (λ e. e)

-- Discarding: nothing waits, and nothing is open.
not_open : (f : Tale) → running (closed_otherwise f) ≡ false
not_open f = go f.ended f.gone (ltb f.landed (completed f))
  where
    go : (e g l : Bool) → not e && not (g || ((not e && not g) || (not g && l))) ≡ false
    go true g l = refl
    go false true l = refl
    go false false l = refl

not_waiting : (f : Tale) → waiting (closed_otherwise f) ≡ false
not_waiting f = go f.ended f.gone (ltb f.landed (completed f))
  where
    go : (e g l : Bool) → not (g || ((not e && not g) || (not g && l))) && l ≡ false
    go true true l = refl
    go true false true = refl
    go true false false = refl
    go false true l = refl
    go false false l = refl

pub open_closed : (fs : List Tale) → any_open (map closed_otherwise fs) ≡ false
open_closed [] = refl
open_closed (f ∷ fs) = not_open f

pub waiting_closed : (fs : List Tale) → any_waiting (map closed_otherwise fs) ≡ false
unfolding any_waiting
waiting_closed [] = refl
waiting_closed (f ∷ fs) = rw (not_waiting f) (waiting_closed fs)

pub last_closed : (fs : List Tale) → last_buffer (map closed_otherwise fs) ≡ last_buffer fs
last_closed [] = refl
last_closed (f ∷ fs) = refl

pub sound_closed : (fs : List Tale) → Sound fs → Sound (map closed_otherwise fs)
sound_closed [] s = tt
sound_closed (f ∷ fs) s =
    let c = s.0 in
    (record { recent = c.recent; part = c.part; filled = λ g. c.filled (or_false f.gone _ g).0 }, λ e. contra e (waiting_closed fs), open_closed fs, sound_closed fs s.3)

-- A word that is lost, with the frame.
pub sound_lost : (fs : List Tale) → Sound fs → Sound (map closed_otherwise (word_of [] fs))
unfolding word_of
sound_lost [] s = (record { recent = omega arith; part = omega arith; filled = λ e. absurd (true≢false e) }, λ e. refl, refl, tt)
sound_lost (f ∷ fs) s =
    by_cond (λ (l : List Tale). Sound (map closed_otherwise l)) (running f) _ _
    (λ e.
    let t = sound_closed (f ∷ fs) s in
    let c = s.0 in
    (record { recent = c.recent; part = omega (arith, c.part, more_words [] f); filled = λ g. absurd (true≢false (sym (lost_gone f.gone (running f) _ e) ∙ g)) }, t.1, t.2, t.3))
    (λ e. (record { recent = omega arith; part = omega arith; filled = λ e. absurd (true≢false e) }, λ e. refl, open_closed (f ∷ fs), sound_closed (f ∷ fs) s))
  where
    lost_gone : (gone goes waits : Bool) → goes ≡ true → gone || (goes || waits) ≡ true
    lost_gone true goes waits e = refl
    lost_gone false true waits e = refl
    lost_gone false false waits e = absurd (false≢true e)

-- Re-arming.
pub waiting_armed : (fs : List Tale) → any_waiting (map armed_anew fs) ≡ any_waiting fs
unfolding any_waiting
waiting_armed [] = refl
waiting_armed (f ∷ fs) = ap (λ b. waiting f || b) (waiting_armed fs)

pub open_armed : (fs : List Tale) → any_open (map armed_anew fs) ≡ any_open fs
open_armed [] = refl
open_armed (f ∷ fs) = refl

pub last_armed : (fs : List Tale) → last_buffer (map armed_anew fs) ≡ last_buffer fs
last_armed [] = refl
last_armed (f ∷ fs) = refl

pub sound_armed : (fs : List Tale) → Sound fs → Sound (map armed_anew fs)
sound_armed [] s = tt
sound_armed (f ∷ fs) s =
    let c = s.0 in
    (record { recent = omega arith; part = c.part; filled = c.filled }, λ e. s.1 (sym (waiting_armed fs) ∙ e), open_armed fs ∙ s.2, sound_armed fs s.3)
