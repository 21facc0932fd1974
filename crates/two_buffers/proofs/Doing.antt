-- What is kept in a stretch follows from what it has done (`kept_by`): a landing, a word that is held and one that is lost lead from one to the next. The idea: a frame has begun if
-- words are held or have landed (`Going`). Assumes nothing.
use mathlib.Core.Bool.{Bool, true, false, cond, not, ◌&&◌, false≢true, true≢false}
use mathlib.Core.Path.{◌≡◌, refl, sym, ap, ◌∙◌}
use Prim.Native.Nat.{ℕ, suc, ◌+◌, ◌-◌, ◌<◌}
use native.Mathlib.Omega.{arith}
use borrow.Author.Tests.{lt-ltb}
use Rattle.bits.proofs.Booleans.{and_zero, either}
use Rattle.buffers.specs.declared.Buffer.{Buffer}
use Rattle.buffers.specs.declared.Buffer.TheVariants.{A, B}
use Rattle.buffers.specs.declared.Turns.{Turns}
use Rattle.buffers.specs.Turns.{other, with_turn, first_word, next_place}
use Rattle.buffers.specs.Story as story
use Rattle.buffers.specs.Kept.{Kept, landed_at, keep}
use Rattle.two_buffers.specs.Stretches.{next_buffer, place_a, place_b, Done, turns_by}
use Rattle.two_buffers.proofs.Tagging.{held_turns, oldest_is, landing_turns, lands_at, word_turns, first_turns, lost_turns, lost_later, lost_first}

abbrev pub doing : Bool → Bool → Bool → ℕ → ℕ → Done
doing completed landed lost held place = record { completed = completed; landed = landed; lost = lost; held = held; place = place }

-- The turns with a first word, where one was completed.
abbrev pub switched : Bool → Turns → Turns
switched completed t = cond completed (first_word t) t

pub first_begun : (t : Turns) → (first_word t).begun ≡ true
unfolding first_word with_turn
first_begun t = go t.begun refl
  where
    go : (b : Bool) → t.begun ≡ b → (cond b t (with_turn (other t.turn) true t)).begun ≡ true
    go true e = e
    go false e = refl

first_turn : (t : Turns) → (first_word t).turn ≡ next_buffer t
unfolding first_word with_turn next_buffer
first_turn t = go t.begun
  where
    go : (b : Bool) → (cond b t (with_turn (other t.turn) true t)).turn ≡ cond b t.turn (other t.turn)
    go true = refl
    go false = refl

pub first_place_same : (u : Buffer) (a : ℕ) (c : Bool) (t : Turns) → next_place a u (switched c t) ≡ next_place a u t
unfolding first_word with_turn
first_place_same A a c t = refl
first_place_same B a c t = either (λ (s : Turns). s.place ≡ t.place) c (either (λ (s : Turns). s.place ≡ t.place) t.begun refl refl) refl

-- A frame that has begun.
begun_first : (c : Bool) (t : Turns) → (switched c t).begun ≡ true → switched c t ≡ first_word t
unfolding first_word
begun_first true t e = refl
begun_first false t e = rw e

-- One that has not: no word was completed.
not_begun : (c : Bool) (t : Turns) → (switched c t).begun ≡ false → (c ≡ false) × (t.begun ≡ false)
not_begun true t e = absurd (true≢false (sym (first_begun t) ∙ e))
not_begun false t e = (refl, e)

abbrev pub keeping : Buffer → Bool → ℕ → Turns → Done → Kept
keeping u opens a t m = record { turns = turns_by u opens t m; place_a = place_a u m.landed m.place a; held = m.held }

-- The oldest word lands.
lands_in : (u : Buffer) (opens c l : Bool) (h p a : ℕ) (t : Turns) → (switched c t).begun ≡ true
    → landed_at u p (keeping u opens a t (doing c l false (suc h) p)) ≡ keeping u opens a t (doing c true false (suc h - 1) (p + 1))
unfolding landed_at turns_by place_a place_b
lands_in A opens c l h p a t b =
    let less : suc h - 1 ≡ h = omega arith in
    let n = suc h - 1 in
    ap (λ (s : Turns). record { turns = s; place_a = p + 1; held = n }) (landing_turns A opens l h p (switched c t) b ∙ ap (λ (k : ℕ). held_turns A opens true k (p + 1) (switched c t)) (sym less))
lands_in B opens c l h p a t b =
    let less : suc h - 1 ≡ h = omega arith in
    let n = suc h - 1 in
    ap (λ (s : Turns). record { turns = s; place_a = a; held = n }) (landing_turns B opens l h p (switched c t) b ∙ ap (λ (k : ℕ). held_turns B opens true k (p + 1) (switched c t)) (sym less))

landing_done : (u : Buffer) (opens c l : Bool) (h p a : ℕ) (t : Turns) → (switched c t).begun ≡ true → (l ≡ false → p ≡ cond opens 0 (next_place a u t))
    → keep (keeping u opens a t (doing c l false (suc h) p)) story.landed ≡ keeping u opens a t (doing c true false (suc h - 1) (p + 1))
unfolding keep turns_by
landing_done u opens c l h p a t b first =
    rw (lt-ltb 0 (suc h) (omega arith), oldest_is u opens l h p (switched c t), lands_at u opens l h p a (switched c t) (λ e. first e ∙ ap (λ (n : ℕ). cond opens 0 n) (sym (first_place_same u a c t))))
    (lands_in u opens c l h p a t b)

-- A word is held, behind others of its frame or as its first; or it is lost.
held_later : (v : ℕ) (u : Buffer) (opens c l : Bool) (h p a : ℕ) (t : Turns) → next_buffer t ≡ u → (switched c t).begun ≡ true → (opens && not l ≡ true → 0 < h)
    → keep (keeping u opens a t (doing c l false h p)) (story.held v) ≡ keeping u opens a t (doing true l false (h + 1) p)
unfolding keep turns_by
held_later v u opens c l h p a t is b pos =
    let same = begun_first c t b in
    ap (λ (s : Turns). record { turns = s; place_a = place_a u l p a; held = h + 1 })
    (word_turns u opens l h p (switched c t) b (ap (λ (s : Turns). s.turn) same ∙ first_turn t ∙ is) pos ∙ ap (λ (s : Turns). held_turns u opens l (h + 1) p s) same)

lost_after : (u : Buffer) (opens c l : Bool) (h p a : ℕ) (t : Turns) → (switched c t).begun ≡ true
    → keep (keeping u opens a t (doing c l false h p)) story.lost ≡ keeping u opens a t (doing true l true 0 p)
unfolding keep turns_by
lost_after u opens c l h p a t b =
    let same = begun_first c t b in
    ap (λ (s : Turns). record { turns = s; place_a = place_a u l p a; held = 0 })
    (lost_later u opens l h p (switched c t) b ∙ ap (λ (s : Turns). lost_turns u opens l p s) same)

held_first : (v : ℕ) (u : Buffer) (p a : ℕ) (t : Turns) → next_buffer t ≡ u → t.begun ≡ false
    → keep (keeping u true a t (doing false false false 0 p)) (story.held v) ≡ keeping u true a t (doing true false false 1 p)
unfolding keep turns_by next_buffer
held_first v u p a t is b =
    let to : other t.turn ≡ u = sym (ap (λ (c : Bool). cond c t.turn (other t.turn)) b) ∙ is in
    ap (λ (s : Turns). record { turns = s; place_a = place_a u false p a; held = 1 }) (first_turns u p t b to)

lost_at_first : (u : Buffer) (opens : Bool) (h p a : ℕ) (t : Turns) → t.begun ≡ false
    → keep (keeping u opens a t (doing false false false h p)) story.lost ≡ keeping u opens a t (doing true false true 0 p)
unfolding keep turns_by
lost_at_first u opens h p a t b = ap (λ (s : Turns). record { turns = s; place_a = place_a u false p a; held = 0 }) (lost_first u opens h p t b)

no_landing : (l : Bool) → ¬ (l ≡ true) → l ≡ false
no_landing true never = absurd (never refl)
no_landing false never = refl

none_held : (h : ℕ) → ¬ (0 < h) → h ≡ 0
none_held h never = omega (arith, never)

module _ (u : Buffer) (t : Turns) (opens : Bool) (a : ℕ) (is : next_buffer t ≡ u) (fresh : t.begun ≡ false → opens ≡ true) where
  -- None was lost.
  pub record Going (c l : Bool) (h p : ℕ) : Type 0 where
    pub held_begun : 0 < h → (switched c t).begun ≡ true
    pub landed_begun : l ≡ true → (switched c t).begun ≡ true
    pub waits : opens && not l ≡ true → (switched c t).begun ≡ true → 0 < h
    pub first : l ≡ false → p ≡ cond opens 0 (next_place a u t)

  pub landing_on : (c l : Bool) (h p : ℕ) → Going c l (suc h) p
      → (keep (keeping u opens a t (doing c l false (suc h) p)) story.landed ≡ keeping u opens a t (doing c true false (suc h - 1) (p + 1))) × Going c true (suc h - 1) (p + 1)
  landing_on c l h p g =
      let b = g.held_begun (omega arith) in (
        landing_done u opens c l h p a t b g.first,
        record { held_begun = λ e. b; landed_begun = λ e. b; waits = λ e f. absurd (false≢true (sym (and_zero opens) ∙ e)); first = λ e. absurd (true≢false e) },
      )

  pub held_on : (v : ℕ) (c l : Bool) (h p : ℕ) → Going c l h p
      → (keep (keeping u opens a t (doing c l false h p)) (story.held v) ≡ keeping u opens a t (doing true l false (h + 1) p)) × Going true l (h + 1) p
  held_on v c l h p g =
      (go (switched c t).begun refl, record { held_begun = λ e. first_begun t; landed_begun = λ e. first_begun t; waits = λ e f. omega arith; first = g.first })
    where
      go : (b : Bool) → (switched c t).begun ≡ b → keep (keeping u opens a t (doing c l false h p)) (story.held v) ≡ keeping u opens a t (doing true l false (h + 1) p)
      go true b = held_later v u opens c l h p a t is b (λ e. g.waits e b)
      go false b =
          let (none, new) = not_begun c t b in
          let still = no_landing l (λ e. true≢false (sym (g.landed_begun e) ∙ b)) in
          let empty = none_held h (λ e. true≢false (sym (g.held_begun e) ∙ b)) in
          rw (none, still, empty, fresh new) (held_first v u p a t is new)

  pub lost_on : (c l : Bool) (h p : ℕ) → Going c l h p
      → keep (keeping u opens a t (doing c l false h p)) story.lost ≡ keeping u opens a t (doing true l true 0 p)
  lost_on c l h p g = go (switched c t).begun refl
    where
      go : (b : Bool) → (switched c t).begun ≡ b → keep (keeping u opens a t (doing c l false h p)) story.lost ≡ keeping u opens a t (doing true l true 0 p)
      go true b = lost_after u opens c l h p a t b
      go false b =
          let (none, new) = not_begun c t b in
          let still = no_landing l (λ e. true≢false (sym (g.landed_begun e) ∙ b)) in
          rw (none, still) (lost_at_first u opens h p a t new)
