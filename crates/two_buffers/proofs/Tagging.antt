-- The turns while all held words are of one buffer and none is lost (`held_turns`): what a landing and a completed word make of them. Assumes nothing.
use mathlib.Core.Bool.{Bool, true, false, cond, not, ◌&&◌}
use mathlib.Core.Path.{◌≡◌, refl, sym, ap, ◌∙◌}
use Prim.Native.Nat.{ℕ, suc, ◌+◌, ◌-◌, ◌/◌, ◌%◌, ◌^◌, ◌<◌}
use native.Mathlib.Numerals.{add-one}
use native.Mathlib.Omega.{arith}
use lib.Dec.{ltb}
use lib.Pow.{pow_pos}
use borrow.Author.Tests.{lt-ltb, eq-eqb}
use Rattle.bits.specs.Bits.{bit}
use Rattle.bits.proofs.Booleans.{either}
use Rattle.buffers.specs.declared.Buffer.{Buffer}
use Rattle.buffers.specs.declared.Buffer.TheVariants.{A, B}
use Rattle.buffers.specs.declared.Content.TheVariants.{Landing}
use Rattle.buffers.specs.declared.Turns.{Turns}
use Rattle.buffers.specs.Turns.{is_b, other, with_turn, with_tags, with_place_b, with_content, first_word, word_held, discarded, word_lost, oldest_buffer, oldest_opens, next_place, oldest_place, last_of_frame, word_landed}
use Rattle.two_buffers.specs.Stretches.{tags_in, opening_in, place_a, place_b}

-- The tags without the oldest word, with one more behind, and the oldest word's.
half_tags : (u : Buffer) (h : ℕ) → tags_in u (suc h) / 2 ≡ tags_in u h
unfolding tags_in
half_tags A h = refl
half_tags B h = omega (arith, pow_pos h)

more_tags : (u : Buffer) (h : ℕ) → cond (is_b u) (tags_in u h + 2 ^ h) (tags_in u h) ≡ tags_in u (h + 1)
unfolding tags_in
more_tags A h = refl
more_tags B h = rw add-one (omega (arith, pow_pos h))

first_tag : (u : Buffer) (h : ℕ) → bit 0 (tags_in u (suc h)) ≡ is_b u
unfolding tags_in
first_tag A h = refl
first_tag B h = eq-eqb ((2 ^ suc h - 1) / 1 % 2) 1 (omega (arith, pow_pos h))

-- The turns.
abbrev pub kept_content : Buffer → Bool → Bool → Turns → Turns
kept_content u opens landed s = cond (opens && landed) (with_content u Landing s) s

abbrev pub held_turns : Buffer → Bool → Bool → ℕ → ℕ → Turns → Turns
held_turns u opens landed h p s = place_b u landed p (with_tags (tags_in u h) (opening_in (opens && not landed) h) (kept_content u opens landed s))

-- The oldest word is of the buffer, and opens a frame if the first of the words does and has not landed.
oldest_in : (u : Buffer) → cond (is_b u) B A ≡ u
oldest_in A = refl
oldest_in B = refl

first_opening : (opens : Bool) (h : ℕ) → bit 0 (opening_in opens (suc h)) ≡ opens
unfolding opening_in
first_opening true h = rw (lt-ltb 0 (suc h) (omega arith))
first_opening false h = refl

no_more_opening : (opens : Bool) (h : ℕ) → opening_in opens h / 2 ≡ 0
unfolding opening_in
no_more_opening true h = either (λ n. n / 2 ≡ 0) (ltb 0 h) refl refl
no_more_opening false h = refl

-- The parts of them.
record Parts (u : Buffer) (opens landed : Bool) (h p : ℕ) (s t : Turns) : Type 0 where
  tags : t.in_b ≡ tags_in u h
  opening : t.opening ≡ opening_in (opens && not landed) h
  begun : t.begun ≡ s.begun
  turn : t.turn ≡ s.turn

parts : (u : Buffer) (opens landed : Bool) (h p : ℕ) (s : Turns) → Parts u opens landed h p s (held_turns u opens landed h p s)
unfolding place_b with_tags with_content with_place_b
parts A true true h p s = record { tags = refl; opening = refl; begun = refl; turn = refl }
parts A true false h p s = record { tags = refl; opening = refl; begun = refl; turn = refl }
parts A false landed h p s = record { tags = refl; opening = refl; begun = refl; turn = refl }
parts B true true h p s = record { tags = refl; opening = refl; begun = refl; turn = refl }
parts B true false h p s = record { tags = refl; opening = refl; begun = refl; turn = refl }
parts B false true h p s = record { tags = refl; opening = refl; begun = refl; turn = refl }
parts B false false h p s = record { tags = refl; opening = refl; begun = refl; turn = refl }

module _ (u : Buffer) (opens landed : Bool) (h p : ℕ) (s : Turns) where
  pub oldest_is : oldest_buffer (held_turns u opens landed (suc h) p s) ≡ u
  unfolding oldest_buffer
  oldest_is = rw ((parts u opens landed (suc h) p s).tags, first_tag u h) (oldest_in u)

  opens_is : oldest_opens (held_turns u opens landed (suc h) p s) ≡ (opens && not landed)
  unfolding oldest_opens
  opens_is = rw (parts u opens landed (suc h) p s).opening (first_opening (opens && not landed) h)

-- A landing in a frame that goes on.
goes_on : (n : ℕ) (t : Turns) → t.opening ≡ 0 → t.begun ≡ true → last_of_frame n t ≡ false
unfolding last_of_frame
goes_on n t e b = rw (e, b) (either (λ (x : Bool). x ≡ false) (ltb 0 n) refl refl)

opened_begun : (u : Buffer) (b : Bool) (t : Turns) → (cond b (with_content u Landing t) t).begun ≡ t.begun
unfolding with_content
opened_begun A true t = refl
opened_begun B true t = refl
opened_begun u false t = refl

landed_on : (n : ℕ) (t : Turns) → t.opening / 2 ≡ 0 → t.begun ≡ true
    → word_landed n t ≡ with_tags (t.in_b / 2) (t.opening / 2) (cond (oldest_opens t) (with_content (oldest_buffer t) Landing t) t)
unfolding word_landed with_tags
landed_on n t e b = rw (goes_on (n - 1) (with_tags (t.in_b / 2) (t.opening / 2) (cond (oldest_opens t) (with_content (oldest_buffer t) Landing t) t)) e (opened_begun (oldest_buffer t) (oldest_opens t) t ∙ b))

landing_parts : (h p : ℕ) (s : Turns) (u : Buffer) (opens landed : Bool)
    → place_b u true (p + 1) (with_tags (tags_in u h) 0 (cond (opens && not landed) (with_content u Landing (held_turns u opens landed (suc h) p s)) (held_turns u opens landed (suc h) p s)))
    ≡ held_turns u opens true h (p + 1) s
unfolding place_b with_tags with_content with_place_b opening_in
landing_parts h p s A true true = refl
landing_parts h p s A true false = refl
landing_parts h p s A false true = refl
landing_parts h p s A false false = refl
landing_parts h p s B true true = refl
landing_parts h p s B true false = refl
landing_parts h p s B false true = refl
landing_parts h p s B false false = refl

pub landing_turns : (u : Buffer) (opens landed : Bool) (h p : ℕ) (s : Turns) → s.begun ≡ true
    → place_b u true (p + 1) (word_landed (suc h) (held_turns u opens landed (suc h) p s)) ≡ held_turns u opens true h (p + 1) s
landing_turns u opens landed h p s b =
    let t = held_turns u opens landed (suc h) p s in
    let f = parts u opens landed (suc h) p s in
    let half = ap (λ (n : ℕ). n / 2) f.opening ∙ no_more_opening (opens && not landed) (suc h) in
    let less = ap (λ (n : ℕ). n / 2) f.tags ∙ half_tags u h in
    rw (landed_on (suc h) t half (f.begun ∙ b), opens_is u opens landed h p s, oldest_is u opens landed h p s, half, less) (landing_parts h p s u opens landed)

-- The place at which the oldest lands.
lands_parts : (h p a : ℕ) (s : Turns) (u : Buffer) (opens landed : Bool) → (landed ≡ false → p ≡ cond opens 0 (next_place a u s))
    → cond (opens && not landed) 0 (next_place (place_a u landed p a) u (held_turns u opens landed (suc h) p s)) ≡ p
unfolding place_a place_b with_tags with_content with_place_b
lands_parts h p a s A true true e = refl
lands_parts h p a s A true false e = sym (e refl)
lands_parts h p a s A false true e = refl
lands_parts h p a s A false false e = sym (e refl)
lands_parts h p a s B true true e = refl
lands_parts h p a s B true false e = sym (e refl)
lands_parts h p a s B false true e = refl
lands_parts h p a s B false false e = sym (e refl)

pub lands_at : (u : Buffer) (opens landed : Bool) (h p a : ℕ) (s : Turns) → (landed ≡ false → p ≡ cond opens 0 (next_place a u s))
    → oldest_place (place_a u landed p a) (held_turns u opens landed (suc h) p s) ≡ p
unfolding oldest_place
lands_at u opens landed h p a s e = rw (opens_is u opens landed h p s, oldest_is u opens landed h p s) (lands_parts h p a s u opens landed e)

-- A word more, in the frame or as its first.
more_opening : (opens : Bool) (h : ℕ) → (opens ≡ true → 0 < h) → opening_in opens h ≡ opening_in opens (h + 1)
unfolding opening_in
more_opening true h pos = rw (lt-ltb 0 h (pos refl), lt-ltb 0 (h + 1) (omega arith))
more_opening false h pos = refl

pub again_first : (t : Turns) → t.begun ≡ true → first_word t ≡ t
unfolding first_word
again_first t e = rw e

word_parts : (h p : ℕ) (s : Turns) (u : Buffer) (opens landed : Bool)
    → with_tags (tags_in u (h + 1)) (opening_in (opens && not landed) (h + 1)) (held_turns u opens landed h p s) ≡ held_turns u opens landed (h + 1) p s
unfolding place_b with_tags with_content with_place_b
word_parts h p s A true true = refl
word_parts h p s A true false = refl
word_parts h p s A false true = refl
word_parts h p s A false false = refl
word_parts h p s B true true = refl
word_parts h p s B true false = refl
word_parts h p s B false true = refl
word_parts h p s B false false = refl

pub held_more : (h : ℕ) (t : Turns) {u : Buffer} {x y : ℕ} → t.begun ≡ true → t.turn ≡ u → cond (is_b u) (t.in_b + 2 ^ h) t.in_b ≡ x → t.opening ≡ y
    → word_held h t ≡ with_tags x y t
unfolding word_held
held_more h t b turn tags opening = rw (again_first t b, b, turn, tags, opening)

pub word_turns : (u : Buffer) (opens landed : Bool) (h p : ℕ) (s : Turns) → s.begun ≡ true → s.turn ≡ u → (opens && not landed ≡ true → 0 < h)
    → word_held h (held_turns u opens landed h p s) ≡ held_turns u opens landed (h + 1) p s
word_turns u opens landed h p s b turn pos =
    let t = held_turns u opens landed h p s in
    let f = parts u opens landed h p s in
    held_more h t (f.begun ∙ b) (f.turn ∙ turn) (ap (λ (n : ℕ). cond (is_b u) (n + 2 ^ h) n) f.tags ∙ more_tags u h) (f.opening ∙ more_opening (opens && not landed) h pos)
    ∙ word_parts h p s u opens landed

pub first_turns : (u : Buffer) (p : ℕ) (s : Turns) → s.begun ≡ false → other s.turn ≡ u
    → word_held 0 (held_turns u true false 0 p s) ≡ held_turns u true false 1 p (first_word s)
unfolding word_held first_word place_b with_tags with_content with_place_b with_turn tags_in opening_in
first_turns A p s b turn = rw (b, turn)
first_turns B p s b turn = rw (b, turn)

-- A word is lost.
abbrev pub lost_turns : Buffer → Bool → Bool → ℕ → Turns → Turns
lost_turns u opens landed p s = place_b u landed p (discarded (kept_content u opens landed s))

lost_parts : (h p : ℕ) (s : Turns) (u : Buffer) (opens landed : Bool) → discarded (held_turns u opens landed h p s) ≡ lost_turns u opens landed p s
unfolding discarded place_b with_tags with_content with_place_b with_turn
lost_parts h p s A true true = refl
lost_parts h p s A true false = refl
lost_parts h p s A false true = refl
lost_parts h p s A false false = refl
lost_parts h p s B true true = refl
lost_parts h p s B true false = refl
lost_parts h p s B false true = refl
lost_parts h p s B false false = refl

pub lost_later : (u : Buffer) (opens landed : Bool) (h p : ℕ) (s : Turns) → s.begun ≡ true
    → word_lost (held_turns u opens landed h p s) ≡ lost_turns u opens landed p s
unfolding word_lost
lost_later u opens landed h p s b = rw (again_first (held_turns u opens landed h p s) ((parts u opens landed h p s).begun ∙ b)) (lost_parts h p s u opens landed)

pub lost_first : (u : Buffer) (opens : Bool) (h p : ℕ) (s : Turns) → s.begun ≡ false
    → word_lost (held_turns u opens false h p s) ≡ lost_turns u opens false p (first_word s)
unfolding word_lost first_word discarded place_b with_tags with_content with_place_b with_turn
lost_first A true h p s b = rw b
lost_first A false h p s b = rw b
lost_first B true h p s b = rw b
lost_first B false h p s b = rw b
