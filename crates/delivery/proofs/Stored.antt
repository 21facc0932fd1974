-- A memory with noted words stored in it: one more word; its length; and that the last word stored at some bytes stands there (`stands`). The idea: two words of one buffer share all bytes or none.
-- Assumes nothing.
use mathlib.Core.Bool.{true, cond}
use mathlib.Core.List.{List, [], ◌∷◌, ◌++◌, append_assoc}
use mathlib.Core.Path.{◌≡◌, refl, sym, ap, ◌∙◌}
use Prim.Native.Nat.{ℕ, ◌+◌, ◌-◌, ◌*◌, ◌≤◌}
use native.Mathlib.Omega.{arith}
use native.Mathlib.Decide.{dec_le}
use lib.ListN.{length, take, drop, length-append, length-drop, take-append-drop}
use lib.Seq.{length-take-le, take-append-le, drop-append-le, drop-append-add, take_at, drop_at, drop-drop, take-add}
use borrow.Author.Tests.{eqb-false}
use Rattle.bits.proofs.Booleans.{by_cond}
use Rattle.buffers.specs.declared.Buffer.{Buffer}
use Rattle.buffers.specs.declared.Buffer.TheVariants.{A, B}
use Rattle.buffers.specs.Story.{same_buffer}
use Rattle.numbers.specs.Numbers.{little}
use Rattle.numbers.proofs.Numbers.{length_little}
use Rattle.output.specs.Output.{bytes, stored}
use Rattle.delivery.specs.Noted.{Noted}
use Rattle.delivery.specs.Placed.{with_word, standing_at, with_noted}
use Rattle.delivery.specs.Delivery.{All, Elsewhere}
use Rattle.delivery.proofs.Alls.{all_first, all_last}

-- A word stored in the frame buffer, as one stored in the memory.
pub refilled_word : (start p v : ℕ) (memory : List ℕ) → take start memory ++ stored p v (drop start memory) ≡ with_word (start + 4 * p) v memory
unfolding stored with_word
refilled_word start p v memory =
    let e : start + 4 * p + 4 ≡ start + (4 * p + 4) = omega arith in
    let here = take (4 * p) (drop start memory) in
    let rest = drop (4 * p + 4) (drop start memory) in
    rw (
      e,
      take-add start (4 * p) memory,
      ← drop-drop (4 * p + 4) start memory,
      append_assoc here (bytes v) rest,
      append_assoc (take start memory ++ here) (bytes v) rest,
      append_assoc (take start memory) here (bytes v ++ rest),
    )

pub same_self : (u : Buffer) → same_buffer u u ≡ true
same_self A = refl
same_self B = refl

pub with_noted_append : (u : Buffer) (start : ℕ) (ns ms : List Noted) (memory : List ℕ)
    → with_noted u start (ns ++ ms) memory ≡ with_noted u start ms (with_noted u start ns memory)
unfolding with_noted
with_noted_append u start [] ms memory = refl
with_noted_append u start (n ∷ ns) ms memory = with_noted_append u start ns ms _

-- Lengths: a word of this buffer has its bytes in a memory of so many.
abbrev pub Within : Buffer → ℕ → ℕ → Noted → Type 0
Within u start size w = same_buffer u w.turn.buffer ≡ true → standing_at start w + 4 ≤ size

module _ (at v : ℕ) (memory : List ℕ) (space : at + 4 ≤ length memory) where
  front : length (take at memory) ≡ at
  front = length-take-le at memory (omega arith)

  with_word_length : length (with_word at v memory) ≡ length memory
  unfolding with_word little
  with_word_length = rw (length-append, length-append, front, length-drop) (omega arith)

  -- The word stands at its bytes, and four bytes before or behind them are as they were.
  with_word_there : take 4 (drop at (with_word at v memory)) ≡ bytes v
  unfolding with_word
  with_word_there = rw (append_assoc, drop_at (take at memory) _ at front) (take_at (bytes v) _ 4 (length_little 4 v))

  early : (p q : List ℕ) (a : ℕ) → a + 4 ≤ length p → take 4 (drop a (p ++ q)) ≡ take 4 (drop a p)
  early p q a h = rw (drop-append-le a p q (omega arith)) (take-append-le 4 (drop a p) q (rw length-drop (omega arith)))

  with_word_before : (a : ℕ) → a + 4 ≤ at → take 4 (drop a (with_word at v memory)) ≡ take 4 (drop a memory)
  unfolding with_word
  with_word_before a h =
      rw append_assoc (early (take at memory) _ a (rw front h))
      ∙ sym (early (take at memory) (drop at memory) a (rw front h))
      ∙ ap (λ (m : List ℕ). take 4 (drop a m)) (take-append-drop at memory)

  with_word_behind : (a : ℕ) → at + 4 ≤ a → take 4 (drop a (with_word at v memory)) ≡ take 4 (drop a memory)
  unfolding with_word little
  with_word_behind a h =
      let k : ℕ = a - (at + 4) in
      let p = take at memory ++ bytes v in
      let long : length p ≡ at + 4 = rw (length-append, front) in
      let is : a ≡ at + 4 + k = omega arith in
      let is_p : a ≡ length p + k = is ∙ ap (λ (n : ℕ). n + k) (sym long) in
      ap (λ (n : ℕ). take 4 (drop n (p ++ drop (at + 4) memory))) is_p
      ∙ rw drop-append-add (ap (λ (m : List ℕ). take 4 m) (drop-drop k (at + 4) memory) ∙ ap (λ (n : ℕ). take 4 (drop n memory)) (sym is))

-- The bytes of a word stay where no word of its buffer and number is stored.
module _ (u : Buffer) (start size : ℕ) where
  abbrev Sized : List ℕ → Type 0
  Sized m = length m ≡ size

  one_sized : (n : Noted) (m : List ℕ) → Within u start size n → Sized m
      → Sized (cond (same_buffer u n.turn.buffer) (with_word (standing_at start n) n.word m) m)
  one_sized n m inside e =
      by_cond Sized (same_buffer u n.turn.buffer) _ _ (λ t. with_word_length (standing_at start n) n.word m (omega (arith, inside t)) ∙ e) (λ t. e)

  pub with_noted_length : (ns : List Noted) (m : List ℕ) → All (Within u start size) ns → Sized m → Sized (with_noted u start ns m)
  unfolding with_noted
  with_noted_length [] m inside e = e
  with_noted_length (n ∷ ns) m inside e = with_noted_length ns _ inside.1 (one_sized n m inside.0 e)

  one_stays : (w n : Noted) (m : List ℕ) → w.turn.buffer ≡ u → Elsewhere w n → Within u start size n → Sized m
      → take 4 (drop (standing_at start w) (cond (same_buffer u n.turn.buffer) (with_word (standing_at start n) n.word m) m)) ≡ take 4 (drop (standing_at start w) m)
  one_stays w n m own other inside e =
      by_cond (λ (r : List ℕ). take 4 (drop (standing_at start w) r) ≡ take 4 (drop (standing_at start w) m)) (same_buffer u n.turn.buffer) _ _
      (λ t.
      let differ = eqb-false w.turn.number n.turn.number (rw (own, t) at other) in
      let space : standing_at start n + 4 ≤ length m = omega (arith, inside t) in
      go (dec_le (w.turn.number + 1) n.turn.number) differ space)
      (λ t. refl)
    where
      go : Dec (w.turn.number + 1 ≤ n.turn.number) → (w.turn.number ≡ n.turn.number → ⊥) → standing_at start n + 4 ≤ length m
          → take 4 (drop (standing_at start w) (with_word (standing_at start n) n.word m)) ≡ take 4 (drop (standing_at start w) m)
      go (yes h) differ space = with_word_before (standing_at start n) n.word m space (standing_at start w) (omega arith)
      go (no h) differ space = with_word_behind (standing_at start n) n.word m space (standing_at start w) (omega arith)

  all_stay : (w : Noted) (ns : List Noted) (m : List ℕ) → w.turn.buffer ≡ u → All (Elsewhere w) ns → All (Within u start size) ns → Sized m
      → take 4 (drop (standing_at start w) (with_noted u start ns m)) ≡ take 4 (drop (standing_at start w) m)
  unfolding with_noted
  all_stay w [] m own others inside e = refl
  all_stay w (n ∷ ns) m own others inside e =
      all_stay w ns _ own others.1 inside.1 (one_sized n m inside.0 e) ∙ one_stays w n m own others.0 inside.0 e

  -- The last word stored at its bytes stands there.
  pub stands : (before : List Noted) (w : Noted) (after : List Noted) (m : List ℕ) → w.turn.buffer ≡ u → All (Elsewhere w) after
      → All (Within u start size) (before ++ w ∷ after) → Sized m
      → take 4 (drop (standing_at start w) (with_noted u start (before ++ w ∷ after) m)) ≡ bytes w.word
  unfolding with_noted
  stands before w after m own others inside e =
      let mine : same_buffer u w.turn.buffer ≡ true = rw own (same_self u) in
      let now = with_noted u start before m in
      let long = with_noted_length before m (all_first (Within u start size) before (w ∷ after) inside) e in
      let (here, behind) = all_last (Within u start size) before (w ∷ after) inside in
      rw (with_noted_append u start before (w ∷ after) m, mine)
      (all_stay w after (with_word (standing_at start w) w.word now) own others behind (with_word_length _ _ now (omega (arith, here mine)) ∙ long)
      ∙ with_word_there (standing_at start w) w.word now (omega (arith, here mine)))
