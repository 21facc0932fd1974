-- With two buffers (W2), what is kept tells of the words that have not landed their buffers and which of them open a frame, and where the first of them lands (`Tagged`); a landing, a word and the
-- end of a frame keep that. The idea: these are the only events while no word is lost and ERR does not rise. Assumes nothing.
use mathlib.Core.Bool.{Bool, true, false, cond}
use mathlib.Core.List.{List, [], ◌∷◌, ◌++◌, map, map-append}
use mathlib.Core.Path.{◌≡◌, refl, sym, ap, ◌∙◌}
use Prim.Native.Nat.{ℕ, ◌+◌, ◌/◌, ◌^◌, ◌<◌}
use native.Mathlib.Omega.{arith}
use lib.Dec.{eqb, ltb}
use lib.ListN.{length, length-append, length-map}
use borrow.Author.Tests.{eqb-true, eqb-false, lt-ltb}
use Rattle.bits.specs.Bits.{bit}
use Rattle.bits.proofs.Booleans.{by_cond}
use Rattle.buffers.specs.declared.Buffer.{Buffer}
use Rattle.buffers.specs.declared.Buffer.TheVariants.{A, B}
use Rattle.buffers.specs.Turns.{other, word_held, oldest_buffer, oldest_opens, next_place, oldest_place}
use Rattle.buffers.specs.Story.{held, landed, ended}
use Rattle.buffers.specs.Kept.{Kept, keep, place_in}
use Rattle.buffers.proofs.Tags.{Tag, tag, in_b, opening, weigh, weigh_append, weigh_first, weigh_rest}
use Rattle.buffers.proofs.Told.{oldest_is}
use Rattle.delivery.specs.Noted.{Turn, word_turn, Noted}
use Rattle.delivery.proofs.Views.{View, view, view_ended, view_held, view_lands, held_lands, place_lands}
use Rattle.delivery.proofs.Chain.{Comes, opens, continues, next, Chain, chain_word, chain_end}

-- A word's tag.
abbrev tag_of : Noted → Tag
tag_of n = tag n.turn.buffer (eqb n.turn.number 0)

abbrev tags : List Noted → List Tag
tags ns = map tag_of ns

-- Of the words ns that have not landed; l is where the next word of the last landed one's frame lands, and t the turn.
pub record Tagged (k : Kept) (l : Turn) (ns : List Noted) (t : Turn) : Type 0 where
  pub held : k.held ≡ length ns
  pub in_b : k.turns.in_b ≡ weigh in_b (tags ns)
  pub opening : k.turns.opening ≡ weigh opening (tags ns)
  pub turn : k.turns.turn ≡ t.buffer
  pub begun : k.turns.begun ≡ ltb 0 t.number
  pub place : place_in l.buffer k ≡ l.number
  pub chain : Chain true l ns t

pos : (n : ℕ) → (n ≡ 0 → ⊥) → 0 < n
pos n h = omega (arith, h)

zero_or : (n : ℕ) → cond (eqb n 0) 0 n ≡ n
zero_or n = by_cond (λ m. m ≡ n) (eqb n 0) 0 n (λ e. sym (eqb-true n 0 e)) (λ e. refl)

same_place : (u : Buffer) (k : Kept) → next_place k.place_a u k.turns ≡ place_in u k
same_place A k = refl
same_place B k = refl

module _ (k : Kept) (l : Turn) (n : Noted) (ns : List Noted) (t : Turn) (g : Tagged k l (n ∷ ns) t) where
  -- The oldest held word lands in its buffer, at its number.
  pub oldest_in : oldest_buffer k.turns ≡ n.turn.buffer
  oldest_in = oldest_is k.turns n.turn.buffer (ap (bit 0) g.in_b ∙ weigh_first in_b (tag_of n) (tags ns))

  opens_as : oldest_opens k.turns ≡ eqb n.turn.number 0
  unfolding oldest_opens
  opens_as = ap (bit 0) g.opening ∙ weigh_first opening (tag_of n) (tags ns)

  pub oldest_at : oldest_place k.place_a k.turns ≡ n.turn.number
  unfolding oldest_place
  oldest_at = rw (opens_as, oldest_in, same_place n.turn.buffer k) (go g.chain.0)
    where
      go : Comes true l n.turn → cond (eqb n.turn.number 0) 0 (place_in n.turn.buffer k) ≡ n.turn.number
      go (opens e z) = rw z
      go (continues e) =
          let here : place_in n.turn.buffer k ≡ n.turn.number = ap (λ (u : Turn). place_in u.buffer k) e ∙ g.place ∙ ap (λ (u : Turn). u.number) (sym e) in
          rw here (zero_or n.turn.number)

  -- It lands.
  pub lands : Tagged (keep k landed) (next n.turn) ns t
  unfolding keep
  lands =
      let u = n.turn.buffer in
      let p = n.turn.number in
      let v = view_lands u p k in
      rw (lt-ltb 0 k.held (omega (arith, g.held)), oldest_in, oldest_at)
      (record {
        held = held_lands u p k ∙ omega (arith, g.held);
        in_b = ap (λ (v : View). v.in_b) v ∙ ap (λ x. x / 2) g.in_b ∙ weigh_rest in_b (tag_of n) (tags ns);
        opening = ap (λ (v : View). v.opening) v ∙ ap (λ x. x / 2) g.opening ∙ weigh_rest opening (tag_of n) (tags ns);
        turn = ap (λ (v : View). v.turn) v ∙ g.turn;
        begun = ap (λ (v : View). v.begun) v ∙ g.begun;
        place = place_lands u p k;
        chain = g.chain.1;
      })

weigh_last : (p : Tag → Bool) (ns : List Noted) (n : Noted)
    → weigh p (tags (ns ++ n ∷ [])) ≡ cond (p (tag_of n)) (weigh p (tags ns) + 2 ^ length ns) (weigh p (tags ns))
weigh_last p ns n = rw (map-append tag_of ns (n ∷ []), ← length-map ns tag_of) (weigh_append p (tags ns) (tag_of n))

kept_place : (u : Buffer) (k x : Kept) → x.place_a ≡ k.place_a → x.turns.place ≡ k.turns.place → place_in u x ≡ place_in u k
kept_place A k x a b = a
kept_place B k x a b = b

-- A word is noted, and held.
pub holds : (k : Kept) (l : Turn) (ns : List Noted) (n : Noted) (t : Turn) → n.turn ≡ word_turn true t → Tagged k l ns t
    → Tagged (keep k (held n.word)) l (ns ++ n ∷ []) (next n.turn)
unfolding keep word_turn
holds k l ns n t e g = go (eqb t.number 0) refl
  where
    so : (v : View) → view (word_held k.held k.turns) ≡ v → v.in_b ≡ weigh in_b (tags (ns ++ n ∷ [])) → v.opening ≡ weigh opening (tags (ns ++ n ∷ []))
        → v.place ≡ k.turns.place → v.turn ≡ n.turn.buffer → v.begun ≡ true → Tagged (keep k (held n.word)) l (ns ++ n ∷ []) (next n.turn)
    so v is b o p u r =
        record {
          held = rw length-append (omega (arith, g.held));
          in_b = ap (λ (v : View). v.in_b) is ∙ b;
          opening = ap (λ (v : View). v.opening) is ∙ o;
          turn = ap (λ (v : View). v.turn) is ∙ u;
          begun = ap (λ (v : View). v.begun) is ∙ r ∙ sym (lt-ltb 0 (n.turn.number + 1) (omega arith));
          place = kept_place l.buffer k (keep k (held n.word)) refl (ap (λ (v : View). v.place) is ∙ p) ∙ g.place;
          chain = chain_word true l t ns n e g.chain;
        }

    go : (b : Bool) → eqb t.number 0 ≡ b → Tagged (keep k (held n.word)) l (ns ++ n ∷ []) (next n.turn)
    go true z =
        let idle : k.turns.begun ≡ false = g.begun ∙ rw (eqb-true t.number 0 z) in
        let is : n.turn ≡ record { buffer = other t.buffer; number = 0 } = e ∙ rw z in
        so _ (view_held k.held k.turns false idle)
        (rw (weigh_last in_b ns n, is, g.in_b, g.turn, g.held))
        (rw (weigh_last opening ns n, is, g.opening, g.held))
        refl (rw (is, g.turn)) refl
    go false z =
        let busy : k.turns.begun ≡ true = g.begun ∙ lt-ltb 0 t.number (pos t.number (eqb-false t.number 0 z)) in
        let is : n.turn ≡ t = e ∙ rw z in
        so _ (view_held k.held k.turns true busy)
        (rw (weigh_last in_b ns n, is, g.in_b, g.turn, g.held))
        (rw (weigh_last opening ns n, is, z, g.opening))
        refl (rw (is, g.turn)) refl

-- The frame ends.
pub ends : (k : Kept) (l : Turn) (ns : List Noted) (t : Turn) → Tagged k l ns t → Tagged (keep k ended) l ns (record { buffer = t.buffer; number = 0 })
unfolding keep
ends k l ns t g =
    let v = view_ended k.held k.turns in
    record {
      held = g.held;
      in_b = ap (λ (v : View). v.in_b) v ∙ g.in_b;
      opening = ap (λ (v : View). v.opening) v ∙ g.opening;
      turn = ap (λ (v : View). v.turn) v ∙ g.turn;
      begun = ap (λ (v : View). v.begun) v;
      place = kept_place l.buffer k (keep k ended) refl (ap (λ (v : View). v.place) v) ∙ g.place;
      chain = chain_end l t ns g.chain;
    }

-- The number of held words, from elsewhere.
pub retold : (h : ℕ) (k : Kept) (l : Turn) (ns : List Noted) (t : Turn) → h ≡ length ns → Tagged k l ns t
    → Tagged (record { turns = k.turns; place_a = k.place_a; held = h }) l ns t
retold h k l ns t e g =
    record {
      held = e;
      in_b = g.in_b;
      opening = g.opening;
      turn = g.turn;
      begun = g.begun;
      place = kept_place l.buffer k (record { turns = k.turns; place_a = k.place_a; held = h }) refl refl ∙ g.place;
      chain = g.chain;
    }
