-- Output and frame buffer beside a queue: rule 1 does to them what `leave` does to the queue, and rule 9, where a word finds room, what `arrive` does.
use mathlib.Core.Bool.{Bool, true, false}
use mathlib.Core.List.{List, [], ◌∷◌, ◌++◌}
use Rattle.std.specs.Prelude.{Option, None, Some}
use mathlib.Core.Path.{◌≡◌, refl, ap, ◌∙◌}
use Prim.Native.Nat.{ℕ, ◌+◌, ◌*◌, ◌-◌, ◌≤◌, ◌<◌}
use native.Mathlib.Omega.{arith}
use lib.ListN.{length, length-append}
use borrow.Author.Tests.{lt-ltb}
use Rattle.bits.proofs.Booleans.{either}
use Rattle.output.specs.declared.Fate.TheVariants.{Held}
use Rattle.output.specs.Output.{OutputState, contents, push, with_held, holding, with_counts, with_place, count_sample, count_word, count_landed, room, Granted, no_landing, lands, oldest_lands, grant, Offered, offer}
use Rattle.output.proofs.Contents.{contents_holding}
use Rattle.queue.specs.Queue.{Input, Queue, leave, arrive, sample}
use Rattle.landing.specs.Landing.{Out, first_rule, take_in, put}
use Rattle.landing.proofs.Buffer.{filled, filled_room, filled_stored}

-- The output has the queue's depth (W9), the frame buffer was first lent as b₀, and the queue has lost nothing.
pub record Beside (d : ℕ) (b₀ : List ℕ) (q : Queue ℕ) (x : OutputState) (b : List ℕ) : Type 0 where
  pub depth : x.output.depth ≡ d
  pub contents : contents x ≡ q.held
  pub held : x.output.held ≡ length q.held
  pub place : x.output.place ≡ length q.left
  pub landed : x.output.counts.landed ≡ length q.left
  pub completed : x.output.counts.completed ≡ length q.left + length q.held
  pub discarded : x.output.counts.discarded ≡ 0
  pub buffer : b ≡ filled q.left b₀
  pub lost : q.lost ≡ 0

module _ {depth : ℕ} {b₀ l : List ℕ} {n : ℕ} {x : OutputState} {b : List ℕ} where
  -- Rule 1 with a word that lands.
  lands_beside : {v : ℕ} {vs : List ℕ} → Beside depth b₀ (record { left = l; held = v ∷ vs; lost = n }) x b
      → Beside depth b₀ (record { left = l ++ v ∷ []; held = vs; lost = n }) (lands v vs x.output b).state (lands v vs x.output b).buffer
  unfolding lands holding with_held count_landed with_place with_counts
  lands_beside {v} {vs} r =
      record {
        depth = r.depth;
        contents = contents_holding (x.output.held - 1) vs (count_landed x.output) (omega arith);
        held = omega arith;
        place = rw length-append (omega arith);
        landed = rw length-append (omega arith);
        completed = rw length-append (omega arith);
        discarded = r.discarded;
        buffer = rw (r.place, r.buffer) (filled_stored l v b₀);
        lost = r.lost;
      }

  -- Rule 1.
  grant_beside : (g on : Bool) (o : Option ℕ) (h : List ℕ) → (0 < length h → on ≡ true) → 4 * (length l + length h) ≤ length b₀
      → Beside depth b₀ (record { left = l; held = h; lost = n }) x b
      → Beside depth b₀ (leave (record { grant = g; word = o }) (record { left = l; held = h; lost = n })) (grant g on x b).state (grant g on x b).buffer
  unfolding grant leave oldest_lands no_landing
  grant_beside false on o h enabled space r = r
  grant_beside true on o [] enabled space r =
      rw r.contents (either (λ (y : Granted). Beside depth b₀ (record { left = l; held = []; lost = n }) y.state y.buffer) on r r)
  grant_beside true on o (v ∷ vs) enabled space r =
      let here : room x.output.place b ≡ true = rw (r.place, r.buffer) (filled_room l b₀ (omega arith)) in
      rw (enabled (omega arith), r.contents, here) (lands_beside r)

-- Rule 9 for a word that finds room.
pub offer_held : (v : ℕ) (x : OutputState) → x.output.held < x.output.depth
    → offer v x ≡ record { state = holding (x.output.held + 1) (push v (contents x)) (count_word x.output); fate = Held }
unfolding offer
offer_held v x space = rw (lt-ltb x.output.held x.output.depth space)

take_in_beside : {depth : ℕ} {b₀ : List ℕ} {q : Queue ℕ} {x : OutputState} {b : List ℕ} (g : Bool) (o : Option ℕ)
    → ((v : ℕ) → o ≡ Some v → length q.held < depth) → Beside depth b₀ q x b
    → Beside depth b₀ (arrive depth (record { grant = g; word = o }) q) (take_in o x) b
unfolding arrive take_in holding with_held count_word with_counts
take_in_beside g None space r = r
take_in_beside {depth} {q = q} {x = x} g (Some v) space r =
    let fewer = space v refl in
    let is : take_in (Some v) x ≡ _ = ap (λ (r : Offered). r.state) (offer_held v x (omega arith)) in
    let long : length (contents x ++ v ∷ []) ≡ x.output.held + 1 = rw (r.contents, length-append) (omega arith) in
    rw (lt-ltb (length q.held) depth fewer, is)
    (record {
      depth = r.depth;
      contents = contents_holding _ _ (count_word x.output) long ∙ ap (λ (vs : List ℕ). vs ++ v ∷ []) r.contents;
      held = rw length-append (omega arith);
      place = r.place;
      landed = r.landed;
      completed = rw length-append (omega arith);
      discarded = r.discarded;
      buffer = r.buffer;
      lost = r.lost;
    })

-- One sample: what rule 1 leaves, and the whole.
module _ {depth : ℕ} {b₀ : List ℕ} {q : Queue ℕ} (on : Bool) (o : Out) (i : Input ℕ) (enabled : 0 < length q.held → on ≡ true)
    (space : 4 * (length q.left + length q.held) ≤ length b₀) (r : Beside depth b₀ q o.state o.buffer) where
  pub rule_beside : Beside depth b₀ (leave i q) (first_rule on o i).state (first_rule on o i).buffer
  unfolding count_sample with_counts contents
  rule_beside =
      grant_beside i.grant on i.word q.held enabled space
      (record {
        depth = r.depth;
        contents = r.contents;
        held = r.held;
        place = r.place;
        landed = r.landed;
        completed = r.completed;
        discarded = r.discarded;
        buffer = r.buffer;
        lost = r.lost;
      })

  pub put_beside : ((v : ℕ) → i.word ≡ Some v → length (leave i q).held < depth) → Beside depth b₀ (sample depth q i) (put on o i).state (put on o i).buffer
  unfolding sample put
  put_beside finds = take_in_beside i.grant i.word finds rule_beside
