-- With two buffers (W2), what a landing, a word and the end of a frame do to what is kept, but for the frames that have landed (`View`). By cases. Assumes nothing.
use mathlib.Core.Bool.{Bool, true, false, cond}
use mathlib.Core.Path.{◌≡◌, refl, ap, ◌∙◌}
use Prim.Native.Nat.{ℕ, ◌+◌, ◌-◌, ◌/◌, ◌^◌}
use lib.Dec.{ltb}
use Rattle.bits.proofs.Booleans.{either}
use Rattle.buffers.specs.declared.Buffer.{Buffer}
use Rattle.buffers.specs.declared.Buffer.TheVariants.{A, B}
use Rattle.buffers.specs.declared.Content.{Content}
use Rattle.buffers.specs.declared.Content.TheVariants.{Landing, Complete}
use Rattle.buffers.specs.declared.Turns.{Turns}
use Rattle.buffers.specs.Turns.{other, is_b, with_turn, with_tags, with_place_b, with_latest, content, with_content, first_word, word_held, oldest_buffer, oldest_opens, is_landing, frame_over, last_of_frame, word_landed, frame_ended}
use Rattle.buffers.specs.Kept.{Kept, landed_at, place_in}

-- What is kept, but for the frames that have landed.
pub record View : Type 0 where
  pub in_b : ℕ
  pub opening : ℕ
  pub place : ℕ
  pub turn : Buffer
  pub begun : Bool

abbrev pub view : Turns → View
view t = record { in_b = t.in_b; opening = t.opening; place = t.place; turn = t.turn; begun = t.begun }

view_content : (u : Buffer) (c : Content) (t : Turns) → view (with_content u c t) ≡ view t
unfolding with_content
view_content A c t = refl
view_content B c t = refl

view_over : (u : Buffer) (t : Turns) → view (frame_over u t) ≡ view t
unfolding frame_over with_latest
view_over u t = either (λ r. view r ≡ view t) (is_landing (content u t)) (view_content u Complete t) refl

view_landed : (h : ℕ) (t : Turns) → view (word_landed h t) ≡ record { in_b = t.in_b / 2; opening = t.opening / 2; place = t.place; turn = t.turn; begun = t.begun }
unfolding word_landed with_tags
view_landed h t =
    let u = oldest_buffer t in
    let l = with_tags (t.in_b / 2) (t.opening / 2) (cond (oldest_opens t) (with_content u Landing t) t) in
    let whole = either (λ r. view r ≡ view t) (oldest_opens t) (view_content u Landing t) refl in
    let tags : view l ≡ _ = ap {B = View} (λ (v : View). record { in_b = t.in_b / 2; opening = t.opening / 2; place = v.place; turn = v.turn; begun = v.begun }) whole in
    either (λ r. view r ≡ view l) (last_of_frame (h - 1) l) (view_over u l) refl ∙ tags

pub view_ended : (h : ℕ) (t : Turns) → view (frame_ended h t) ≡ record { in_b = t.in_b; opening = t.opening; place = t.place; turn = t.turn; begun = false }
unfolding frame_ended with_turn
view_ended h t =
    ap {B = View} (λ (v : View). record { in_b = v.in_b; opening = v.opening; place = v.place; turn = t.turn; begun = false })
    (either (λ r. view r ≡ view t) t.begun (either (λ r. view r ≡ view t) (ltb 0 h) refl (view_over t.turn t)) refl)

-- A word is held: of the open frame, or of a new one.
pub view_held : (h : ℕ) (t : Turns) (b : Bool) → t.begun ≡ b
    → view (word_held h t)
    ≡ cond b
    (record { in_b = cond (is_b t.turn) (t.in_b + 2 ^ h) t.in_b; opening = t.opening; place = t.place; turn = t.turn; begun = true })
    (record { in_b = cond (is_b (other t.turn)) (t.in_b + 2 ^ h) t.in_b; opening = t.opening + 2 ^ h; place = t.place; turn = other t.turn; begun = true })
unfolding word_held first_word with_turn with_tags
view_held h t true e = rw e
view_held h t false e = rw e

-- A landing in a buffer, at a place.
pub view_lands : (u : Buffer) (p : ℕ) (k : Kept)
    → view (landed_at u p k).turns
    ≡ record {
      in_b = k.turns.in_b / 2;
      opening = k.turns.opening / 2;
      place = cond (is_b u) (p + 1) k.turns.place;
      turn = k.turns.turn;
      begun = k.turns.begun;
    }
unfolding landed_at with_place_b
view_lands A p k = view_landed k.held k.turns
view_lands B p k =
    ap {B = View} (λ (v : View). record { in_b = v.in_b; opening = v.opening; place = p + 1; turn = v.turn; begun = v.begun })
    (view_landed k.held k.turns)

pub held_lands : (u : Buffer) (p : ℕ) (k : Kept) → (landed_at u p k).held ≡ k.held - 1
unfolding landed_at
held_lands A p k = refl
held_lands B p k = refl

pub place_lands : (u : Buffer) (p : ℕ) (k : Kept) → place_in u (landed_at u p k) ≡ p + 1
unfolding landed_at with_place_b
place_lands A p k = refl
place_lands B p k = refl
