-- The frame that the story finds in a buffer is of that buffer and has counts that fit; the latest complete frame is the one in its buffer, and complete (`latest_there`); and where a frame is
-- complete there is a latest one (`one_is_latest`).
-- By induction on the frames. Assumes nothing.
use mathlib.Core.Bool.{Bool, true, false, cond, ◌&&◌, true≢false}
use mathlib.Core.List.{List, [], ◌∷◌}
use Rattle.std.specs.Prelude.{Option, None, Some}
use mathlib.Core.Path.{◌≡◌, refl, sym, ap, ◌∙◌, subst}
use Prim.Native.Nat.{ℕ}
use native.Mathlib.Omega.{arith}
use lib.Dec.{ltb}
use Rattle.bits.proofs.Booleans.{and_zero}
use Rattle.buffers.specs.declared.Buffer.{Buffer}
use Rattle.buffers.specs.declared.Buffer.TheVariants.{A, B}
use Rattle.buffers.specs.Turns.{other}
use Rattle.buffers.specs.Story.{Tale, same_buffer, frame_in, complete, if_complete, complete_in, latest_in}
use Rattle.buffers.proofs.Frames.{Counts, Sound}
use Rattle.buffers.proofs.Sights.{same_same, same_is}

-- One of two equal answers.
the : Tale → Option Tale → Tale
the g None = g
the g (Some f) = f

there : {f g : Tale} → Some f ≡ Some g → f ≡ g
unfolding the
there {f} e = ap (the f) e

nothing_there : {P : Type 0} {f : Tale} → None ≡ Some f → P
nothing_there e = let z : ◌≡◌ {A = ℕ} 0 1 = ap (λ (o : Option Tale). by o) e in absurd (omega arith)
  where
    by : Option Tale → ℕ
    by None = 0
    by (Some f) = 1

pub found_counts : (u : Buffer) (fs : List Tale) (f : Tale) → Sound fs → frame_in u fs ≡ Some f → Counts f
unfolding frame_in
found_counts u [] f s e = nothing_there e
found_counts u (g ∷ fs) f s e = go (same_buffer u g.buffer && ltb 0 g.landed) (found_counts u fs f s.3) e
  where
    go : (b : Bool) → (frame_in u fs ≡ Some f → Counts f) → cond b (Some g) (frame_in u fs) ≡ Some f → Counts f
    go true rest e = subst Counts (there e) s.0
    go false rest e = rest e

found_in : (u : Buffer) (fs : List Tale) (f : Tale) → frame_in u fs ≡ Some f → u ≡ f.buffer
unfolding frame_in
found_in u [] f e = nothing_there e
found_in u (g ∷ fs) f e = go (same_buffer u g.buffer) (ltb 0 g.landed) refl (found_in u fs f) e
  where
    go : (b c : Bool) → same_buffer u g.buffer ≡ b → (frame_in u fs ≡ Some f → u ≡ f.buffer) → cond (b && c) (Some g) (frame_in u fs) ≡ Some f → u ≡ f.buffer
    go true true q rest e = same_is u g.buffer q ∙ ap (λ (h : Tale). h.buffer) (there e)
    go true false q rest e = rest e
    go false c q rest e = rest e

complete_found : (o : Option Tale) (f : Tale) → if_complete o ≡ Some f → (o ≡ Some f) × (complete f ≡ true)
unfolding if_complete
complete_found None f e = nothing_there e
complete_found (Some g) f e = go (complete g) refl e
  where
    go : (b : Bool) → complete g ≡ b → cond b (Some g) None ≡ Some f → (Some g ≡ Some f) × (complete f ≡ true)
    go true q e = (e, subst (λ (h : Tale). complete h ≡ true) (there e) q)
    go false q e = nothing_there e

not_other : (u : Buffer) → same_buffer (other u) u ≡ false
not_other A = refl
not_other B = refl

pub latest_there : (fs : List Tale) (f : Tale) → latest_in fs ≡ Some f → (frame_in f.buffer fs ≡ Some f) × (complete f ≡ true)
unfolding latest_in complete_in frame_in
latest_there [] f e = nothing_there e
latest_there (g ∷ fs) f e = go (ltb 0 g.landed) (complete g) refl refl (latest_there fs f) e
  where
    go : (b c : Bool) → ltb 0 g.landed ≡ b → complete g ≡ c → (latest_in fs ≡ Some f → (frame_in f.buffer fs ≡ Some f) × (complete f ≡ true))
        → cond b (cond c (Some g) (complete_in (other g.buffer) fs)) (latest_in fs) ≡ Some f
        → (cond (same_buffer f.buffer g.buffer && b) (Some g) (frame_in f.buffer fs) ≡ Some f) × (complete f ≡ true)
    go true true l q rest e =
        let is = there e in (
          subst (λ (u : Buffer). cond (same_buffer u g.buffer && true) (Some g) (frame_in u fs) ≡ Some f) (ap (λ (h : Tale). h.buffer) is) (rw (same_same g.buffer) e),
          subst (λ (h : Tale). complete h ≡ true) is q,
        )
    go true false l q rest e =
        let (here, done) = complete_found (frame_in (other g.buffer) fs) f e in
        let is = found_in (other g.buffer) fs f here in
        (subst (λ (u : Buffer). cond (same_buffer u g.buffer && true) (Some g) (frame_in u fs) ≡ Some f) is (rw (not_other g.buffer) here), done)
    go false c l q rest e = let (here, done) = rest e in (rw (and_zero (same_buffer f.buffer g.buffer)) here, done)

is_other : (u v : Buffer) → same_buffer u v ≡ false → u ≡ other v
is_other A A z = absurd (true≢false z)
is_other A B z = refl
is_other B A z = refl
is_other B B z = absurd (true≢false z)

pub one_is_latest : (u : Buffer) (fs : List Tale) (f : Tale) → complete_in u fs ≡ Some f → latest_in fs ≡ None → ⊥
unfolding latest_in complete_in frame_in if_complete
one_is_latest u [] f e n = nothing_there e
one_is_latest u (g ∷ fs) f e n = go (same_buffer u g.buffer) (ltb 0 g.landed) (complete g) refl refl (one_is_latest u fs f) e n
  where
    go : (a b c : Bool) → same_buffer u g.buffer ≡ a → complete g ≡ c → (complete_in u fs ≡ Some f → latest_in fs ≡ None → ⊥)
        → if_complete (cond (a && b) (Some g) (frame_in u fs)) ≡ Some f → cond b (cond c (Some g) (complete_in (other g.buffer) fs)) (latest_in fs) ≡ None → ⊥
    go a true true s q rest e n = nothing_there (sym n)
    go true true false s q rest e n = nothing_there (sym (ap (λ b. cond b (Some g) None) q) ∙ e)
    go false true false s q rest e n = nothing_there (sym n ∙ ap (λ v. if_complete (frame_in v fs)) (sym (is_other u g.buffer s)) ∙ e)
    go true false c s q rest e n = rest e n
    go false false c s q rest e n = rest e n
