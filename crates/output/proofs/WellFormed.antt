-- FIFO, place and counts that are not malformed, as facts, given ENABLE; and that the rules keep them so. Assumes nothing.
use mathlib.Core.Bool.{Bool, true, false, ◌&&◌, true≢false}
use mathlib.Core.List.{List, [], ◌∷◌, ◌++◌}
use mathlib.Core.Path.{◌≡◌, refl}
use Prim.Native.Nat.{ℕ, ◌+◌, ◌-◌, ◌≤◌, ◌<◌}
use native.Mathlib.Omega.{arith}
use lib.ListN.{length, drop, length-append, length-take}
use Rattle.bits.proofs.Booleans.{by_cond}
use Rattle.output.specs.declared.Output.{Output}
use Rattle.output.specs.Output.{OutputState, contents, with_held, holding, with_counts, with_place, count_sample, count_word, count_discarded, count_landed, room, Granted, no_landing, lands, oldest_lands, grant, discard}
use Rattle.output.specs.WellFormed.{all_zero, bad_depth}
use Rattle.output.proofs.Contents.{clear_behind}

pub record OutputOk (enabled : Bool) (x : OutputState) : Type 0 where
  pub depth : bad_depth x.output.depth ≡ false
  pub held : x.output.held ≤ x.output.depth
  pub clear : all_zero (drop x.output.held x.slots) ≡ true
  pub idle : enabled ≡ false → x.output.held ≡ 0
  pub completed : x.output.counts.completed ≤ x.output.counts.samples
  pub place : x.output.place ≤ x.output.counts.landed
  pub equation : x.output.counts.completed ≡ x.output.counts.landed + x.output.held + x.output.counts.discarded

few_contents : (x : OutputState) → length (contents x) ≤ x.output.held
unfolding contents
few_contents x = omega (arith, length-take x.output.held x.slots)

module _ {e : Bool} {x : OutputState} (q : OutputOk e x) where
  -- ENABLE may be another, if nothing is held where it is 0.
  pub enabling_ok : {e' : Bool} → (e' ≡ false → e ≡ false) → OutputOk e' x
  enabling_ok off =
      record { depth = q.depth; held = q.held; clear = q.clear; idle = λ z. q.idle (off z); completed = q.completed; place = q.place; equation = q.equation }

  -- One more sample: then there is room for one word more.
  pub count_sample_ok : OutputOk e (record { output = count_sample x.output; slots = x.slots })
  unfolding count_sample with_counts
  count_sample_ok =
      record { depth = q.depth; held = q.held; clear = q.clear; idle = q.idle; completed = omega (arith, q.completed); place = q.place; equation = q.equation }

  -- Rule 1.
  lands_ok : (v : ℕ) (vs buffer : List ℕ) → contents x ≡ v ∷ vs → OutputOk e (lands v vs x.output buffer).state
  unfolding lands holding with_held count_landed with_place with_counts
  lands_ok v vs buffer is =
      let few = rw is at (few_contents x) in
      record {
        depth = q.depth;
        held = omega (arith, q.held);
        clear = clear_behind (x.output.held - 1) vs (omega arith);
        idle = λ off. omega (arith, q.idle off);
        completed = q.completed;
        place = omega (arith, q.place);
        equation = omega (arith, q.equation);
      }

  oldest_ok : (vs buffer : List ℕ) → contents x ≡ vs → OutputOk e (oldest_lands vs x buffer).state
  unfolding oldest_lands no_landing
  oldest_ok [] buffer is = q
  oldest_ok (v ∷ vs) buffer is =
      by_cond (λ (g : Granted). OutputOk e g.state) (room x.output.place buffer) _ _ (λ t. lands_ok v vs buffer is) (λ t. q)

  pub grant_ok : (granted enabled : Bool) (buffer : List ℕ) → OutputOk e (grant granted enabled x buffer).state
  unfolding grant no_landing
  grant_ok granted enabled buffer =
      by_cond (λ (g : Granted). OutputOk e g.state) (granted && enabled) _ _ (λ t. oldest_ok (contents x) buffer refl) (λ t. q)

  -- Some words discarded, a new one among them or not.
  pub discard_ok : {e' : Bool} (more : ℕ) (o : Output) → bad_depth o.depth ≡ false → o.counts.completed ≤ o.counts.samples → o.place ≤ o.counts.landed
      → o.counts.completed ≡ o.counts.landed + o.held + o.counts.discarded + more
      → OutputOk e' (discard more (record { output = o; slots = x.slots }))
  unfolding discard holding with_held count_discarded with_counts
  discard_ok more o depth completed place equation =
      record { depth = depth; held = omega arith; clear = clear_behind 0 [] (omega arith); idle = λ off. refl; completed = completed; place = place; equation = omega arith }

-- Rule 9, of a word more to be counted, with ENABLE 1: held it is well-formed; lost it is once it is discarded, with the held words or alone.
module _ {x : OutputState} (q : OutputOk true x) (counted : x.output.counts.completed < x.output.counts.samples) (v : ℕ) where
  pub held_ok : x.output.held < x.output.depth → OutputOk true (holding (x.output.held + 1) (contents x ++ v ∷ []) (count_word x.output))
  unfolding holding with_held count_word with_counts
  held_ok space =
      record {
        depth = q.depth;
        held = omega arith;
        clear = clear_behind (x.output.held + 1) (contents x ++ v ∷ []) (rw length-append (omega (arith, few_contents x)));
        idle = λ off. absurd (true≢false off);
        completed = omega arith;
        place = q.place;
        equation = omega (arith, q.equation);
      }

  pub lost_ok : {e : Bool} → OutputOk e (discard 1 (record { output = count_word x.output; slots = x.slots }))
  unfolding count_word with_counts
  lost_ok = discard_ok q 1 (count_word x.output) q.depth (omega arith) q.place (omega (arith, q.equation))

  -- Lost alone, the held words stay.
  pub lost_alone_ok : OutputOk true (record { output = count_discarded 1 (count_word x.output); slots = x.slots })
  unfolding count_discarded count_word with_counts
  lost_alone_ok =
      record { depth = q.depth; held = q.held; clear = q.clear; idle = q.idle; completed = omega arith; place = q.place; equation = omega (arith, q.equation) }
