-- What rules 1 and 9 leave as it was, and that they leave a FIFO laid out. Assumes nothing.
use mathlib.Core.Bool.{Bool, ◌&&◌}
use mathlib.Core.List.{List, [], ◌∷◌}
use mathlib.Core.Path.{◌≡◌, refl, ap}
use Prim.Native.Nat.{ℕ, ◌+◌, ◌-◌, ◌≤◌, ◌<◌}
use native.Mathlib.Omega.{arith}
use lib.Dec.{ltb}
use lib.ListN.{length, length-append}
use borrow.Author.Tests.{ltb-true}
use Rattle.bits.proofs.Booleans.{by_cond}
use Rattle.output.specs.declared.Fate.{Fate}
use Rattle.output.specs.declared.Fate.TheVariants.{Held, Lost}
use Rattle.output.specs.Output.{slot_count, OutputState, contents, push, with_held, holding, with_counts, with_place, count_word, count_discarded, count_landed, room, Granted, no_landing, lands, oldest_lands, grant, Offered, offer, discard}
use Rattle.output.specs.WellFormed.{Laid}
use Rattle.output.proofs.Contents.{holding_laid, held_length}

-- Rule 1: the samples, the words completed and discarded and the depth stay; it holds no more than before, and the FIFO stays laid out.
pub record Untouched (x y : OutputState) : Type 0 where
  pub samples : y.output.counts.samples ≡ x.output.counts.samples
  pub completed : y.output.counts.completed ≡ x.output.counts.completed
  pub discarded : y.output.counts.discarded ≡ x.output.counts.discarded
  pub depth : y.output.depth ≡ x.output.depth
  pub held : y.output.held ≤ x.output.held
  pub laid : Laid x → Laid y

untouched : (x : OutputState) → Untouched x x
untouched x = record { samples = refl; completed = refl; discarded = refl; depth = refl; held = omega arith; laid = λ l. l }

lands_untouched : (x : OutputState) (v : ℕ) (vs buffer : List ℕ) → contents x ≡ v ∷ vs → Untouched x (lands v vs x.output buffer).state
unfolding lands holding with_held count_landed with_place with_counts
lands_untouched x v vs buffer is =
    record {
      samples = refl;
      completed = refl;
      discarded = refl;
      depth = refl;
      held = omega arith;
      laid = λ l. holding_laid (x.output.held - 1) vs (count_landed x.output) (omega (arith, rw is at (held_length x l))) (omega (arith, l.fits)) l.within;
    }

oldest_untouched : (x : OutputState) (vs buffer : List ℕ) → contents x ≡ vs → Untouched x (oldest_lands vs x buffer).state
unfolding oldest_lands no_landing
oldest_untouched x [] buffer is = untouched x
oldest_untouched x (v ∷ vs) buffer is =
    by_cond (λ (g : Granted). Untouched x g.state) (room x.output.place buffer) _ _ (λ t. lands_untouched x v vs buffer is) (λ t. untouched x)

pub grant_untouched : (granted enabled : Bool) (x : OutputState) (buffer : List ℕ) → Untouched x (grant granted enabled x buffer).state
unfolding grant no_landing
grant_untouched granted enabled x buffer =
    by_cond (λ (g : Granted). Untouched x g.state) (granted && enabled) _ _ (λ t. oldest_untouched x (contents x) buffer refl) (λ t. untouched x)

-- Rule 9: the samples, the words landed and discarded and the depth stay, and the FIFO stays laid out.
pub record UntouchedByWord (x y : OutputState) : Type 0 where
  pub samples : y.output.counts.samples ≡ x.output.counts.samples
  pub landed : y.output.counts.landed ≡ x.output.counts.landed
  pub discarded : y.output.counts.discarded ≡ x.output.counts.discarded
  pub depth : y.output.depth ≡ x.output.depth
  pub laid : Laid x → Laid y

held_untouched : (v : ℕ) (x : OutputState) → x.output.held < x.output.depth
    → UntouchedByWord x (holding (x.output.held + 1) (push v (contents x)) (count_word x.output))
unfolding holding with_held count_word with_counts
held_untouched v x space =
    let long : Laid x → length (push v (contents x)) ≡ x.output.held + 1 = λ l. rw length-append (omega (arith, held_length x l)) in
    record {
      samples = refl;
      landed = refl;
      discarded = refl;
      depth = refl;
      laid = λ l. holding_laid (x.output.held + 1) (push v (contents x)) (count_word x.output) (long l) (omega arith) l.within;
    }

lost_untouched : (x : OutputState) → UntouchedByWord x (record { output = count_word x.output; slots = x.slots })
unfolding count_word with_counts contents
lost_untouched x = record { samples = refl; landed = refl; discarded = refl; depth = refl; laid = λ l. record { fits = l.fits; within = l.within; slots = l.slots } }

pub offer_untouched : (v : ℕ) (x : OutputState) → UntouchedByWord x (offer v x).state
unfolding offer
offer_untouched v x =
    by_cond (λ (r : Offered). UntouchedByWord x r.state) (ltb x.output.held x.output.depth) _ _
    (λ t. held_untouched v x (ltb-true x.output.held x.output.depth t))
    (λ t. lost_untouched x)

pub discard_laid : (more : ℕ) (x : OutputState) → x.output.depth ≤ slot_count → Laid (discard more x)
unfolding discard count_discarded with_counts
discard_laid more x within = holding_laid 0 [] (count_discarded (x.output.held + more) x.output) refl (omega arith) within

held_lost : Held ≡ Lost → ⊥
held_lost e = let z : ◌≡◌ {A = ℕ} 0 1 = ap (λ (f : Fate). elim f [ Held ↦ 0 | Lost ↦ 1 ]) e in omega arith

-- A lost word is counted, and nothing else changes.
pub offer_lost : (v : ℕ) (x : OutputState) → (offer v x).fate ≡ Lost → (offer v x).state ≡ record { output = count_word x.output; slots = x.slots }
unfolding offer
offer_lost v x =
    by_cond (λ (r : Offered). r.fate ≡ Lost → r.state ≡ record { output = count_word x.output; slots = x.slots }) (ltb x.output.held x.output.depth) _ _
    (λ t is. absurd (held_lost is))
    (λ t is. refl)
