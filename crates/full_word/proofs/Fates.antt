-- Rule 9 of a padded word, and of a word by codes, from that of a full one. The idea: by what became of the word. Assumes nothing.
use mathlib.Core.Bool.{Bool, true, false}
use Rattle.std.specs.Prelude.{Some}
use mathlib.Core.Path.{◌≡◌, refl}
use Prim.Native.Nat.{ℕ}
use native.Mathlib.Omega.{arith}
use Rattle.output.specs.declared.Fate.{Fate}
use Rattle.output.specs.declared.Fate.TheVariants.{Held, Lost}
use Rattle.output.specs.Output.{OutputState, offer}
use Rattle.output.specs.declared.Packing.TheVariants.{Nothing as nothing, Completed as completed, Lost as lost}
use Rattle.rules.specs.declared.Capture.{Capture}
use Rattle.rules.specs.State.{device, output_of, raise}
use Rattle.rules.specs.Capture.{Captured, flagged}
use Rattle.rules.specs.Run.{after_word, complete}
use Rattle.full_word.specs.Answers.{with_word}

-- Rule 9 of a padded word from that of a full one: FRAME rises where it is held.
pub held_flagged : (fate : Fate) (v n : ℕ) (s : Capture) (x : OutputState) → (after_word fate v (with_word v false s) x).packed ≡ completed n
    → after_word fate v (with_word v true s) x
    ≡ record { device = device (raise 0 s) (output_of (after_word fate v (with_word v false s) x).device); packed = (after_word fate v (with_word v false s) x).packed }
unfolding after_word flagged
held_flagged Held v n s x e = refl
held_flagged Lost v n s x e = let z : ◌≡◌ {A = ℕ} 0 1 = cc in absurd (omega arith)

pub lost_same : (fate : Fate) (v : ℕ) (s : Capture) (x : OutputState) → (after_word fate v (with_word v false s) x).packed ≡ lost
    → after_word fate v (with_word v true s) x ≡ after_word fate v (with_word v false s) x
unfolding after_word flagged
lost_same Held v s x e = let z : ◌≡◌ {A = ℕ} 0 1 = cc in absurd (omega arith)
lost_same Lost v s x e = refl

pub not_nothing : (fate : Fate) (v : ℕ) (s : Capture) (x : OutputState) → (after_word fate v (with_word v false s) x).packed ≡ nothing
    → after_word fate v (with_word v true s) x ≡ after_word fate v (with_word v false s) x
unfolding after_word flagged
not_nothing Held v s x e = let z : ◌≡◌ {A = ℕ} 0 1 = cc in absurd (omega arith)
not_nothing Lost v s x e = refl

-- Rule 9 of a word reads of what the capture rules leave only the state and whether FRAME is due.
after_word_coded : (fate : Fate) (v : ℕ) (c : Captured) (x : OutputState) → after_word fate v (with_word v c.due c.state) x ≡ after_word fate v c x
unfolding after_word flagged
after_word_coded Held v c x = refl
after_word_coded Lost v c x = refl

pub word_coded : {due : Bool} (v : ℕ) (c : Captured) (x : OutputState) → c.due ≡ due → complete (Some v) (with_word v due c.state) x ≡ complete (Some v) c x
unfolding complete
word_coded v c x e = rw (← e) (after_word_coded (offer v x).fate v c (offer v x).state)
