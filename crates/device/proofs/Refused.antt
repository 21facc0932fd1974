-- A refused sample leaves the device as it was; a device that is not refused 1 is well-formed. Assumes nothing.
use mathlib.Core.Bool.{Bool, true, false, cond, true≢false}
use mathlib.Core.List.{List, [], ◌∷◌}
use mathlib.Core.Path.{◌≡◌, refl, sym, ap, ◌∙◌}
use Prim.Native.Nat.{ℕ}
use lib.Dec.{eqb}
use Rattle.std.specs.Prelude.{Result, Ok}
use Rattle.refusals.specs.Refusals.{Answer, refused, answered}
use Rattle.refusals.specs.Table.{answer_of}
use Rattle.refusals.specs.declared.Refusal.{Refusal}
use Rattle.output.specs.declared.SampleAnswer.{SampleAnswer}
use Rattle.rules.specs.declared.Device.{Device}
use Rattle.rules.specs.Run.{SampleResult, run_refusal, sample}

abbrev is_refused : {A : Type 0} → Answer A → Bool
is_refused (refused n) = true
is_refused (answered a) = false

pub refused_sample : {n : ℕ} {d' : Device} {memory' : List ℕ} (d : Device) (memory : List ℕ) (start w : ℕ)
    → record { answer = refused n; device = d'; memory = memory' } ≡ sample d memory start w → d' ≡ d
unfolding sample
refused_sample {d' = d'} d memory start w e =
    go _ _ _ (eqb (run_refusal d memory start (w ∷ [])) 0) (ap (λ (r : SampleResult). is_refused r.answer) e) (ap (λ (r : SampleResult). r.device) e)
  where
    go : (a : SampleAnswer) (m : ℕ) (r : Device) (b : Bool) → true ≡ is_refused (cond b (answered a) (refused m)) → d' ≡ cond b r d → d' ≡ d
    go a m r true p q = absurd (true≢false p)
    go a m r false p q = q

pub not_refused : {A : Type 0} {b : A} {result : Result A Refusal} (a : A) (bad : Bool) → answer_of result ≡ cond bad (refused 1) (answered a) → result ≡ Ok b → bad ≡ false
not_refused a true is ok = absurd (true≢false (ap is_refused (sym is ∙ ap answer_of ok)))
not_refused a false is ok = refl
