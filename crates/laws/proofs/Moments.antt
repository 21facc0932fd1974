-- Every beginning of a history is the history of a list of calls, which reaches the state that the next sample finds (`every_moment`): a run cut after any of its samples is a call too. So what holds after
-- every list of calls holds at every moment, inside the runs too.
-- The idea: calls before the cut stay, a run is cut to the samples before it, and of another call there is nothing before its event. Assumes nothing.
use mathlib.Core.Bool.{false, not, ◌&&◌}
use mathlib.Core.List.{List, [], ◌∷◌, ◌++◌, tail, append-nil}
use Rattle.std.specs.Prelude.{Option}
use mathlib.Core.Path.{◌≡◌, refl, sym, ap, subst, ◌∙◌}
use Prim.Native.Nat.{ℕ, ◌+◌, ◌≤◌}
use native.Mathlib.Omega.{arith}
use lib.Dec.{eqb, ltb}
use lib.ListN.{length, drop, length-append}
use borrow.Author.Tests.{eqb-true, le-ltb}
use Rattle.bits.proofs.Booleans.{or_false, by_cond, either, both_false}
use Rattle.registers.specs.Control.{enable}
use Rattle.samples.specs.Samples.{bad_sample, any_bad}
use Rattle.run_refusals.proofs.Passed.{passed}
use Rattle.rules.specs.declared.Capture.{Capture}
use Rattle.rules.specs.declared.Device.{Device}
use Rattle.output.specs.declared.Packing.{Packing as Packed}
use Rattle.rules.specs.Run.{step, steps, run_refusal, run, sample}
use Rattle.rules.specs.WellFormed.{malformed}
use Rattle.laws.specs.Histories.{Call, a_write, a_rearming, a_placing, a_run, a_sample, after, after_all, Event, sampled, disabled, samplings, accepted_samplings, samplings_of, disabling_of, events, events_of_all}
use Rattle.laws.proofs.KeepsSample.{step_enable}
use Rattle.laws.proofs.CountsFromHistory.{steps_enable, none_disabled}

-- A sample finds a capture state; and the next of some events does.
abbrev pub Finds : Capture → Event → Type 0
Finds s (sampled found w landing packed) = found ≡ s
Finds s disabled = Unit {0}

abbrev pub Next : Capture → List Event → Type 0
Next s [] = Unit {0}
Next s (e ∷ es) = Finds s e

-- The moment after the events es, with fs still to come: a list of calls that has just es for its events, and reaches what the next one finds.
pub record Moment (d : Device) (es fs : List Event) : Type 0 where
  pub calls : List Call
  pub happened : events_of_all d calls ≡ es
  pub finds : Next (after_all d calls).core.capture fs

-- One event and then others.
same_head : (e f : Event) (es fs gs hs : List Event) → e ∷ es ≡ f ∷ fs → gs ≡ hs → e ∷ gs ≡ f ∷ hs
same_head e f es fs gs hs same later = cc

not_empty : (es : List Event) (g : Event) (gs : List Event) → [] ≡ es ++ (g ∷ gs) → ⊥
not_empty es g gs e = let n : 0 ≡ length es + length (g ∷ gs) = simp length-append at (ap length e) in omega arith

-- Two lists joined in two ways: the second cut lies behind the first list, or in it.
split : (P : Type 0) (xs ys es fs : List Event) → xs ++ ys ≡ es ++ fs → ((more : List Event) → es ≡ xs ++ more → ys ≡ more ++ fs → P)
    → ((g : Event) (gs : List Event) → xs ≡ es ++ (g ∷ gs) → fs ≡ g ∷ (gs ++ ys) → P) → P
split P [] ys es fs e behind within = behind es refl e
split P (x ∷ xs) ys [] fs e behind within = within x xs refl (sym e)
split P (x ∷ xs) ys (f ∷ es) fs e behind within =
    split P xs ys es fs (ap tail e)
    (λ more is later. behind more (same_head f x _ _ es (xs ++ more) (sym e) is) later)
    (λ g gs is later. within g gs (same_head x f _ _ xs (es ++ (g ∷ gs)) e is) later)

-- Samples.
record CutSamples (d : Device) (b ws : List ℕ) (es fs : List Event) : Type 0 where
  before : List ℕ
  behind : List ℕ
  samples : ws ≡ before ++ behind
  happened : samplings d b before ≡ es
  finds : Next (steps d b before).device.core.capture fs

cut_samples : (d : Device) (b ws : List ℕ) (es : List Event) (g : Event) (gs : List Event) → samplings d b ws ≡ es ++ (g ∷ gs) → CutSamples d b ws es (g ∷ gs)
unfolding samplings steps
cut_samples d b [] es g gs e = absurd (not_empty es g gs e)
cut_samples d b (w ∷ ws) [] g gs e = record { before = []; behind = w ∷ ws; samples = refl; happened = refl; finds = subst (Next d.core.capture) e refl }
cut_samples d b (w ∷ ws) (x ∷ es) g gs e =
    let c = cut_samples (step d b w).device (step d b w).buffer ws es g gs (ap tail e) in
    record { before = w ∷ c.before; behind = c.behind; samples = ap (λ l. w ∷ l) c.samples; happened = same_head _ x _ _ _ es e c.happened; finds = c.finds }

-- Fewer samples are accepted where more are.
fewer_good : (xs ys : List ℕ) → any_bad (xs ++ ys) ≡ false → any_bad xs ≡ false
unfolding any_bad
fewer_good [] ys e = refl
fewer_good (x ∷ xs) ys e = let (good, more) = or_false (bad_sample x) (any_bad (xs ++ ys)) e in both_false (bad_sample x) (any_bad xs) good (fewer_good xs ys more)

fewer_accepted : (d : Device) (memory : List ℕ) (start : ℕ) (xs ys : List ℕ) → run_refusal d memory start (xs ++ ys) ≡ 0 → run_refusal d memory start xs ≡ 0
unfolding run_refusal
fewer_accepted d memory start xs ys e =
    let n = d.core.output.counts.samples in
    let p = passed (malformed d) (ltb (length memory) start) n (xs ++ ys) e in
    let fewer : n + length xs ≤ 4294967295 = omega (arith, p.fits, length-append xs ys) in
    rw (p.well, p.within, fewer_good xs ys p.good, le-ltb 4294967295 (n + length xs) fewer)

-- A call leaves no event but its samples where ENABLE stays.
samples_alone : (d d' : Device) (es : List Event) → enable d'.core.capture.registers.cr ≡ enable d.core.capture.registers.cr → es ++ disabling_of d d' ≡ es
samples_alone d d' es same = rw (none_disabled d d' same) (append-nil es)

run_does : (d : Device) (memory : List ℕ) (start : ℕ) (ws : List ℕ) → run_refusal d memory start ws ≡ 0
    → let b = drop start memory in (events_of_all d (a_run memory start ws ∷ []) ≡ samplings d b ws) × (after_all d (a_run memory start ws ∷ []) ≡ (steps d b ws).device)
unfolding events_of_all events samplings_of accepted_samplings after_all after run
run_does d memory start ws e = (rw (append-nil, e) (samples_alone d _ _ (steps_enable d (drop start memory) ws)), rw e)

-- A run, or one sample.
cut_run : (d : Device) (memory : List ℕ) (start : ℕ) (ws : List ℕ) (es : List Event) (g : Event) (gs : List Event) → accepted_samplings d memory start ws ≡ es ++ (g ∷ gs) → Moment d es (g ∷ gs)
unfolding accepted_samplings
cut_run d memory start ws es g gs =
    by_cond (λ (l : List Event). l ≡ es ++ (g ∷ gs) → Moment d es (g ∷ gs)) (eqb (run_refusal d memory start ws) 0) _ _
    (λ zero e.
    let c = cut_samples d (drop start memory) ws es g gs e in
    let whole : run_refusal d memory start (c.before ++ c.behind) ≡ 0 = rw c.samples at (eqb-true (run_refusal d memory start ws) 0 zero) in
    let (same_events, same_device) = run_does d memory start c.before (fewer_accepted d memory start c.before c.behind whole) in
    record { calls = a_run memory start c.before ∷ []; happened = same_events ∙ c.happened; finds = rw same_device c.finds })
    (λ refused e. absurd (not_empty es g gs e))

-- A call without samples.
cut_none : (d d' : Device) (es : List Event) (g : Event) (gs : List Event) → disabling_of d d' ≡ es ++ (g ∷ gs) → Moment d es (g ∷ gs)
unfolding disabling_of after_all events_of_all
cut_none d d' es g gs =
    by_cond (λ (l : List Event). l ≡ es ++ (g ∷ gs) → Moment d es (g ∷ gs)) (enable d.core.capture.registers.cr && not (enable d'.core.capture.registers.cr)) _ _
    (λ falls. disables es)
    (λ stays e. absurd (not_empty es g gs e))
  where
    disables : (es : List Event) → disabled ∷ [] ≡ es ++ (g ∷ gs) → Moment d es (g ∷ gs)
    disables [] e = record { calls = []; happened = refl; finds = subst (Next d.core.capture) e tt }
    disables (x ∷ es) e = absurd (not_empty es g gs (ap tail e))

cut_call : (d : Device) (c : Call) (es : List Event) (g : Event) (gs : List Event) → events d c ≡ es ++ (g ∷ gs) → Moment d es (g ∷ gs)
unfolding events samplings_of after run sample
cut_call d (a_write offset value fits) es g gs e = cut_none d _ es g gs e
cut_call d a_rearming es g gs e = cut_none d _ es g gs e
cut_call d (a_placing k) es g gs e = cut_none d _ es g gs e
cut_call d (a_run memory start ws) es g gs e =
    let stays = either (λ (x : Device). enable x.core.capture.registers.cr ≡ enable d.core.capture.registers.cr) (eqb (run_refusal d memory start ws) 0) (steps_enable d (drop start memory) ws) refl in
    cut_run d memory start ws es g gs (sym (samples_alone d _ _ stays) ∙ e)
cut_call d (a_sample memory start w) es g gs e =
    let stays = either (λ (x : Device). enable x.core.capture.registers.cr ≡ enable d.core.capture.registers.cr) (eqb (run_refusal d memory start (w ∷ [])) 0) (step_enable d (drop start memory) w) refl in
    cut_run d memory start (w ∷ []) es g gs (sym (samples_alone d _ _ stays) ∙ e)

-- Every list of calls, on every device.
pub every_moment : (d : Device) (cs : List Call) (es fs : List Event) → events_of_all d cs ≡ es ++ fs → Moment d es fs
unfolding events_of_all after_all
every_moment d [] [] fs e = record { calls = []; happened = refl; finds = subst (Next d.core.capture) e tt }
every_moment d [] (x ∷ es) fs e = absurd (not_empty [] x (es ++ fs) e)
every_moment d (c ∷ cs) es fs e =
    split (Moment d es fs) (events d c) (events_of_all (after d c) cs) es fs e
    (λ more f g. let m = every_moment (after d c) cs more fs g in record { calls = c ∷ m.calls; happened = rw m.happened (sym f); finds = m.finds })
    (λ g gs f h. let m = cut_call d c es g gs f in record { calls = m.calls; happened = m.happened; finds = subst (Next (after_all d m.calls).core.capture) (sym h) m.finds })

-- So what holds of the events after every list of calls holds of those up to any moment; and what holds of them and the state holds of what a sample finds.
module _ (d : Device) (cs : List Call) (es fs : List Event) where
  pub at_moment : (P : List Event → Type 0) → ((cs : List Call) → P (events_of_all d cs)) → events_of_all d cs ≡ es ++ fs → P es
  at_moment P law now = let m = every_moment d cs es fs now in subst P m.happened (law m.calls)

  pub at_sample : (P : Capture → List Event → Type 0) → ((cs : List Call) → P (after_all d cs).core.capture (events_of_all d cs)) → (s : Capture) (w : ℕ) (landing : Option ℕ) (packed : Packed)
      → events_of_all d cs ≡ es ++ (sampled s w landing packed ∷ fs) → P s es
  at_sample P law s w landing packed now =
      let m = every_moment d cs es (sampled s w landing packed ∷ fs) now in
      subst (λ (t : Capture). P t es) (sym m.finds) (subst (P (after_all d m.calls).core.capture) m.happened (law m.calls))
