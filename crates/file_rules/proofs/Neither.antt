-- Refused with neither 1 nor 8: a register write on a device that is not malformed, a run there of samples that can be counted, and the form checks.
-- The idea: of the tests in their order those for 1 and 8 do not hold.
use mathlib.Core.Bool.{Bool, true, false, not, false≢true}
use mathlib.Core.List.{List, [], ◌∷◌, ◌++◌}
use mathlib.Core.Path.{◌≡◌, refl, sym, ◌∙◌}
use Prim.Native.Nat.{ℕ, ◌+◌, ◌≤◌}
use lib.Dec.{eqb, ltb}
use lib.ListN.{length}
use borrow.Author.Tests.{le-ltb}
use Rattle.bits.proofs.Booleans.{by_cond}
use Rattle.refusals.specs.Refusals.{Test, ◌⇒◌, first}
use Rattle.registers.specs.Map.{register_at}
use Rattle.rules.specs.declared.Device.{Device}
use Rattle.rules.specs.RegisterCalls.{register_tests, write_refusal, write}
use Rattle.run_refusals.specs.RunRefusals.{run_tests}
use Rattle.rules.specs.Run.{run_refusal, run}
use Rattle.rules.specs.WellFormed.{malformed}
use Rattle.trace_format.specs.Reading.{whole, header_checks, form_of}

-- A number that is neither 1 nor 8.
abbrev pub Neither : ℕ → Type 0
Neither n = (eqb n 1 ≡ false) × (eqb n 8 ≡ false)

-- Each test that holds has such a number.
abbrev pub Holding : List Test → Type 0
Holding [] = Unit {0}
Holding (t ∷ ts) = (t.holds ≡ true → Neither t.number) × Holding ts

pub first_neither : (ts : List Test) → Holding ts → Neither (first ts)
first_neither [] h = (refl, refl)
first_neither (t ∷ ts) h = by_cond Neither t.holds t.number (first ts) h.0 (λ _. first_neither ts h.1)

passed : {A : Type 0} (b : Bool) → b ≡ false → b ≡ true → A
passed b fails holds = absurd (false≢true (sym fails ∙ holds))

pub write_neither : (d : Device) (offset v : ℕ) → malformed d ≡ false → Neither (write d offset v).number
unfolding write write_refusal
write_neither d offset v well =
    first_neither
    (malformed d ⇒ 1 ∷ register_tests d.core.capture.registers.cr (register_at offset) v)
    (passed (malformed d) well, ((λ _. (refl, refl)), ((λ _. (refl, refl)), ((λ _. (refl, refl)), ((λ _. (refl, refl)), ((λ _. (refl, refl)), tt))))))

pub run_neither : (d : Device) (m : List ℕ) (start : ℕ) (ws : List ℕ) → malformed d ≡ false → d.core.output.counts.samples + length ws ≤ 4294967295 → Neither (run d m start ws).number
unfolding run run_refusal
run_neither d m start ws well fits =
    first_neither
    (malformed d ⇒ 1 ∷ run_tests (ltb (length m) start) d.core.output.counts.samples ws)
    (passed (malformed d) well, ((λ _. (refl, refl)), ((λ _. (refl, refl)), (passed _ (le-ltb _ _ fits), tt))))

pub form_neither : (f : List ℕ) (n : ℕ) → Neither (form_of f n)
unfolding form_of
form_neither f n = first_neither (header_checks f n ++ (not (eqb n (whole f)) ⇒ 13 ∷ [])) ((λ _. (refl, refl)), ((λ _. (refl, refl)), ((λ _. (refl, refl)), ((λ _. (refl, refl)), ((λ _. (refl, refl)), ((λ _. (refl, refl)), tt))))))
