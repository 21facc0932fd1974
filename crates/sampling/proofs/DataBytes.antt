-- Samples whose bytes begin no code (W6): no byte waits after one where none waited, and a run of them ends at the next that begins one. Assumes nothing.
use mathlib.Core.Bool.{Bool, true, cond, false≢true}
use mathlib.Core.List.{List, [], ◌∷◌}
use mathlib.Core.Path.{◌≡◌, refl, ◌∙◌}
use Prim.Native.Nat.{ℕ, suc, ◌+◌, ◌≤◌, ◌<◌}
use native.Mathlib.Omega.{arith}
use lib.Dec.{eqb, ltb}
use lib.ListN.{length, take}
use Rattle.bits.proofs.Booleans.{by_cond}
use borrow.Author.Tests.{ltb-false}
use native.Mathlib.Numerals.{one-add}
use Rattle.std.specs.Prelude.{Option, Some, None}
use Rattle.std.specs.Option.{unwrap_or}
use Rattle.std.specs.List.{position_or_len}
use Rattle.std.proofs.lemmas.List.Recursion.{is_position_or_len}
use Rattle.registers.specs.Control.{embedded}
use Rattle.codes.specs.declared.Waiting.{Waiting}
use Rattle.codes.specs.declared.Waiting.TheVariants.{Zero, One, Two, Three}
use Rattle.codes.specs.Bytes.{waiting_count}
use Rattle.rules.specs.Sample.{byte_of}
use Rattle.laws.proofs.RegisterValues.{half_setup, same_embedded}
use Rattle.laws.proofs.KeepsSample.{step_half}
use Rattle.laws.proofs.DataBytes.{data_waits}
use Rattle.rules.specs.declared.Device.{Device}
use Rattle.rules.specs.Run.{step}
use Rattle.sampling.specs.DataBytes.{NoneBegins, data_run}
use Rattle.sampling.specs.Kinds.{IsDatum, Each}

-- Each is a datum by itself.
pub each_datum : (d : Device) (b ws : List ℕ) → embedded d.core.capture.registers.cr ≡ true → d.core.capture.waiting ≡ Zero → NoneBegins ws → Each IsDatum d b ws
unfolding NoneBegins Each
each_datum d b [] coded none all = tt
each_datum d b (w ∷ ws) coded none all =
    ((coded, none, all.0), each_datum (step d b w).device (step d b w).buffer ws (same_embedded _ _ (half_setup _ _ (step_half d b w)) ∙ coded) (data_waits d b w coded none all.0) all.1)

run_data : (ws : List ℕ) → NoneBegins (take (data_run ws) ws)
unfolding data_run NoneBegins
run_data [] = tt
run_data (w ∷ ws) =
    by_cond (λ (n : ℕ). NoneBegins (take n (w ∷ ws))) (eqb (byte_of w) 0xFF) 0 (suc (data_run ws)) (λ e. tt) (λ e. (e, run_data ws))

pub run_within : (ws : List ℕ) → data_run ws ≤ length ws
unfolding data_run
run_within [] = omega arith
run_within (w ∷ ws) =
    by_cond (λ (n : ℕ). n ≤ suc (length ws)) (eqb (byte_of w) 0xFF) 0 (suc (data_run ws)) (λ e. omega arith) (λ e. omega (arith, run_within ws))

-- Those before the first that begins a code, or all.
abbrev begins : ℕ → Bool
begins w = eqb (byte_of w) 0xFF

is_run : (ws : List ℕ) → data_run ws ≡ position_or_len begins ws
unfolding data_run
is_run ws = is_position_or_len data_run begins refl (λ w ws. rw one-add refl) ws

first_or : (n len : ℕ) → n ≤ len → unwrap_or (cond (ltb n len) (Some n) None) len ≡ n
first_or n len le =
    by_cond (λ (r : Option ℕ). unwrap_or r len ≡ n) (ltb n len) (Some n) None (λ e. refl) (λ e. omega (arith, ltb-false n len e))

pub run_found : (ws : List ℕ) {r : Option ℕ} → r ≡ cond (ltb (position_or_len begins ws) (length ws)) (Some (position_or_len begins ws)) None
    → unwrap_or r (length ws) ≡ data_run ws
run_found ws e = rw (e, ← is_run) (first_or (data_run ws) (length ws) (run_within ws))

-- Those that are run at once.
none_waits : (waiting : Waiting) → eqb (waiting_count waiting) 0 ≡ true → waiting ≡ Zero
none_waits Zero e = refl
none_waits One e = absurd (false≢true e)
none_waits Two e = absurd (false≢true e)
none_waits Three e = absurd (false≢true e)

module _ (ws : List ℕ) (waiting : Waiting) (n : ℕ) (to : n ≡ cond (eqb (waiting_count waiting) 0) (0 + data_run ws) 0) where
  pub data_within : n ≤ length ws
  data_within =
      rw to
      (by_cond (λ (k : ℕ). k ≤ length ws) (eqb (waiting_count waiting) 0) (0 + data_run ws) 0 (λ e. omega (arith, run_within ws)) (λ e. omega arith))

  pub data_part : 0 < n → (waiting ≡ Zero) × NoneBegins (take n ws)
  data_part =
      rw to
      (by_cond (λ (k : ℕ). 0 < k → (waiting ≡ Zero) × NoneBegins (take k ws)) (eqb (waiting_count waiting) 0) (0 + data_run ws) 0
      (λ e some. let so_many : 0 + data_run ws ≡ data_run ws = omega arith in (none_waits waiting e, rw so_many (run_data ws)))
      (λ e some. absurd (omega (arith, some))))
