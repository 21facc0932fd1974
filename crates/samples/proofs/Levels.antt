-- Samples at which VSYNC keeps its level: they are of that level, no more than there are, and one sample further. Assumes nothing.
use mathlib.Core.Bool.{Bool, true, false, beq}
use mathlib.Core.List.{List, [], ◌∷◌}
use mathlib.Core.Path.{◌≡◌}
use Prim.Native.Nat.{ℕ, suc, ◌≤◌, ◌<◌}
use native.Mathlib.Omega.{arith}
use lib.ListN.{length, take, drop, get_or, drop_of_length-le}
use lib.Seq.{drop-cons}
use Rattle.bits.proofs.Booleans.{by_cond, same_bool}
use Rattle.samples.specs.Samples.{vsync_pin, level_run}

unfoldable pub AtLevel : Bool → List ℕ → Type 0
AtLevel level [] = Unit {0}
AtLevel level (w ∷ ws) = (vsync_pin w ≡ level) × AtLevel level ws

pub run_level : (level : Bool) (ws : List ℕ) → AtLevel level (take (level_run level ws) ws)
unfolding level_run AtLevel
run_level level [] = tt
run_level level (w ∷ ws) =
    by_cond (λ (n : ℕ). AtLevel level (take n (w ∷ ws))) (beq (vsync_pin w) level) (suc (level_run level ws)) 0
    (λ e. (same_bool (vsync_pin w) level e, run_level level ws))
    (λ e. tt)

pub run_within : (level : Bool) (ws : List ℕ) → level_run level ws ≤ length ws
unfolding level_run
run_within level [] = omega arith
run_within level (w ∷ ws) =
    by_cond (λ (n : ℕ). n ≤ suc (length ws)) (beq (vsync_pin w) level) (suc (level_run level ws)) 0 (λ e. omega (arith, run_within level ws)) (λ e. omega arith)

-- At a sample: of that level, of another level, or past the last one.
pub run_on : (list : List ℕ) (i : ℕ) (level : Bool) → i < length list → beq (vsync_pin (get_or list i 0)) level ≡ true
    → level_run level (drop i list) ≡ suc (level_run level (drop (suc i) list))
unfolding level_run
run_on list i level inside e = rw (drop-cons list i 0 inside, e)

pub run_off : (list : List ℕ) (i : ℕ) (level : Bool) → i < length list → beq (vsync_pin (get_or list i 0)) level ≡ false → level_run level (drop i list) ≡ 0
unfolding level_run
run_off list i level inside e = rw (drop-cons list i 0 inside, e)

pub run_past : (list : List ℕ) (i : ℕ) (level : Bool) → length list ≤ i → level_run level (drop i list) ≡ 0
unfolding level_run
run_past list i level past = rw (drop_of_length-le _ past)
