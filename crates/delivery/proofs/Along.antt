-- One more sample: the capture state, the turn, the noted words, the inputs and the output after it are one step after those before it; and ENABLE stays, and ERR does not rise at it if at none.
-- By induction on the samples. Assumes nothing.
use mathlib.Core.Bool.{Bool, false}
use mathlib.Core.List.{List, [], ◌∷◌, ◌++◌, append-nil}
use Rattle.std.specs.Prelude.{Some}
use mathlib.Core.Path.{◌≡◌, refl, sym, ◌∙◌}
use Prim.Native.Nat.{ℕ, ◌<◌}
use lib.Seq.{append_snoc}
use Rattle.bits.proofs.Booleans.{or_false}
use Rattle.queue.specs.Queue.{Input}
use Rattle.landing.specs.Landing.{Out, first_rule, put, puts, Fits}
use Rattle.rules.specs.declared.Capture.{Capture}
use Rattle.rules.specs.Capture.{enabled}
use Rattle.rules.specs.Sample.{capture_sample, next_capture}
use Rattle.laws.proofs.Sampled.{next_enable}
use Rattle.delivery.specs.Noted.{any_error}
use Rattle.delivery.proofs.Inputs.{captures}

pub puts_snoc : (on : Bool) (o : Out) (is : List (Input ℕ)) (i : Input ℕ) → puts on o (is ++ i ∷ []) ≡ put on (puts on o is) i
unfolding puts
puts_snoc on o [] i = refl
puts_snoc on o (j ∷ is) i = puts_snoc on (put on o j) is i

pub last_fits : (on : Bool) (o : Out) (is : List (Input ℕ)) (i : Input ℕ) → Fits on o (is ++ i ∷ []) → (v : ℕ) → i.word ≡ Some v
    → (first_rule on (puts on o is) i).state.output.held < (first_rule on (puts on o is) i).state.output.depth
unfolding puts
last_fits on o [] i f = f.0
last_fits on o (j ∷ is) i f = last_fits on (put on o j) is i f.1

pub same_enable : (s : Capture) (xs : List ℕ) → enabled (captures s xs) ≡ enabled s
unfolding captures
same_enable s [] = refl
same_enable s (w ∷ ws) = same_enable (next_capture s w) ws ∙ next_enable s w

pub last_calm : (s : Capture) (xs : List ℕ) (w : ℕ) → any_error s (xs ++ w ∷ []) ≡ false → (capture_sample (captures s xs) w).error ≡ false
unfolding any_error captures
last_calm s [] w quiet = (or_false (capture_sample s w).error _ quiet).0
last_calm s (x ∷ xs) w quiet = last_calm (next_capture s x) xs w (or_false (capture_sample s x).error _ quiet).1

-- What holds before the first sample and is kept by each holds after any first part of them.
grows_from : (P : List ℕ → Type 0) (all : List ℕ) → ((xs zs : List ℕ) (w : ℕ) → all ≡ xs ++ w ∷ zs → P xs → P (xs ++ w ∷ []))
    → (xs ws zs : List ℕ) → all ≡ xs ++ (ws ++ zs) → P xs → P (xs ++ ws)
grows_from P all step xs [] zs e g = rw append-nil g
grows_from P all step xs (w ∷ ws) zs e g =
    rw append_snoc at (grows_from P all step (xs ++ w ∷ []) ws zs (e ∙ sym (append_snoc xs w (ws ++ zs))) (step xs (ws ++ zs) w e g))

pub grows : (P : List ℕ → Type 0) (all : List ℕ) → ((xs zs : List ℕ) (w : ℕ) → all ≡ xs ++ w ∷ zs → P xs → P (xs ++ w ∷ [])) → P []
    → (xs zs : List ℕ) → all ≡ xs ++ zs → P xs
grows P all step first xs zs e = grows_from P all step [] xs zs e first
