-- Samples as the queue sees them: whether each grants the bus, and the word that the capture rules note at it, if any. Their words and grants are the claim's. Assumes nothing.
use mathlib.Core.Bool.{Bool, false, cond}
use mathlib.Core.List.{List, [], ◌∷◌, ◌++◌}
use Rattle.std.specs.Prelude.{Option, None, Some}
use mathlib.Core.Path.{◌≡◌, refl, ap, ◌∙◌}
use Prim.Native.Nat.{ℕ, zero, suc, ◌+◌}
use lib.ListN.{length, take, drop, length-map}
use Rattle.queue.specs.Queue.{Input}
use Rattle.queue.specs.Queue as queue
use Rattle.registers.specs.Control.{embedded}
use Rattle.bits.proofs.Booleans.{or_false}
use Rattle.laws.proofs.RegisterValues.{half_setup, same_embedded}
use Rattle.laws.proofs.Sampled.{next_half}
use Rattle.laws.proofs.Errors.{no_error_by_pins}
use Rattle.rules.specs.declared.Capture.{Capture}
use Rattle.rules.specs.Sample.{capture_sample, next_capture}
use Rattle.samples.specs.Samples.{bus_grant}
use Rattle.delivery.specs.Noted.{Noted, Turn, word_turn, next_turn, note, noted, words, any_error}
use Rattle.delivery.specs.Delivery.{grants}

-- The sample w in the capture state s; some samples; and the capture state after them.
abbrev pub input : Capture → ℕ → Input ℕ
input s w = record { grant = bus_grant w; word = (capture_sample s w).word }

unfoldable pub inputs : Capture → List ℕ → List (Input ℕ)
inputs s [] = []
inputs s (w ∷ ws) = input s w ∷ inputs (next_capture s w) ws

unfoldable pub captures : Capture → List ℕ → Capture
captures s [] = s
captures s (w ∷ ws) = captures (next_capture s w) ws

pub inputs_append : (s : Capture) (xs ys : List ℕ) → inputs s (xs ++ ys) ≡ inputs s xs ++ inputs (captures s xs) ys
unfolding inputs captures
inputs_append s [] ys = refl
inputs_append s (w ∷ ws) ys = rw (inputs_append (next_capture s w) ws ys)

pub inputs_take : (s : Capture) (n : ℕ) (xs : List ℕ) → inputs s (take n xs) ≡ take n (inputs s xs)
unfolding inputs
inputs_take s zero xs = refl
inputs_take s (suc n) [] = refl
inputs_take s (suc n) (w ∷ ws) = rw (inputs_take (next_capture s w) n ws)

pub inputs_length : (s : Capture) (xs : List ℕ) → length (inputs s xs) ≡ length xs
unfolding inputs
inputs_length s [] = refl
inputs_length s (w ∷ ws) = ap suc (inputs_length (next_capture s w) ws)

inputs_grants : (s : Capture) (xs : List ℕ) → queue.grants (inputs s xs) ≡ grants xs
unfolding inputs grants queue.grants
inputs_grants s [] = refl
inputs_grants s (w ∷ ws) = ap (λ (n : ℕ). cond (bus_grant w) 1 0 + n) (inputs_grants (next_capture s w) ws)

pub window_grants : (s : Capture) (n k : ℕ) (xs : List ℕ) → queue.grants (take n (drop k (inputs s xs))) ≡ grants (take n (drop k xs))
unfolding inputs
window_grants s n zero xs = rw (← inputs_take, inputs_grants)
window_grants s n (suc k) [] = rw (← inputs_take s n [], inputs_grants)
window_grants s n (suc k) (w ∷ ws) = window_grants (next_capture s w) n k ws

pub captures_append : (s : Capture) (xs ys : List ℕ) → captures s (xs ++ ys) ≡ captures (captures s xs) ys
unfolding captures
captures_append s [] ys = refl
captures_append s (w ∷ ws) ys = captures_append (next_capture s w) ws ys

-- The words that arrive are the noted ones, whatever number the samples begin with, and whichever buffers the words go to (W2).
pub inputs_words : (n : ℕ) (two : Bool) (t : Turn) (s : Capture) (xs : List ℕ) → queue.words (inputs s xs) ≡ words (noted n two t s xs)
unfolding inputs noted note queue.words
inputs_words n two t s [] = refl
inputs_words n two t s (w ∷ ws) = go (capture_sample s w).word (inputs_words (n + 1) two (next_turn two t s (capture_sample s w)) (next_capture s w) ws)
  where
    next : Capture
    next = next_capture s w

    rest : List Noted
    rest = noted (n + 1) two (next_turn two t s (capture_sample s w)) next ws

    go : (o : Option ℕ) → queue.words (inputs next ws) ≡ words rest
        → queue.words (record { grant = bus_grant w; word = o } ∷ inputs next ws) ≡ words (note (n + 1) (word_turn two t) o ++ rest)
    go None e = e
    go (Some v) e = ap (λ (r : List ℕ). v ∷ r) e

pub count_words : (two : Bool) (t : Turn) (s : Capture) (xs : List ℕ) → length (queue.words (inputs s xs)) ≡ length (noted 0 two t s xs)
count_words two t s xs = rw (inputs_words 0 two t) (length-map (noted 0 two t s xs) (λ n. n.word))

-- ERR (W6): where it rises at none of some samples, it rises at none of the first of them; with ESS 0 it rises at none.
pub first_calm : (s : Capture) (xs ys : List ℕ) → any_error s (xs ++ ys) ≡ false → any_error s xs ≡ false
unfolding any_error
first_calm s [] ys quiet = refl
first_calm s (w ∷ ws) ys quiet =
    let (here, rest) = or_false (capture_sample s w).error (any_error (next_capture s w) (ws ++ ys)) quiet in
    rw (here, first_calm (next_capture s w) ws ys rest)

pub calm_by_pins : (s : Capture) (xs : List ℕ) → embedded s.registers.cr ≡ false → any_error s xs ≡ false
unfolding any_error
calm_by_pins s [] plain = refl
calm_by_pins s (w ∷ ws) plain =
    rw (no_error_by_pins s w plain, calm_by_pins (next_capture s w) ws (same_embedded _ s.registers.cr (half_setup _ _ (next_half s w)) ∙ plain))
