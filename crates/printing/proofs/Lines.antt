-- What is printed is its lines one after the other, each asked for by its number; and each line by its number.
use mathlib.Core.Bool.{false}
use mathlib.Core.List.{List, [], ◌∷◌, ◌++◌, flatten}
use mathlib.Core.Path.{◌≡◌, refl, sym, ap, ◌∙◌}
use Prim.Native.Nat.{ℕ, zero, suc, ◌+◌, ◌-◌, ◌*◌, ◌≤◌, ◌<◌}
use native.Mathlib.Nat.{add-zero, add-suc, suc-add}
use native.Mathlib.Omega.{arith}
use lib.Dec.{eqb}
use lib.ListN.{length, get_or}
use Rattle.output.specs.Output.{word_at}
use Rattle.rules.specs.declared.Device.{Device}
use Rattle.text.specs.Text.{ascii}
use Rattle.printing.specs.Printed.{count_line, word_line, word_lines, report, lines, printed, line, asked}

-- Asking from one number further on is asking for the numbers one larger.
later : (f : ℕ → List ℕ) (k n : ℕ) → asked f (suc k) n ≡ asked (λ j. f (suc j)) k n
unfolding asked
later f k zero = refl
later f k (suc n) = ap (λ (l : List ℕ). f (suc k) ++ l) (later f (suc k) n)

in_order : (ls : List (List ℕ)) → asked (λ k. get_or ls k []) 0 (length ls) ≡ flatten ls
unfolding asked flatten
in_order [] = refl
in_order (l ∷ ls) = ap (λ (r : List ℕ). l ++ r) (later (λ k. get_or (l ∷ ls) k []) 0 (length ls) ∙ in_order ls)

pub printed_in_lines : (number : ℕ) (d : Device) (memory : List ℕ) → asked (line number d memory) 0 (length (lines number d memory)) ≡ printed number d memory
unfolding printed
printed_in_lines number d memory = in_order (lines number d memory)

-- As many words as asked for, and each of them.
pub length_words : (memory : List ℕ) (k n : ℕ) → length (word_lines memory k n) ≡ n
unfolding word_lines
length_words memory k zero = refl
length_words memory k (suc n) = ap suc (length_words memory (suc k) n)

words_on : (memory : List ℕ) (k n j : ℕ) → j < n → get_or (word_lines memory k n) j [] ≡ word_line (word_at memory (4 * (k + j)))
unfolding word_lines
words_on memory k zero j h = absurd (omega arith)
words_on memory k (suc n) zero h = rw add-zero
words_on memory k (suc n) (suc j) h = words_on memory (suc k) n j (omega arith) ∙ ap (λ (x : ℕ). word_line (word_at memory (4 * x))) (suc-add k j ∙ sym (add-suc k j))

words_over : (memory : List ℕ) (k n j : ℕ) → n ≤ j → get_or (word_lines memory k n) j [] ≡ []
unfolding word_lines
words_over memory k zero j h = refl
words_over memory k (suc n) zero h = absurd (omega arith)
words_over memory k (suc n) (suc j) h = words_over memory (suc k) n j (omega arith)

-- The lines of the words behind the five of counts and flags.
module _ (d : Device) (memory : List ℕ) where
  words : List (List ℕ)
  words = word_lines memory 0 d.core.output.counts.landed

  behind : (j : ℕ) → get_or (report d memory) (suc (suc (suc (suc (suc j))))) [] ≡ get_or words j []
  unfolding report words
  behind j = refl

  fifth : (k : ℕ) → 5 ≤ k → k ≡ suc (suc (suc (suc (suc (k - 5)))))
  fifth k high = omega arith

  pub word_at_line : (k : ℕ) → 5 ≤ k → k - 5 < d.core.output.counts.landed → get_or (report d memory) k [] ≡ word_line (word_at memory (4 * (k - 5)))
  unfolding words
  word_at_line k high more =
      let none : 0 + (k - 5) ≡ k - 5 = omega arith in
      ap (λ (x : ℕ). get_or (report d memory) x []) (fifth k high) ∙ behind (k - 5) ∙ words_on memory 0 _ (k - 5) more ∙ ap (λ (x : ℕ). word_line (word_at memory (4 * x))) none

  pub no_line : (k : ℕ) → 5 ≤ k → d.core.output.counts.landed ≤ k - 5 → get_or (report d memory) k [] ≡ []
  unfolding words
  no_line k high past = ap (λ (x : ℕ). get_or (report d memory) x []) (fifth k high) ∙ behind (k - 5) ∙ words_over memory 0 _ (k - 5) past

-- A refusal has one line, and none behind it.
pub refused_lines : (number : ℕ) (d : Device) (memory : List ℕ) → eqb number 0 ≡ false → lines number d memory ≡ count_line (ascii "refused ") number ∷ []
unfolding lines
refused_lines number d memory e = rw e

pub past_one : (l : List ℕ) (k : ℕ) → (k ≡ 0 → ⊥) → get_or (l ∷ []) k [] ≡ []
past_one l zero some = absurd (some refl)
past_one l (suc k) some = refl
