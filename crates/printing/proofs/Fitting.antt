-- Each line fits into 32 bytes: at most twenty digits, and at most ten characters before them.
use mathlib.Core.Bool.{Bool, true, false, cond}
use mathlib.Core.List.{List, [], ◌∷◌}
use mathlib.Core.Path.{◌≡◌, ap}
use Prim.Native.Nat.{ℕ, zero, suc, ◌≤◌}
use native.Mathlib.Omega.{arith}
use lib.Dec.{eqb}
use lib.ListN.{length, get_or, length-append}
use Rattle.text.specs.Text.{ascii}
use Rattle.text.specs.Putting.{Put, putting, put}
use Rattle.text.proofs.Digits.{decimal_short, hex_length}
use Rattle.rules.specs.declared.Device.{Device}
use Rattle.printing.specs.Printed.{count_line, flags_line, word_line, word_lines, report, lines, line}

count_fits : (name : List ℕ) (n : ℕ) → length name ≤ 10 → length (count_line name n) ≤ 32
unfolding count_line
count_fits name n short =
    let digits = decimal_short n in
    rw (length-append, length-append) (omega arith)

flags_fit : (ris : ℕ) → length (flags_line ris) ≤ 32
unfolding flags_line
flags_fit ris = rw (length-append, length-append, hex_length) (omega arith)

words_fit : (memory : List ℕ) (k n j : ℕ) → length (get_or (word_lines memory k n) j []) ≤ 32
unfolding word_lines word_line
words_fit memory k zero j = omega arith
words_fit memory k (suc n) zero = rw (length-append, hex_length) (omega arith)
words_fit memory k (suc n) (suc j) = words_fit memory (suc k) n j

module _ (d : Device) (memory : List ℕ) where
  report_fits : (k : ℕ) → length (get_or (report d memory) k []) ≤ 32
  unfolding report
  report_fits zero = count_fits (ascii "samples ") _ (omega arith)
  report_fits (suc zero) = count_fits (ascii "words ") _ (omega arith)
  report_fits (suc (suc zero)) = count_fits (ascii "held ") _ (omega arith)
  report_fits (suc (suc (suc zero))) = count_fits (ascii "discarded ") _ (omega arith)
  report_fits (suc (suc (suc (suc zero)))) = flags_fit d.core.capture.registers.ris
  report_fits (suc (suc (suc (suc (suc j))))) = words_fit memory 0 d.core.output.counts.landed j

  refused_fits : (number k : ℕ) → length (get_or (count_line (ascii "refused ") number ∷ []) k []) ≤ 32
  refused_fits number zero = count_fits (ascii "refused ") number (omega arith)
  refused_fits number (suc k) = omega arith

  pub line_fits : (number k : ℕ) → length (line number d memory k) ≤ 32
  unfolding lines
  line_fits number k = go (eqb number 0)
    where
      go : (b : Bool) → length (get_or (cond b (report d memory) (count_line (ascii "refused ") number ∷ [])) k []) ≤ 32
      go true = report_fits k
      go false = refused_fits number k

  -- So into 32 bytes a line is put whole.
  pub line_whole : (number k : ℕ) (buffer : List ℕ) (r : ℕ) (left : List ℕ) → putting r left ≡ put (line number d memory k) 0 buffer → 32 ≤ length buffer → r ≡ length (line number d memory k)
  unfolding put
  line_whole number k buffer r left is room = let fits = line_fits number k in omega (arith, ap (λ (p : Put). p.place) is)
