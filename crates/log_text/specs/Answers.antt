-- The bytes of an answer's text: of a call that may be refused, with the number of the refusal; and of what became of a sample's own word, with its value in eight hexadecimal digits.
use Rattle.std.specs.Prelude.{◌-◌, ◌^◌, List, [], ◌++◌, ℕ, Result, Ok, Err, false, codes}
use Rattle.std.specs.Fmt.{decimal, digits, padded_integral, format_spec}
use Rattle.refusals.specs.declared.Refusal.{Refusal}
use Rattle.refusals.specs.Table.{number}
use Rattle.output.specs.declared.Packing.{Packing}
use Rattle.output.specs.declared.Packing.TheVariants.{Nothing, Completed, Lost}

abbrev pub answer_text : {A : Type 0} → Result A Refusal → List ℕ
answer_text (Ok a) = codes "accepted"
answer_text (Err e) = codes "refused " ++ decimal (number e)

abbrev pub eight_digits : ℕ → List ℕ
eight_digits n = padded_integral (format_spec 32 0 4 8 (2 ^ 64 - 1)) false [] (digits 16 false n)

abbrev pub packing_text : Packing → List ℕ
packing_text Nothing = codes "no word"
packing_text (Completed w) = codes "completed " ++ eight_digits w
packing_text Lost = codes "a word lost"
