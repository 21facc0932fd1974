-- A state that has taken some parts of a file, with one more; and what is printed of it.
use mathlib.Core.List.{List, [], ◌∷◌, ◌++◌}
use mathlib.Core.Path.{◌≡◌, refl, sym, ap, ◌∙◌}
use Prim.Native.Nat.{ℕ, ◌<◌}
use lib.ListN.{get_or}
use Rattle.rules.specs.declared.Device.{Device}
use Rattle.rules.specs.State.{fresh}
use Rattle.file_rules.specs.Parts.{State, Taken, opened, take_bytes, take_parts, ended, run_parts, joined}
use Rattle.parts.specs.declared.Parts.{Parts}
use Rattle.parts.specs.Answers.{state, taken}
use Rattle.printing.specs.Printed.{printed, blank, printed_file}
use Rattle.printing.proofs.PrintedByParts.{printed_by_parts}
use Rattle.frame_printer.specs.Reading.{begun, ByParts}

-- One part more.
part_more : (start : ℕ) (t : Taken) (ps : List (List ℕ)) (p : List ℕ) → take_parts start t (ps ++ (p ∷ [])) ≡ take_bytes start (take_parts start t ps) p
unfolding take_parts
part_more start t [] p = refl
part_more start t (q ∷ ps) p = part_more start (take_bytes start t q) ps p

pub opened_by_parts : (p : Parts) (d : Device) → state p ≡ opened d → d ≡ fresh → ByParts p blank
unfolding take_parts
opened_by_parts p d is e = ([], ap (λ (s : State). record { state = s; memory = blank }) (is ∙ ap opened e))

pub by_part : (p p' : Parts) (memory memory' bytes : List ℕ) → ByParts p memory → taken p' memory' ≡ take_bytes 0 (taken p memory) bytes → ByParts p' memory'
by_part p p' memory memory' bytes by more =
    (by.0 ++ (bytes ∷ []), more ∙ ap (λ (t : Taken). take_bytes 0 t bytes) by.1 ∙ sym (part_more 0 begun by.0 bytes))

-- So what is printed at the end is what the file prints that the parts are.
pub prints_the_file : (p : Parts) (memory : List ℕ) (by : ByParts p memory) → ((i : ℕ) → get_or (joined by.0) i 0 < 256)
    → let e = ended (state p) memory 0 in printed e.number e.device memory ≡ printed_file (joined by.0)
unfolding run_parts
prints_the_file p memory by bytes = ap (λ (t : Taken). let e = ended t.state t.memory 0 in printed e.number e.device t.memory) by.1 ∙ printed_by_parts by.0 bytes
