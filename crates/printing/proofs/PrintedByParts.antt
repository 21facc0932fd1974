-- A file by parts, cut in any way, prints what the whole file does; and where no byte more is wanted, whatever stands behind what has come.
use mathlib.Core.Bool.{false}
use mathlib.Core.List.{List, [], ◌∷◌, ◌++◌, append-nil}
use mathlib.Core.Path.{◌≡◌, sym, ap, ◌∙◌}
use Prim.Native.Nat.{ℕ, ◌<◌}
use lib.Dec.{eqb}
use lib.ListN.{get_or}
use borrow.Author.Tests.{eqb-true}
use Rattle.rules.specs.declared.Device.{Device}
use Rattle.rules.specs.State.{fresh}
use Rattle.rules.specs.Run.{RunResult}
use Rattle.file_rules.specs.File.{run_on}
use Rattle.file_rules.specs.Parts.{Taken, opened, wants, take_bytes, take_parts, ended, run_parts, joined}
use Rattle.file_rules.proofs.SettingUp.{fresh_ready}
use Rattle.file_rules.proofs.Taking.{bytes_append, parts_joined, unwanted}
use Rattle.file_rules.proofs.Singles.{by_bool}
use Rattle.file_rules.proofs.ByParts.{by_parts, accepted_memory}
use Rattle.printing.specs.Printed.{lines, printed, blank, printed_file}

-- The text of a run.
abbrev text_of : RunResult → List ℕ
text_of r = printed r.number r.device r.memory

-- Of a refused file the memory is not printed.
refused_alike : (number : ℕ) (d : Device) (m m' : List ℕ) → eqb number 0 ≡ false → printed number d m ≡ printed number d m'
unfolding printed lines
refused_alike number d m m' e = rw e

module _ (parts : List (List ℕ)) (bytes : (i : ℕ) → get_or (joined parts) i 0 < 256) where
  pub printed_by_parts : let r = run_parts fresh parts blank 0 in printed r.number r.device r.memory ≡ printed_file (joined parts)
  unfolding printed_file
  printed_by_parts =
      let f = joined parts in
      let r = run_on fresh f blank 0 in
      ap text_of (by_parts fresh parts blank 0 bytes fresh_ready.0 fresh_ready.1)
      ∙ by_bool (eqb r.number 0)
      (λ taken. ap (printed r.number r.device) (accepted_memory fresh f blank 0 bytes fresh_ready.0 fresh_ready.1 (eqb-true _ 0 taken)))
      (λ refused. refused_alike r.number r.device _ _ refused)

-- The state before the first byte.
abbrev begun : Taken
begun = record { state = opened fresh; memory = blank }

module _ (parts : List (List ℕ)) (rest : List ℕ) (bytes : (i : ℕ) → get_or (joined parts ++ rest) i 0 < 256)
    (enough : let t = take_parts 0 begun parts in wants t.state.head t.state.taken ≡ false) where
  same_state : take_parts 0 begun ((joined parts ++ rest) ∷ []) ≡ take_parts 0 begun parts
  same_state =
      parts_joined 0 begun ((joined parts ++ rest) ∷ [])
      ∙ ap (take_bytes 0 begun) (append-nil (joined parts ++ rest))
      ∙ bytes_append 0 begun (joined parts) rest
      ∙ unwanted 0 (take_bytes 0 begun (joined parts)) rest (rw (parts_joined 0 begun parts) at enough)
      ∙ sym (parts_joined 0 begun parts)

  left_of : Taken → RunResult
  left_of t = record { number = (ended t.state t.memory 0).number; device = (ended t.state t.memory 0).device; memory = t.memory }

  pub printed_early : let r = run_parts fresh parts blank 0 in printed r.number r.device r.memory ≡ printed_file (joined parts ++ rest)
  unfolding run_parts left_of
  printed_early =
      let whole : List (List ℕ) = (joined parts ++ rest) ∷ [] in
      let same : joined whole ≡ joined parts ++ rest = append-nil (joined parts ++ rest) in
      sym (ap (λ (t : Taken). text_of (left_of t)) same_state) ∙ printed_by_parts whole (rw same bytes) ∙ ap printed_file same
