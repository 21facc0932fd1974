-- Below the number of writes an item is a write.
use mathlib.Core.List.{List}
use mathlib.Core.Path.{◌≡◌, ◌∙◌}
use Prim.Native.Nat.{ℕ, ◌<◌}
use Rattle.std.specs.Prelude.{Option, Some, None, Result, Ok, Err}
use Rattle.refusals.specs.declared.Refusal.{Refusal}
use Rattle.trace_reader.specs.declared.Item.{Item}
use Rattle.trace_reader.specs.declared.Item.TheVariants.{Write, Sample}
use Rattle.trace_reader.specs.Answers as trace_answers
use Rattle.trace_format.specs.Reading as reading
use Rattle.trace_format.proofs.Walk.{write_place}

pub a_write : (file : List ℕ) (place : ℕ) (i : Result (Option Item) Refusal) → place < reading.write_count file → trace_answers.item i ≡ reading.item file place → i ≡ Ok (Some (Write (reading.write_at file place)))
a_write file place i h e = go i (e ∙ write_place file place h)
  where
    go : (i : Result (Option Item) Refusal) → trace_answers.item i ≡ reading.a_write (reading.write_at file place) → i ≡ Ok (Some (Write (reading.write_at file place)))
    go (Ok (Some (Write v))) e = let same : v ≡ reading.write_at file place = cc in rw same
    go (Ok (Some (Sample v))) e = cc
    go (Ok None) e = cc
    go (Err v) e = cc
