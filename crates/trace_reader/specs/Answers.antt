-- The paper's values of each case of the reader's answers.
use Rattle.std.specs.Prelude.{Option, Some, None, Result, Ok, Err}
use Rattle.trace_format.specs.Reading as reading
use Rattle.trace_reader.specs.declared.Item.{Item}
use Rattle.trace_reader.specs.declared.Item.TheVariants as item_cases
use Rattle.trace_reader.specs.declared.Read.{Read}
use Rattle.refusals.specs.declared.Refusal.{Refusal}
use Rattle.refusals.specs.Table.{number}

-- A write, a sample, the end, or a refusal.
abbrev pub item : Result (Option Item) Refusal → reading.Item
item (Ok (Some (item_cases.Write w))) = reading.a_write w
item (Ok (Some (item_cases.Sample w))) = reading.a_sample w
item (Ok None) = reading.the_end
item (Err e) = reading.refused (number e)

-- What a reader found, and its place afterwards.
abbrev pub read : Read → reading.Read
read r = record { item = item r.item; place = r.place }
