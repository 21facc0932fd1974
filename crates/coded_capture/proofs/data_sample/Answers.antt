-- `coded_capture::data_sample` meets its contract. Assumes nothing.
use mathlib.Core.Path.{sym, ◌∙◌}
use Rattle.rules.specs.Sample.{byte_of, edge, capture_sample}
use Rattle.capture.proofs.Laws.{pins_ok}
use Rattle.coded_capture.proofs.DataLaws.{pins_wait, no_code}
use Rattle.coded_capture.proofs.data_sample.Goals as goal

pub line_datum-requires : goal.line_datum-requires
unfolding byte_of
line_datum-requires c = record {
  waiting_value = (pins_wait _ _ c.remember_pins-seen.ensures (rw c.apart-s.ensures c.requires.cr_value.1), rw c.pixel_data.ensures c.requires.cr_value.2);
  capture_ok = rw (c.remember_pins-seen.ensures, c.apart-s.ensures) (pins_ok _ c.requires.capture_ok);
}

pub returns-then-goes_on : goal.returns-then-goes_on
unfolding capture_sample edge byte_of
returns-then-goes_on c = let empty = pins_wait _ _ c.remember_pins-seen.ensures (rw c.apart-s.ensures c.requires.cr_value.1) in
    rw (
      c.requires.cr_value.0,
      ← c.apart-s.ensures,
      sym c.goes_on.ensures ∙ c.if-goes_on.true,
      ← c.remember_pins-seen.ensures,
      ← c.pixel_data.ensures,
      no_code c.remember_pins-seen.result _ empty,
    )
    c.line_datum.ensures
