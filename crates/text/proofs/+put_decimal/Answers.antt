-- `text::put_decimal` meets its contract: the digits of the tenth, then the last one.
use mathlib.Core.Path.{◌∙◌}
use native.Mathlib.Omega.{arith}
use Rattle.text.proofs.Digits.{decimal_one, decimal_more}
use Rattle.text.proofs.Appending.{put_behind}
use Rattle.text.proofs.+put_decimal.Goals as goal

pub returns-then-x-lt10 : goal.returns-then-x-lt10
returns-then-x-lt10 t c = c.put_byte.ensures ∙ rw (c.digit.ensures, decimal_one _ c.if-x-lt10.true)

pub returns : goal.returns
returns t c = c.put_byte-2.ensures ∙ rw (c.digit-2.ensures, decimal_more _ c.if-x-lt10.false (omega (arith, c.well_formed))) (put_behind _ _ _ _ _ _ c.put_decimal-place.ensures)
