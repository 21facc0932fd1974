-- `text::hex_digits` meets its contract: each turn puts one digit more in front.
use Rattle.std.proofs.Common.{◌≡◌, ◌-◌, ◌<◌, ◌∙◌, length, arith, length-set}
use Rattle.text.specs.Text.{hex}
use Rattle.text.proofs.Digits.{hex_before}
use Rattle.text.proofs.hex_digits.Goals as goal

pub loop-i-preserved : goal.loop-i-preserved
loop-i-preserved g c =
    let l = c.loop-i in
    let within : l.i - 1 < length l.digits = omega arith in
    (length-set _ _ _ ∙ l.invariant.0, hex_before _ _ _ _ c.loop-i-test.true within c.digit.ensures ∙ l.invariant.1)

pub returns : goal.returns
unfolding hex
returns g c = let first : c.loop-i.i ≡ 0 = omega arith in rw first at c.loop-i.invariant.1
