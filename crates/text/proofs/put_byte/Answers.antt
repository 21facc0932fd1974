-- `text::put_byte` meets its contract.
use mathlib.Core.Path.{sym}
use Rattle.text.proofs.Appending.{put_one, put_full}
use Rattle.text.proofs.put_byte.Goals as goal

pub returns-then-at-buffer : goal.returns-then-at-buffer
returns-then-at-buffer c = sym (put_one _ _ _ c.if-at-buffer.true)

pub returns : goal.returns
returns c = sym (put_full _ _ _ c.if-at-buffer.false)
