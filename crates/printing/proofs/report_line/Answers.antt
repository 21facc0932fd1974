-- `printing::report_line` meets its contract: behind the fifth line, those of the words.
use Rattle.std.proofs.Common.{◌≤◌, ◌∙◌, sym, arith}
use Rattle.text.proofs.Appending.{put_none}
use Rattle.printing.proofs.Lines.{word_at_line, no_line}
use Rattle.printing.proofs.report_line.Goals as goal

pub returns-in_default : goal.returns-in_default
returns-in_default c =
    let behind : 5 ≤ c.args.k = omega arith in
    c.word_line.ensures ∙ rw (c.number.ensures.value, word_at_line c.args.d c.args.memory.now c.args.k behind c.if-k-output.true)

pub returns-in_default-2 : goal.returns-in_default-2
returns-in_default-2 c =
    let behind : 5 ≤ c.args.k = omega arith in
    rw (no_line c.args.d c.args.memory.now c.args.k behind c.if-k-output.false) (sym (put_none 0 _))
