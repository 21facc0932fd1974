-- `printing::line` meets its contract: the line by its number, and its length, as it fits.
use Rattle.std.proofs.Common.{◌∙◌, sym}
use Rattle.refusals.proofs.Numbered.{never_zero}
use Rattle.rules.specs.RegisterCalls.{no_device}
use Rattle.text.proofs.Appending.{put_none}
use Rattle.printing.specs.Printed.{lines}
use Rattle.printing.proofs.Lines.{refused_lines, past_one}
use Rattle.printing.proofs.Fitting.{line_whole}
use Rattle.printing.proofs.line.Goals as goal

pub returns-in-Ok-clause-buffer_after : goal.returns-in-Ok-clause-buffer_after
unfolding lines
returns-in-Ok-clause-buffer_after c = rw c.in-Ok.is c.report_line.ensures

pub returns-in-Ok-clause-value : goal.returns-in-Ok-clause-value
returns-in-Ok-clause-value c = line_whole _ _ _ _ _ _ _ (returns-in-Ok-clause-buffer_after c)

pub returns-in-Err-clause-buffer_after : goal.returns-in-Err-clause-buffer_after
returns-in-Err-clause-buffer_after c =
    rw (c.in-Err.is, refused_lines _ no_device c.args.memory.now (never_zero c.in-Err.refusal), c.if-k-eq0.true) (c.count_line.ensures ∙ rw c.number.ensures)

pub returns-in-Err-clause-value : goal.returns-in-Err-clause-value
returns-in-Err-clause-value c = line_whole _ _ _ _ _ _ _ (returns-in-Err-clause-buffer_after c)

pub returns-in-Err-2-clause-buffer_after : goal.returns-in-Err-2-clause-buffer_after
returns-in-Err-2-clause-buffer_after c =
    rw (c.in-Err-2.is, refused_lines _ no_device c.args.memory.now (never_zero c.in-Err-2.field-0), past_one _ c.args.k c.if-k-eq0.false) (sym (put_none 0 _))

pub returns-in-Err-2-clause-value : goal.returns-in-Err-2-clause-value
returns-in-Err-2-clause-value c = line_whole _ _ _ _ _ _ _ (returns-in-Err-2-clause-buffer_after c)
