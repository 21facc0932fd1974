-- `frame_printer::print` meets its contract: each line fits the buffer.
use Rattle.std.proofs.Common.{arith, sym, length-take-le}
use Rattle.text.proofs.Appending.{put_within}
use Rattle.frame_printer.proofs.print.Goals as goal

pub slice_bounds-text-end : goal.slice_bounds-text-end
slice_bounds-text-end g c = put_within _ _ _ _ _ c.line-n.ensures.buffer_after (omega arith)

pub slice_bounds-write_all-end : goal.slice_bounds-write_all-end
slice_bounds-write_all-end g c = sym (length-take-le _ _ (put_within _ _ _ _ _ c.line-n.ensures.buffer_after (omega arith)))
