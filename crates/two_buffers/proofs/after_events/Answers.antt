-- `two_buffers::after_events` meets its contract. Assumes nothing.
use mathlib.Core.Path.{ap}
use Rattle.buffers.specs.Kept.{Kept}
use Rattle.two_buffers.specs.Answers.{kept, turned}
use Rattle.two_buffers.proofs.Closing.{events_in_turn}
use Rattle.two_buffers.proofs.after_events.Goals as goal

pub returns : goal.returns
unfolding turned
returns c = let a = c.args in
    let last =
    events_in_turn a.s a.w a.core a.answer (kept a.k)
    c.after_landing-landed.ensures
    c.after_word-worded.ensures
    c.error_at.ensures
    c.closes-ended.ensures
    c.after_frame-last.ensures in
    rw c.placed.ensures (ap (λ (k : Kept). turned k a.core) last)
