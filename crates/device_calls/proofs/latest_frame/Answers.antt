-- `device_calls::latest_frame` meets its contract. Assumes nothing.
use Rattle.std.proofs.Common.{rules}
use Rattle.call_rules.specs.DeviceCalls.{latest_frame}
use Rattle.device_calls.proofs.latest_frame.Goals as goal

pub returns : goal.returns
unfolding latest_frame
returns c = let words = c.frame_words.ensures c.args.length_a c.args.length_b c.args.frame.now in search rules
