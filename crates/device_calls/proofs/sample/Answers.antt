-- `device_calls::sample` meets its contract. Assumes nothing.
use Rattle.std.proofs.Common.{rules}
use Rattle.board.proofs.Modes.{sample_one, sample_two}
use Rattle.call_rules.specs.DeviceCalls.{sample}
use Rattle.device_calls.proofs.sample.Goals as goal

pub returns-in_default : goal.returns-in_default
unfolding sample
returns-in_default c = let refused = sample_two c.in_ok-b.b _ c.args.memory.now c.args.start c.args.sample c.in_default.is in search rules

pub returns-in_err-after : goal.returns-in_err-after
unfolding sample
returns-in_err-after c = let same = sample_one c.in_ok-b.b c.args.memory.now c.args.start c.args.sample c.in-One.is in search rules

pub returns : goal.returns
unfolding sample
returns c = let same = sample_one c.in_ok-b.b c.args.memory.now c.args.start c.args.sample c.in-One.is in search rules
