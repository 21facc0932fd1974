-- `files::set_up` meets its contract: the writes left lead to the same end.
use Rattle.file_rules.proofs.SettingUp.{Setting}
use Rattle.files.proofs.set_up.Given as goal

abbrev pub invariant-loop-place : goal.invariant-loop-place
invariant-loop-place l = Setting l.initial.d l.file l.d l.place
