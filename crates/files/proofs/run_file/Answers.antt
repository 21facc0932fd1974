-- `files::run_file` meets its contract.
use Rattle.file_rules.proofs.SettingUp.{fresh_ready}
use Rattle.files.proofs.run_file.Goals as goal

pub run_on-requires : goal.run_on-requires
run_on-requires c = rw c.fresh.ensures fresh_ready
