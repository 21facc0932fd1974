-- `files::write_at` meets its contract.
use Rattle.files.proofs.Items.{a_write}
use Rattle.files.proofs.write_at.Goals as goal
use Rattle.files.proofs.write_at.Goals.{in_default-via-in-Ok+in-Some+in_default, in_default-via-in-Ok+in_default, in_default-via-in_default}

pub unreachable-requires : goal.unreachable-requires
unreachable-requires c =
    let write = a_write _ _ c.item_at.result c.requires c.item_at.ensures.result_value in
    elim c.in_default.branch [ in_default-via-in-Ok+in-Some+in_default w ↦ cc | in_default-via-in-Ok+in_default w ↦ cc | in_default-via-in_default w ↦ cc ]

pub returns : goal.returns
returns c = let write = a_write _ _ c.item_at.result c.requires c.item_at.ensures.result_value in cc
