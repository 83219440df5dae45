-- The updates by which an operation is done, as a function of the keys.
use Rattle.std.specs.Prelude.{ℕ, List, [], Option, Some, None, Result, Ok, Err}
use Rattle.forest_ops.specs.declared.operation.Cause.{Cause}
use Rattle.forest_ops.specs.declared.operation.Op.{Op}
use Rattle.forest_ops.specs.declared.operation.Op.TheVariants.{Delsub, Link, Mkdir, Mkfile, Rename, Rmdir, Snap, Subvol, Unlink}
use Rattle.name_plan.specs.Gone.{removed_at, unlinked_at}
use Rattle.name_plan.specs.Moved.{renamed_at}
use Rattle.name_plan.specs.New.{linked_at, made_at}
use Rattle.subvol_ops.specs.Plans.{snapshot_made, subvolume_made, subvolume_removed}
use Rattle.vol_types.specs.KeyMaps.{KeyMap}
use Rattle.vol_types.specs.declared.keys.Update.{Update}
use Rattle.vol_types.specs.declared.values.FileKind.TheVariants.{Directory, File}

-- the updates, or none where there is a refusal
abbrev pub updates_or : Result (List Update) Cause → List Update
updates_or (Ok updates) = updates
updates_or (Err cause) = []

-- the updates of a move, or none where there is nothing to move or a refusal
abbrev pub moves_or : Result (Option (List Update)) Cause → List Update
moves_or (Ok (Some updates)) = updates
moves_or (Ok None) = []
moves_or (Err cause) = []

-- the updates by which a client's operation is done: none where it is refused or changes nothing
abbrev pub updates_of : KeyMap → ℕ → Op → List Update
updates_of keys client (Mkdir path) = updates_or (made_at Directory keys client path)
updates_of keys client (Mkfile path) = updates_or (made_at File keys client path)
updates_of keys client (Link from to) = updates_or (linked_at keys from to)
updates_of keys client (Unlink path) = updates_or (unlinked_at keys path)
updates_of keys client (Rmdir path) = updates_or (removed_at keys path)
updates_of keys client (Rename from to) = moves_or (renamed_at keys from to)
updates_of keys client (Subvol name) = updates_or (subvolume_made keys client name)
updates_of keys client (Snap source copy locked) = updates_or (snapshot_made keys source copy locked)
updates_of keys client (Delsub name) = updates_or (subvolume_removed keys name)
updates_of keys client other = []
