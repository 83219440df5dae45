-- What is told of what stands at a path, by the keys alone.
use Rattle.std.specs.Prelude.{ℕ, Option, Some, None, Result, Ok, Err, length}
use Rattle.forest_ops.specs.declared.operation.Cause.{Cause}
use Rattle.forest_ops.specs.declared.operation.Cause.TheVariants.{NotFound}
use Rattle.forest_ops.specs.declared.operation.Reply.{Reply}
use Rattle.forest_ops.specs.declared.operation.Reply.TheVariants.{Dir, File as FileIs, Refused, Synced}
use Rattle.key_meaning.specs.Forest.{names_in}
use Rattle.path_plan.specs.declared.walking.Spot.{Spot}
use Rattle.vol_types.specs.KeyMaps.{KeyMap}
use Rattle.vol_types.specs.declared.values.FileKind.{FileKind}
use Rattle.vol_types.specs.declared.values.FileKind.TheVariants.{Directory, File}
use Rattle.vol_types.specs.declared.values.Inode.{Inode}

-- what is told of an inode of this kind: its size and links, where it is a file, and how many names show there, where it is a directory
abbrev pub status_by : FileKind → KeyMap → (id number : ℕ) → Inode → Reply
status_by File keys id number inode = FileIs number inode.size inode.links
status_by Directory keys id number inode = Dir number (length (names_in keys id number))

-- what is told of an inode that shows in an id
abbrev pub told_of : KeyMap → (id number : ℕ) → Inode → Reply
told_of keys id number inode = status_by inode.kind keys id number inode

-- what is told of the inode of a number; that it shows none isn't so in a sound volume
abbrev pub status_in : KeyMap → (id number : ℕ) → Option Inode → Reply
status_in keys id number (Some inode) = told_of keys id number inode
status_in keys id number None = Refused NotFound

-- what a sync of what stands at a path is answered, where no forest knows the number of commits
abbrev pub sync_reply : Result Spot Cause → Reply
sync_reply (Ok spot) = Synced 0
sync_reply (Err cause) = Refused cause
