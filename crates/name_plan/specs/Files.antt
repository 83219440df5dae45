-- The file that a number stands for in an id.
use Rattle.std.specs.Prelude.{ℕ, Option, None, Some, option_and_then}
use Rattle.key_meaning.specs.Forest.{inode_in}
use Rattle.vol_types.specs.KeyMaps.{KeyMap}
use Rattle.vol_types.specs.declared.values.FileKind.{FileKind}
use Rattle.vol_types.specs.declared.values.FileKind.TheVariants.{Directory, File}
use Rattle.vol_types.specs.declared.values.Inode.{Inode}

-- an inode, where it is of the kind of files
abbrev pub if_file_kind : FileKind → Inode → Option Inode
if_file_kind File inode = Some inode
if_file_kind Directory inode = None

-- an inode, where it is a file's
abbrev pub if_file : Inode → Option Inode
if_file inode = if_file_kind inode.kind inode

-- the inode of a number that shows in an id, where it is a file's
abbrev pub file_shown : KeyMap → ℕ → ℕ → Option Inode
file_shown keys id number = option_and_then if_file (inode_in keys id number)
