-- New inodes, inodes with another field, and the note that a file is gone.
use Rattle.std.specs.Prelude.{ℕ, Some}
use Rattle.vol_types.specs.declared.keys.Update.{Update}
use Rattle.vol_types.specs.declared.positions.Btree.TheVariants.{Deleted}
use Rattle.vol_types.specs.declared.values.FileKind.{FileKind}
use Rattle.vol_types.specs.declared.values.Inode.{Inode}
use Rattle.vol_types.specs.declared.values.Value.TheVariants.{Gone}

-- an inode of a kind with one name and no bytes
abbrev pub new_inode : FileKind → Inode
new_inode kind = record { kind = kind; links = 1; size = 0 }

-- the inode with another count of links
abbrev pub with_links : Inode → ℕ → Inode
with_links inode links = record inode { links = links }

-- the inode with another size
abbrev pub with_size : Inode → ℕ → Inode
with_size inode size = record inode { size = size }

-- the update that notes a number as that of a file that is gone in an id
abbrev pub note_gone : ℕ → ℕ → Update
note_gone id number = record { btree = Deleted; level = 0; pos = record { inode = 0; offset = number; snapshot = id }; value = Some Gone }
