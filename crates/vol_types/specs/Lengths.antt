-- How many bytes a key takes on disk.
use Rattle.std.specs.Prelude.{ℕ, ◌+◌, ◌*◌, Option, Some, None, length, sum_by}
use Rattle.vol_types.specs.declared.values.Link.{Link}
use Rattle.vol_types.specs.declared.values.Sub.{Sub}
use Rattle.vol_types.specs.declared.values.Value.{Value}
use Rattle.vol_types.specs.declared.values.Value.TheVariants.{Inode, Names, Extent, Hole, White, Subs, Snap, Live, Back, Gone, Counter, Node}

-- the bytes of a name of a directory, with the number, the kind and the length before them
abbrev pub link_length : Link → ℕ
link_length link = 10 + length link.name

-- the bytes of a subvolume's name, with the id, the root, the flags and the length before them
abbrev pub sub_length : Sub → ℕ
sub_length sub = 14 + length sub.name

-- the bytes of a value's fields
abbrev pub fields_length_of : Value → ℕ
fields_length_of (Inode inode) = 13
fields_length_of (Names links) = 1 + sum_by link_length links
fields_length_of (Extent extent) = 2 + 9 * length extent.pointers + 8 * length extent.digests
fields_length_of (Hole blocks) = 4
fields_length_of White = 0
fields_length_of (Subs subs) = 1 + sum_by sub_length subs
fields_length_of (Snap snap) = 13
fields_length_of (Live live) = 5
fields_length_of (Back extent) = 20
fields_length_of Gone = 0
fields_length_of (Counter next) = 8
fields_length_of (Node node) = 10 + 5 * length node.places

-- the bytes of a key: 20 for its position and 1 for its kind, and the fields of its value, if there is one
abbrev pub key_length_of : Option Value → ℕ
key_length_of None = 21
key_length_of (Some value) = 21 + fields_length_of value
