-- The forest that the keys of a volume mean, where the bytes of a block are those that an image holds.
use Rattle.std.specs.Prelude.{ℕ, ◌/◌, ◌%◌, ◌==◌, Bool, true, false, Option, None, Some, List, [], map, flat_map, find, slice_index, option_map, option_and_then, unwrap_or, if◌then◌else◌}
use Rattle.std.specs.List.{range_with_len}
use Rattle.std.specs.Ordering.{nat_cmp, is_eq}
use Rattle.plain_forest.specs.Forest.{Names, Tree, Forest}
use Rattle.vol_digest.specs.Digests.{slot_of}
use Rattle.vol_types.specs.KeyMaps.{KeyMap, value_in}
use Rattle.vol_types.specs.Limits.{block_size}
use Rattle.vol_types.specs.Ranges.{name_cmp}
use Rattle.vol_types.specs.declared.pointers.Place.{Place}
use Rattle.vol_types.specs.declared.positions.Btree.TheVariants.{Inodes, Dirents, Subvols, Counters}
use Rattle.vol_types.specs.declared.positions.Pos.{Pos}
use Rattle.vol_types.specs.declared.values.FileKind.{FileKind}
use Rattle.vol_types.specs.declared.values.FileKind.TheVariants.{File, Directory}
use Rattle.vol_types.specs.declared.values.Inode.{Inode}
use Rattle.vol_types.specs.declared.values.Link.{Link}
use Rattle.vol_types.specs.declared.values.Sub.{Sub}
use Rattle.vol_types.specs.declared.values.Value.{Value}
use Rattle.vol_types.specs.declared.values.Value.TheVariants as values
use Rattle.key_meaning.specs.Blocks.{Block, block_in}
use Rattle.key_meaning.specs.Tables.{map_over}
use Rattle.key_meaning.specs.Visible.{visible}

-- what an image holds: the bytes at the first of these places whose digest this is, or none
abbrev pub Read : Type 0
Read = List Place → ℕ → Option (List ℕ)

-- the inode that a value holds
abbrev pub inode_of : Option Value → Option Inode
inode_of (Some (values.Inode inode)) = Some inode
inode_of other = None

-- the inode of a number that shows in an id
abbrev pub inode_in : KeyMap → ℕ → ℕ → Option Inode
inode_in keys id number = inode_of (visible keys Inodes 0 number id)

-- what a number stands for in an id
abbrev pub kind_in : KeyMap → ℕ → ℕ → Option FileKind
kind_in keys id number = option_map (λ inode. inode.kind) (inode_in keys id number)

-- the bytes of a block of a file in an id; none where no block shows, or where it is lost
abbrev pub bytes_in : KeyMap → Read → ℕ → ℕ → ℕ → Option (List ℕ)
bytes_in keys read id file block = option_and_then (λ (shown : Block). read shown.places shown.digest) (block_in keys id file block)

-- a byte of a block, which is zero where there are no bytes
abbrev pub byte_at : Option (List ℕ) → ℕ → ℕ
byte_at None index = 0
byte_at (Some bytes) index = slice_index bytes index

-- a byte of a file in an id
abbrev pub byte_in : KeyMap → Read → ℕ → ℕ → ℕ → ℕ
byte_in keys read id file index = byte_at (bytes_in keys read id file (index / block_size)) (index % block_size)

-- the bytes of a file of this size in an id
abbrev pub content_of : KeyMap → Read → ℕ → ℕ → ℕ → List ℕ
content_of keys read id file size = map (byte_in keys read id file) (range_with_len 0 size)

-- the size of a kind of inode that has bytes, which is a file
abbrev pub size_of_kind : FileKind → ℕ → Option ℕ
size_of_kind File size = Some size
size_of_kind Directory size = None

-- the size of an inode that is a file
abbrev pub size_of : Inode → Option ℕ
size_of inode = size_of_kind inode.kind inode.size

-- the bytes of the file that a number stands for in an id, if it stands for one
abbrev pub file_in : KeyMap → Read → ℕ → ℕ → Option (List ℕ)
file_in keys read id number = option_map (content_of keys read id number) (option_and_then size_of (inode_in keys id number))

-- the names that a value holds
abbrev pub links_of : Option Value → List Link
links_of (Some (values.Names links)) = links
links_of other = []

-- the names that show under a slot of a directory in an id
abbrev pub links_in : KeyMap → ℕ → ℕ → ℕ → List Link
links_in keys id directory slot = links_of (visible keys Dirents directory slot id)

-- that of some names which is this one
abbrev pub link_named : List ℕ → List Link → Option Link
link_named name links = find (λ link. is_eq (name_cmp name link.name)) links

-- where a name of a directory leads in an id; it is looked for under its slot, so one that doesn't stand there is found by
-- nobody, and is no name of the forest
abbrev pub number_in : KeyMap → ℕ → ℕ → List ℕ → Option ℕ
number_in keys id directory name = option_map (λ link. link.number) (link_named name (links_in keys id directory (slot_of name)))

-- the names in an entry, where it is one of this directory
abbrev pub names_of_entry : ℕ → Pos × Value → List (List ℕ)
names_of_entry directory entry = if entry.0.inode == directory then map (λ link. link.name) (links_of (Some entry.1)) else []

-- all names that a directory has in any id
abbrev pub names_under : KeyMap → ℕ → List (List ℕ)
names_under keys directory = flat_map (names_of_entry directory) keys.dirents

-- the names of a directory in an id, each with the number that it leads to
abbrev pub names_in : KeyMap → ℕ → ℕ → Names
names_in keys id directory = map_over name_cmp (number_in keys id directory) (names_under keys directory)

-- whether it is a directory
abbrev pub is_directory : Option FileKind → Bool
is_directory (Some Directory) = true
is_directory other = false

-- the names of the directory that a number stands for in an id, if it stands for one
abbrev pub directory_in : KeyMap → ℕ → ℕ → Option Names
directory_in keys id number = if is_directory (kind_in keys id number) then Some (names_in keys id number) else None

-- all numbers that an inode has in any id
abbrev pub numbers_of : KeyMap → List ℕ
numbers_of keys = map (λ entry. entry.0.offset) keys.inodes

-- the files of an id by their numbers
abbrev pub files_in : KeyMap → Read → ℕ → List (ℕ × List ℕ)
files_in keys read id = map_over nat_cmp (file_in keys read id) (numbers_of keys)

-- the directories of an id by their numbers
abbrev pub directories_in : KeyMap → ℕ → List (ℕ × Names)
directories_in keys id = map_over nat_cmp (directory_in keys id) (numbers_of keys)

-- the tree of a subvolume: what shows in its id
abbrev pub tree_of : KeyMap → Read → Sub → Tree
tree_of keys read sub = record { locked = sub.read_only; root = sub.root; files = files_in keys read sub.id; directories = directories_in keys sub.id }

-- the subvolumes that a value holds
abbrev pub subs_of : Option Value → List Sub
subs_of (Some (values.Subs subs)) = subs
subs_of other = []

-- all subvolumes
abbrev pub all_subs : KeyMap → List Sub
all_subs keys = flat_map (λ entry. subs_of (Some entry.1)) keys.subvols

-- the subvolumes whose names have this slot
abbrev pub subs_in : KeyMap → ℕ → List Sub
subs_in keys slot = subs_of (value_in keys Subvols (record { inode = 0; offset = slot; snapshot = 0 }))

-- the subvolume of a name, which is looked for under its slot, as the names of a directory are
abbrev pub sub_named : KeyMap → List ℕ → Option Sub
sub_named keys name = find (λ sub. is_eq (name_cmp name sub.name)) (subs_in keys (slot_of name))

-- the tree of the subvolume of a name
abbrev pub tree_named : KeyMap → Read → List ℕ → Option Tree
tree_named keys read name = option_map (tree_of keys read) (sub_named keys name)

-- the number that a counter's value holds
abbrev pub counter_of : Option Value → Option ℕ
counter_of (Some (values.Counter next)) = Some next
counter_of other = None

-- what a counter stands at: those from 0 to 15 are the clients' next numbers, and 16 is the next snapshot id
abbrev pub counter_in : KeyMap → ℕ → Option ℕ
counter_in keys counter = counter_of (value_in keys Counters (record { inode = 0; offset = counter; snapshot = 0 }))

-- what a counter stands at, and 0 where it isn't there
abbrev pub next_in : KeyMap → ℕ → ℕ
next_in keys counter = unwrap_or (counter_in keys counter) 0

-- the forest that a key map means
abbrev pub forest_in : KeyMap → Read → Forest
forest_in keys read = record {
  subvolumes = map_over name_cmp (tree_named keys read) (map (λ sub. sub.name) (all_subs keys));
  next = map (next_in keys) (range_with_len 0 16);
  ids_left = next_in keys 16;
}
