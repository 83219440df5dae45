-- What shows in one snapshot id, as a value, and the tree that it means.
use Rattle.std.specs.Prelude.{◌≡◌, ℕ, ◌/◌, ◌%◌, ◌==◌, ◌&&◌, Option, Some, List, All, is_some, if◌then◌else◌, map, option_and_then, option_map}
use Rattle.std.specs.List.{range_with_len}
use Rattle.std.specs.Ordering.{nat_cmp}
use Rattle.plain_forest.specs.Forest.{Names, Tree}
use Rattle.vol_digest.specs.Digests.{slot_of}
use Rattle.vol_types.specs.KeyMaps.{KeyMap}
use Rattle.vol_types.specs.Limits.{block_size}
use Rattle.vol_types.specs.Maps.{IsMap, value_at}
use Rattle.vol_types.specs.Ranges.{name_cmp}
use Rattle.vol_types.specs.declared.values.FileKind.{FileKind}
use Rattle.vol_types.specs.declared.values.Inode.{Inode}
use Rattle.vol_types.specs.declared.values.Link.{Link}
use Rattle.vol_types.specs.declared.values.Sub.{Sub}
use Rattle.key_meaning.specs.Blocks.{Block, block_in}
use Rattle.key_meaning.specs.Forest.{Read, byte_at, inode_in, is_directory, link_named, links_in, size_of}

-- what shows: the inode of a number, the names under a slot of a directory, and the block of a file
pub record Shown : Type 0 where
  pub inodes : ℕ → Option Inode
  pub links : ℕ → ℕ → List Link
  pub blocks : ℕ → ℕ → Option Block

-- what the keys show in an id
abbrev pub shown_in : KeyMap → ℕ → Shown
shown_in keys id = record { inodes = inode_in keys id; links = links_in keys id; blocks = block_in keys id }

-- the same with this inode of a number, or with none
abbrev pub with_inode : ℕ → Option Inode → Shown → Shown
with_inode number inode shown = record { inodes = λ other. if number == other then inode else shown.inodes other; links = shown.links; blocks = shown.blocks }

-- the same with these names under a slot of a directory
abbrev pub with_links : ℕ → ℕ → List Link → Shown → Shown
with_links directory slot links shown = record { inodes = shown.inodes; links = λ other place. if directory == other && slot == place then links else shown.links other place; blocks = shown.blocks }

-- what a number stands for
abbrev pub kind_of : Shown → ℕ → Option FileKind
kind_of shown number = option_map (λ (inode : Inode). inode.kind) (shown.inodes number)

-- where a name of a directory leads; it is looked for under its slot
abbrev pub number_of : Shown → ℕ → List ℕ → Option ℕ
number_of shown directory name = option_map (λ (link : Link). link.number) (link_named name (shown.links directory (slot_of name)))

-- the bytes of a block of a file, if it shows and isn't lost
abbrev pub bytes_of : Read → Shown → ℕ → ℕ → Option (List ℕ)
bytes_of read shown file block = option_and_then (λ (block : Block). read block.places block.digest) (shown.blocks file block)

-- the bytes of the file that a number stands for, if it stands for one
abbrev pub file_of : Read → Shown → ℕ → Option (List ℕ)
file_of read shown number =
    option_map (λ (size : ℕ). map (λ (index : ℕ). byte_at (bytes_of read shown number (index / block_size)) (index % block_size)) (range_with_len 0 size)) (option_and_then size_of (shown.inodes number))

-- The names under each slot differ: each is found by its name.
pub record AreNamesApart (shown : Shown) : Type 0 where
  pub each : (directory slot : ℕ) → All (λ (link : Link). link_named link.name (shown.links directory slot) ≡ Some link) (shown.links directory slot)

-- These are the directories that show, as a map, each with the map of its names.
pub record AreDirectoriesOf (shown : Shown) (directories : List (ℕ × Names)) : Type 0 where
  pub map : IsMap nat_cmp directories
  pub each : (number : ℕ) → is_some (value_at nat_cmp number directories) ≡ is_directory (kind_of shown number)
  pub name_map : (number : ℕ) (names : Names) → value_at nat_cmp number directories ≡ Some names → IsMap name_cmp names
  pub names : (number : ℕ) (names : Names) → value_at nat_cmp number directories ≡ Some names → (name : List ℕ) → value_at name_cmp name names ≡ number_of shown number name

-- These are the files that show, as a map, where the bytes of a block are those that an image holds.
pub record AreFilesOf (read : Read) (shown : Shown) (files : List (ℕ × List ℕ)) : Type 0 where
  pub map : IsMap nat_cmp files
  pub each : (number : ℕ) → value_at nat_cmp number files ≡ file_of read shown number

-- The tree is the one that this means for a subvolume.
pub record IsTreeOf (read : Read) (sub : Sub) (shown : Shown) (tree : Tree) : Type 0 where
  pub locked : tree.locked ≡ sub.read_only
  pub root : tree.root ≡ sub.root
  pub files : AreFilesOf read shown tree.files
  pub directories : AreDirectoriesOf shown tree.directories
