-- When what shows in the id of a subvolume is good: what an operation owes at its end, of the value alone.
use Rattle.std.specs.Prelude.{◌≡◌, ℕ, ◌*◌, ◌≤◌, false, None, Some, List, [], All}
use Rattle.plain_forest.specs.Forest.{Names, Tree}
use Rattle.vol_digest.specs.Digests.{slot_of}
use Rattle.vol_types.specs.Limits.{block_size}
use Rattle.vol_types.specs.declared.values.FileKind.TheVariants.{Directory, File}
use Rattle.vol_types.specs.declared.values.Inode.{Inode}
use Rattle.vol_types.specs.declared.values.Link.{Link}
use Rattle.key_meaning.specs.Checks.{IsRooted, count_names}
use Rattle.key_steps.specs.Shown.{Shown, kind_of}

-- The name stands under its slot in a directory, and leads to an inode of its kind.
pub record IsLinkJoined (shown : Shown) (directory slot : ℕ) (link : Link) : Type 0 where
  pub under_slot : slot_of link.name ≡ slot
  pub in_directory : kind_of shown directory ≡ Some Directory
  pub leads_to : kind_of shown link.number ≡ Some link.kind

-- a tree of these directories below a root
abbrev pub bare_tree : ℕ → List (ℕ × Names) → Tree
bare_tree root directories = record { locked = false; root = root; files = []; directories = directories }

-- The root is a directory, names join inodes of their kind, the links of each file are its names, the directories form a tree
-- below the root, and no block of a file shows at or behind its end.
pub record IsGoodShown (root : ℕ) (shown : Shown) (directories : List (ℕ × Names)) : Type 0 where
  pub top : kind_of shown root ≡ Some Directory
  pub names : (directory slot : ℕ) → All (IsLinkJoined shown directory slot) (shown.links directory slot)
  pub links : (number : ℕ) (inode : Inode) → shown.inodes number ≡ Some inode → inode.kind ≡ File → inode.links ≡ count_names directories number
  pub rooted : IsRooted (bare_tree root directories)
  pub ends : (number block : ℕ) (inode : Inode) → shown.inodes number ≡ Some inode → inode.size ≤ block * block_size → shown.blocks number block ≡ None
