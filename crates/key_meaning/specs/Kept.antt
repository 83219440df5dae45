-- What is checked of each live leaf by itself.
use Rattle.std.specs.Prelude.{◌≡◌, ℕ, All, Some}
use Rattle.vol_types.specs.KeyMaps.{KeyMap}
use Rattle.vol_types.specs.declared.values.FileKind.TheVariants.{File}
use Rattle.vol_types.specs.declared.values.Inode.{Inode}
use Rattle.vol_types.specs.declared.values.Sub.{Sub}
use Rattle.key_meaning.specs.Checks.{AreDirectoriesTrees, AreLinksCounted, AreNamesJoined, AreTreesJoined, DoLeavesMatch, IsDirectory, IsNameJoined, IsRooted, names_to}
use Rattle.key_meaning.specs.Forest.{Read, inode_in, links_in, tree_of}

-- What shows in the subvolume's id is sound: its root is a directory, its names are joined, its links are counted, and its
-- directories form a tree.
pub record IsLeafSound (keys : KeyMap) (sub : Sub) : Type 0 where
  pub root : IsDirectory keys sub.id sub.root
  pub names : (directory slot : ℕ) → All (IsNameJoined keys sub.id directory slot) (links_in keys sub.id directory slot)
  pub links : (number : ℕ) (inode : Inode) → inode_in keys sub.id number ≡ Some inode → inode.kind ≡ File → inode.links ≡ names_to keys sub.id number
  pub directories : (read : Read) → IsRooted (tree_of keys read sub)

-- The checks of ids and of what shows in live leaves hold: 1, 2, 4, 5 and 6.
pub record AreLeavesSound (keys : KeyMap) : Type 0 where
  pub trees : AreTreesJoined keys
  pub leaves : DoLeavesMatch keys
  pub names : AreNamesJoined keys
  pub links : AreLinksCounted keys
  pub directories : AreDirectoriesTrees keys
