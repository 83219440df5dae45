-- What stays where ids, subvolumes and counters alone change.
use Rattle.std.specs.Prelude.{◌≡◌, ℕ, None, []}
use Rattle.key_meaning.specs.Alike.{HaveSameFiles}
use Rattle.key_meaning.specs.Blocks.{block_in}
use Rattle.key_meaning.specs.Forest.{inode_in, links_in}
use Rattle.vol_types.specs.KeyMaps.{KeyMap}

-- The second key map has the first one's keys of files, notes of files that are gone, and keys on space.
pub record KeepsFiles (keys new : KeyMap) : Type 0 where
  pub files : HaveSameFiles new keys
  pub deleted : new.deleted ≡ keys.deleted
  pub alloc : new.alloc ≡ keys.alloc
  pub backptrs : new.backptrs ≡ keys.backptrs

-- The id shows no inode, no name and no block.
pub record ShowsNothing (keys : KeyMap) (id : ℕ) : Type 0 where
  pub inodes : (number : ℕ) → inode_in keys id number ≡ None
  pub names : (directory slot : ℕ) → links_in keys id directory slot ≡ []
  pub blocks : (file block : ℕ) → block_in keys id file block ≡ None
