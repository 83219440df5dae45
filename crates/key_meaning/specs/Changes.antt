-- What a change that stays in one snapshot id leaves as it was.
use Rattle.std.specs.Prelude.{◌≡◌, ◌≢◌, ◌⊎◌, ℕ, false, List}
use Rattle.snap_tree.specs.Snaps.{is_ancestor_of}
use Rattle.vol_types.specs.KeyMaps.{KeyMap, is_update_of}
use Rattle.vol_types.specs.declared.keys.Update.{Update}
use Rattle.vol_types.specs.declared.positions.Btree.TheVariants.{Extents, Inodes, Dirents, Subvols, Snapshots}
use Rattle.vol_types.specs.declared.values.Link.{Link}
use Rattle.key_meaning.specs.Alike.{ShowAlike}
use Rattle.key_meaning.specs.Blocks.{block_in}
use Rattle.key_meaning.specs.Forest.{inode_in, link_named, number_in}
use Rattle.key_meaning.specs.Visible.{snaps_of}

-- The update is of none of the btrees that an id shows something of.
pub record IsUnseen (update : Update) : Type 0 where
  pub extents : is_update_of Extents update ≡ false
  pub inodes : is_update_of Inodes update ≡ false
  pub dirents : is_update_of Dirents update ≡ false

-- The update changes neither the snapshot ids nor the subvolumes, and shows in one id and below it alone, if anywhere.
pub record StaysIn (id : ℕ) (update : Update) : Type 0 where
  pub snaps : is_update_of Snapshots update ≡ false
  pub subvols : is_update_of Subvols update ≡ false
  pub place : (update.pos.snapshot ≡ id) ⊎ IsUnseen update

-- The second key map has the ids and subvolumes of the first, and each id whose chain has not this one shows the same.
pub record ChangesOnly (keys new : KeyMap) (id : ℕ) : Type 0 where
  pub snaps : snaps_of new ≡ snaps_of keys
  pub subvols : new.subvols ≡ keys.subvols
  pub elsewhere : (other : ℕ) → is_ancestor_of (snaps_of keys) id other ≡ false → ShowAlike new other keys other

-- In an id, inodes of other numbers than this one are as they were, and so are all names and blocks.
pub record ChangesInode (keys new : KeyMap) (id number : ℕ) : Type 0 where
  pub inodes : (other : ℕ) → other ≢ number → inode_in new id other ≡ inode_in keys id other
  pub names : (directory : ℕ) (name : List ℕ) → number_in new id directory name ≡ number_in keys id directory name
  pub blocks : (file block : ℕ) → block_in new id file block ≡ block_in keys id file block

-- In an id, other names than this one of a directory are as they were, and so are all inodes and blocks.
pub record ChangesName (keys new : KeyMap) (id directory : ℕ) (name : List ℕ) : Type 0 where
  pub inodes : (number : ℕ) → inode_in new id number ≡ inode_in keys id number
  pub elsewhere : (other : ℕ) (another : List ℕ) → other ≢ directory → number_in new id other another ≡ number_in keys id other another
  pub names : (another : List ℕ) → another ≢ name → number_in new id directory another ≡ number_in keys id directory another
  pub blocks : (file block : ℕ) → block_in new id file block ≡ block_in keys id file block

-- In an id, the blocks of other files than this one are as they were, and so are all inodes and names.
pub record ChangesBlocks (keys new : KeyMap) (id file : ℕ) : Type 0 where
  pub inodes : (number : ℕ) → inode_in new id number ≡ inode_in keys id number
  pub names : (directory : ℕ) (name : List ℕ) → number_in new id directory name ≡ number_in keys id directory name
  pub blocks : (other block : ℕ) → other ≢ file → block_in new id other block ≡ block_in keys id other block

-- All names but one lead where they led.
pub record KeepsOtherNames (old new : List Link) (name : List ℕ) : Type 0 where
  pub others : (another : List ℕ) → another ≢ name → link_named another new ≡ link_named another old
