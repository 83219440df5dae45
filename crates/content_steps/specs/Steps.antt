-- Steps by which blocks of a file change, up to the keys on space, and what they ask.
use Rattle.std.specs.Prelude.{◌≡◌, ◌⊎◌, ℕ, ◌*◌, ◌≤◌, ◌++◌, All, Option, None, Some, List}
use Rattle.vol_types.specs.KeyMaps.{KeyMap, with_updates}
use Rattle.vol_types.specs.Limits.{block_size}
use Rattle.vol_types.specs.Standing.{IsUpdate}
use Rattle.vol_types.specs.declared.keys.Update.{Update}
use Rattle.vol_types.specs.declared.layout.Layout.{Layout}
use Rattle.vol_types.specs.declared.pointers.Place.{Place}
use Rattle.vol_types.specs.declared.positions.Btree.TheVariants.{Inodes}
use Rattle.vol_types.specs.declared.values.FileKind.TheVariants.{File}
use Rattle.vol_types.specs.declared.values.Inode.{Inode}
use Rattle.vol_types.specs.declared.values.Sub.{Sub}
use Rattle.content_steps.specs.Shown.{with_blocks}
use Rattle.key_meaning.specs.Blocks.{Block, block_in}
use Rattle.key_meaning.specs.Changes.{ChangesOnly}
use Rattle.key_meaning.specs.Checks.{AreBlocksPlaced}
use Rattle.key_meaning.specs.Forest.{Read, content_of, counter_in, inode_in, kind_in}
use Rattle.key_meaning.specs.Tidy.{IsDrawn, IsNoted}
use Rattle.extent_ops.specs.Content.{AreOfContent, IsNear}
use Rattle.key_steps.specs.Kept.{IsKept}
use Rattle.key_steps.specs.Shown.{Shown, shown_in}
use Rattle.key_steps.specs.Steps.{inode_value}
use Rattle.key_triggers.specs.Expanding.{expanded}
use Rattle.key_view.specs.Changes.{updates_to_see}

-- From the first key map steps lead to the second one, which is kept: nothing that another leaf shows is changed, the id shows this,
-- the counters stand so, and what was drawn is drawn still. The keys on space are yet to follow the extents.
pub record StepsButSpace (keys new : KeyMap) (nodes : List Place) (layout : Layout) (id : ℕ) (shown : Shown) (counters : ℕ → Option ℕ) : Type 0 where
  pub kept : IsKept new nodes layout
  pub only : ChangesOnly keys new id
  pub shows : shown_in new id ≡ shown
  pub counts : counter_in new ≡ counters
  pub drawn : (number : ℕ) → IsDrawn keys number → IsDrawn new number

-- The updates may change blocks of a file in an id: the number shows a file there, or is noted as that of one that is gone, they are
-- of its extents and holes in that id alone, stand near the blocks, and may be made, and the blocks of all extents lie where they may
-- after them, none used twice.
pub record MayTakeBlocks (keys : KeyMap) (nodes : List Place) (layout : Layout) (id file : ℕ) (updates : List Update) : Type 0 where
  pub owner : (kind_in keys id file ≡ Some File) ⊎ IsNoted keys id file
  pub own : AreOfContent id updates
  pub first : ℕ
  pub last : ℕ
  pub longest : ℕ
  pub near : All (IsNear file first last longest) updates
  pub fits : All IsUpdate updates
  pub placed : AreBlocksPlaced (with_updates updates keys) nodes layout

-- The updates change the content of a file of a subvolume: they are a step but for the keys on space, after which the file shows the
-- blocks that are given, none of them at or behind its new size, and up to that has the changed bytes.
pub record ChangesContent (keys : KeyMap) (updates : List Update) (nodes : List Place) (layout : Layout) (read : Read) (sub : Sub) (file size : ℕ) (old : Inode) (given : ℕ → Option (Option Block)) (change : List ℕ → List ℕ) : Type 0 where
  pub shows : inode_in keys sub.id file ≡ Some old
  pub of_file : old.kind ≡ File
  pub steps : StepsButSpace keys (with_updates updates keys) nodes layout sub.id (with_blocks file given (shown_in keys sub.id)) (counter_in keys)
  pub own : AreOfContent sub.id updates
  pub fits : All IsUpdate updates
  pub ends : (block : ℕ) → size ≤ block * block_size → block_in (with_updates updates keys) sub.id file block ≡ None
  pub content : content_of (with_updates updates keys) read sub.id file size ≡ change (content_of keys read sub.id file old.size)

-- the updates with one that sets the inode of a number in an id, and then those of the keys on space that follow
abbrev pub with_size : KeyMap → ℕ → ℕ → Inode → List Update → List Update
with_size keys id number inode updates = expanded keys (updates ++ updates_to_see keys Inodes 0 number id (Some (inode_value inode)))
