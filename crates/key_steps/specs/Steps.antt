-- The steps by which an operation changes keys in the id of one subvolume.
use Rattle.std.specs.Prelude.{◌≡◌, ◌⊎◌, true, ℕ, All, IfSome, IsNone, Option, Some, List}
use Rattle.plain_forest.specs.Names.{is_good_name}
use Rattle.vol_types.specs.KeyMaps.{KeyMap}
use Rattle.vol_types.specs.declared.keys.Update.{Update}
use Rattle.vol_types.specs.declared.layout.Layout.{Layout}
use Rattle.vol_types.specs.declared.pointers.Place.{Place}
use Rattle.vol_types.specs.declared.positions.Btree.TheVariants.{Deleted}
use Rattle.vol_types.specs.declared.values.FileKind.TheVariants.{Directory}
use Rattle.vol_types.specs.declared.values.Inode.{Inode}
use Rattle.vol_types.specs.declared.values.Link.{Link}
use Rattle.vol_types.specs.declared.values.Value.{Value}
use Rattle.vol_types.specs.declared.values.Value.TheVariants as values
use Rattle.key_meaning.specs.Changes.{ChangesOnly}
use Rattle.key_meaning.specs.Checks.{IsSpaceCounted}
use Rattle.key_meaning.specs.Forest.{counter_in, inode_in, links_in}
use Rattle.key_meaning.specs.Numbers.{IsUnused}
use Rattle.key_meaning.specs.SoundLaws.{IsIn}
use Rattle.key_meaning.specs.Tidy.{IsDrawn}
use Rattle.key_steps.specs.Kept.{IsKept}
use Rattle.key_steps.specs.Shown.{Shown, shown_in}

-- From the first key map steps lead to the second one, which is kept: nothing that another leaf shows is changed, the id shows this,
-- the counters stand so, what was drawn is drawn still, and space is counted where it was.
pub record Steps (keys new : KeyMap) (nodes : List Place) (layout : Layout) (id : ℕ) (shown : Shown) (counters : ℕ → Option ℕ) : Type 0 where
  pub kept : IsKept new nodes layout
  pub only : ChangesOnly keys new id
  pub shows : shown_in new id ≡ shown
  pub counts : counter_in new ≡ counters
  pub drawn : (number : ℕ) → IsDrawn keys number → IsDrawn new number
  pub space : IsSpaceCounted keys → IsSpaceCounted new

-- the value that an inode is kept as
abbrev pub inode_value : Inode → Value
inode_value inode = values.Inode inode

-- An inode that shows keeps its kind, and goes only where it is a directory's: a file's goes with a note.
pub record MayChange (keys : KeyMap) (id number : ℕ) (inode : Option Inode) : Type 0 where
  pub old : Inode
  pub shows : inode_in keys id number ≡ Some old
  pub stays : IfSome inode (λ new. new.kind ≡ old.kind)
  pub goes : IsNone inode → old.kind ≡ Directory

-- The inode of the number may become this one in the id: no key names the number, or it changes one that shows.
abbrev pub MaySet : KeyMap → ℕ → ℕ → Option Inode → Type 0
MaySet keys id number inode = IsUnused keys number ⊎ MayChange keys id number inode

-- The name is new among those that show under a slot, and may stand there: it is good, and its number is drawn.
pub record IsNewLink (keys : KeyMap) (link : Link) : Type 0 where
  pub good : is_good_name link.name ≡ true
  pub drawn : IsDrawn keys link.number

-- Each of these names shows under the slot already, or may stand there.
abbrev pub MayStandUnder : KeyMap → ℕ → ℕ → ℕ → List Link → Type 0
MayStandUnder keys id directory slot links = All (λ (link : Link). IsIn link (links_in keys id directory slot) ⊎ IsNewLink keys link) links

-- the update that notes a number as that of a file that is gone in an id
abbrev pub note_gone : ℕ → ℕ → Update
note_gone id number = record { btree = Deleted; level = 0; pos = record { inode = 0; offset = number; snapshot = id }; value = Some values.Gone }
