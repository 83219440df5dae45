-- The slots of a directory one after the other, and how many names show under them in an id.
use Rattle.std.specs.Prelude.{◌≡◌, ◌==◌, ℕ, ◌<◌, ◌≤◌, ◌^◌, not, ◌||◌, nat_lt, if◌then◌else◌, Option, Some, None, [], length}
use Rattle.key_meaning.specs.Forest.{links_in}
use Rattle.key_meaning.specs.Visible.{own_value}
use Rattle.vol_types.specs.KeyMaps.{KeyMap}
use Rattle.vol_types.specs.declared.keys.Key.{Key}
use Rattle.vol_types.specs.declared.positions.Btree.TheVariants.{Dirents}
use Rattle.dirent_keys.specs.declared.slots.ShownSlot.{ShownSlot}

-- No id has a key of its own at a slot of the directory from the first one on, up to the second one, if it is given.
abbrev pub HasNoSlot : KeyMap → ℕ → ℕ → Option ℕ → Type 0
HasNoSlot keys directory from None = (slot id : ℕ) → from ≤ slot → own_value keys Dirents directory slot id ≡ None
HasNoSlot keys directory from (Some next) = (slot id : ℕ) → from ≤ slot → slot < next → own_value keys Dirents directory slot id ≡ None

-- the slot of a key, where it is one of this directory from a slot on
abbrev pub slot_of_key : Option Key → ℕ → ℕ → Option ℕ
slot_of_key None directory from = None
slot_of_key (Some key) directory from = if not (key.pos.inode == directory) || nat_lt key.pos.offset from then None else Some key.pos.offset

-- No name of the directory shows in the id under a slot from the first one on, up to the second one.
abbrev pub ShowsNone : KeyMap → ℕ → ℕ → ℕ → ℕ → Type 0
ShowsNone keys id directory from end = (slot : ℕ) → from ≤ slot → slot < end → links_in keys id directory slot ≡ []

-- No name of the directory shows in the id, under any slot.
abbrev pub IsBare : KeyMap → ℕ → ℕ → Type 0
IsBare keys id directory = (slot : ℕ) → slot < 2 ^ 64 → links_in keys id directory slot ≡ []

-- The slot is the first from a number on under which names of the directory show in the id, and so many do.
pub record IsFirstShown (keys : KeyMap) (id directory from : ℕ) (shown : ShownSlot) : Type 0 where
  pub none_before : ShowsNone keys id directory from shown.slot
  pub count : shown.count ≡ length (links_in keys id directory shown.slot)

-- It is the first slot from a number on under which names of the directory show in the id, or under no such slot one does.
abbrev pub IsNextShown : KeyMap → ℕ → ℕ → ℕ → Option ShownSlot → Type 0
IsNextShown keys id directory from None = ShowsNone keys id directory from (2 ^ 64)
IsNextShown keys id directory from (Some shown) = IsFirstShown keys id directory from shown
