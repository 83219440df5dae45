-- What is said of all keys together, and stays after each step of an operation.
use Rattle.std.specs.Prelude.{◌≡◌, ℕ, List, All}
use Rattle.vol_types.specs.KeyMaps.{IsKeyMap, KeyMap}
use Rattle.vol_types.specs.declared.layout.Layout.{Layout}
use Rattle.vol_types.specs.declared.pointers.Place.{Place}
use Rattle.vol_types.specs.declared.values.Sub.{Sub}
use Rattle.key_meaning.specs.Checks.{AreBlocksPlaced, AreExtentsApart, AreTreesJoined, IsLiveLeaf, count_with_id}
use Rattle.key_meaning.specs.Forest.{all_subs, directories_in}
use Rattle.key_meaning.specs.Tidy.{AreBlocksBelow, AreBlocksOwned, AreGone, AreKeysDrawn, AreNamesGood}
use Rattle.key_steps.specs.Good.{IsGoodShown}
use Rattle.key_steps.specs.Shown.{shown_in}

-- Each subvolume has a live leaf, and each live leaf one subvolume.
pub record DoIdsMatch (keys : KeyMap) : Type 0 where
  pub subvolumes : All (λ (sub : Sub). IsLiveLeaf keys sub.id) (all_subs keys)
  pub leaves : (id : ℕ) → IsLiveLeaf keys id → count_with_id keys id ≡ 1

-- All that soundness and tidiness say of the keys but what shows in the ids of subvolumes and the counts of space.
pub record IsKept (keys : KeyMap) (nodes : List Place) (layout : Layout) : Type 0 where
  pub is_map : IsKeyMap keys
  pub trees : AreTreesJoined keys
  pub ids : DoIdsMatch keys
  pub extents : AreExtentsApart keys
  pub blocks : AreBlocksPlaced keys nodes layout
  pub drawn : AreKeysDrawn keys
  pub named : AreNamesGood keys
  pub below : AreBlocksBelow keys
  pub gone : AreGone keys
  pub owned : AreBlocksOwned keys

-- What shows in the id of the subvolume is good.
abbrev pub IsLeafGood : KeyMap → Sub → Type 0
IsLeafGood keys sub = IsGoodShown sub.root (shown_in keys sub.id) (directories_in keys sub.id)
