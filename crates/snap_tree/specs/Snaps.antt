-- Snapshot ids as trees, the chain of an id up to its root, and the number of live leaves.
use Rattle.std.specs.Prelude.{◌≡◌, ℕ, ◌<◌, ◌^◌, Bool, true, false, ◌&&◌, ◌||◌, ◌==◌, nat_lt, nat_eq, Option, Some, None, is_some, IsSome, List, [], ◌∷◌, if◌then◌else◌}
use Rattle.std.specs.List.{fold, list_all, list_any, count_by}
use Rattle.std.specs.Map.{values_of}
use Rattle.std.specs.Ordering.{nat_cmp}
use Rattle.vol_types.specs.Maps.{IsMap, value_at, with_value}
use Rattle.vol_types.specs.declared.keys.Key.{Key}
use Rattle.vol_types.specs.declared.values.Snap.{Snap}
use Rattle.vol_types.specs.declared.values.SnapState.{SnapState}
use Rattle.vol_types.specs.declared.values.SnapState.TheVariants.{LiveLeaf, Interior, DeadLeaf}
use Rattle.vol_types.specs.declared.values.Value.{Value}
use Rattle.vol_types.specs.declared.values.Value.TheVariants as values

-- snapshot ids in rising order, each with its record
abbrev pub Snaps : Type 0
Snaps = List (ℕ × Snap)

-- the record of a snapshot id, where a key holds one
abbrev pub snap_of : Option Value → Option Snap
snap_of (Some (values.Snap snap)) = Some snap
snap_of other = None

-- The key holds the record of a snapshot id, at whose number it stands.
pub record IsSnapKey (key : Key) : Type 0 where
  pub inode : key.pos.inode ≡ 0
  pub id : key.pos.offset < 2 ^ 32
  pub snapshot : key.pos.snapshot ≡ 0
  pub snap : IsSome (snap_of key.value)

-- the ids with this record at an id, or as they are where there is none
abbrev pub with_snap : ℕ → Option Snap → Snaps → Snaps
with_snap id None snaps = snaps
with_snap id (Some snap) snaps = with_value nat_cmp id snap snaps

-- the ids of keys with their records, later keys over earlier ones
abbrev pub snaps_in : List Key → Snaps
snaps_in keys = fold (λ snaps key. with_snap key.pos.offset (snap_of key.value) snaps) [] keys

-- whether a number that a record names is 0, which stands for none, or an id that is there
abbrev pub is_there : Snaps → ℕ → Bool
is_there snaps id = id == 0 || is_some (value_at nat_cmp id snaps)

-- whether the parent and the children that an id names are there, and the parent is greater than the id
abbrev pub is_joined : Snaps → ℕ → Snap → Bool
is_joined snaps id snap = is_there snaps snap.parent && (snap.parent == 0 || nat_lt id snap.parent) && is_there snaps snap.first_child && is_there snaps snap.second_child

-- whether the ids make trees: each of them is joined to those that it names
abbrev pub are_trees : Snaps → Bool
are_trees snaps = list_all (λ entry. is_joined snaps entry.0 entry.1) snaps

-- The ids rise, as the keys of a map, and make trees.
pub record IsSnapTree (snaps : Snaps) : Type 0 where
  pub rises : IsMap nat_cmp snaps
  pub trees : are_trees snaps ≡ true

-- an id, its parent, its grandparent and so on up to the root, where a parent stands after its children, since its id
-- is greater; nothing where the id isn't there
abbrev pub chain_of : Snaps → ℕ → List ℕ
chain_of [] id = []
chain_of (entry ∷ greater) id = if entry.0 == id then id ∷ chain_of greater entry.1.parent else chain_of greater id

-- whether an id stands in the chain of another
abbrev pub is_ancestor_of : Snaps → ℕ → ℕ → Bool
is_ancestor_of snaps ancestor id = list_any (nat_eq ancestor) (chain_of snaps id)

-- the chain of a parent; nothing where it is 0, which stands for none
abbrev pub chain_above : Snaps → ℕ → List ℕ
chain_above snaps parent = if parent == 0 then [] else chain_of snaps parent

-- the parent that a record names, if it names one
abbrev pub named_parent : Option Snap → Option ℕ
named_parent None = None
named_parent (Some snap) = if snap.parent == 0 then None else Some snap.parent

-- the parent of an id; none where the id is a root or isn't there
abbrev pub parent_of : Snaps → ℕ → Option ℕ
parent_of snaps id = named_parent (value_at nat_cmp id snaps)

-- the chain of an id that may be none
abbrev pub chain_of_maybe : Snaps → Option ℕ → List ℕ
chain_of_maybe snaps None = []
chain_of_maybe snaps (Some id) = chain_of snaps id

-- whether a state is that of a live leaf
abbrev pub is_live : SnapState → Bool
is_live LiveLeaf = true
is_live Interior = false
is_live DeadLeaf = false

-- how many ids are live leaves
abbrev pub live_leaves : Snaps → ℕ
live_leaves snaps = count_by (λ snap. is_live snap.state) (values_of snaps)
