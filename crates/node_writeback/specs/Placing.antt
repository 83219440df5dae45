-- Frozen leaves, and what becomes of nodes, pins and buckets where they are put in place.
use Rattle.std.specs.Prelude.{◌≡◌, ◌≢◌, ℕ, Some, IsSome, List, [], ◌∷◌, All, map}
use Rattle.std.specs.List.{AllPairs, flat_map}
use Rattle.std.specs.Ordering.{nat_cmp}
use Rattle.birth_index.specs.Births.{birth_of, levels_of}
use Rattle.birth_index.specs.Exchanges.{one_node, only_name}
use Rattle.birth_index.specs.declared.name.Exchange.{Exchange}
use Rattle.birth_index.specs.declared.name.NodeName.{NodeName}
use Rattle.dirty_nodes.specs.Dirty.{moved_pin}
use Rattle.node_writeback.specs.declared.node.FrozenNode.{FrozenNode}
use Rattle.tree_nodes.specs.Levels.{IsNodeOf, Levels}
use Rattle.vol_types.specs.Maps.{value_at}
use Rattle.vol_types.specs.declared.pointers.NodePtr.{NodePtr}
use Rattle.vol_types.specs.declared.pointers.Place.{Place}

-- The frozen node is the only leaf of its btree, and is dirty; what is to come in its place is a leaf with a birth that no node has.
pub record IsFrozenLeaf (nodes : List Levels) (pins : List (ℕ × ℕ)) (node : FrozenNode) : Type 0 where
  pub root : NodePtr
  pub alone : levels_of nodes node.btree ≡ one_node root
  pub birth : root.birth ≡ node.birth
  pub pinned : IsSome (value_at nat_cmp node.birth pins)
  pub leaf : IsNodeOf 0 node.fresh
  pub unused : (name : NodeName) → birth_of nodes name ≢ Some node.fresh.birth

-- They are of two btrees, and what comes in their places has two births.
pub record AreFrozenApart (one other : FrozenNode) : Type 0 where
  pub btrees : one.btree ≢ other.btree
  pub births : one.fresh.birth ≢ other.fresh.birth

-- Frozen leaves are of different btrees, and what comes in their places has different births.
pub record AreFrozenLeaves (nodes : List Levels) (pins : List (ℕ × ℕ)) (frozen : List FrozenNode) : Type 0 where
  pub each : All (IsFrozenLeaf nodes pins) frozen
  pub apart : AllPairs AreFrozenApart frozen

-- the pointer that a frozen leaf is exchanged for
abbrev pub exchange_of : FrozenNode → Exchange
exchange_of node = record { name = only_name node.btree; pointer = node.fresh }

-- the pointers that frozen leaves are exchanged for
abbrev pub exchanges_of : List FrozenNode → List Exchange
exchanges_of frozen = map exchange_of frozen

-- the places of pointers
abbrev pub places_of : List Exchange → List Place
places_of changes = flat_map (λ (change : Exchange). change.pointer.places) changes

-- the places of what frozen leaves were written to
abbrev pub fresh_places : List FrozenNode → List Place
fresh_places frozen = flat_map (λ (node : FrozenNode). node.fresh.places) frozen

-- pins, once frozen nodes have the births that they were written with: each pins the oldest entry that changed it and whose keys it lacks, or none
abbrev pub moved_pins : List FrozenNode → List (ℕ × ℕ) → List (ℕ × ℕ) → List (ℕ × ℕ)
moved_pins [] later pins = pins
moved_pins (node ∷ frozen) later pins = moved_pins frozen later (moved_pin node.birth node.fresh.birth (value_at nat_cmp node.birth later) pins)

-- The births of the frozen nodes differ from one another, and from those with which they are written.
pub record AreMovedApart (one other : FrozenNode) : Type 0 where
  pub births : one.birth ≢ other.birth
  pub fresh : one.fresh.birth ≢ other.birth

-- Frozen nodes are pinned and marked, and may get the births that they are written with one after the other.
pub record MayMove (pins marks : List (ℕ × ℕ)) (frozen : List FrozenNode) : Type 0 where
  pub pinned : All (λ (node : FrozenNode). IsSome (value_at nat_cmp node.birth pins)) frozen
  pub marked : All (λ (node : FrozenNode). IsSome (value_at nat_cmp node.birth marks)) frozen
  pub apart : AllPairs AreMovedApart frozen
