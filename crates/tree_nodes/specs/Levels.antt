-- The nodes of a btree, without their keys: which node of which level covers which positions, and where it lies.
use Rattle.std.specs.Prelude.{◌≡◌, ℕ, ◌+◌, ◌-◌, ◌<◌, Option, None, Some, IsSome, IfSome, List, [], ◌∷◌, ◌++◌, length, All, slice_get, slice_index_or, slice_set, unwrap_or}
use Rattle.std.specs.List.{filter}
use Rattle.std.specs.Map.{keys_of, values_of}
use Rattle.std.specs.Ordering.{is_le, is_lt}
use Rattle.vol_types.specs.Maps.{IsMap, value_at, with_value}
use Rattle.vol_types.specs.Positions.{pos_cmp, next_pos, least_pos, greatest_pos, is_within, IsWithin}
use Rattle.vol_types.specs.Ranges.{IsNode}
use Rattle.vol_types.specs.Widths.{PosFits}
use Rattle.vol_types.specs.declared.pointers.NodePtr.{NodePtr}
use Rattle.vol_types.specs.declared.positions.Pos.{Pos}

-- the nodes of a level, each at the greatest position that it covers, in order
abbrev pub Level : Type 0
Level = List (Pos × NodePtr)

-- the levels of a btree, from the leaves up
abbrev pub Levels : Type 0
Levels = List Level

-- the nodes of a level; none where there is no such level
abbrev pub level_of : Levels → ℕ → Level
level_of levels level = slice_index_or levels level []

-- A node of the level ends at the position.
abbrev pub EndsAt : Level → Pos → Type 0
EndsAt nodes at = IsSome (value_at pos_cmp at nodes)

-- the nodes that end before a position
abbrev pub nodes_before : Pos → Level → Level
nodes_before pos nodes = filter (λ node. is_lt (pos_cmp node.0 pos)) nodes

-- the nodes that don't end before a position
abbrev pub nodes_from : Pos → Level → Level
nodes_from pos nodes = filter (λ node. is_le (pos_cmp pos node.0)) nodes

-- the first node, if there is one
abbrev pub first_of : Level → Option (Pos × NodePtr)
first_of nodes = slice_get nodes 0

-- the last node, if there is one
abbrev pub last_of : Level → Option (Pos × NodePtr)
last_of nodes = slice_get nodes (length nodes - 1)

-- the node that covers a position: the first one that doesn't end before it
abbrev pub node_at : Pos → Level → Option (Pos × NodePtr)
node_at pos nodes = first_of (nodes_from pos nodes)

-- the position that follows a node, or the least one where there is no node
abbrev pub follower_of : Option (Pos × NodePtr) → Pos
follower_of None = least_pos
follower_of (Some node) = unwrap_or (next_pos node.0) greatest_pos

-- the least position of the node that ends at a position: the one that follows the last node before it
abbrev pub least_of : Pos → Level → Pos
least_of at nodes = follower_of (last_of (nodes_before at nodes))

-- The node that ends at the first position covers the second.
pub record Covers (nodes : Level) (at pos : Pos) : Type 0 where
  pub there : EndsAt nodes at
  pub within : IsWithin (least_of at nodes) at pos

-- the nodes of the level below that lie in the range of the node that ends at a position
abbrev pub children_of : Pos → Level → Level → Level
children_of at nodes below = filter (λ child. is_within (least_of at nodes) at child.0) below

-- The children, which are nodes of the level below, follow each other without a gap from the least position to the greatest.
pub record Tile (below : Level) (least greatest : Pos) (children : Level) : Type 0 where
  pub some : 0 < length children
  pub first : IfSome (first_of children) (λ child. least_of child.0 below ≡ least)
  pub last : IfSome (last_of children) (λ child. child.0 ≡ greatest)
  pub next : (place : ℕ) (one other : Pos × NodePtr) → slice_get children place ≡ Some one → slice_get children (place + 1) ≡ Some other → next_pos one.0 ≡ Some (least_of other.0 below)

-- The positions rise, and have their widths.
pub record IsRow (nodes : Level) : Type 0 where
  pub rises : IsMap pos_cmp nodes
  pub fits : All PosFits (keys_of nodes)

-- The pointer is one of this level, and in range.
pub record IsNodeOf (level : ℕ) (node : NodePtr) : Type 0 where
  pub numbered : node.level ≡ level
  pub in_range : IsNode node

-- The nodes are those of a level: they cover the positions up to the greatest one.
pub record IsLevel (level : ℕ) (nodes : Level) : Type 0 where
  pub row : IsRow nodes
  pub ends : EndsAt nodes greatest_pos
  pub each : All (IsNodeOf level) (values_of nodes)

-- Each node above ends where a node below does.
abbrev pub IsNested : Level → Level → Type 0
IsNested above below = (at : Pos) → EndsAt above at → EndsAt below at

-- The levels are those of a btree: each node above the leaves is made of nodes of the level below, and the root is one node.
pub record IsTree (levels : Levels) : Type 0 where
  pub each : (level : ℕ) → level < length levels → IsLevel level (level_of levels level)
  pub nested : (level : ℕ) → IsNested (level_of levels (level + 1)) (level_of levels level)
  pub root : length (level_of levels (length levels - 1)) ≡ 1

-- the levels with another pointer at a position of a level
abbrev pub with_node : ℕ → Pos → NodePtr → Levels → Levels
with_node level at node levels = slice_set levels level (with_value pos_cmp at node (level_of levels level))

-- the nodes of a level with two in place of the one that ends at a position
abbrev pub halved : Pos → Pos → NodePtr → NodePtr → Level → Level
halved greatest at first second nodes = with_value pos_cmp greatest second (with_value pos_cmp at first nodes)

-- the levels with two nodes in place of the one that ends at a position of a level
abbrev pub divided : ℕ → Pos → Pos → NodePtr → NodePtr → Levels → Levels
divided level greatest at first second levels = slice_set levels level (halved greatest at first second (level_of levels level))

-- the levels under a root
abbrev pub under_root : NodePtr → Levels → Levels
under_root root levels = levels ++ ((greatest_pos, root) ∷ []) ∷ []
