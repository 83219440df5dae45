-- How a btree changes: nodes of a level give place to others that cover the same range, and so do the nodes above them.
use Rattle.std.specs.Prelude.{◌≡◌, ◌≢◌, ℕ, suc, ◌<◌, ◌≤◌, List, length, Some}
use Rattle.birth_index.specs.Births.{birth_of}
use Rattle.birth_index.specs.declared.name.NodeName.{NodeName}
use Rattle.image_view.specs.TreeLaws.{HasSameSets}
use Rattle.image_view.specs.Trees.{SetsOf}
use Rattle.tree_nodes.specs.Levels.{Covers, EndsAt, IsNodeOf, Level, Levels, least_of, level_of}
use Rattle.vol_types.specs.Maps.{value_at, with_value}
use Rattle.vol_types.specs.Positions.{IsWithin, pos_cmp}
use Rattle.vol_types.specs.Widths.{PosFits}
use Rattle.vol_types.specs.declared.pointers.NodePtr.{NodePtr}
use Rattle.vol_types.specs.declared.positions.Pos.{Pos}
use Rattle.btree_laws.specs.Standing.{Contents, IsNodeIn}

-- The node's sets come to what they came to before.
pub record Stays (one other : SetsOf) (before after : Contents) (node : NodePtr) : Type 0 where
  pub sets : HasSameSets one other node
  pub content : after node ≡ before node

-- A node of new levels is kept from the old ones: there it ended at the same position and began at the same one, and the level below had the
-- same nodes in between.
pub record IsKept (old new : Levels) (level : ℕ) (at : Pos) (node : NodePtr) : Type 0 where
  pub stood : IsNodeIn old level at node
  pub least : least_of at (level_of new level) ≡ least_of at (level_of old level)
  pub below : (lower : ℕ) → level ≡ suc lower → (pos : Pos) → PosFits pos → IsWithin (least_of at (level_of old level)) at pos → value_at pos_cmp pos (level_of new lower) ≡ value_at pos_cmp pos (level_of old lower)

-- A node of the level begins at the position.
abbrev pub BeginsAt : Level → Pos → Type 0
BeginsAt nodes first = (at : Pos) × EndsAt nodes at × (least_of at nodes ≡ first)

-- The nodes of a level in a range give place to others: the range is that of neighbours of the old level, a node of the new one ends where it
-- ends, and elsewhere the levels have the same nodes. So the new nodes in it cover the same positions.
pub record IsExchange (first last : Pos) (old new : Level) : Type 0 where
  pub begins : BeginsAt old first
  pub ended : EndsAt old last
  pub ends : EndsAt new last
  pub elsewhere : (at : Pos) → ¬ IsWithin first last at → value_at pos_cmp at new ≡ value_at pos_cmp at old

-- On each level that both have, nodes are exchanged in a range, which contains the range of the level below. There may be more levels then, or fewer.
pub record AreExchanged (first last : ℕ → Pos) (old new : Levels) : Type 0 where
  pub each : (level : ℕ) → level < length old → level < length new → IsExchange (first level) (last level) (level_of old level) (level_of new level)
  pub contains : (level : ℕ) (pos : Pos) → IsWithin (first level) (last level) pos → IsWithin (first (suc level)) (last (suc level)) pos

-- The node of a level that covers a position gets another pointer.
pub record IsNodeRewritten (pos : Pos) (fresh : NodePtr) (old new : Level) : Type 0 where
  pub at : Pos
  pub covers : Covers old at pos
  pub new_is : new ≡ with_value pos_cmp at fresh old

-- A node of this level that covers a position is rewritten, and so are those above it; the levels below stay.
pub record IsRewritten (from : ℕ) (pos : Pos) (fresh : ℕ → NodePtr) (old new : Levels) : Type 0 where
  pub height : length new ≡ length old
  pub below : (level : ℕ) → level < from → level_of new level ≡ level_of old level
  pub each : (level : ℕ) → from ≤ level → level < length old → IsNodeRewritten pos (fresh level) (level_of old level) (level_of new level)
  pub nodes : (level : ℕ) → from ≤ level → level < length old → IsNodeOf level (fresh level)

-- The node has a birth of its own: no node of the old btrees has it, and no other one of the new btrees.
pub record IsBornApart (old new : List Levels) (name : NodeName) (node : NodePtr) : Type 0 where
  pub unused : (other : NodeName) → birth_of old other ≢ Some node.birth
  pub own : (other : NodeName) → birth_of new other ≡ Some node.birth → other ≡ name
