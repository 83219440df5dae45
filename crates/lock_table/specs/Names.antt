-- The order of nodes in which an actor takes locks: from one to those above it.
use Rattle.std.specs.Prelude.{◌≡◌}
use Rattle.std.specs.Ordering.{nat_cmp, ordering_then}
use Rattle.std.specs.declared.cmp.Ordering.{Ordering}
use Rattle.std.specs.declared.cmp.Ordering.TheVariants.{Less}
use Rattle.vol_types.specs.Btrees.{btree_code}
use Rattle.vol_types.specs.Positions.{pos_cmp}
use Rattle.lock_table.specs.declared.name.NodeName.{NodeName}

-- by btree, then by the level from the top, so that a greater level goes first, then by the greatest position, then by
-- the birth
abbrev pub name_cmp : NodeName → NodeName → Ordering
name_cmp n m = ordering_then (nat_cmp (btree_code n.btree) (btree_code m.btree)) (ordering_then (nat_cmp m.level n.level) (ordering_then (pos_cmp n.greatest m.greatest) (nat_cmp n.birth m.birth)))

-- The second node stands above the first.
abbrev pub IsBelow : NodeName → NodeName → Type 0
IsBelow n m = name_cmp n m ≡ Less
