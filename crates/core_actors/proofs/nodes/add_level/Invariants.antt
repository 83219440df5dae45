use Rattle.std.proofs.Common.{◌≡◌, ◌++◌, length}
use Rattle.std.specs.Map.{values_of}
use Rattle.btree_map.specs.Trees.{levels_in}
use Rattle.tree_nodes.specs.Levels.{level_of}
use Rattle.core_actors.specs.Nodes.{nodes_left, places_of}
use Rattle.core_actors.proofs.nodes.add_level.Given as goal

abbrev pub invariant-loop-next : goal.invariant-loop-next
invariant-loop-next l = l.places ++ places_of (values_of (nodes_left l.next (level_of (levels_in l.map l.btree) l.level))) ≡ l.initial.places ++ places_of (values_of (level_of (levels_in l.map l.btree) l.level))

abbrev pub decreases-loop-next : goal.decreases-loop-next
decreases-loop-next l = length (nodes_left l.next (level_of (levels_in l.map l.btree) l.level))
