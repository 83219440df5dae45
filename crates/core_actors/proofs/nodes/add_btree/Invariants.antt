use Rattle.std.proofs.Common.{◌≡◌, ◌++◌, drop}
use Rattle.btree_map.specs.Trees.{levels_in}
use Rattle.core_actors.specs.Nodes.{nodes_of_levels, places_of}
use Rattle.core_actors.proofs.nodes.add_btree.Given as goal

abbrev pub invariant-loop-level : goal.invariant-loop-level
invariant-loop-level l = l.places ++ places_of (nodes_of_levels (drop l.level (levels_in l.map l.btree))) ≡ l.initial.places ++ places_of (nodes_of_levels (levels_in l.map l.btree))
