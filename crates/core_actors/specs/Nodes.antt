-- All nodes of the btrees, and where they lie.
use Rattle.std.specs.Prelude.{Option, Some, None, List, []}
use Rattle.std.specs.List.{flat_map}
use Rattle.std.specs.Map.{values_of}
use Rattle.tree_nodes.specs.Levels.{Level, Levels, nodes_from}
use Rattle.vol_types.specs.declared.pointers.NodePtr.{NodePtr}
use Rattle.vol_types.specs.declared.pointers.Place.{Place}
use Rattle.vol_types.specs.declared.positions.Pos.{Pos}

-- the nodes of a btree, level by level from the leaves up, and by position
abbrev pub nodes_of_levels : Levels → List NodePtr
nodes_of_levels levels = flat_map values_of levels

-- all nodes, btree by btree in the order of their numbers
abbrev pub all_nodes : List Levels → List NodePtr
all_nodes trees = flat_map nodes_of_levels trees

-- the places of nodes, node by node
abbrev pub places_of : List NodePtr → List Place
places_of nodes = flat_map (λ (node : NodePtr). node.places) nodes

-- the places of all nodes
abbrev pub places_in : List Levels → List Place
places_in trees = places_of (all_nodes trees)

-- the nodes of a level that don't end before a position; none where no position is given
abbrev pub nodes_left : Option Pos → Level → Level
nodes_left None nodes = []
nodes_left (Some pos) nodes = nodes_from pos nodes
