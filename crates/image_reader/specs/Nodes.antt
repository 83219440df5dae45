-- Nodes that were found, as the values that are defined.
use Rattle.std.specs.Prelude.{ℕ, List, map, Result, Ok}
use Rattle.std.specs.List.{filter, flat_map}
use Rattle.image_view.specs.Trees.{NodeRead}
use Rattle.key_codec.specs.Formats.{◌>>=◌}
use Rattle.tree_nodes.specs.Levels.{Level}
use Rattle.vol_types.specs.declared.pointers.Place.{Place}
use Rattle.image_reader.specs.declared.nodes.FoundNode.{FoundNode}

-- a node that was found, as one that was read
abbrev pub node_in : FoundNode → NodeRead
node_in node = record { greatest = node.greatest; pointer = node.pointer; entries = node.entries; end = node.end }

-- levels that were made one for each node, together
abbrev pub joined_levels : Result (List Level) Place → Result Level Place
joined_levels made = do
  below ← made
  Ok (flat_map (λ children. children) below)

-- the births of the nodes that lack a set on some place
abbrev pub ragged_births : List FoundNode → List ℕ
ragged_births nodes = map (λ node. node.pointer.birth) (filter (λ node. node.ragged) nodes)
