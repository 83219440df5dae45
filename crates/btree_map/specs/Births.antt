-- What is above a node, what it holds and how many bytes it takes, by its name among the nodes of nine btrees.
use Rattle.std.specs.Prelude.{◌==◌, ◌+◌, ℕ, if◌then◌else◌, Option, List, option_map}
use Rattle.birth_index.specs.Births.{levels_of}
use Rattle.birth_index.specs.declared.name.NodeName.{NodeName}
use Rattle.btree_map.specs.Trees.{Trees, cut_in, levels_in}
use Rattle.interior.specs.Contents.{content_of}
use Rattle.node_mem.specs.Nodes.{size_of}
use Rattle.tree_keys.specs.Counts.{leaf_size}
use Rattle.tree_nodes.specs.Levels.{Levels, level_of, node_at}
use Rattle.vol_types.specs.KeyMaps.{Entries}

-- the birth of the node above a node: the one of the next level that covers its greatest position; a root has none
abbrev pub parent_birth : List Levels → NodeName → Option ℕ
parent_birth nodes name = option_map (λ node. node.1.birth) (node_at name.greatest (level_of (levels_of nodes name.btree) (name.level + 1)))

-- what a node above the leaves holds: the nodes of the level below that lie in its range
abbrev pub children_in : Trees → NodeName → Entries
children_in trees name = content_of (levels_in trees name.btree) name.level name.greatest

-- the size of a node: the bytes that it takes as one set, or 2^32 - 1 where they are more
abbrev pub node_size : Trees → NodeName → ℕ
node_size trees name = if name.level == 0 then leaf_size name.greatest (cut_in trees name.btree) else size_of (children_in trees name)
