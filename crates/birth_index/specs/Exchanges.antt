-- Pointers of several nodes that are exchanged for others, and what the nodes are then.
use Rattle.std.specs.Prelude.{◌≡◌, ◌≢◌, Some, List, [], ◌∷◌, All, map, slice_set}
use Rattle.std.specs.List.{AllPairs}
use Rattle.std.specs.Ordering.{nat_cmp}
use Rattle.birth_index.specs.Births.{Index, IsIndex, birth_of, levels_of, named, node_of, with_named}
use Rattle.birth_index.specs.declared.name.Exchange.{Exchange}
use Rattle.birth_index.specs.declared.name.Named.{Named}
use Rattle.birth_index.specs.declared.name.NodeName.{NodeName}
use Rattle.tree_nodes.specs.Levels.{EndsAt, IsNodeOf, Levels, level_of, with_node}
use Rattle.vol_types.specs.Btrees.{btree_code}
use Rattle.vol_types.specs.Maps.{without}
use Rattle.vol_types.specs.Positions.{greatest_pos}
use Rattle.vol_types.specs.declared.pointers.NodePtr.{NodePtr}
use Rattle.vol_types.specs.declared.positions.Btree.{Btree}

-- the nodes after one got another pointer
abbrev pub with_pointer : Exchange → List Levels → List Levels
with_pointer change nodes = slice_set nodes (btree_code change.name.btree) (with_node change.name.level change.name.greatest change.pointer (levels_of nodes change.name.btree))

-- the nodes after several got other pointers
abbrev pub exchanged : List Exchange → List Levels → List Levels
exchanged [] nodes = nodes
exchanged (change ∷ changes) nodes = exchanged changes (with_pointer change nodes)

-- The node is there, and the pointer is one of its level, with a birth that no node has.
pub record IsExchange (nodes : List Levels) (change : Exchange) : Type 0 where
  pub there : EndsAt (level_of (levels_of nodes change.name.btree) change.name.level) change.name.greatest
  pub node : IsNodeOf change.name.level change.pointer
  pub unused : (name : NodeName) → birth_of nodes name ≢ Some change.pointer.birth

-- They are changes of two nodes, with pointers of two births.
pub record AreOfOtherNodes (one other : Exchange) : Type 0 where
  pub names : one.name ≢ other.name
  pub births : one.pointer.birth ≢ other.pointer.birth

-- The pointers of nodes may be exchanged for others: each node is there and named once, and no birth is in use or comes twice.
pub record AreExchanges (nodes : List Levels) (changes : List Exchange) : Type 0 where
  pub each : All (IsExchange nodes) changes
  pub apart : AllPairs AreOfOtherNodes changes

-- the node that a change is of
abbrev pub name_of : Exchange → NodeName
name_of change = change.name

-- The same nodes are named, each with the pointer that it had.
pub record AreBefore (nodes : List Levels) (changes befores : List Exchange) : Type 0 where
  pub names : map name_of befores ≡ map name_of changes
  pub pointers : All (λ before. node_of nodes before.name ≡ Some before.pointer) befores

-- the new birth of a node, with its name
abbrev pub fresh_of : Exchange → Named
fresh_of change = named change.pointer.birth change.name

-- The index is that of the nodes, but that it has the names of further nodes under their births.
pub record HasRoom (nodes : List Levels) (news : List Named) (index : Index) : Type 0 where
  pub base : Index
  pub is : IsIndex base nodes
  pub taken : index ≡ with_named news base

-- the index without the births of pointers
abbrev pub without_births : List Exchange → Index → Index
without_births [] index = index
without_births (change ∷ changes) index = without_births changes (without nat_cmp change.pointer.birth index)

-- the levels of a btree that is one node
abbrev pub one_node : NodePtr → Levels
one_node root = ((greatest_pos, root) ∷ []) ∷ []

-- Each btree is one node.
abbrev pub HaveOneNode : List Levels → Type 0
HaveOneNode nodes = (btree : Btree) → (root : NodePtr) × (levels_of nodes btree ≡ one_node root)

-- the name of the node that is the whole of a btree
abbrev pub only_name : Btree → NodeName
only_name btree = record { btree = btree; level = 0; greatest = greatest_pos }

-- The change is of a node that is the whole of its btree.
abbrev pub IsOfRoot : Exchange → Type 0
IsOfRoot change = change.name ≡ only_name change.name.btree

-- the nodes with other ones for btrees that are one node each
abbrev pub with_roots : List Exchange → List Levels → List Levels
with_roots [] nodes = nodes
with_roots (change ∷ changes) nodes = with_roots changes (slice_set nodes (btree_code change.name.btree) (one_node change.pointer))
