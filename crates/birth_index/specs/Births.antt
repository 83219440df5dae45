-- Which node of a volume's btrees has which birth, and what new nodes in the place of one change in an index of births.
use Rattle.std.specs.Prelude.{◌≡◌, ◌≢◌, ℕ, ◌+◌, ◌-◌, Option, None, Some, List, [], ◌∷◌, ⊤, length, option_map, slice_index_or}
use Rattle.std.specs.Ordering.{nat_cmp}
use Rattle.birth_index.specs.declared.making.IndexFault.{IndexFault}
use Rattle.birth_index.specs.declared.making.IndexFault.TheVariants.{NoMemory, SameBirth}
use Rattle.birth_index.specs.declared.name.Named.{Named}
use Rattle.birth_index.specs.declared.name.NodeName.{NodeName}
use Rattle.tree_nodes.specs.Levels.{Levels, level_of}
use Rattle.vol_types.specs.Btrees.{btree_code}
use Rattle.vol_types.specs.Maps.{IsMap, value_at, with_value, without}
use Rattle.vol_types.specs.Positions.{greatest_pos, pos_cmp}
use Rattle.vol_types.specs.declared.pointers.NodePtr.{NodePtr}
use Rattle.vol_types.specs.declared.positions.Btree.{Btree}
use Rattle.vol_types.specs.declared.positions.Pos.{Pos}

-- births in their order, each with the name of a node
abbrev pub Index : Type 0
Index = List (ℕ × NodeName)

-- the nodes of a btree, among those of all btrees in the order of their numbers
abbrev pub levels_of : List Levels → Btree → Levels
levels_of nodes btree = slice_index_or nodes (btree_code btree) []

-- the node with this name, if there is one
abbrev pub node_of : List Levels → NodeName → Option NodePtr
node_of nodes name = value_at pos_cmp name.greatest (level_of (levels_of nodes name.btree) name.level)

-- the birth of the node with this name, if there is one
abbrev pub birth_of : List Levels → NodeName → Option ℕ
birth_of nodes name = option_map (λ node. node.birth) (node_of nodes name)

-- Each birth of the index leads to a name that has it, and each name that has a birth is found under it.
pub record Finds (index : Index) (births : NodeName → Option ℕ) : Type 0 where
  pub rises : IsMap nat_cmp index
  pub leads : (birth : ℕ) (name : NodeName) → value_at nat_cmp birth index ≡ Some name → births name ≡ Some birth
  pub found : (birth : ℕ) (name : NodeName) → births name ≡ Some birth → value_at nat_cmp birth index ≡ Some name

-- The index is that of the nodes: each entry leads to a node with this birth, and each node is there under its birth.
abbrev pub IsIndex : Index → List Levels → Type 0
IsIndex index nodes = Finds index (birth_of nodes)

-- Two nodes have the birth.
pub record TwoHave (births : NodeName → Option ℕ) (birth : ℕ) : Type 0 where
  pub one : NodeName
  pub other : NodeName
  pub apart : one ≢ other
  pub one_has : births one ≡ Some birth
  pub other_has : births other ≡ Some birth

-- Two nodes have the birth that is told; out of memory has no cause.
abbrev pub HasCause : (NodeName → Option ℕ) → IndexFault → Type 0
HasCause births NoMemory = ⊤
HasCause births (SameBirth birth) = TwoHave births birth

-- No node but the one with this name has the birth.
abbrev pub IsFree : List Levels → NodeName → ℕ → Type 0
IsFree nodes name birth = (other : NodeName) → birth_of nodes other ≡ Some birth → other ≡ name

-- The births may go to the halves of a node: they differ, and each is that of the node or one that no node has.
pub record ForHalves (nodes : List Levels) (name : NodeName) (one other : ℕ) : Type 0 where
  pub first : IsFree nodes name one
  pub second : IsFree nodes name other
  pub apart : one ≢ other

-- The births may go to the halves of a root and to the new root above them: they differ, and each is that of the old root or
-- one that no node has.
pub record ForRoots (nodes : List Levels) (name : NodeName) (lower upper root : ℕ) : Type 0 where
  pub halves : ForHalves nodes name lower upper
  pub above : IsFree nodes name root
  pub lower_apart : root ≢ lower
  pub upper_apart : root ≢ upper

-- The birth is not in the index, unless it is the one that goes.
abbrev pub IsFreeIn : Index → ℕ → ℕ → Type 0
IsFreeIn index gone birth = birth ≢ gone → value_at nat_cmp birth index ≡ None

-- the index with births that lead to the names of new nodes
abbrev pub with_named : List Named → Index → Index
with_named [] index = index
with_named (new ∷ news) index = with_named news (with_value nat_cmp new.birth new.name index)

-- the index after new nodes came in the place of the one with a birth
abbrev pub replaced : ℕ → List Named → Index → Index
replaced gone news index = with_named news (without nat_cmp gone index)

-- a birth with the name of a node
abbrev pub named : ℕ → NodeName → Named
named birth name = record { birth = birth; name = name }

-- the index after a node got another pointer
abbrev pub renamed : ℕ → NodeName → ℕ → Index → Index
renamed gone name fresh index = replaced gone (named fresh name ∷ []) index

-- the same name at another position
abbrev pub name_at : NodeName → Pos → NodeName
name_at name at = record { btree = name.btree; level = name.level; greatest = at }

-- the halves of a divided node, of which the second has its name
abbrev pub halves : NodeName → Pos → ℕ → ℕ → List Named
halves name at first second = named second name ∷ named first (name_at name at) ∷ []

-- the name of the root above a node that was one
abbrev pub root_above : NodeName → NodeName
root_above name = record { btree = name.btree; level = name.level + 1; greatest = greatest_pos }

-- the halves of a divided root, and the new root above them
abbrev pub grown : NodeName → Pos → ℕ → ℕ → ℕ → List Named
grown name at first second root = named second name ∷ named first (name_at name at) ∷ named root (root_above name) ∷ []

-- the name of the root of a btree
abbrev pub root_named : List Levels → Btree → NodeName
root_named nodes btree = record { btree = btree; level = length (levels_of nodes btree) - 1; greatest = greatest_pos }

-- No two nodes have one birth.
abbrev pub BirthsDiffer : List Levels → Type 0
BirthsDiffer nodes = (one other : NodeName) (birth : ℕ) → birth_of nodes one ≡ Some birth → birth_of nodes other ≡ Some birth → one ≡ other
