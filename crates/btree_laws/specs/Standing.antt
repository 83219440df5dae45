-- A btree of any number of levels as it stands on the devices, and all nine of a volume: which nodes each of its levels has, what the sets
-- of each node come to, and what is read of it.
use Rattle.std.specs.Prelude.{◌≡◌, ℕ, zero, suc, ◌-◌, List, [], ◌∷◌, ◌++◌, length, map, All, Ok, Some, slice_get}
use Rattle.std.specs.List.{flat_map}
use Rattle.std.specs.Map.{keys_of}
use Rattle.birth_index.specs.Births.{BirthsDiffer, levels_of}
use Rattle.image_view.specs.Trees.{BtreeRead, SetsOf, TreesRead, Wanted, all_btrees}
use Rattle.interior.specs.Contents.{content_of}
use Rattle.node_store.specs.NodeContents.{NodeContent}
use Rattle.tree_nodes.specs.Levels.{IsTree, Level, Levels, least_of, level_of}
use Rattle.vol_types.specs.Btrees.{btree_code}
use Rattle.vol_types.specs.KeyMaps.{Entries, KeyMap, entries_of, key_map}
use Rattle.vol_types.specs.Maps.{IsMap, value_at}
use Rattle.vol_types.specs.Positions.{IsWithin, greatest_pos, pos_cmp}
use Rattle.vol_types.specs.Widths.{PosFits}
use Rattle.vol_types.specs.declared.pointers.NodeEnd.{NodeEnd}
use Rattle.vol_types.specs.declared.pointers.NodePtr.{NodePtr}
use Rattle.vol_types.specs.declared.positions.Btree.{Btree}
use Rattle.vol_types.specs.declared.positions.Pos.{Pos}

-- what the sets of each node of a btree come to
abbrev pub Contents : Type 0
Contents = NodePtr → NodeContent

-- The level has this node, which ends at the position.
abbrev pub IsNodeIn : Levels → ℕ → Pos → NodePtr → Type 0
IsNodeIn levels level at node = value_at pos_cmp at (level_of levels level) ≡ Some node

-- a node of a level as it is looked for: it covers the positions behind the node before it
abbrev pub wanted_at : Btree → Level → Pos → NodePtr → Wanted
wanted_at btree nodes at node = record { btree = btree; least = least_of at nodes; greatest = at; pointer = node }

-- The entries are keys of a leaf: their positions rise, have their widths, and are covered by it.
pub record AreLeafKeys (least greatest : Pos) (entries : Entries) : Type 0 where
  pub rises : IsMap pos_cmp entries
  pub fits : All PosFits (keys_of entries)
  pub covered : All (IsWithin least greatest) (keys_of entries)

-- The entries are those of the node of a level that ends at the position: a leaf has keys of its own, and a node above the leaves exactly the
-- pointers of its children.
abbrev pub AreOwnEntries : Levels → ℕ → Pos → Entries → Type 0
AreOwnEntries levels zero at entries = AreLeafKeys (least_of at (level_of levels zero)) at entries
AreOwnEntries levels (suc level) at entries = entries ≡ content_of levels (suc level) at

-- A node stands as one of its btree's levels: its sets come to its content, which has the entries of that node.
pub record StandsAsNode (sets : SetsOf) (btree : Btree) (levels : Levels) (content : Contents) (level : ℕ) (at : Pos) (node : NodePtr) : Type 0 where
  pub comes : sets (wanted_at btree (level_of levels level) at node) ≡ Ok (content node)
  pub entries : AreOwnEntries levels level at (content node).entries

-- The last level is this root, which covers all positions.
abbrev pub IsUnderRoot : NodePtr → Levels → Type 0
IsUnderRoot root levels = level_of levels (length levels - 1) ≡ (greatest_pos, root) ∷ []

-- The btree stands under its root: it has these levels, the leaves first, and each of their nodes stands with its content.
pub record StandsAsBtree (sets : SetsOf) (btree : Btree) (root : NodePtr) (levels : Levels) (content : Contents) : Type 0 where
  pub tree : IsTree levels
  pub top : IsUnderRoot root levels
  pub each : (level : ℕ) (at : Pos) (node : NodePtr) → IsNodeIn levels level at node → StandsAsNode sets btree levels content level at node

-- All nine btrees stand under these roots, in the order of their numbers, and no two of their nodes have one birth.
pub record StandAsBtrees (sets : SetsOf) (roots : List NodePtr) (trees : List Levels) (content : Btree → Contents) : Type 0 where
  pub roots_are : length roots ≡ 9
  pub trees_are : length trees ≡ 9
  pub each : (btree : Btree) (root : NodePtr) → slice_get roots (btree_code btree) ≡ Some root → StandsAsBtree sets btree root (levels_of trees btree) (content btree)
  pub births : BirthsDiffer trees

-- the keys of a btree: those of its leaves, one leaf after the other
abbrev pub leaf_entries : Contents → Levels → Entries
leaf_entries content levels = flat_map (λ leaf. (content leaf.1).entries) (level_of levels 0)

-- where the sets of a level's nodes end
abbrev pub ends_in : Contents → Level → List NodeEnd
ends_in content nodes = map (λ node. record { birth = node.1.birth; block = (content node.1).end }) nodes

-- where the sets of a btree's nodes end, those of the topmost level first
abbrev pub set_ends : Contents → Levels → List NodeEnd
set_ends content [] = []
set_ends content (nodes ∷ levels) = set_ends content levels ++ ends_in content nodes

-- what is read of a btree that stands: the keys of its leaves, its levels, and where its sets end
abbrev pub read_of : Contents → Levels → BtreeRead
read_of content levels = record { entries = leaf_entries content levels; levels = levels; ends = set_ends content levels }

-- the keys of all btrees
abbrev pub keys_in_leaves : (Btree → Contents) → List Levels → KeyMap
keys_in_leaves content trees = key_map (λ btree. leaf_entries (content btree) (levels_of trees btree))

-- what is read of btrees that stand
abbrev pub reads_of : (Btree → Contents) → List Levels → TreesRead
reads_of content trees = record {
  keys = keys_in_leaves content trees;
  nodes = trees;
  ends = flat_map (λ btree. set_ends (content btree) (levels_of trees btree)) all_btrees;
}

-- The positions of the keys have their widths.
abbrev pub HaveWidths : KeyMap → Type 0
HaveWidths keys = (btree : Btree) → All PosFits (keys_of (entries_of keys btree))
