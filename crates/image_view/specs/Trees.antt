-- What roots and updates mean, where it is known which sets each node has: the keys of the nine btrees, and their nodes, or the
-- place of the first node that is bad. Nothing here speaks of blocks or devices.
use Rattle.std.specs.Prelude.{ℕ, zero, suc, ◌-◌, Bool, false, ◌&&◌, ◌==◌, if◌then◌else◌, List, [], ◌∷◌, ◌++◌, length, map, Option, Some, None, is_some, Result, Ok, Err, slice_get, slice_index_or, unwrap_or}
use Rattle.std.specs.BTreeMap.{is_at}
use Rattle.std.specs.List.{filter, filter_map, flat_map, fold, list_all, list_any, zip}
use Rattle.std.specs.Map.{values_of}
use Rattle.std.specs.Option.{option_map_or}
use Rattle.key_codec.specs.Formats.{◌>>=◌}
use Rattle.node_store.specs.NodeContents.{NodeContent}
use Rattle.tree_nodes.specs.Levels.{Level, Levels}
use Rattle.vol_types.specs.Btrees.{btree_code}
use Rattle.vol_types.specs.KeyMaps.{Entries, KeyMap, key_map}
use Rattle.vol_types.specs.Maps.{put_at}
use Rattle.vol_types.specs.Positions.{greatest_pos, is_within, least_pos, next_pos, pos_cmp}
use Rattle.vol_types.specs.declared.keys.Update.{Update}
use Rattle.vol_types.specs.declared.pointers.NodeEnd.{NodeEnd}
use Rattle.vol_types.specs.declared.pointers.NodePtr.{NodePtr}
use Rattle.vol_types.specs.declared.pointers.Place.{Place}
use Rattle.vol_types.specs.declared.positions.Btree.{Btree}
use Rattle.vol_types.specs.declared.positions.Btree.TheVariants.{Extents, Inodes, Dirents, Subvols, Snapshots, Alloc, Backptrs, Deleted, Counters}
use Rattle.vol_types.specs.declared.positions.Pos.{Pos}
use Rattle.vol_types.specs.declared.values.Value.{Value}
use Rattle.vol_types.specs.declared.values.Value.TheVariants as values

-- what is done to each member in turn, up to the first fault
abbrev pub each_of : {F A B : Type 0} → (A → Result B F) → List A → Result (List B) F
each_of f [] = Ok []
each_of f (x ∷ xs) = do
  y ← f x
  ys ← each_of f xs
  Ok (y ∷ ys)

-- a node as it is looked for: of which btree it is, the positions that it is to cover, and where it lies
pub record Wanted : Type 0 where
  pub btree : Btree
  pub least : Pos
  pub greatest : Pos
  pub pointer : NodePtr

-- for each node what its sets come to, later ones over earlier ones, and where they end; or the place where it is bad
abbrev pub SetsOf : Type 0
SetsOf = Wanted → Result NodeContent Place

-- whether an update is one of a node's keys
abbrev pub is_of_node : Wanted → Update → Bool
is_of_node wanted update = btree_code update.btree == btree_code wanted.btree && (update.level == wanted.pointer.level && is_within wanted.least wanted.greatest update.pos)

-- entries with updates, in their order
abbrev pub updated : List Update → Entries → Entries
updated updates entries = fold (λ made update. put_at pos_cmp update.pos update.value made) entries updates

-- a node that was read: where it ends and lies, its entries with the updates of its keys, and the first block after its sets
pub record NodeRead : Type 0 where
  pub greatest : Pos
  pub pointer : NodePtr
  pub entries : Entries
  pub end : ℕ

-- a node as its sets and the updates of its keys make it
abbrev pub read_node : SetsOf → List Update → Wanted → Result NodeRead Place
read_node sets updates wanted = do
  read ← sets wanted
  Ok (record { greatest = wanted.greatest; pointer = wanted.pointer; entries = updated (filter (is_of_node wanted) updates) read.entries; end = read.end })

-- the nodes of a level, each of which covers the positions after the one before it
abbrev pub read_level : SetsOf → List Update → Btree → Pos → Level → Result (List NodeRead) Place
read_level sets updates btree least [] = Ok []
read_level sets updates btree least (node ∷ nodes) = do
  first ← read_node sets updates (record { btree = btree; least = least; greatest = node.0; pointer = node.1 })
  others ← read_level sets updates btree (unwrap_or (next_pos node.0) greatest_pos) nodes
  Ok (first ∷ others)

-- the node of the level below to which an entry leads, where it leads to one
abbrev pub child_in : ℕ → Pos × Value → Option (Pos × NodePtr)
child_in level (pos, values.Node pointer) = if pointer.level == level then Some (pos, pointer) else None
child_in level (pos, other) = None

-- whether the last entry stands at this position
abbrev pub ends_at : Pos → Entries → Bool
ends_at greatest entries = option_map_or (λ (entry : Pos × Value). is_at (pos_cmp greatest) entry.0) (slice_get entries (length entries - 1)) false

-- whether entries are those of a node above the leaves: each leads to a node of the level below, and the last one ends where
-- the node does
abbrev pub are_children : ℕ → Pos → Entries → Bool
are_children level greatest entries = list_all (λ entry. is_some (child_in level entry)) entries && ends_at greatest entries

-- the first place of a node
abbrev pub first_place : NodePtr → Place
first_place pointer = slice_index_or pointer.places 0 (record { dev = 0; block = 0 })

-- the nodes of the level below that make up a node, which is bad where its entries are no children
abbrev pub children_of : ℕ → NodeRead → Result Level Place
children_of level node = if are_children level node.greatest node.entries then Ok (filter_map (child_in level) node.entries) else Err (first_place node.pointer)

-- a btree that was read: its keys, its levels from the leaves up, and for each node where its sets end, the topmost node first
pub record BtreeRead : Type 0 where
  pub entries : Entries
  pub levels : Levels
  pub ends : List NodeEnd

-- for each node where its sets end
abbrev pub ends_of : List NodeRead → List NodeEnd
ends_of nodes = map (λ node. record { birth = node.pointer.birth; block = node.end }) nodes

-- a btree from a level down to the leaves, level by level; so a fault is the first one of the topmost level that has one
abbrev pub read_down : SetsOf → List Update → Btree → ℕ → Level → Result BtreeRead Place
read_down sets updates btree zero nodes = do
  read ← read_level sets updates btree least_pos nodes
  Ok (record { entries = flat_map (λ node. node.entries) read; levels = nodes ∷ []; ends = ends_of read })
read_down sets updates btree (suc level) nodes = do
  read ← read_level sets updates btree least_pos nodes
  below ← each_of (children_of level) read
  rest ← read_down sets updates btree level (flat_map (λ children. children) below)
  Ok (record { entries = rest.entries; levels = rest.levels ++ nodes ∷ []; ends = ends_of read ++ rest.ends })

-- a btree under its root, which covers all positions
abbrev pub btree_of : SetsOf → List Update → Btree × NodePtr → Result BtreeRead Place
btree_of sets updates (btree, root) = read_down sets updates btree root.level ((greatest_pos, root) ∷ [])

-- the btrees, in the order of their numbers
abbrev pub all_btrees : List Btree
all_btrees = Extents ∷ Inodes ∷ Dirents ∷ Subvols ∷ Snapshots ∷ Alloc ∷ Backptrs ∷ Deleted ∷ Counters ∷ []

-- each btree with its root
abbrev pub with_roots : List NodePtr → List (Btree × NodePtr)
with_roots roots = zip all_btrees roots

-- the btrees of a volume that were read: the key map, the levels of each, and for each node where its sets end
pub record TreesRead : Type 0 where
  pub keys : KeyMap
  pub nodes : List Levels
  pub ends : List NodeEnd

-- no keys and no nodes
abbrev pub no_btree : BtreeRead
no_btree = record { entries = []; levels = []; ends = [] }

-- btrees that were read, together
abbrev pub joined : List BtreeRead → TreesRead
joined btrees = record {
  keys = key_map (λ btree. (slice_index_or btrees (btree_code btree) no_btree).entries);
  nodes = map (λ btree. btree.levels) btrees;
  ends = flat_map (λ btree. btree.ends) btrees;
}

-- all nodes of btrees, in the order in which their levels stand
abbrev pub nodes_of : List Levels → List NodePtr
nodes_of trees = flat_map (λ levels. flat_map values_of levels) trees

-- whether a node has the birth of one of some others
abbrev pub has_birth : NodePtr → List NodePtr → Bool
has_birth node others = list_any (λ other. other.birth == node.birth) others

-- the first node that has the birth of a later one, if there is one
abbrev pub first_twin : List NodePtr → Option NodePtr
first_twin [] = None
first_twin (node ∷ nodes) = if has_birth node nodes then Some node else first_twin nodes

-- btrees of which no two nodes have one birth
abbrev pub with_own_births : TreesRead → Result TreesRead Place
with_own_births read = option_map_or (λ (node : NodePtr). Err (first_place node)) (first_twin (nodes_of read.nodes)) (Ok read)

-- what roots and updates mean
unfoldable pub trees_of : SetsOf → List Update → List NodePtr → Result TreesRead Place
trees_of sets updates roots = do
  btrees ← each_of (btree_of sets updates) (with_roots roots)
  with_own_births (joined btrees)
