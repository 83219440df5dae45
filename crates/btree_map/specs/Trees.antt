-- The btrees of a volume in memory: the keys of each, cut into leaves, and its nodes.
use Rattle.std.specs.Prelude.{◌-◌, ◌≡◌, ◌==◌, ℕ, if◌then◌else◌, List, [], ◌∷◌, All, length, map, slice_index_or, slice_set}
use Rattle.std.specs.Map.{keys_of, values_of}
use Rattle.birth_index.specs.Exchanges.{exchanged}
use Rattle.birth_index.specs.declared.name.Exchange.{Exchange}
use Rattle.tree_keys.specs.Cuts.{Cut, IsCut, cut_at, joined_at}
use Rattle.tree_nodes.specs.Levels.{Levels, IsNodeOf, IsTree, divided, level_of, under_root}
use Rattle.vol_types.specs.Btrees.{btree_code}
use Rattle.vol_types.specs.KeyMaps.{Entries, KeyMap, key_map}
use Rattle.vol_types.specs.Positions.{greatest_pos}
use Rattle.vol_types.specs.Standing.{MayStand}
use Rattle.vol_types.specs.declared.pointers.NodePtr.{NodePtr}
use Rattle.vol_types.specs.declared.positions.Btree.{Btree}
use Rattle.vol_types.specs.declared.positions.Pos.{Pos}

-- the keys of each btree, and its nodes, in the order of the btrees' numbers
pub record Trees : Type 0 where
  pub keys : List Cut
  pub nodes : List Levels

-- no keys and no leaves
abbrev pub no_cut : Cut
no_cut = record { entries = []; ends = [] }

-- the keys of a btree with its leaves, among those of all btrees
abbrev pub cut_of : List Cut → Btree → Cut
cut_of cuts btree = slice_index_or cuts (btree_code btree) no_cut

-- the key map that cuts hold
abbrev pub keys_of_cuts : List Cut → KeyMap
keys_of_cuts cuts = key_map (λ btree. (cut_of cuts btree).entries)

-- the keys of a btree with its leaves
abbrev pub cut_in : Trees → Btree → Cut
cut_in trees btree = cut_of trees.keys btree

-- the nodes of a btree
abbrev pub levels_in : Trees → Btree → Levels
levels_in trees btree = slice_index_or trees.nodes (btree_code btree) []

-- the values of a btree, each at its position
abbrev pub entries_in : Trees → Btree → Entries
entries_in trees btree = (cut_in trees btree).entries

-- the key map of a volume
abbrev pub keys_in : Trees → KeyMap
keys_in trees = keys_of_cuts trees.keys

-- A btree has keys and nodes, its leaves are the nodes of level 0, and each value may stand in a leaf.
pub record IsBtree (btree : Btree) (cut : Cut) (levels : Levels) : Type 0 where
  pub keys : IsCut cut
  pub nodes : IsTree levels
  pub leaves : cut.ends ≡ keys_of (level_of levels 0)
  pub stand : All (MayStand btree 0) (values_of cut.entries)

-- There are the keys of nine btrees.
pub record AreCuts (cuts : List Cut) : Type 0 where
  pub count : length cuts ≡ 9
  pub each : (btree : Btree) → IsCut (cut_of cuts btree)

-- There are nine btrees.
pub record IsTrees (trees : Trees) : Type 0 where
  pub key_count : length trees.keys ≡ 9
  pub node_count : length trees.nodes ≡ 9
  pub each : (btree : Btree) → IsBtree btree (cut_in trees btree) (levels_in trees btree)

-- no keys, and one leaf that covers all positions
abbrev pub one_leaf : Cut
one_leaf = record { entries = []; ends = greatest_pos ∷ [] }

-- One pointer for each btree, to a leaf.
pub record AreRoots (roots : List NodePtr) : Type 0 where
  pub count : length roots ≡ 9
  pub each : All (IsNodeOf 0) roots

-- btrees without keys, each of which has one node, a leaf that is its root
abbrev pub fresh_trees : List NodePtr → Trees
fresh_trees roots = record { keys = map (λ _. one_leaf) roots; nodes = map (λ root. under_root root []) roots }

-- the btrees with other nodes of one
abbrev pub with_levels : Btree → Levels → Trees → Trees
with_levels btree levels trees = record { keys = trees.keys; nodes = slice_set trees.nodes (btree_code btree) levels }

-- the btrees with other pointers of several nodes
abbrev pub with_exchanged : List Exchange → Trees → Trees
with_exchanged changes trees = record { keys = trees.keys; nodes = exchanged changes trees.nodes }

-- the nodes with two in the place of the root, under a new one
abbrev pub with_root : NodePtr → Pos → NodePtr → NodePtr → Levels → Levels
with_root root at first second levels = under_root root (divided (length levels - 1) greatest_pos at first second levels)

-- the keys of btrees, where a node of a level was divided: those of the leaf that covered the position are cut there
abbrev pub cuts_divided : ℕ → ℕ → Pos → List Cut → List Cut
cuts_divided code level at cuts = if level == 0 then slice_set cuts code (cut_at at (slice_index_or cuts code no_cut)) else cuts

-- the keys of btrees with two leaves joined that meet at a position, where the level is that of the leaves
abbrev pub cuts_joined : ℕ → ℕ → Pos → List Cut → List Cut
cuts_joined code level at cuts = if level == 0 then slice_set cuts code (joined_at at (slice_index_or cuts code no_cut)) else cuts

-- the btrees with other nodes of one, of which a node of a level was divided
abbrev pub with_divided : Btree → ℕ → Pos → Levels → Trees → Trees
with_divided btree level at levels trees = record {
  keys = cuts_divided (btree_code btree) level at trees.keys;
  nodes = slice_set trees.nodes (btree_code btree) levels;
}
