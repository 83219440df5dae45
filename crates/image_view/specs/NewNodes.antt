-- Btrees of a next entry whose nodes aren't those that were found: they were written whole into buckets of their own before.
use Rattle.std.specs.Prelude.{◌≡◌, ℕ, ◌+◌, ◌*◌, ◌<◌, ◌≤◌, ◌^◌, List, [], ◌∷◌, length, map, take, slice_get, All, Contains, Ok, Some}
use Rattle.dev_model.specs.Disk.{Image, block_at}
use Rattle.journal_ring.specs.declared.found.FoundEntry.{FoundEntry}
use Rattle.node_store.specs.NodeContents.{NodeContent}
use Rattle.vol_types.specs.Btrees.{btree_code}
use Rattle.vol_types.specs.Limits.{bucket_blocks}
use Rattle.vol_types.specs.KeyMaps.{KeyMap, entries_of, key_map, with_updates}
use Rattle.vol_types.specs.Positions.{greatest_pos, least_pos}
use Rattle.vol_types.specs.declared.pointers.NodeEnd.{NodeEnd}
use Rattle.vol_types.specs.declared.pointers.NodePtr.{NodePtr}
use Rattle.vol_types.specs.declared.pointers.Place.{Place}
use Rattle.vol_types.specs.declared.positions.Btree.{Btree}
use Rattle.image_view.specs.Found.{Found, IsMirrored, NodesAgree, updates_of}
use Rattle.image_view.specs.Trees.{SetsOf, TreesRead, Wanted, nodes_of, with_roots}

-- The nodes are in order in an image: each lies on every metadata device, its places agree on it, and it was born in a session up to the one
-- that was found.
pub record AreNodesInOrder (f : Found) (image : Image) : Type 0 where
  pub places : All (IsMirrored f.layout) (nodes_of f.trees.nodes)
  pub agree : NodesAgree image f
  pub births : All (λ node. node.birth < (f.session + 1) * 2 ^ 32) (nodes_of f.trees.nodes)

-- The buckets at the places of a node hold the same.
abbrev pub HoldSame : Image → NodePtr → Type 0
HoldSame image node =
    (one other : Place) → Contains node.places one → Contains node.places other → (n : ℕ) → n < bucket_blocks → block_at image one.dev (one.block + n) ≡ block_at image other.dev (other.block + n)

-- The node was written whole: it stands on every metadata device, holds the same on each, and was born in a session up to the one that was
-- found.
pub record IsNewNode (f : Found) (image : Image) (node : NodePtr) : Type 0 where
  pub mirrored : IsMirrored f.layout node
  pub same : HoldSame image node
  pub born : node.birth < (f.session + 1) * 2 ^ 32

-- The node is one of those that were found, and its sets end where they did.
pub record IsKeptNode (f : Found) (trees : TreesRead) (node : NodePtr) : Type 0 where
  pub found : Contains (nodes_of f.trees.nodes) node
  pub ends : (end : NodeEnd) → Contains trees.ends end → end.birth ≡ node.birth → Contains f.trees.ends end

-- a root as it is looked for
abbrev pub wanted_root : Btree → NodePtr → Wanted
wanted_root btree root = record { btree = btree; least = least_pos; greatest = greatest_pos; pointer = root }

-- Each of the nine roots is a leaf, and what its sets come to is known; no two of them have one birth.
pub record AreLeafRoots (sets : SetsOf) (roots : List NodePtr) (content : Btree → NodeContent) : Type 0 where
  pub nine : length roots ≡ 9
  pub leaves : All (λ root. root.level ≡ 0) roots
  pub each : (btree : Btree) (root : NodePtr) → slice_get roots (btree_code btree) ≡ Some root → sets (wanted_root btree root) ≡ Ok (content btree)
  pub births : (place other : ℕ) (one same : NodePtr) → slice_get roots place ≡ Some one → slice_get roots other ≡ Some same → one.birth ≡ same.birth → place ≡ other

-- the end of a root's sets
abbrev pub root_end : (Btree → NodeContent) → Btree × NodePtr → NodeEnd
root_end content (btree, root) = record { birth = root.birth; block = (content btree).end }

-- the btrees of one level that roots are whose sets come to this
abbrev pub leaf_trees : List NodePtr → (Btree → NodeContent) → TreesRead
leaf_trees roots content = record {
  keys = key_map (λ btree. (content btree).entries);
  nodes = map (λ root. ((greatest_pos, root) ∷ []) ∷ []) roots;
  ends = map (root_end content) (with_roots roots);
}

-- The sets of a btree's new nodes hold the keys that those of its old ones hold with the updates of the entries up to one. The entries
-- that the next one passes are among these, so that none is passed whose updates the new nodes lack.
pub record HoldsPassed (needed : List FoundEntry) (passed : ℕ) (old new : KeyMap) (btree : Btree) : Type 0 where
  pub count : ℕ
  pub none_lacks : passed ≤ count
  pub holds : entries_of new btree ≡ entries_of (with_updates (updates_of (take count needed)) old) btree

-- the same keys over the nodes of other btrees
abbrev pub over_nodes : TreesRead → TreesRead → TreesRead
over_nodes keys nodes = record { keys = keys.keys; nodes = nodes.nodes; ends = nodes.ends }
