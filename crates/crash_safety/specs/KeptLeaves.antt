-- What is kept of a volume of leaves on its devices: what each root holds, up to which entry, and where it lies; and the same of the leaves that are written.
use Rattle.std.specs.Prelude.{◌≡◌, ◌≢◌, ℕ, ◌+◌, ◌*◌, ◌<◌, ◌≤◌, ◌^◌, true, Option, IfSome, List, [], All}
use Rattle.std.specs.List.{AllPairs}
use Rattle.bucket_pool.specs.NodeBuckets.{AreFixed, HoldsNode, IsHeldPast, MayHoldNode}
use Rattle.bucket_pool.specs.Space.{Space}
use Rattle.dev_model.specs.Devices.{DevicesState}
use Rattle.image_view.specs.Found.{Found, IsMirrored, node_places, updates_of}
use Rattle.image_view.specs.Trees.{nodes_of}
use Rattle.image_view.specs.UpdatedTrees.{IsOfLeaf}
use Rattle.crash_safety.specs.Writings.{Writing, after}
use Rattle.crash_safety.specs.Contents.{HoldsUpTo}
use Rattle.node_mem.specs.Nodes.{with_keys}
use Rattle.crash_safety.specs.Leaves.{StandsAsLeaf}
use Rattle.crash_safety.specs.NodeParts.{StandParts}
use Rattle.node_store.specs.NodeContents.{NodeContent}
use Rattle.node_store.specs.Plans.{HoldsAlone, planned_blocks}
use Rattle.record_codec.specs.declared.sets.SetRecord.{SetRecord}
use Rattle.vol_types.specs.KeyMaps.{Entries, IsKeyMap, KeyMap, keys_in, with_updates}
use Rattle.vol_types.specs.Layouts.{is_layout}
use Rattle.vol_types.specs.Limits.{bucket_blocks}
use Rattle.vol_types.specs.Positions.{greatest_pos, least_pos}
use Rattle.vol_types.specs.declared.pointers.NodePtr.{NodePtr}
use Rattle.vol_types.specs.declared.positions.Btree.{Btree}
use Rattle.crash_safety.specs.CheckpointLeaves.{FreshLeaf, Leaves, LieApart}

-- the set of the only leaf of a btree with these entries
abbrev pub leaf_set : ℕ → Btree → Entries → SetRecord
leaf_set birth btree entries = record { birth = birth; btree = btree; level = 0; least = least_pos; greatest = greatest_pos; keys = keys_in entries }

-- The blocks of the leaf are those of a new node that holds these entries, and fill its bucket.
pub record IsLeafPlanned (id : List ℕ) (fresh : FreshLeaf) (entries : Entries) : Type 0 where
  pub places : fresh.blocked.places ≡ fresh.node.places
  pub first : fresh.blocked.block ≡ 0
  pub whole : planned_blocks fresh.blocked ≡ bucket_blocks
  pub holds : HoldsAlone id fresh.node (leaf_set fresh.node.birth fresh.btree entries) fresh.blocked
  pub entries_are : with_keys (keys_in entries) [] ≡ entries

-- A leaf that is written lies where nodes may, on every metadata device; as many of its blocks as are written stand on what is read; and it holds the
-- keys of its btree up to a needed entry: what it lacks of the later ones is noted.
pub record IsFreshKept (f : Found) (before : KeyMap) (state : DevicesState) (fresh : FreshLeaf) : Type 0 where
  pub leaf : fresh.node.level ≡ 0
  pub mirrored : IsMirrored f.layout fresh.node
  pub placed : All (MayHoldNode f.layout) fresh.node.places
  pub born : fresh.node.birth < (f.session + 1) * 2 ^ 32
  pub entries : Entries
  pub planned : IsLeafPlanned f.layout.id fresh entries
  pub holds : HoldsUpTo f.needed before f.last.entry.oldest fresh.btree fresh.later entries
  pub few : fresh.written ≤ bucket_blocks
  pub stand : StandParts fresh.blocked fresh.written state

-- The bucket of each place of the node holds a node.
abbrev pub HoldsOwn : Space → NodePtr → Type 0
HoldsOwn space node = All (HoldsNode space) node.places

-- The leaf lies apart from each of these nodes.
abbrev pub LiesApartFrom : List NodePtr → FreshLeaf → Type 0
LiesApartFrom nodes fresh = All (LieApart fresh.node) nodes

-- Where the leaves lie: the buckets of roots, and of leaves that are written, hold nodes, and no two of them share one; those of the nodes that the last
-- durable entry leads to, and of those that the entry that is written does, are held until a later entry is durable; all lie where nodes may; and
-- no leaf that is written lies in one of these.
pub record LieWell (f : Found) (writing : Option Writing) (l : Leaves) : Type 0 where
  pub fixed : AreFixed f.layout l.space
  pub roots : (btree : Btree) → HoldsOwn l.space (l.root btree)
  pub fresh : All (λ (leaf : FreshLeaf). HoldsOwn l.space leaf.node) l.fresh
  pub found : All (IsHeldPast f.last.entry.sequence l.space) (node_places f)
  pub next : IfSome writing (λ w. All (IsHeldPast w.next.entry.sequence l.space) (node_places (after w f)))
  pub roots_placed : (btree : Btree) → All (MayHoldNode f.layout) (l.root btree).places
  pub found_placed : All (MayHoldNode f.layout) (node_places f)
  pub next_placed : IfSome writing (λ w. All (MayHoldNode f.layout) (node_places (after w f)))
  pub roots_apart : (one other : Btree) → one ≢ other → LieApart (l.root one) (l.root other)
  pub fresh_apart : AllPairs (λ (one other : FreshLeaf). LieApart one.node other.node) l.fresh
  pub apart_roots : All (λ (leaf : FreshLeaf). (btree : Btree) → LieApart leaf.node (l.root btree)) l.fresh
  pub apart_found : All (LiesApartFrom (nodes_of f.trees.nodes)) l.fresh
  pub apart_next : IfSome writing (λ w. All (LiesApartFrom (nodes_of (after w f).trees.nodes)) l.fresh)

-- What is kept of a volume of leaves: its durable keys come from some key map by the updates of the needed entries, which are of leaves; each root stands on the
-- devices, and holds the keys of its btree up to a needed entry, the later ones being pinned; and so it is of the leaves that are written.
pub record KeepsLeaves (f : Found) (writing : Option Writing) (state : DevicesState) (l : Leaves) : Type 0 where
  pub layout : is_layout f.layout ≡ true
  pub before : KeyMap
  pub are_keys : IsKeyMap before
  pub keys : f.trees.keys ≡ with_updates (updates_of f.needed) before
  pub of_leaves : All IsOfLeaf (updates_of f.needed)
  pub content : Btree → NodeContent
  pub stand : (btree : Btree) → StandsAsLeaf f.layout f.session btree (l.root btree) (content btree) state
  pub births : (one other : Btree) → (l.root one).birth ≡ (l.root other).birth → one ≡ other
  pub holds : (btree : Btree) → HoldsUpTo f.needed before f.last.entry.oldest btree (l.pin btree) (content btree).entries
  pub fresh : All (IsFreshKept f before state) l.fresh
  pub lie : LieWell f writing l
