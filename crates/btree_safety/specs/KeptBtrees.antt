-- What is kept of a volume's btrees on its devices: what their leaves hold, up to which entries, and where all nodes lie; and the same of the nodes
-- that are written.
use Rattle.std.specs.Prelude.{◌≡◌, true, Option, IfSome, List, map, All, Contains}
use Rattle.std.specs.List.{AllPairs, range_with_len}
use Rattle.bucket_pool.specs.NodeBuckets.{AreFixed, AreInOtherBuckets, HoldsNode, IsHeldPast, MayHoldNode}
use Rattle.bucket_pool.specs.Space.{Space}
use Rattle.btree_laws.specs.Standing.{Contents, HaveWidths}
use Rattle.crash_safety.specs.KeptLeaves.{HoldsOwn}
use Rattle.crash_safety.specs.Writings.{Writing, after}
use Rattle.dev_model.specs.Devices.{DevicesState}
use Rattle.image_view.specs.Found.{Found, node_places, updates_of}
use Rattle.image_view.specs.Trees.{nodes_of}
use Rattle.image_view.specs.UpdatedTrees.{IsOfLeaf}
use Rattle.vol_types.specs.KeyMaps.{IsKeyMap, KeyMap, with_updates}
use Rattle.vol_types.specs.Layouts.{is_layout}
use Rattle.vol_types.specs.declared.layout.Layout.{Layout}
use Rattle.vol_types.specs.declared.pointers.NodePtr.{NodePtr}
use Rattle.vol_types.specs.declared.pointers.Place.{Place}
use Rattle.vol_types.specs.declared.positions.Btree.{Btree}
use Rattle.vol_types.specs.declared.positions.Pos.{Pos}
use Rattle.btree_safety.specs.CheckpointBtrees.{Btrees, FreshNode, IsOwnPosition, own_places}
use Rattle.btree_safety.specs.FreshNodes.{IsPartlyWritten, content_of_set}
use Rattle.btree_safety.specs.KeptKeys.{HoldUpTo, HoldsAt}
use Rattle.btree_safety.specs.StandingNodes.{BtreesStand}

-- As many blocks of a node that is written as are written stand on what is read; and if it is a leaf, it holds at each position that it is to cover
-- the value up to a needed entry: what it lacks of the later ones is noted.
pub record IsFreshKept (f : Found) (before : KeyMap) (state : DevicesState) (fresh : FreshNode) : Type 0 where
  pub stands : IsPartlyWritten f.layout f.session fresh.wanted fresh.set fresh.blocked fresh.written state
  pub holds : (pos : Pos) → IsOwnPosition fresh pos → HoldsAt f.needed before f.last.entry.oldest fresh.wanted.btree fresh.later (content_of_set fresh.set).entries pos

-- Each place of the node is one where nodes may lie.
abbrev pub MayLie : Layout → NodePtr → Type 0
MayLie layout node = All (MayHoldNode layout) node.places

-- These places lie in other buckets than those.
abbrev pub ArePlacesApart : List Place → List Place → Type 0
ArePlacesApart one other = (place another : Place) → Contains one place → Contains other another → AreInOtherBuckets place another

-- They lie in other buckets than each of these nodes.
abbrev pub LieApartFrom : List NodePtr → List Place → Type 0
LieApartFrom nodes places = All (λ node. ArePlacesApart places node.places) nodes

-- The places are those of a new node: one on each metadata device, in their order, each in a bucket that holds a node, where nodes may lie.
pub record ArePlacesTaken (layout : Layout) (space : Space) (places : List Place) : Type 0 where
  pub mirrored : map (λ place. place.dev) places ≡ range_with_len 0 layout.metadata_replicas
  pub hold : All (HoldsNode space) places
  pub may : All (MayHoldNode layout) places

-- Where the nodes lie: the buckets of the btrees' nodes hold nodes, and so do those of the nodes that are written and those that are taken; those of
-- the nodes that the last durable entry leads to, and of those that the entry that is written does, are held until a later entry is durable; all lie
-- where nodes may; and no node that is written, or place that is taken, lies in a bucket of another one of these.
pub record LieWell (f : Found) (writing : Option Writing) (b : Btrees) : Type 0 where
  pub fixed : AreFixed f.layout b.space
  pub nodes : All (HoldsOwn b.space) (nodes_of b.trees)
  pub own : All (ArePlacesTaken f.layout b.space) (own_places b)
  pub found : All (IsHeldPast f.last.entry.sequence b.space) (node_places f)
  pub next : IfSome writing (λ w. All (IsHeldPast w.next.entry.sequence b.space) (node_places (after w f)))
  pub nodes_placed : All (MayLie f.layout) (nodes_of b.trees)
  pub found_placed : All (MayLie f.layout) (nodes_of f.trees.nodes)
  pub next_placed : IfSome writing (λ w. All (MayLie f.layout) (nodes_of (after w f).trees.nodes))
  pub own_apart : AllPairs ArePlacesApart (own_places b)
  pub apart_nodes : All (LieApartFrom (nodes_of b.trees)) (own_places b)
  pub apart_found : All (LieApartFrom (nodes_of f.trees.nodes)) (own_places b)
  pub apart_next : IfSome writing (λ w. All (LieApartFrom (nodes_of (after w f).trees.nodes)) (own_places b))

-- What is kept of a volume's btrees: its durable keys come from some key map by the updates of the needed entries, which are of leaves; the btrees
-- stand on the devices, and each leaf holds its keys up to needed entries, the later ones being pinned; and so it is of the nodes that are written.
pub record KeepsBtrees (f : Found) (writing : Option Writing) (state : DevicesState) (b : Btrees) : Type 0 where
  pub layout : is_layout f.layout ≡ true
  pub before : KeyMap
  pub are_keys : IsKeyMap before
  pub widths : HaveWidths before
  pub keys : f.trees.keys ≡ with_updates (updates_of f.needed) before
  pub of_leaves : All IsOfLeaf (updates_of f.needed)
  pub content : Btree → Contents
  pub stand : BtreesStand f.layout f.session b.roots b.trees content state
  pub holds : HoldUpTo f.needed before f.last.entry.oldest b.trees b.pin content
  pub fresh : All (IsFreshKept f before state) b.fresh
  pub lie : LieWell f writing b
