-- A volume each of whose btrees is one leaf, while leaves are written into new buckets.
use Rattle.std.specs.Prelude.{ℕ, ◌==◌, if◌then◌else◌, Option, List, [], ◌∷◌, Contains}
use Rattle.std.specs.List.{flat_map}
use Rattle.bucket_pool.specs.NodeBuckets.{AreInOtherBuckets}
use Rattle.bucket_pool.specs.Space.{Space}
use Rattle.node_store.specs.declared.planning.Blocked.{Blocked}
use Rattle.vol_types.specs.Btrees.{btree_code}
use Rattle.vol_types.specs.declared.pointers.NodePtr.{NodePtr}
use Rattle.vol_types.specs.declared.pointers.Place.{Place}
use Rattle.vol_types.specs.declared.positions.Btree.{Btree}

-- A leaf that is written: of which btree it is to be the root, the node, its blocks, how many of these are written, and the oldest entry of which it lacks
-- keys, if it lacks any.
pub record FreshLeaf : Type 0 where
  pub btree : Btree
  pub node : NodePtr
  pub blocked : Blocked
  pub written : ℕ
  pub later : Option ℕ

-- The root of each btree, which is its only node; the oldest entry of which it lacks keys, if it lacks any; the leaves that are written; and the space.
pub record Leaves : Type 0 where
  pub root : Btree → NodePtr
  pub pin : Btree → Option ℕ
  pub fresh : List FreshLeaf
  pub space : Space

-- Each place of the one node lies in another bucket than each of the other.
abbrev pub LieApart : NodePtr → NodePtr → Type 0
LieApart one other = (place another : Place) → Contains one.places place → Contains other.places another → AreInOtherBuckets place another

-- what is known of a btree, where it is this one, and else what was known
abbrev pub with_btree : {A : Type 0} → Btree → A → (Btree → A) → Btree → A
with_btree changed value of btree = if btree_code btree == btree_code changed then value else of btree

-- the roots once these leaves are in place
abbrev pub placed_roots : List FreshLeaf → (Btree → NodePtr) → Btree → NodePtr
placed_roots [] root = root
placed_roots (fresh ∷ more) root = placed_roots more (with_btree fresh.btree fresh.node root)

-- what the roots pin once these leaves are in place
abbrev pub placed_pins : List FreshLeaf → (Btree → Option ℕ) → Btree → Option ℕ
placed_pins [] pin = pin
placed_pins (fresh ∷ more) pin = placed_pins more (with_btree fresh.btree fresh.later pin)

-- the places of the roots in whose places these leaves come
abbrev pub replaced_places : List FreshLeaf → (Btree → NodePtr) → List Place
replaced_places fresh root = flat_map (λ (leaf : FreshLeaf). (root leaf.btree).places) fresh

-- the places of these leaves
abbrev pub places_of_fresh : List FreshLeaf → List Place
places_of_fresh fresh = flat_map (λ (leaf : FreshLeaf). leaf.node.places) fresh
