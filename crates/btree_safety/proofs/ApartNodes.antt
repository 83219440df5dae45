-- Nodes that lie apart, where nodes may, and what they hold while the buckets of others are emptied.
use Rattle.std.proofs.Common.{◌≡◌, inl, inr, ⊎_elim, ℕ, suc, ◌+◌, ◌/◌, ◌<◌, ◌≤◌, Bool, true, false, cond, List, [], ◌∷◌, get_or, refl, sym, arith}
use Rattle.std.specs.List.{flat_map}
use Rattle.std.specs.Prelude.{All, Contains, nat_lt}
use Rattle.std.proofs.lemmas.Bool.{ltb-true}
use Rattle.std.proofs.lemmas.List.Elements.{All-append, All-cons, All-contains, All-head, All-nil, All-tail, All-weaker, Contains-get_or}
use Rattle.bucket_pool.specs.NodeBuckets.{AreFixed, AreInOtherBuckets, IsHeldPast, MayHoldNode}
use Rattle.bucket_pool.specs.NodeLaws.{emptied_apart, emptied_fixed, emptied_held}
use Rattle.bucket_pool.specs.Space.{Space, emptied, emptied_all}
use Rattle.key_meaning.specs.Checks.{IsNodePlaced}
use Rattle.vol_types.specs.Limits.{bucket_blocks}
use Rattle.vol_types.specs.declared.layout.Layout.{Layout}
use Rattle.vol_types.specs.declared.pointers.NodePtr.{NodePtr}
use Rattle.vol_types.specs.declared.pointers.Place.{Place}
use Rattle.crash_safety.specs.CheckpointLeaves.{LieApart}
use Rattle.crash_safety.specs.KeptLeaves.{HoldsOwn}
use Rattle.crash_safety.specs.Leaves.{AreInOwnBuckets, AreNodesApart, IsFirstBlock}
use Rattle.btree_safety.proofs.AllNodes.{All-left, All-right}

-- What all that come of some things have all that come of each have, and the other way round.
pub each_of_all : {X Y : Type 0} (P : Y → Type 0) (g : X → List Y) (xs : List X) → All P (flat_map g xs) → All (λ x. All P (g x)) xs
each_of_all P g [] all = All-nil (λ x. All P (g x))
each_of_all P g (x ∷ xs) all = All-cons (λ y. All P (g y)) x xs (All-left P (g x) (flat_map g xs) all) (each_of_all P g xs (All-right P (g x) (flat_map g xs) all))

pub all_of_each : {X Y : Type 0} (P : Y → Type 0) (g : X → List Y) (xs : List X) → All (λ x. All P (g x)) xs → All P (flat_map g xs)
all_of_each P g [] all = All-nil P
all_of_each P g (x ∷ xs) all = All-append P (g x) (flat_map g xs) (All-head (λ y. All P (g y)) x xs all) (all_of_each P g xs (All-tail (λ y. All P (g y)) x xs all))

-- Places in other buckets are so either way.
pub apart_back : (one other : Place) → AreInOtherBuckets one other → AreInOtherBuckets other one
apart_back one other = ⊎_elim (λ devices. inl (λ same. devices (sym same))) (λ blocks. inr (λ same. blocks (sym same)))

-- A node may lie behind the buckets that are kept.
pub may_lie : (layout : Layout) (place : Place) → MayHoldNode layout place → IsNodePlaced layout place
may_lie layout place may = record { behind = behind (nat_lt place.dev layout.metadata_replicas) refl; on_device = may.within }
  where
    behind : (b : Bool) → nat_lt place.dev layout.metadata_replicas ≡ b → cond b (1 + layout.journal / bucket_blocks) 1 ≤ place.block / bucket_blocks
    behind true mirror = let past = may.past_journal (ltb-true place.dev layout.metadata_replicas mirror) in omega (arith, past)
    behind false other = let past = may.past_superblocks in omega (arith, past)

pub own_buckets : (place another : Place) → AreInOtherBuckets place another → AreInOwnBuckets place another
own_buckets place another apart same = ⊎_elim (λ devices. absurd (devices same)) (λ blocks. blocks) apart

-- Nodes that lie apart, where nodes may, have no bucket in common.
pub nodes_apart : (layout : Layout) (one other : NodePtr) → All (MayHoldNode layout) one.places → All (MayHoldNode layout) other.places → LieApart one other → AreNodesApart one other
nodes_apart layout one other may may_other apart = record {
  first = All-weaker (MayHoldNode layout) IsFirstBlock (λ place is. is.begins) one.places may;
  second = All-weaker (MayHoldNode layout) IsFirstBlock (λ place is. is.begins) other.places may_other;
  apart = λ k d within j e low. own_buckets (get_or one.places k d) (get_or other.places j e)
      (apart (get_or one.places k d) (get_or other.places j e) (Contains-get_or one.places k d within) (Contains-get_or other.places j e low));
}

-- What holds of a space, and of each in which one more of these buckets is emptied, holds once all of them are.
pub emptied_each : (P : Space → Type 0) (seq : ℕ) (places : List Place) (space : Space) → ((place : Place) (made : Space) → Contains places place → P made → P (emptied place seq made)) → P space → P (emptied_all places seq space)
emptied_each P seq [] space step holds = holds
emptied_each P seq (place ∷ places) space step holds =
    emptied_each P seq places (emptied place seq space) (λ next made there. step next made (suc there.0, (let low = there.1 in omega (arith, low)), there.2)) (step place space (0, omega arith, refl) holds)

pub all_emptied_fixed : (layout : Layout) (seq : ℕ) (places : List Place) (space : Space) → AreFixed layout space → AreFixed layout (emptied_all places seq space)
all_emptied_fixed layout seq places space = emptied_each (AreFixed layout) seq places space (λ place made there. emptied_fixed layout place seq made)

-- A node still holds its own where the buckets of places are emptied that lie apart.
pub own_emptied : (seq : ℕ) (places : List Place) (space : Space) (node : NodePtr) → ((place another : Place) → Contains places place → Contains node.places another → AreInOtherBuckets place another) → HoldsOwn space node
    → HoldsOwn (emptied_all places seq space) node
own_emptied seq places space node apart = emptied_each (λ made. HoldsOwn made node) seq places space
    (λ place made there own k d within. emptied_apart place seq made (get_or node.places k d) (apart place (get_or node.places k d) there (Contains-get_or node.places k d within)) (own k d within))

-- Places of nodes that lie apart from one lie apart from its own.
pub apart_from_all : (nodes : List NodePtr) (node : NodePtr) → All (λ (other : NodePtr). LieApart other node) nodes → (place another : Place) → Contains (flat_map (λ (other : NodePtr). other.places) nodes) place → Contains node.places another → AreInOtherBuckets place another
apart_from_all nodes node apart place another here there =
    All-contains (λ (p : Place). AreInOtherBuckets p another) (flat_map (λ (other : NodePtr). other.places) nodes) place
    (all_of_each (λ (p : Place). AreInOtherBuckets p another) (λ (other : NodePtr). other.places) nodes
    (λ k d within j e low. apart k d within (get_or (get_or nodes k d).places j e) another (Contains-get_or (get_or nodes k d).places j e low) there))
    here

-- What is held up to an entry before this one still is.
pub held_emptied : (past seq : ℕ) (gone places : List Place) (space : Space) → past < seq → All (IsHeldPast past space) places → All (IsHeldPast past (emptied_all gone seq space)) places
held_emptied past seq gone places space less = emptied_each (λ made. All (IsHeldPast past made) places) seq gone space (λ place made there held k d within. emptied_held past place seq made (get_or places k d) less (held k d within))
