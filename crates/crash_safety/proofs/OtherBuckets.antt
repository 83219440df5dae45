-- Buckets of different places have no block in common, and no part of an entry lies in the bucket of a node.
use Rattle.std.proofs.Common.{◌≡◌, inl, inr, ⊎_elim, ℕ, ◌+◌, ◌/◌, ◌%◌, ◌<◌, ◌≤◌, length, map, Ok, sym, ap, subst, ◌∙◌, arith}
use Rattle.std.proofs.lemmas.Bool.{cases_order, cond-true, lt-ltb}
use Rattle.std.proofs.lemmas.List.Elements.{All-contains}
use Rattle.std.specs.Prelude.{All, nat_lt}
use Rattle.dev_model.specs.Disk.{Image}
use Rattle.geometry.specs.LayoutFacts.{HasPlaces, has_places}
use Rattle.geometry.specs.SuperLaws.{layout_fits}
use Rattle.image_view.specs.BaseLaws.{found-layout}
use Rattle.image_view.specs.Found.{Found, found}
use Rattle.journal_ring.specs.Rings.{IsPartPlace, RingState, part_number}
use Rattle.crash_safety.specs.Elsewhere.{IsOutside}
use Rattle.crash_safety.specs.Writings.{Writing}
use Rattle.crash_safety.specs.Parts.{IsRingOf}
use Rattle.key_meaning.specs.Checks.{IsNodePlaced, kept_buckets}
use Rattle.node_store.specs.Writes.{IsCopyOf}
use Rattle.vol_types.specs.Limits.{bucket_blocks}
use Rattle.vol_types.specs.declared.layout.Layout.{Layout}
use Rattle.vol_types.specs.declared.pointers.NodePtr.{NodePtr}
use Rattle.vol_types.specs.declared.pointers.Place.{Place}
use Rattle.crash_safety.specs.Leaves.{AreInOwnBuckets, AreNodesApart, IsFirstBlock, IsOfNode, KeepsOff}

-- Each block of a bucket lies outside another one.
pub bucket_outside : (place bucket : Place) (n : ℕ) → IsFirstBlock place → IsFirstBlock bucket → AreInOwnBuckets place bucket → n < bucket_blocks → IsOutside (record { dev = place.dev; block = place.block + n }) bucket
bucket_outside place bucket n first second apart few same = ⊎_elim
    (λ (one : place.block / bucket_blocks ≡ bucket.block / bucket_blocks). absurd (apart same one))
    (λ order. ⊎_elim
    (λ (below : place.block / bucket_blocks < bucket.block / bucket_blocks). inl (omega (arith, below, first, second, few)))
    (λ (above : bucket.block / bucket_blocks < place.block / bucket_blocks). inr (omega (arith, above, first, second)))
    order)
    (cases_order (place.block / bucket_blocks) (bucket.block / bucket_blocks))

-- The blocks of a node keep off one that lies in other buckets.
pub nodes_off : (one other : NodePtr) → AreNodesApart one other → KeepsOff (IsOfNode one) other
nodes_off one other are dev block of_other of_one =
    let place = of_one.0 in
    let bucket = of_other.0 in
    let same : place.dev ≡ bucket.dev = sym of_one.4 ∙ of_other.4 in
    let blocks : place.block + of_one.1 ≡ bucket.block + of_other.1 = sym of_one.5 ∙ of_other.5 in
    let first : place.block % bucket_blocks ≡ 0 = All-contains IsFirstBlock one.places place are.first of_one.2 in
    let second : bucket.block % bucket_blocks ≡ 0 = All-contains IsFirstBlock other.places bucket are.second of_other.2 in
    let few = of_one.3 in
    let few_others = of_other.3 in
    All-contains (AreInOwnBuckets place) other.places bucket (All-contains (λ (p : Place). All (AreInOwnBuckets p) other.places) one.places place are.apart of_one.2) of_other.2 same
    (omega (arith, blocks, first, second, few, few_others))

-- So does one block of each of its buckets.
pub copies_off : (one other : NodePtr) (n : ℕ) → AreNodesApart one other → n < bucket_blocks → KeepsOff (IsCopyOf one.places n) other
copies_off one other n are few dev block of_other copy = nodes_off one other are dev block of_other (copy.0, n, copy.1, few, copy.2, copy.3)

-- The buckets that are kept on a metadata device hold the journal area.
kept_behind : (layout : Layout) (dev : ℕ) → dev < layout.metadata_replicas → kept_buckets layout dev ≡ 1 + layout.journal / bucket_blocks
kept_behind layout dev mirror = cond-true (nat_lt dev layout.metadata_replicas) (1 + layout.journal / bucket_blocks) 1 (lt-ltb dev layout.metadata_replicas mirror)

-- A block of a node's bucket on a metadata device is behind the journal area.
pub behind_journal : (image : Image) (f : Found) → found image ≡ Ok f → (place : Place) → IsNodePlaced f.layout place → place.dev < f.layout.metadata_replicas → 16 + f.layout.journal ≤ place.block
behind_journal image f finds place placed mirror =
    let places : HasPlaces (map (λ blocks. length blocks) image) f.layout = has_places (map (λ blocks. length blocks) image) f.layout (layout_fits image f.layout (found-layout image f finds)) in
    let whole = places.journal_whole in
    let behind = placed.behind in
    let kept = kept_behind f.layout place.dev mirror in
    omega (arith, whole, behind, kept)

-- No block of the next part of an entry is one of these.
pub journal_low : (image : Image) (f : Found) (w : Writing) (written : ℕ) (ring : RingState) → found image ≡ Ok f → IsRingOf f.layout w written ring → (dev block : ℕ) → IsPartPlace ring dev block → (dev < f.layout.metadata_replicas) × (block < 16 + f.layout.journal)
journal_low image f w written ring finds is dev block part =
    let places : HasPlaces (map (λ blocks. length blocks) image) f.layout = has_places (map (λ blocks. length blocks) image) f.layout (layout_fits image f.layout (found-layout image f finds)) in
    let least = places.least in
    let at : block ≡ 16 + part_number ring % f.layout.journal = part.1 ∙ ap (λ (journal : ℕ). 16 + part_number ring % journal) is.journal in
    (subst (λ (mirrors : ℕ). dev < mirrors) is.mirrors part.0, omega (arith, least, at))

-- What is written of an entry keeps off the blocks of a node's bucket.
pub part_off : (image : Image) (f : Found) (w : Writing) (written : ℕ) (ring : RingState) → found image ≡ Ok f → IsRingOf f.layout w written ring → (place : Place) → IsNodePlaced f.layout place → (n : ℕ) → ¬ IsPartPlace ring place.dev (place.block + n)
part_off image f w written ring finds is place placed n part =
    let low = journal_low image f w written ring finds is place.dev (place.block + n) part in
    let less = low.1 in
    let behind = behind_journal image f finds place placed low.0 in
    omega (arith, less, behind)

pub entry_off : (image : Image) (f : Found) (w : Writing) (written : ℕ) (ring : RingState) (node : NodePtr) → found image ≡ Ok f → IsRingOf f.layout w written ring → All (IsNodePlaced f.layout) node.places → KeepsOff (IsPartPlace ring) node
entry_off image f w written ring node finds is placed dev block of part =
    part_off image f w written ring finds is of.0 (All-contains (IsNodePlaced f.layout) node.places of.0 placed of.2) of.1
    (subst (λ (d : ℕ). IsPartPlace ring d (of.0.block + of.1)) of.4 (subst (IsPartPlace ring dev) of.5 part))
