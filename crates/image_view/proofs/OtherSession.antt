-- An image that differs in its session blocks alone means the same, but for its session.
use Rattle.std.proofs.Common.{◌≡◌, ℕ, ◌+◌, ◌*◌, ◌^◌, ◌<◌, ◌≤◌, Bool, true, false, cond, List, [], ◌∷◌, ◌++◌, Some, Ok, sym, ap, subst, ◌∙◌, arith}
use Rattle.std.proofs.lemmas.List.Elements.{All-cons, All-head, All-map, All-nil, All-tail, All-weaker}
use Rattle.std.specs.List.{flat_map}
use Rattle.std.specs.Prelude.{All, ◌/◌, nat_lt}
use Rattle.dev_model.specs.Disk.{Image}
use Rattle.geometry.specs.Sessions.{session_in}
use Rattle.journal_ring.specs.Counting.{needed_by, newest}
use Rattle.journal_ring.specs.Entries.{IsMadeOf}
use Rattle.journal_ring.specs.Parts.{Area, area_of}
use Rattle.key_codec.specs.Combined.{ok_is}
use Rattle.key_meaning.specs.Blocks.{block_of, blocks_of, place_at}
use Rattle.key_meaning.specs.Checks.{AreNodesPlaced, HasWellPlaced, IsNodePlaced, IsWellPlaced, kept_buckets, pointers_of}
use Rattle.vol_types.specs.Limits.{bucket_blocks}
use Rattle.vol_types.specs.declared.layout.Layout.{Layout}
use Rattle.vol_types.specs.declared.pointers.NodePtr.{NodePtr}
use Rattle.vol_types.specs.declared.pointers.Place.{Place}
use Rattle.vol_types.specs.declared.pointers.Pointer.{Pointer}
use Rattle.vol_types.specs.declared.positions.Pos.{Pos}
use Rattle.vol_types.specs.declared.values.Extent.{Extent}
use Rattle.vol_types.specs.declared.values.Value.{Value}
use Rattle.vol_types.specs.declared.values.Value.TheVariants as values
use Rattle.key_meaning.specs.ReadLaws.{forest_in-agree}
use Rattle.image_view.specs.BaseLaws.{content-same, found-again, found-newest}
use Rattle.image_view.specs.Bases.{AgreeAt, AgreeInBucket, AgreeOnContent, AgreeOnEntry, AgreeOnNode, AgreeOnNodes, DifferInSessions, IsNewest}
use Rattle.image_view.specs.CopyLaws.{agree-same}
use Rattle.image_view.specs.Found.{AreOwned, Found, IsInOrder, IsUnsound, MountsAs, Volume, found, node_places, read_in, with_session}
use Rattle.image_view.specs.Trees.{nodes_of}

-- Each bucket but the first of each device is behind the session blocks.
kept_some : (test : Bool) (count : ℕ) → 1 ≤ cond {A = ℕ} test (1 + count) 1
kept_some true count = omega arith
kept_some false count = omega arith

behind_first : (layout : Layout) (dev block : ℕ) → kept_buckets layout dev ≤ block / bucket_blocks → 16 ≤ block
behind_first layout dev block behind =
    let some : 1 ≤ kept_buckets layout dev = kept_some (nat_lt dev layout.metadata_replicas) (layout.journal / bucket_blocks) in
    omega (arith, behind, some)

-- What holds of all that come of some things holds of all that come of each.
pub all_of_each : {A B : Type 0} (P : B → Type 0) (g : A → List B) (xs : List A) → All P (flat_map g xs) → All (λ x. All P (g x)) xs
all_of_each P g [] all = All-nil (λ x. All P (g x))
all_of_each {B = B} P g (x ∷ xs) all = All-cons (λ y. All P (g y)) x xs (left (g x) all) (all_of_each P g xs (right (g x) all))
  where
    left : (ys : List B) → All P (ys ++ flat_map g xs) → All P ys
    left [] some = All-nil P
    left (y ∷ ys) some = All-cons P y ys (All-head P y (ys ++ flat_map g xs) some) (left ys (All-tail P y (ys ++ flat_map g xs) some))

    right : (ys : List B) → All P (ys ++ flat_map g xs) → All P (flat_map g xs)
    right [] some = some
    right (y ∷ ys) some = right ys (All-tail P y (ys ++ flat_map g xs) some)

module _ (one other : Image) (differ : DifferInSessions one other) where
  -- The journal areas are the same.
  area-named : area_of one ≡ area_of other
  area-named = λ i dev place. differ.elsewhere dev (16 + place) (λ (same : 16 + place ≡ 4). omega (arith, same)) (λ (same : 16 + place ≡ 5). omega (arith, same)) i

  -- So is each block behind the first bucket of a device.
  far_same : (dev block : ℕ) → 16 ≤ block → AgreeAt one other dev block
  far_same dev block far = differ.elsewhere dev block (λ (same : block ≡ 4). omega (arith, same, far)) (λ (same : block ≡ 5). omega (arith, same, far))

  bucket-named : (layout : Layout) (place : Place) → IsNodePlaced layout place → AgreeInBucket one other place
  bucket-named layout place placed n few =
      let far : 16 ≤ place.block = behind_first layout place.dev place.block placed.behind in
      far_same place.dev (place.block + n) (omega (arith, far))

  nodes-named : (f : Found) → AreNodesPlaced (node_places f) f.layout → AgreeOnNodes f one other
  nodes-named f placed = record {
    lengths = differ.lengths;
    first_copies = λ dev. differ.elsewhere dev 0 (λ (same : 0 ≡ 4). omega (arith, same)) (λ (same : 0 ≡ 5). omega (arith, same));
    second_copies = λ dev. differ.elsewhere dev 8 (λ (same : 8 ≡ 4). omega (arith, same)) (λ (same : 8 ≡ 5). omega (arith, same));
    nodes = All-weaker (λ (node : NodePtr). All (IsNodePlaced f.layout) node.places) (AgreeOnNode one other)
        (λ node each. All-weaker (IsNodePlaced f.layout) (AgreeInBucket one other) (bucket-named f.layout) node.places each) (nodes_of f.trees.nodes)
        (all_of_each (IsNodePlaced f.layout) (λ (node : NodePtr). node.places) (nodes_of f.trees.nodes) placed.each);
  }

  newest-named : (f : Found) → IsNewest f one → IsNewest f other
  newest-named f new = record {
    last = subst (λ (area : Area). newest f.layout area ≡ Some f.last) area-named new.last;
    needed = subst (λ (area : Area). needed_by f.layout area f.last ≡ Ok f.needed) area-named new.needed;
  }

  -- The blocks of extents that are well placed are the same.
  extent-named : (layout : Layout) (nodes : List Place) (extent : Extent) (count index : ℕ) → All (IsWellPlaced nodes layout count) extent.pointers → All (λ place. AgreeAt one other place.dev place.block) (block_of extent index).places
  extent-named layout nodes extent count index all = All-map (λ place. AgreeAt one other place.dev place.block) (place_at index) extent.pointers
      (All-weaker (IsWellPlaced nodes layout count) (λ (pointer : Pointer). AgreeAt one other (place_at index pointer).dev (place_at index pointer).block)
      (λ pointer placed.
      let far : 16 ≤ pointer.place.block = behind_first layout pointer.place.dev pointer.place.block placed.for_users in
      far_same pointer.place.dev (pointer.place.block + index) (omega (arith, far))) extent.pointers all)

  content-named : (f : Found) (nodes : List Place) → All (HasWellPlaced nodes f.layout) f.trees.keys.extents → AgreeOnContent f one other
  content-named f nodes all = record {
    extents = All-weaker (HasWellPlaced nodes f.layout) (AgreeOnEntry one other)
        (λ (entry : Pos × Value) placed extent is index lower.
        extent-named f.layout nodes extent (blocks_of (values.Extent extent)) index (subst (λ (v : Value). All (IsWellPlaced nodes f.layout (blocks_of v)) (pointers_of v)) is placed))
        f.trees.keys.extents all;
  }

-- What is found is the same, but for the session.
pub found-named : (one other : Image) (f : Found) (session : ℕ) → found one ≡ Ok f → AreNodesPlaced (node_places f) f.layout → DifferInSessions one other → session_in f.layout other ≡ Some session → found other ≡ Ok (with_session session f)
found-named one other f session is placed differ names = found-again one other f session is (nodes-named one other differ f placed) names (newest-named one other differ f (found-newest one f is))

-- It mounts as the same volume.
pub mounts-named : (one other : Image) (volume : Volume) (session : ℕ) → MountsAs one volume → DifferInSessions one other → session_in volume.layout other ≡ Some session → MountsAs other volume
mounts-named one other volume session mounts differ names =
    let f = mounts.f in
    let placed = mounts.sound.blocks in
    record {
      f = with_session session f;
      finds = found-named one other f session mounts.finds placed.nodes_placed differ (subst (λ (v : Volume). session_in v.layout other ≡ Some session) mounts.volume_is names);
      sound = mounts.sound;
      volume_is = mounts.volume_is
          ∙ ap (λ forest. record { layout = f.layout; commits = f.last.entry.commits; forest = forest }) (forest_in-agree f.trees.keys (read_in one) (read_in other) (content-same f one other (content-named one other differ f (node_places f) placed.placed)));
    }

-- The same check fails first.
pub unsound-named : (one other : Image) (f : Found) (session check : ℕ) → found one ≡ Ok f → AreNodesPlaced (node_places f) f.layout → DifferInSessions one other → session_in f.layout other ≡ Some session → IsUnsound one check → IsUnsound other check
unsound-named one other f session check is placed differ names unsound =
    let same : f ≡ unsound.f = ok_is f unsound.f (sym is ∙ unsound.finds) in
    record {
      f = with_session session unsound.f;
      finds = found-named one other unsound.f session unsound.finds (subst (λ (g : Found). AreNodesPlaced (node_places g) g.layout) same placed) differ (subst (λ (g : Found). session_in g.layout other ≡ Some session) same names);
      fails = unsound.fails;
    }

-- It is in order where the session isn't smaller.
pub in_order-named : (one other : Image) (f : Found) (session : ℕ) → found one ≡ Ok f → AreNodesPlaced (node_places f) f.layout → DifferInSessions one other → session_in f.layout other ≡ Some session → f.session ≤ session → IsInOrder f one → IsInOrder (with_session session f) other
in_order-named one other f session is placed differ names later order = record {
  entries = order.entries;
  fits = order.fits;
  others = λ entry blocks made.
      let passes = order.others entry blocks (subst (λ (area : Area). IsMadeOf f.layout area entry blocks) (sym (area-named one other differ)) made) in
      record { sequence = passes.sequence; behind = passes.behind };
  owners = λ dev place bytes head mirror within stands opens kind id.
      let owned = subst (λ (area : Area). AreOwned f.layout f.session area) (area-named one other differ) order.owners dev place bytes head mirror within stands opens kind id in
      omega (arith, owned, later);
  levels = order.levels;
  agree = record { each = agree-same f.layout.id one other (nodes_of f.trees.nodes) (nodes-named one other differ f placed).nodes order.agree.each };
  births = All-weaker (λ (node : NodePtr). node.birth < (f.session + 1) * 2 ^ 32) (λ (node : NodePtr). node.birth < (session + 1) * 2 ^ 32) (λ node born. omega (arith, born, later)) (nodes_of f.trees.nodes) order.births;
}
