-- What an image is that a crash leaves at a moment of an event: it is found in order in the layout and the session that began, and it is what the last durable
-- entry leads to, or the one in flight; and each entry that the last durable one needs stands whole on every metadata device.
use Rattle.std.proofs.Common.{◌≡◌, ◌≤◌, ◌<◌, ◌⊎◌, inl, inr, ⊎_elim, ℕ, zero, suc, Bool, true, false, List, [], ◌∷◌, ◌++◌, drop, length, Option, Some, None, refl, sym, ap, subst, ◌∙◌, arith}
use Rattle.std.proofs.lemmas.Bool.{and_parts, eqb-true}
use Rattle.std.proofs.lemmas.List.Elements.{All-append, All-cons, All-drop, All-nil, All-weaker}
use Rattle.std.proofs.lemmas.Option.{none-some, same_Some}
use Rattle.std.specs.Prelude.{◌==◌, ◌/◌, All, IfSome, slice_get, slice_index_or}
use Rattle.btree_map.specs.Trees.{keys_in}
use Rattle.bucket_pool.specs.NodeBuckets.{IsHeldPast, bucket_state}
use Rattle.bucket_pool.specs.Space.{Space}
use Rattle.bucket_pool.specs.declared.bucket.State.TheVariants.{User}
use Rattle.core_volume.specs.Volumes.{Volume, changes_in}
use Rattle.dev_model.specs.Devices.{DevicesState, now}
use Rattle.dev_model.specs.Disk.{Image, IsCrashImage}
use Rattle.journal_writer.specs.Changes.{LeadTo}
use Rattle.journal_writer.specs.Queues.{oldest, waiting}
use Rattle.journal_writer.specs.declared.writer.Flight.{Flight}
use Rattle.image_view.specs.Found.{Found, node_places}
use Rattle.image_view.specs.UpdatedTrees.{IsOfLeaf}
use Rattle.journal_ring.specs.declared.found.FoundEntry.{FoundEntry}
use Rattle.crash_safety.specs.Safety.{AreBases, IsSafe, MeansOnEach, MeansOneOf}
use Rattle.crash_safety.specs.Writings.{IsWriting, Writing, after, meant_by}
use Rattle.key_meaning.specs.Checks.{AreNodesPlaced, is_in_bucket}
use Rattle.mirror_laws.specs.Degraded.{IsDegradedTo}
use Rattle.record_codec.specs.declared.entries.EntryRecord.{EntryRecord}
use Rattle.replay.specs.Mending.{IsUntorn, StandsOnAll}
use Rattle.replay.specs.NodeUpdates.{EachUpdate}
use Rattle.vol_types.specs.KeyMaps.{KeyMap, with_updates}
use Rattle.vol_types.specs.Limits.{bucket_blocks}
use Rattle.vol_types.specs.declared.keys.Update.{Update}
use Rattle.vol_types.specs.declared.layout.Layout.{Layout}
use Rattle.vol_types.specs.declared.pointers.Place.{Place}
use Rattle.vol_core.specs.Entries.{FliesAs, IsInFlight}
use Rattle.vol_core.specs.KeptFiles.{AreInUse}
use Rattle.vol_core.specs.Left.{HoldsFiles, IsDurableBase, IsFlightBase, IsLeft, IsSoundFound, IsWholeOnAll, KeepsLeft, LieApartFromFiles}
use Rattle.vol_core.specs.Rested.{DoCommitsRise, KeepsRing}
use Rattle.vol_core.specs.Room.{KeepsRoom, LeavesRoom}
use Rattle.vol_core.specs.Safety.{AreLed, IsCoreSafe, IsLed, MayBegin}
use Rattle.vol_core.proofs.BucketChanges.{no_user_held}
use Rattle.vol_core.proofs.Chains.{all_below, last_durable}
use Rattle.vol_core.proofs.JoinedLists.{each_of_joined, none_counted}
use Rattle.vol_core.proofs.LeafTrees.{IsLeafRoot}
use Rattle.vol_core.proofs.RoomLeft.{durable_leaves, flight_leaves}
use Rattle.vol_core.proofs.Surviving.{HoldsNeeded}

-- ---- what all bases have in common

-- The base has the layout and the session of what was found at the opening, and its roots are leaves.
pub record IsOfBegun (begun base : Found) : Type 0 where
  pub layout : base.layout ≡ begun.layout
  pub session : base.session ≡ begun.session
  pub roots : All IsLeafRoot base.last.entry.roots

-- So has what the next entry leads to.
next_of_begun : (begun one other : Found) → IsLed one other → IsOfBegun begun one → IsOfBegun begun other
next_of_begun begun one other led of_begun = subst (IsOfBegun begun) (sym led.is) (record { layout = of_begun.layout; session = of_begun.session; roots = led.roots })

-- So has each of the bases where the first one has.
each_of_begun : (begun : Found) (bases : List Found) → AreLed bases → (index : ℕ) (first base : Found) → slice_get bases 0 ≡ Some first → IsOfBegun begun first → slice_get bases index ≡ Some base → IsOfBegun begun base
each_of_begun begun [] chain index first base begins of_begun at = absurd cc
each_of_begun begun (one ∷ bases) chain zero first base begins of_begun at = subst (IsOfBegun begun) (sym (same_Some one first begins) ∙ same_Some one base at) of_begun
each_of_begun begun (one ∷ []) chain (suc index) first base begins of_begun at = absurd cc
each_of_begun begun (one ∷ other ∷ bases) chain (suc index) first base begins of_begun at =
    each_of_begun begun (other ∷ bases) chain.1 index other base refl (next_of_begun begun one other chain.0 (subst (IsOfBegun begun) (sym (same_Some one first begins)) of_begun)) at

-- ---- which base an image means

-- A base behind those that became durable before is what was found, or that with the entry that is written.
last_two : (f : Found) (writing : Option Writing) (before : List Found) (index : ℕ) (base : Found) → slice_get (before ++ meant_by f writing) index ≡ Some base → length before ≤ index
    → (base ≡ f) ⊎ ((w : Writing) × (writing ≡ Some w) × (base ≡ after w f))
last_two f None [] zero base at behind = inl (sym (same_Some f base at))
last_two f None [] (suc index) base at behind = absurd cc
last_two f (Some w) [] zero base at behind = inl (sym (same_Some f base at))
last_two f (Some w) [] (suc zero) base at behind = inr (w, refl, sym (same_Some (after w f) base at))
last_two f (Some w) [] (suc (suc index)) base at behind = absurd cc
last_two f writing (one ∷ before) zero base at behind = absurd (omega (arith, behind))
last_two f writing (one ∷ before) (suc index) base at behind = last_two f writing before index base at (omega (arith, behind))

-- ---- buckets

-- A bucket in use by files isn't one that holds a node, or is held back.
held_is_elsewhere : (space : Space) (dev bucket seq : ℕ) (place : Place) → bucket_state space dev bucket ≡ Some User → IsHeldPast seq space place → is_in_bucket dev bucket place ≡ false
held_is_elsewhere space dev bucket seq place user held = by (is_in_bucket dev bucket place) refl
  where
    by : (b : Bool) → is_in_bucket dev bucket place ≡ b → b ≡ false
    by false is = refl
    by true is =
        let parts = and_parts (place.dev == dev) (place.block / bucket_blocks == bucket) is in
        let device : place.dev ≡ dev = eqb-true place.dev dev parts.0 in
        let here : place.block / bucket_blocks ≡ bucket = eqb-true (place.block / bucket_blocks) bucket parts.1 in
        absurd (no_user_held space place seq (ap (λ (d : ℕ). bucket_state space d (place.block / bucket_blocks)) device ∙ ap (bucket_state space dev) here ∙ user) held)

-- So no node whose bucket is held lies in a bucket that has blocks of files.
lie_apart : (begun : Found) (space : Space) (base : Found) (seq : ℕ) → AreInUse begun space → All (IsHeldPast seq space) (node_places base) → LieApartFromFiles begun base
lie_apart begun space base seq in_use held dev bucket has =
    none_counted (is_in_bucket dev bucket) (node_places base)
    (All-weaker (IsHeldPast seq space) (λ (place : Place). is_in_bucket dev bucket place ≡ false) (λ place is. held_is_elsewhere space dev bucket seq place (in_use dev bucket has) is) (node_places base) held)

-- What is known of a base that an image may mean now: it is the last durable one, or that of the entry in flight; the updates of its needed entries are of leaves; and
-- its nodes lie where nodes may, in buckets that are held.
record IsLiveBase (volume : Volume) (base : Found) : Type 0 where
  pub live : IsDurableBase volume base ⊎ IsFlightBase volume base
  pub updates : EachUpdate base IsOfLeaf
  pub placed : AreNodesPlaced (node_places base) base.layout
  pub sequence : ℕ
  pub held : All (IsHeldPast sequence volume.space) (node_places base)
  pub room : KeepsRoom volume → LeavesRoom base

-- ---- what is left

module _ (begun : Found) (start old new : DevicesState) (volume : Volume) (kept : IsCoreSafe begun start old volume) where
  -- The entry that is written is the one in flight.
  flies_with : (w : Writing) → kept.writing ≡ Some w → (flight : Flight) × (volume.writer.flight ≡ Some flight) × IsInFlight kept.f w kept.asked kept.written flight volume
  flies_with w is = by volume.writer.flight kept.writing refl is kept.flying
    where
      by : (flight : Option Flight) (writing : Option Writing) → volume.writer.flight ≡ flight → writing ≡ Some w → FliesAs kept.f flight writing kept.asked kept.written volume
          → (some : Flight) × (volume.writer.flight ≡ Some some) × IsInFlight kept.f w kept.asked kept.written some volume
      by flight None flies writes flying = absurd (none-some w writes)
      by None (Some v) flies writes flying = absurd flying
      by (Some flight) (Some v) flies writes flying = (flight, flies, subst (λ (u : Writing). IsInFlight kept.f u kept.asked kept.written flight volume) (same_Some v w writes) flying)

  -- What was found has the durable commits, and leads to what is in memory.
  durable_base : IsDurableBase volume kept.f
  durable_base = record { commits = kept.known.commits; lead = kept.lead }

  -- Its needed entries stand whole where the image holds them.
  whole_left : (image : Image) → HoldsNeeded kept.f image → IsWholeOnAll volume image
  whole_left image holds = record {
    read = kept.image;
    durable = kept.f;
    finds = kept.safe.stands.finds;
    known = kept.known;
    is = durable_base;
    whole = λ index within. subst (λ (layout : Layout). StandsOnAll layout image (slice_index_or kept.f.needed index kept.f.last)) kept.known.layout (holds index within);
  }

  -- With the entry that is written it is what the one in flight leads to.
  flight_base : KeepsRing volume → (w : Writing) → kept.writing ≡ Some w → IsFlightBase volume (after w kept.f)
  flight_base ring w is =
      let flown = flies_with w is in
      let flight : Flight = flown.0 in
      let flies : volume.writer.flight ≡ Some flight = flown.1 in
      let flying : IsInFlight kept.f w kept.asked kept.written flight volume = flown.2 in
      let rise : DoCommitsRise (Some flight) volume.writer.durable.commits (oldest volume.queue).commits =
      subst (λ (o : Option Flight). DoCommitsRise o volume.writer.durable.commits (oldest volume.queue).commits) flies ring.commits in
      let lead : LeadTo (flight.entry.changes ∷ waiting volume.queue) kept.f.trees.keys (keys_in volume.trees) = subst (λ (o : Option Flight). LeadTo (changes_in o ++ waiting volume.queue) kept.f.trees.keys (keys_in volume.trees)) flies kept.lead in
      let updates : w.next.entry.updates ≡ flight.entry.changes.updates = ap (λ (entry : EntryRecord). entry.updates) flying.entry in
      let keys : w.trees.keys ≡ with_updates flight.entry.changes.updates kept.f.trees.keys = flying.keys ∙ ap (λ (us : List Update). with_updates us kept.f.trees.keys) updates in
      record {
        flight = flight;
        flies = flies;
        commits = ap (λ (entry : EntryRecord). entry.commits) flying.entry;
        rise = rise.0;
        lead = subst (λ (from : KeyMap). LeadTo (waiting volume.queue) from (keys_in volume.trees)) (sym keys) (record { made = lead.made.1; last = lead.last });
      }

  -- The entry's updates are of leaves, as those of the needed entries are.
  leaves_with : (w : Writing) → kept.writing ≡ Some w → All (λ (entry : FoundEntry). All IsOfLeaf entry.entry.updates) (after w kept.f).needed
  leaves_with w is =
      let OfLeaves : FoundEntry → Type 0 = λ entry. All IsOfLeaf entry.entry.updates in
      All-append OfLeaves (drop w.passed kept.f.needed) (w.next ∷ []) (All-drop OfLeaves w.passed kept.f.needed (each_of_joined IsOfLeaf (λ (entry : FoundEntry). entry.entry.updates) kept.f.needed kept.kept.of_leaves)) (All-cons OfLeaves w.next [] (flies_with w is).2.leaves (All-nil OfLeaves))

  live_found : IsLiveBase volume kept.f
  live_found = record {
    live = inl durable_base;
    updates = each_of_joined IsOfLeaf (λ (entry : FoundEntry). entry.entry.updates) kept.f.needed kept.kept.of_leaves;
    placed = kept.safe.stands.placed;
    sequence = kept.f.last.entry.sequence;
    held = kept.kept.lie.found;
    room = durable_leaves begun start old volume kept;
  }

  live_with : KeepsRing volume → (w : Writing) → kept.writing ≡ Some w → IsLiveBase volume (after w kept.f)
  live_with ring w is =
      let writing_is : IsWriting kept.f kept.image w = subst (λ (o : Option Writing). IfSome o (IsWriting kept.f kept.image)) is kept.safe.stands.is in
      record {
        live = inr (flight_base ring w is);
        updates = leaves_with w is;
        placed = writing_is.placed;
        sequence = w.next.entry.sequence;
        room = λ room. flight_leaves begun start old volume kept room w is;
        held = subst (λ (o : Option Writing). IfSome o (λ v. All (IsHeldPast v.next.entry.sequence volume.space) (node_places (after v kept.f)))) is kept.kept.lie.next;
      }

  -- A base behind those that became durable before is live.
  live_base : KeepsRing volume → (index : ℕ) (base : Found) → slice_get kept.bases index ≡ Some base → length kept.durable ≤ index → IsLiveBase volume base
  live_base ring index base at behind =
      let are : AreBases kept.f kept.writing kept.bases kept.durable = kept.safe.bases_are in
      let count = are.count in
      ⊎_elim
      (λ (found_is : base ≡ kept.f). subst (IsLiveBase volume) (sym found_is) live_found)
      (λ (written_is : (w : Writing) × (kept.writing ≡ Some w) × (base ≡ after w kept.f)). subst (IsLiveBase volume) (sym written_is.2) (live_with ring written_is.0 written_is.1))
      (last_two kept.f kept.writing are.before index base (subst (λ (bs : List Found). slice_get bs index ≡ Some base) are.are at) (omega (arith, count, behind)))

  module _ (begins : MayBegin begun (now start)) where
    -- Each base has the layout and the session that began, and roots that are leaves.
    pub of_begun : (index : ℕ) (base : Found) → slice_get kept.bases index ≡ Some base → IsOfBegun begun base
    of_begun index base at = each_of_begun begun kept.bases kept.chain index begun base kept.begins (record { layout = refl; session = refl; roots = begins.roots }) at

    -- The volume lies as what was found at the opening.
    pub same_layout : begun.layout ≡ volume.layout
    same_layout = sym (of_begun (length kept.durable) kept.f (last_durable kept.f kept.writing kept.bases kept.durable kept.safe.bases_are)).layout ∙ kept.known.layout

    -- Where an image means one of the bases from before, and holds the blocks of files, it is what is told of what a crash leaves.
    left_by : KeepsRing volume → (LeavesRoom begun → KeepsRoom volume) → (IsSoundFound begun → AreInUse begun volume.space) → (moment : ℕ) → old.moment ≤ moment → (image : Image) → MeansOneOf kept.bases kept.durable moment image
        → (IsSoundFound begun → HoldsFiles begun start image) → IsLeft begun start volume image
    left_by ring room in_use moment from image means files =
        let behind : length kept.durable ≤ means.index = all_below kept.durable means.index (λ k m there. means.none_before k m there (let past = kept.past k m there in omega (arith, past, from))) in
        let same : IsOfBegun begun means.base = of_begun means.index means.base means.at in
        let live : IsLiveBase volume means.base = live_base ring means.index means.base means.at behind in
        record {
          base = means.base;
          finds = means.finds;
          in_order = means.in_order;
          layout = same.layout;
          session = same.session;
          live = live.live;
          leaves = record { roots = same.roots; updates = live.updates };
          placed = live.placed;
          room = λ leaves. live.room (room leaves);
          apart = λ sound. lie_apart begun volume.space means.base live.sequence (in_use sound) live.held;
          files = files;
        }

    -- Whatever a crash leaves at a moment of an event is what is told of it, on each metadata device alone too, where it means one of the bases from before, and holds the blocks of
    -- files, and each entry that the last durable one needs.
    pub left_kept : KeepsRing volume → (LeavesRoom begun → KeepsRoom volume) → IsSafe kept.f.layout kept.bases kept.durable start.moment new → (IsSoundFound begun → AreInUse begun volume.space)
        → (IsSoundFound begun → (moment : ℕ) → old.moment ≤ moment → moment ≤ new.moment → (image : Image) → IsCrashImage (new.disks moment) image → HoldsFiles begun start image)
        → ((moment : ℕ) → old.moment ≤ moment → moment ≤ new.moment → (image : Image) → IsCrashImage (new.disks moment) image → HoldsNeeded kept.f image) → KeepsLeft begun start old new volume
    left_kept ring room safe in_use files needed moment from to image may untorn =
        let first = kept.safe.stands.begun in
        let means : MeansOnEach kept.f.layout kept.bases kept.durable moment image =
        safe.each moment (omega (arith, first, from)) to image may (subst (λ (layout : Layout). IsUntorn layout start.moment moment new image) (sym kept.known.layout) untorn) in
        let layout_is : begun.layout ≡ kept.f.layout = same_layout ∙ sym kept.known.layout in
        record {
          itself = left_by ring room in_use moment from image means.itself (λ sound. files sound moment from to image may);
          alone = λ mirror alone is.
              left_by ring room in_use moment from alone
              (means.alone mirror (subst (λ (layout : Layout). mirror < layout.metadata_replicas) layout_is is.on_mirror) alone (subst (λ (layout : Layout). IsDegradedTo layout mirror image alone) layout_is is.degraded))
              (λ sound dev block has. sym (is.files dev block has) ∙ files sound moment from to image may dev block has);
          whole = whole_left image (needed moment from to image may);
        }
