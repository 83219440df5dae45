-- Buckets that have blocks of files stay in use by files where nodes are frozen, given up and put in place, and where entries become durable; and no part of an entry and no
-- block of a node is written there.
use Rattle.std.proofs.Common.{◌≡◌, ◌≤◌, ◌<◌, ◌+◌, ◌/◌, ◌%◌, ℕ, Bool, true, cond, List, [], ◌∷◌, map, sym, ap, subst, ◌∙◌, arith}
use Rattle.std.proofs.Math.Nat.{mod-lt}
use Rattle.std.proofs.lemmas.Bool.{lt-ltb}
use Rattle.std.proofs.lemmas.List.Elements.{All-cons, All-head, All-nil, All-tail}
use Rattle.std.specs.Prelude.{All}
use Rattle.bucket_pool.specs.NodeBuckets.{HoldsNode, bucket_state}
use Rattle.bucket_pool.specs.Space.{Space, emptied_all, settled_space}
use Rattle.crash_safety.specs.KeptLeaves.{HoldsOwn}
use Rattle.crash_safety.specs.CheckpointLeaves.{FreshLeaf, replaced_places}
use Rattle.core_volume.specs.Checkpoints.{AreInPlace, IsLeafFrozen, after_refused, given_up}
use Rattle.core_volume.specs.Sealing.{settled_volume}
use Rattle.core_volume.specs.Volumes.{IsVolume, KeepParts, Volume}
use Rattle.core_actors.specs.declared.answer.Refusal.{Refusal}
use Rattle.core_actors.specs.declared.answer.Refusal.TheVariants as refusals
use Rattle.dev_model.specs.Devices.{DevicesState, now}
use Rattle.dev_model.specs.Disk.{Image, IsCrashImage}
use Rattle.journal_writer.specs.Writers.{settled}
use Rattle.image_view.specs.Found.{Found}
use Rattle.journal_ring.specs.Rings.{IsPartPlace, RingState, part_number}
use Rattle.key_meaning.specs.Checks.{kept_buckets}
use Rattle.node_writeback.specs.Due.{root_in}
use Rattle.node_writeback.specs.Placing.{fresh_places, places_of}
use Rattle.node_writeback.specs.declared.node.FrozenNode.{FrozenNode}
use Rattle.vol_types.specs.LayoutLaws.{layout_found}
use Rattle.vol_types.specs.Layouts.{IsLayout, is_layout}
use Rattle.vol_types.specs.Limits.{bucket_blocks}
use Rattle.vol_types.specs.declared.layout.Layout.{Layout}
use Rattle.vol_types.specs.declared.pointers.Place.{Place}
use Rattle.vol_core.specs.CoreLaws.{CoreLaws}
use Rattle.vol_core.specs.KeptFiles.{AreInUse}
use Rattle.vol_core.specs.Left.{HasFiles, HoldsFiles, IsSoundFound}
use Rattle.vol_core.specs.Safety.{IsCoreSafe, MayBegin}
use Rattle.vol_core.specs.VolumeLeaves.{fresh_leaf, fresh_leaves, leaves_left}
use Rattle.vol_core.proofs.BucketChanges.{no_user_node, user-emptied_all, user-noded, user-settled}
use Rattle.vol_core.proofs.FileBuckets.{file_bucket}
use Rattle.vol_core.proofs.FoundRoots.{all_left}
use Rattle.vol_core.proofs.JoinedLists.{joined_of_each}
use Rattle.vol_core.proofs.LeftBases.{same_layout}
use Rattle.vol_core.proofs.Placed.{same_places}
use Rattle.vol_core.proofs.Spared.{IsBlockAside, IsPartAside, LiesInNode, Spares, unfinished_lies}

-- ---- buckets

module _ (begun : Found) where
  -- Once entries are durable the buckets are in use as before,
  in_use-settled : (seq : ℕ) (space : Space) → AreInUse begun space → AreInUse begun (settled_space seq space)
  in_use-settled seq space in_use dev bucket has = user-settled dev bucket seq space (in_use dev bucket has)

  -- and where buckets that hold nodes are emptied.
  in_use-emptied : (places : List Place) (seq : ℕ) (space : Space) → All (HoldsNode space) places → AreInUse begun space → AreInUse begun (emptied_all places seq space)
  in_use-emptied places seq space nodes in_use dev bucket has = user-emptied_all dev bucket places seq space nodes (in_use dev bucket has)

  pub settled_in_use : (volume : Volume) → AreInUse begun volume.space → AreInUse begun (settled_volume volume).space
  settled_in_use volume in_use = in_use-settled (settled volume.writer).durable.sequence volume.space in_use

  -- So they are where a leaf is frozen.
  pub frozen_in_use : (node : ℕ) (old new : Volume) → IsLeafFrozen node old new → AreInUse begun old.space → AreInUse begun new.space
  frozen_in_use node old new gives in_use =
      subst (λ (volume : Volume). AreInUse begun volume.space) (sym gives.rest) (λ dev bucket has. user-noded dev bucket old.layout.metadata_replicas old.space (in_use dev bucket has))

-- The places of leaves that are written whole hold nodes.
fresh_hold : (space : Space) (later : List (ℕ × ℕ)) (finished : List FrozenNode) → All (λ (leaf : FreshLeaf). HoldsOwn space leaf.node) (map (fresh_leaf later bucket_blocks) finished) → All (HoldsNode space) (fresh_places finished)
fresh_hold space later finished hold = joined_of_each (HoldsNode space) (λ (node : FrozenNode). node.fresh.places) finished (each finished hold)
  where
    each : (nodes : List FrozenNode) → All (λ (leaf : FreshLeaf). HoldsOwn space leaf.node) (map (fresh_leaf later bucket_blocks) nodes) → All (λ (node : FrozenNode). All (HoldsNode space) node.fresh.places) nodes
    each [] all = All-nil (λ (node : FrozenNode). All (HoldsNode space) node.fresh.places)
    each (node ∷ nodes) all =
        All-cons (λ (n : FrozenNode). All (HoldsNode space) n.fresh.places) node nodes
        (All-head (λ (leaf : FreshLeaf). HoldsOwn space leaf.node) (fresh_leaf later bucket_blocks node) (map (fresh_leaf later bucket_blocks) nodes) all)
        (each nodes (All-tail (λ (leaf : FreshLeaf). HoldsOwn space leaf.node) (fresh_leaf later bucket_blocks node) (map (fresh_leaf later bucket_blocks) nodes) all))

module _ (begun : Found) (start state : DevicesState) (volume : Volume) (kept : IsCoreSafe begun start state volume) where
  -- So they are where the work on nodes is given up,
  given_up_in_use : AreInUse begun volume.space → AreInUse begun (given_up volume).space
  given_up_in_use in_use =
      let durable : ℕ = volume.writer.durable.sequence in
      let whole = all_left (λ (leaf : FreshLeaf). HoldsOwn volume.space leaf.node) (map (fresh_leaf volume.later bucket_blocks) volume.work.finished) (leaves_left volume.later volume.work.unfinished) kept.kept.lie.fresh in
      in_use-settled begun durable (emptied_all (fresh_places volume.work.finished) durable volume.space)
      (in_use-emptied begun (fresh_places volume.work.finished) durable volume.space (fresh_hold volume.space volume.later volume.work.finished whole) in_use)

  -- and where a leaf isn't frozen.
  pub refused_in_use : (refusal : Refusal) → AreInUse begun volume.space → AreInUse begun (after_refused refusal volume).space
  refused_in_use (refusals.Halted halt) in_use = in_use
  refused_in_use (refusals.NeedSplit need) in_use = in_use
  refused_in_use refusals.Spent in_use = in_use
  refused_in_use (refusals.RingFull full) in_use = in_use
  refused_in_use (refusals.NoSpace none) in_use = given_up_in_use in_use

  -- So they are where frozen leaves are put in place.
  pub placed_in_use : CoreLaws → IsVolume volume → KeepParts volume → (new : Volume) → AreInPlace volume new → AreInUse begun volume.space → AreInUse begun new.space
  placed_in_use laws is parts new gives in_use =
      let leaves : List FreshLeaf = fresh_leaves volume.later volume.work in
      let root = root_in volume.trees.nodes in
      let nodes : All (HoldsNode volume.space) (replaced_places leaves root) = joined_of_each (HoldsNode volume.space) (λ (leaf : FreshLeaf). (root leaf.btree).places) leaves (λ k d within. kept.kept.lie.roots _) in
      let replaced : All (HoldsNode volume.space) (places_of gives.replaced) = subst (All (HoldsNode volume.space)) (sym (same_places laws begun start volume is parts state kept new gives)) nodes in
      subst (λ (v : Volume). AreInUse begun v.space) (sym gives.rest) (in_use-emptied begun (places_of gives.replaced) (volume.queue.open_entry.after + 1) volume.space replaced in_use)

-- ---- places that are written

-- The place lies in a bucket that has blocks of files.
abbrev pub IsOfFiles : Found → ℕ → ℕ → Type 0
IsOfFiles begun dev block = HasFiles begun dev (block / bucket_blocks)

-- Where these places are spared, each image that a crash leaves holds the blocks of files, where those before did.
pub still_holds : (begun : Found) (start old new : DevicesState) → Spares (IsOfFiles begun) old new → ((image : Image) → IsCrashImage (now old) image → HoldsFiles begun start image)
    → (moment : ℕ) → old.moment ≤ moment → moment ≤ new.moment → (image : Image) → IsCrashImage (new.disks moment) image → HoldsFiles begun start image
still_holds begun start old new crashes held moment from to image may dev block has =
    let left = crashes.each moment from to image may in
    sym (left.2 dev block (λ outside. outside has)) ∙ held left.0 left.1 dev block has

-- The places of a part lie in the journal area, and no block of a file does.
part_outside : (f : Found) → IsSoundFound f → is_layout f.layout ≡ true → (ring : RingState) → ring.mirrors ≡ f.layout.metadata_replicas → ring.journal ≡ f.layout.journal → (dev block : ℕ) → IsPartPlace ring dev block → ¬ HasFiles f dev (block / bucket_blocks)
part_outside f sound layout ring mirrors journal dev block at has =
    let is : IsLayout f.layout = layout_found f.layout layout in
    let low = at.0 in
    let mirror : dev < f.layout.metadata_replicas = omega (arith, low, mirrors) in
    let behind = (file_bucket f dev (block / bucket_blocks) sound has).behind in
    let first : kept_buckets f.layout dev ≡ 1 + f.layout.journal / 16 = ap (λ (b : Bool). cond b (1 + f.layout.journal / 16) 1) (lt-ltb dev f.layout.metadata_replicas mirror) in
    let least = is.journal_range.0 in
    let some : 0 < ring.journal = omega (arith, least, journal) in
    let within : part_number ring % ring.journal < ring.journal = mod-lt (part_number ring) some in
    let place : block ≡ 16 + part_number ring % ring.journal = at.1 in
    let whole : f.layout.journal % 16 ≡ 0 = is.journal_buckets in
    omega (arith, behind, first, within, place, whole, journal)

module _ (begun : Found) (start state : DevicesState) (volume : Volume) (is : IsVolume volume) (kept : IsCoreSafe begun start state volume) (begins : MayBegin begun (now start)) where
  -- So it is of a part of the entry in flight.
  pub part_outside_files : IsSoundFound begun → IsPartAside (IsOfFiles begun) volume
  part_outside_files sound stage =
      let same : begun.layout ≡ volume.layout = same_layout begun start state state volume kept begins in
      let layout : is_layout begun.layout ≡ true = ap is_layout same ∙ is.placed in
      part_outside begun sound layout volume.writer.ring (is.ring.mirrors ∙ ap (λ (l : Layout). l.metadata_replicas) (sym same)) (is.ring.journal ∙ ap (λ (l : Layout). l.journal) (sym same))

  -- The blocks of a leaf that isn't finished lie in buckets that hold nodes.
  pub block_outside_files : KeepParts volume → AreInUse begun volume.space → IsBlockAside (IsOfFiles begun) volume
  block_outside_files parts in_use unfinished left dev block at has =
      let lies : LiesInNode kept.f.layout volume.space dev block = unfinished_lies begun start state volume kept parts unfinished left dev block at in
      no_user_node volume.space lies.place (sym (ap (λ (d : ℕ). bucket_state volume.space d (block / bucket_blocks)) lies.device ∙ ap (bucket_state volume.space lies.place.dev) lies.bucket) ∙ in_use dev (block / bucket_blocks) has) lies.node
