-- The core is safe where a volume was opened.
use Rattle.std.proofs.Common.{◌≡◌, ◌≤◌, ◌<◌, ◌-◌, ℕ, true, false, List, [], ◌∷◌, drop, length, replicate, Some, None, Ok, refl, sym, ap, subst, ◌∙◌, arith}
use Rattle.std.proofs.lemmas.List.{length-append, length-replicate}
use Rattle.std.proofs.lemmas.List.Elements.{All-cons, All-nil}
use Rattle.std.proofs.lemmas.Option.{same_Some, slice_get-get_or, slice_get_within}
use Rattle.std.specs.Ordering.{nat_cmp}
use Rattle.std.specs.Prelude.{All, slice_get}
use Rattle.std.proofs.lemmas.Bool.{and_parts}
use Rattle.btree_map.specs.Trees.{keys_in}
use Rattle.bucket_pool.specs.NodeBuckets.{HoldsNode, MayHoldNode}
use Rattle.crash_safety.specs.KeptLeaves.{HoldsOwn, KeepsLeaves}
use Rattle.core_state.specs.Opening.{IsOpened}
use Rattle.core_volume.specs.Opening.{keys_of_buckets, opened_by}
use Rattle.core_state.specs.States.{State}
use Rattle.core_volume.specs.Volumes.{Volume}
use Rattle.dev_model.specs.Devices.{DevicesState, now}
use Rattle.dev_model.specs.Disk.{Image, IsDisk, as_read}
use Rattle.journal_writer.specs.Changes.{no_changes}
use Rattle.journal_writer.specs.declared.changes.KeyChanges.{KeyChanges}
use Rattle.journal_writer.specs.Writers.{most_devices, starts_of, with_flags}
use Rattle.geometry.specs.Layouts.{have_room, is_layout_of}
use Rattle.image_view.specs.Found.{Found, found, node_places}
use Rattle.journal_ring.specs.declared.found.FoundEntry.{FoundEntry}
use Rattle.crash_safety.specs.Contents.{IsPinnedUpTo}
use Rattle.node_writeback.specs.Due.{root_in}
use Rattle.image_reader.specs.Volumes.{last_of, no_entry}
use Rattle.replay.specs.Volumes.{found_in}
use Rattle.replay.specs.declared.volume.Loaded.{Loaded}
use Rattle.vol_types.specs.LayoutLaws.{layout_found}
use Rattle.vol_types.specs.Layouts.{is_layout}
use Rattle.vol_types.specs.Maps.{value_at}
use Rattle.vol_types.specs.declared.layout.Layout.{Layout}
use Rattle.vol_types.specs.declared.pointers.Place.{Place}
use Rattle.vol_types.specs.declared.positions.Btree.{Btree}
use Rattle.vol_core.specs.Entries.{AreStarts, IsInLeaf}
use Rattle.vol_core.specs.Safety.{IsCoreSafe, MayBegin}
use Rattle.vol_core.specs.VolumeLeaves.{leaves_in}
use Rattle.vol_core.specs.CoreLaws.{CoreLaws, FoundLaws}
use Rattle.vol_core.proofs.FoundRoots.{each_root, one, roots_are, roots_pinned, roots_placed}
use Rattle.vol_core.proofs.NeededEntries.{starts_first}

starts_begin : (end : ℕ) (needed : List FoundEntry) → AreStarts (starts_of end needed) needed
starts_begin end [] = tt
starts_begin end (entry ∷ needed) = (omega arith, starts_begin end needed)

-- Each device has a flag.
flags_begin : (layout : Layout) → is_layout layout ≡ true → layout.metadata_replicas ≤ length (with_flags (length layout.blocks) (replicate most_devices false))
flags_begin layout is =
    let most = (layout_found layout is).metadata.1 in
    omega (arith, most, length-append (replicate (length layout.blocks) true) (drop (length layout.blocks) (replicate most_devices false)), length-replicate (length layout.blocks) true)

module _ (laws : CoreLaws) (of_found : FoundLaws) (loaded : Loaded) (newest : FoundEntry) (start : DevicesState) (layout_is : is_layout loaded.layout ≡ true) (last_is : last_of loaded.needed ≡ newest) (some : 0 < length loaded.needed)
    (begins : MayBegin (found_in loaded) (now start)) (disks : All IsDisk (now start)) where
  abbrev f : Found
  f = found_in loaded

  abbrev volume : Volume
  volume = opened_by loaded.layout loaded.session loaded.map loaded.needed (node_places f) newest

  abbrev image : Image
  image = as_read (now start)

  finds : found image ≡ Ok f
  finds = begins.ready.mended.found_on.on.finds

  placed : (btree : Btree) → All (MayHoldNode f.layout) (root_in f.trees.nodes btree).places
  placed = roots_placed of_found f image finds begins.roots layout_is begins.ready.mended.found_on.on.placed

  -- The buckets of roots hold nodes.
  hold : (btree : Btree) → HoldsOwn volume.space (root_in f.trees.nodes btree)
  hold btree k d less =
      each_root of_found f image finds begins.roots (λ (place : Place). MayHoldNode f.layout place → HoldsNode volume.space place) (laws.buckets.opened_hold f.layout (keys_of_buckets (keys_in loaded.map)) (node_places f) layout_is) btree k d less
      (placed btree k d less)

  pub leaves_kept : KeepsLeaves f None start (leaves_in volume)
  leaves_kept = laws.entries.begins f start (leaves_in volume) begins.ready.mended begins.ready.roots begins.roots begins.updates (roots_are of_found f image finds begins.roots) refl layout_is
      (laws.buckets.opened_fixed f.layout (keys_of_buckets (keys_in loaded.map)) (node_places f) layout_is) hold placed
      (λ btree entry needed changes. subst (λ (e : FoundEntry). IsPinnedUpTo (value_at nat_cmp (root_in f.trees.nodes btree).birth volume.pins) e.entry.oldest) (sym last_is)
      (roots_pinned of_found f image finds begins.roots laws.pins begins.updates newest.entry.oldest btree entry needed changes))

  -- What was opened is safe.
  pub opened_on : IsCoreSafe f start start volume
  opened_on = record {
    f = f;
    image = image;
    writing = None;
    asked = 0;
    written = 0;
    bases = f ∷ [];
    durable = [];
    safe = laws.journal.begins f start begins.ready.mended (laws.entries.alike f start begins.ready.mended begins.ready.roots begins.roots begins.updates) (begins.ready.unwritten f.last.end) disks;
    begins = refl;
    chain = tt;
    past = λ k m there. absurd cc;
    flushed = laws.flags.begins f.layout.metadata_replicas volume.writer.unsettled (now start) begins.ready.mended.found_on.on.quiet;
    flags = flags_begin f.layout layout_is;
    known = record {
      layout = refl;
      session = refl;
      sequence = ap (λ (entry : FoundEntry). entry.entry.sequence) last_is;
      commits = ap (λ (entry : FoundEntry). entry.entry.commits) last_is;
      oldest = ap (λ (entry : FoundEntry). entry.entry.oldest) last_is;
      some = some;
      count = let order = of_found.oldest image f finds in let count = of_found.count image f finds in omega (arith, order, count);
    };
    starts = starts_begin newest.end f.needed;
    first = starts_first (starts_of newest.end f.needed) f.needed f.last (starts_begin newest.end f.needed);
    lead = laws.keys.empty f.layout.metadata_replicas newest.entry.sequence (newest.end - 1) newest.entry.commits (keys_in loaded.map);
    leaves = All-cons (λ (changes : KeyChanges). All IsInLeaf changes.updates) no_changes [] (All-nil IsInLeaf) (All-nil (λ (changes : KeyChanges). All IsInLeaf changes.updates));
    one = one of_found f image finds begins.roots;
    kept = leaves_kept;
    flying = record { end = ap (λ (entry : FoundEntry). entry.end) last_is; unasked = refl; unwritten = refl };
  }

-- The last of the needed entries is the newest one.
pub last_found : (needed : List FoundEntry) (newest : FoundEntry) → 0 < length needed → slice_get needed (length needed - 1) ≡ Some newest → last_of needed ≡ newest
last_found needed newest some last = same_Some (last_of needed) newest (sym (slice_get-get_or needed (length needed - 1) no_entry (omega (arith, some))) ∙ last)

-- A volume that was loaded, as it is kept in memory, is safe on the devices that it was loaded from.
pub opened_core : (laws : CoreLaws) (of_found : FoundLaws) (loaded : Loaded) (memory : State) (begun : Found) (start state : DevicesState) → found_in loaded ≡ begun → state ≡ start → is_layout_of state.sizes loaded.layout ≡ true
    → IsOpened loaded.layout loaded.session loaded.map loaded.needed (node_places (found_in loaded)) memory → MayBegin begun (now start) → All IsDisk (now state) → IsCoreSafe begun start state memory.volume
opened_core laws of_found loaded memory begun start state opens starts layout is begins disks =
    let may : MayBegin (found_in loaded) (now state) = subst (λ (f : Found). MayBegin f (now state)) (sym opens) (subst (λ (s : DevicesState). MayBegin begun (now s)) (sym starts) begins) in
    let within = slice_get_within loaded.needed (length loaded.needed - 1) is.volume.newest is.volume.last in
    let some : 0 < length loaded.needed = omega (arith, within) in
    let volume : Volume = opened_by loaded.layout loaded.session loaded.map loaded.needed (node_places (found_in loaded)) is.volume.newest in
    let safe : IsCoreSafe (found_in loaded) state state volume =
    opened_on laws of_found loaded is.volume.newest state (and_parts (is_layout loaded.layout) (have_room loaded.layout.blocks state.sizes) layout).0 (last_found loaded.needed is.volume.newest some is.volume.last) some may disks in
    subst (IsCoreSafe begun start state) (sym is.volume.is) (subst (λ (s : DevicesState). IsCoreSafe begun s state volume) starts (subst (λ (f : Found). IsCoreSafe f state state volume) opens safe))
