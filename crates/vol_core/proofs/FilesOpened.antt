-- What is kept of the blocks of files holds where a volume was opened: each bucket that has some is in use by files, as its key says, and the devices are quiet.
use Rattle.std.proofs.Common.{◌≡◌, ◌≢◌, ◌≤◌, ◌<◌, ⊎_elim, ◌+◌, ◌*◌, ◌/◌, ◌%◌, ◌-◌, ℕ, Bool, true, cond, nat_lt, length, slice_index, Option, Some, None, option_map, refl, sym, ap, subst, arith}
use Rattle.std.proofs.lemmas.Bool.{and_parts, cases_lt, lt-ltb}
use Rattle.std.proofs.lemmas.List.{get_or_past}
use Rattle.std.proofs.lemmas.List.Elements.{All-get_or}
use Rattle.std.proofs.lemmas.Option.{slice_get_within}
use Rattle.std.specs.Prelude.{All, slice_index_or, unwrap_or}
use Rattle.bucket_pool.specs.NodeBuckets.{MayHoldNode}
use Rattle.bucket_pool.specs.Opening.{space_of}
use Rattle.core_state.specs.Opening.{IsOpened}
use Rattle.core_volume.specs.Opening.{keys_of_buckets, opened_by}
use Rattle.core_state.specs.States.{State}
use Rattle.core_volume.specs.Volumes.{Volume}
use Rattle.dev_model.specs.Devices.{DevicesState, now}
use Rattle.dev_model.specs.Disk.{Image, IsDisk, block_at}
use Rattle.geometry.specs.Layouts.{have_room, is_layout_of}
use Rattle.image_view.specs.Found.{Found, node_places, updates_of}
use Rattle.key_meaning.specs.Checks.{kept_buckets, live_of}
use Rattle.replay.specs.Volumes.{found_in}
use Rattle.replay.specs.declared.volume.Loaded.{Loaded}
use Rattle.vol_types.specs.KeyMapLaws.{IsKeyMap-with_updates}
use Rattle.vol_types.specs.KeyMaps.{IsKeyMap, value_in}
use Rattle.vol_types.specs.LayoutLaws.{layout_found}
use Rattle.vol_types.specs.Layouts.{IsDeviceSize, IsLayout, is_layout}
use Rattle.vol_types.specs.Limits.{bucket_blocks}
use Rattle.vol_types.specs.Widths.{PosFits}
use Rattle.vol_types.specs.declared.layout.Layout.{Layout}
use Rattle.vol_types.specs.declared.positions.Btree.TheVariants.{Alloc}
use Rattle.vol_types.specs.declared.values.Live.{Live}
use Rattle.vol_types.specs.declared.values.Value.{Value}
use Rattle.vol_types.specs.declared.values.Value.TheVariants as values
use Rattle.vol_core.specs.CoreLaws.{BucketLaws, CoreLaws, FoundLaws}
use Rattle.vol_core.specs.KeptFiles.{AreInUse, KeepsFiles}
use Rattle.vol_core.specs.Left.{IsSoundFound}
use Rattle.vol_core.specs.Safety.{MayBegin}
use Rattle.vol_core.proofs.FileBuckets.{IsFileBucket, file_bucket}
use Rattle.vol_core.proofs.FoundRoots.{at_least}
use Rattle.vol_core.proofs.KeyedBuckets.{first_block, keyed_in_use, pos}
use Rattle.vol_core.proofs.Opened.{last_found, leaves_kept}

-- A bucket with used blocks has a key that says how many.
used_key : (value : Option Value) → unwrap_or (option_map (λ (live : Live). live.blocks) (live_of value)) 0 ≢ 0 → (live : Live) × (value ≡ Some (values.Live live)) × (live.blocks ≢ 0)
used_key None some = absurd (some refl)
used_key (Some (values.Live live)) some = (live, refl, some)
used_key (Some other) some = absurd (some refl)

-- A bucket of files is one in which a node might lie, by its place alone.
module _ (layout : Layout) (is : IsLayout layout) (dev bucket : ℕ) (behind : kept_buckets layout dev ≤ bucket) (begins : bucket * bucket_blocks < slice_index layout.blocks dev) where
  abbrev size : ℕ
  size = slice_index_or layout.blocks dev 0

  device_there : dev < length layout.blocks
  device_there = ⊎_elim
      (λ (there : dev < length layout.blocks). there)
      (λ past. let none : size ≡ 0 = get_or_past layout.blocks dev 0 past in absurd (omega (arith, begins, none)))
      (cases_lt dev (length layout.blocks))

  device_size : IsDeviceSize layout.journal size
  device_size = All-get_or (IsDeviceSize layout.journal) layout.blocks dev 0 device_there is.sizes

  may_hold : MayHoldNode layout (first_block dev bucket)
  may_hold = record {
    begins = omega arith;
    within = let whole : size % 16 ≡ 0 = device_size.whole_buckets in omega (arith, begins, whole);
    past_superblocks = let least : 1 ≤ kept_buckets layout dev = at_least (nat_lt dev layout.metadata_replicas) (layout.journal / 16) in omega (arith, behind, least);
    past_journal = λ mirror.
        let kept : kept_buckets layout dev ≡ 1 + layout.journal / 16 = ap (λ (b : Bool). cond b (1 + layout.journal / 16) 1) (lt-ltb dev layout.metadata_replicas mirror) in
        let whole : layout.journal % 16 ≡ 0 = is.journal_buckets in
        omega (arith, behind, kept, whole);
  }

  fits : PosFits (pos dev bucket)
  fits =
      let few = is.devices.1 in
      let there = device_there in
      let most = device_size.blocks_range.1 in
      record { inode = omega (arith, few, there); offset = omega (arith, begins, most); snapshot = omega arith }

-- Each bucket that has blocks of files is in use by files in the space that a volume is opened with.
opened_in_use : BucketLaws → (f : Found) → is_layout f.layout ≡ true → IsKeyMap f.trees.keys → IsSoundFound f → AreInUse f (space_of f.layout (keys_of_buckets f.trees.keys) (node_places f))
opened_in_use buckets f layout maps sound dev bucket has =
    let of_files : IsFileBucket f dev bucket = file_bucket f dev bucket sound has in
    let is : IsLayout f.layout = layout_found f.layout layout in
    let used = used_key (value_in f.trees.keys Alloc (pos dev bucket)) has in
    keyed_in_use dev bucket buckets f.layout layout f.trees.keys maps (node_places f) used.0 used.1 used.2
    (fits f.layout is dev bucket of_files.behind of_files.begins) (may_hold f.layout is dev bucket of_files.behind of_files.begins) of_files.no_node

-- What is kept of the blocks of files holds of a volume that was loaded, as it is kept in memory.
pub opened_files : (laws : CoreLaws) (of_found : FoundLaws) (loaded : Loaded) (memory : State) (begun : Found) (start state : DevicesState) → found_in loaded ≡ begun → state ≡ start → is_layout_of state.sizes loaded.layout ≡ true
    → IsOpened loaded.layout loaded.session loaded.map loaded.needed (node_places (found_in loaded)) memory → MayBegin begun (now start) → All IsDisk (now state) → IsSoundFound begun → KeepsFiles begun start state memory.volume
opened_files laws of_found loaded memory begun start state opens starts layout is begins disks sound =
    let f : Found = found_in loaded in
    let may : MayBegin f (now state) = subst (λ (g : Found). MayBegin g (now state)) (sym opens) (subst (λ (s : DevicesState). MayBegin begun (now s)) (sym starts) begins) in
    let within = slice_get_within loaded.needed (length loaded.needed - 1) is.volume.newest is.volume.last in
    let some : 0 < length loaded.needed = omega (arith, within) in
    let layout_is : is_layout loaded.layout ≡ true = (and_parts (is_layout loaded.layout) (have_room loaded.layout.blocks state.sizes) layout).0 in
    let leaves = leaves_kept laws of_found loaded is.volume.newest state layout_is (last_found loaded.needed is.volume.newest some is.volume.last) some may disks in
    let maps : IsKeyMap f.trees.keys = subst IsKeyMap (sym leaves.keys) (IsKeyMap-with_updates (updates_of f.needed) leaves.before leaves.are_keys) in
    let volume : Volume = opened_by loaded.layout loaded.session loaded.map loaded.needed (node_places f) is.volume.newest in
    let files : KeepsFiles f state state volume = record {
      in_use = opened_in_use laws.buckets f layout_is maps (subst IsSoundFound (sym opens) sound);
      left = λ image left dev block has. ap (λ (shown : Image). block_at shown dev block) (may.ready.mended.found_on.on.quiet image left);
    } in
    subst (KeepsFiles begun start state) (sym is.volume.is) (subst (λ (s : DevicesState). KeepsFiles begun s state volume) starts (subst (λ (g : Found). KeepsFiles g state state volume) opens files))
