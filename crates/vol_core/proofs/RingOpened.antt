-- What is kept of the ring holds where a volume was opened of which it may be kept: its pins are those of the needed entries. And it may be kept of what a
-- session may begin with: the newest entry takes at most 64 blocks.
use Rattle.std.proofs.Common.{◌≡◌, ◌≤◌, ◌<◌, ◌+◌, ◌-◌, ⊎_elim, ℕ, true, List, [], length, min, Some, Ok, refl, sym, ap, subst, ◌∙◌, arith}
use Rattle.std.proofs.lemmas.Bool.{and_parts, leb-true}
use Rattle.std.proofs.lemmas.List.{get_or-map, length-map}
use Rattle.std.proofs.lemmas.List.Elements.{All-contains, All-nil}
use Rattle.std.proofs.lemmas.List.FromFn.{length-range_with_len}
use Rattle.std.proofs.lemmas.Option.{cond_some, get_or_from_slice_get, none-some, slice_get_within}
use Rattle.std.specs.Ordering.{nat_cmp}
use Rattle.std.specs.Prelude.{◌==◌, slice_get, slice_index_or}
use Rattle.birth_index.specs.Exchanges.{HaveOneNode}
use Rattle.btree_map.specs.Trees.{Trees}
use Rattle.dirty_nodes.specs.Dirty.{changed_nodes, with_pins}
use Rattle.core_state.specs.Opening.{IsOpened}
use Rattle.core_volume.specs.Opening.{opened_by, updates_in}
use Rattle.core_state.specs.States.{State}
use Rattle.core_volume.specs.Volumes.{Volume}
use Rattle.dev_model.specs.Devices.{DevicesState, now}
use Rattle.dev_model.specs.Disk.{Image, as_read}
use Rattle.journal_writer.specs.Writers.{starts_of}
use Rattle.geometry.specs.Layouts.{have_room, is_layout_of}
use Rattle.image_view.specs.BaseLaws.{found-newest}
use Rattle.image_view.specs.Found.{Found, IsMirrored, found, node_places}
use Rattle.journal_ring.specs.Entries.{IsWhole}
use Rattle.journal_ring.specs.EntryLaws.{begins}
use Rattle.journal_ring.specs.Parts.{Area, area_of}
use Rattle.journal_ring.specs.declared.found.FoundEntry.{FoundEntry}
use Rattle.image_reader.specs.Volumes.{last_of, no_entry}
use Rattle.node_writeback.specs.Due.{root_in}
use Rattle.replay.specs.Volumes.{found_in}
use Rattle.replay.specs.declared.volume.Loaded.{Loaded}
use Rattle.sealed_block.specs.Opening.{head_in, opened}
use Rattle.sealed_block.specs.declared.heads.Head.{Head}
use Rattle.vol_types.specs.LayoutLaws.{layout_found}
use Rattle.vol_types.specs.Layouts.{is_layout}
use Rattle.vol_types.specs.Maps.{value_at}
use Rattle.vol_types.specs.declared.layout.Layout.{Layout}
use Rattle.vol_types.specs.declared.pointers.NodePtr.{NodePtr}
use Rattle.vol_types.specs.declared.pointers.Place.{Place}
use Rattle.vol_core.specs.Rested.{IsOnMirrors, KeepsRing, LieOnMirrors, MayKeepRing, last_start}
use Rattle.vol_core.specs.Safety.{IsCoreSafe, MayBegin}
use Rattle.vol_core.specs.CoreLaws.{FoundLaws}
use Rattle.vol_core.proofs.RingKept.{newest_from, none_rise, pinned_by, rises_pinned, roots_changed, IsRootBirth}

-- A block that opens is a part of at most 64.
few_parts : (block : List ℕ) (head : Head) → opened block ≡ Some head → head.parts ≤ 64
unfolding opened
few_parts block head is =
    let found = cond_some _ (head_in block) head is in
    let ranges = (and_parts _ _ (and_parts _ _ found.0).0).1 in
    let most : (head_in block).parts ≤ 64 = leb-true (head_in block).parts 64 (and_parts _ _ (and_parts _ _ ranges).0).1 in
    subst (λ (h : Head). h.parts ≤ 64) found.1 most

-- A whole entry takes at most 64 blocks.
whole_is_few : (layout : Layout) (area : Area) (entry : FoundEntry) → IsWhole layout area entry → entry.end ≤ entry.number + 64
whole_is_few layout area entry is =
    let b = begins layout area is.0 entry.number entry is.1.whole in
    let few : b.head.parts ≤ 64 = few_parts b.block b.head b.opens in
    let end : entry.number + b.head.parts ≡ entry.end = ap (λ (e : FoundEntry). e.end) b.here in
    omega (arith, few, end)

-- So does the newest of the needed entries that were found.
newest_is_few : FoundLaws → (image : Image) (f : Found) (entry : FoundEntry) → found image ≡ Ok f → is_layout f.layout ≡ true → slice_get f.needed (length f.needed - 1) ≡ Some entry → entry.end ≤ entry.number + 64
newest_is_few of_found image f entry finds layout last =
    let least = (layout_found f.layout layout).journal_range.0 in
    let is = found-newest image f finds in
    let within = slice_get_within f.needed (length f.needed - 1) entry last in
    let all = of_found.whole f.layout (area_of image) f.last f.needed (omega (arith, least)) is.last is.needed in
    whole_is_few f.layout (area_of image) entry (All-contains (IsWhole f.layout (area_of image)) f.needed entry all (length f.needed - 1, within, get_or_from_slice_get f.needed (length f.needed - 1) entry entry last))

-- The last of the starts is that of the newest needed entry.
last_begins : (end : ℕ) (needed : List FoundEntry) (entry : FoundEntry) → slice_get needed (length needed - 1) ≡ Some entry → last_start (starts_of end needed) ≡ min entry.number end
last_begins end needed entry last =
    let within = slice_get_within needed (length needed - 1) entry last in
    let start : FoundEntry → ℕ = λ (found : FoundEntry). min found.number end in
    ap (λ (n : ℕ). slice_index_or (starts_of end needed) (n - 1) 0) (length-map needed start)
    ∙ get_or-map start needed (length needed - 1) entry 0 within
    ∙ ap start (get_or_from_slice_get needed (length needed - 1) entry entry last)

module _ (layout : Layout) (session : ℕ) (trees : Trees) (needed : List FoundEntry) (nodes : List Place) (entry : FoundEntry) (one : HaveOneNode trees.nodes) (mirrored : LieOnMirrors layout.metadata_replicas trees.nodes) (order : entry.entry.oldest ≤ entry.entry.sequence)
    (count : entry.entry.oldest + length needed ≡ entry.entry.sequence + 1) (few : entry.end ≤ entry.number + 64) (last : slice_get needed (length needed - 1) ≡ Some entry) where
  abbrev births : List ℕ
  births = changed_nodes trees.nodes (updates_in needed)

  -- What is pinned is a root, and pins the oldest of the needed entries.
  opened_pin : (birth number : ℕ) → value_at nat_cmp birth (with_pins entry.entry.oldest births []) ≡ Some number → IsRootBirth trees.nodes birth × (number ≤ entry.entry.oldest)
  opened_pin birth number at = ⊎_elim
      (λ new. (new.0.0, new.1))
      (λ old. absurd (none-some number old))
      (pinned_by (λ (b : ℕ). IsRootBirth trees.nodes b × (0 < length (updates_in needed))) entry.entry.oldest birth number births [] (roots_changed trees.nodes one (updates_in needed)) at)

  opened_ring_of : KeepsRing (opened_by layout session trees needed nodes entry)
  opened_ring_of = record {
    one = one;
    mirrored = mirrored;
    fresh = All-nil (IsOnMirrors layout.metadata_replicas);
    rises = rises_pinned entry.entry.oldest births [] none_rise;
    later_rises = none_rise;
    nodes = λ birth number at. (opened_pin birth number at).0;
    pins = λ birth number at. let low = (opened_pin birth number at).1 in let least = newest_from (0 == 0) entry.entry.sequence in omega (arith, low, order, least);
    later = λ birth number at. absurd (none-some number at);
    row = tt;
    behind = omega arith;
    commits = omega arith;
    first = refl;
    needs = order;
    count = ap (λ (n : ℕ). entry.entry.oldest + n) (length-map needed (λ (found : FoundEntry). min found.number entry.end)) ∙ count;
    few = let start = last_begins entry.end needed entry last in omega (arith, start, few);
  }

-- A volume that was loaded, as it is kept in memory, has what is kept of the ring, where that may be.
pub opened_ring : (loaded : Loaded) (memory : State) (begun : Found) → found_in loaded ≡ begun → IsOpened loaded.layout loaded.session loaded.map loaded.needed (node_places (found_in loaded)) memory → MayKeepRing begun → KeepsRing memory.volume
opened_ring loaded memory begun opens is may =
    let entry : FoundEntry = is.volume.newest in
    let f : Found = found_in loaded in
    let kept : MayKeepRing f = subst MayKeepRing (sym opens) may in
    let same : last_of loaded.needed ≡ entry = get_or_from_slice_get loaded.needed (length loaded.needed - 1) entry no_entry is.volume.last in
    let order : entry.entry.oldest ≤ entry.entry.sequence = subst (λ (e : FoundEntry). e.entry.oldest ≤ e.entry.sequence) same kept.oldest in
    let count : entry.entry.oldest + length loaded.needed ≡ entry.entry.sequence + 1 = subst (λ (e : FoundEntry). e.entry.oldest + length loaded.needed ≡ e.entry.sequence + 1) same kept.count in
    let few : entry.end ≤ entry.number + 64 = subst (λ (e : FoundEntry). e.end ≤ e.number + 64) same kept.few in
    subst KeepsRing (sym is.volume.is) (opened_ring_of loaded.layout loaded.session loaded.map loaded.needed (node_places f) entry kept.one kept.mirrored order count few is.volume.last)

-- What was found, as it is safe in memory, has roots on every metadata device.
found_mirrored : (begun : Found) (start state : DevicesState) (volume : Volume) → IsCoreSafe begun start state volume → LieOnMirrors volume.layout.metadata_replicas volume.trees.nodes
found_mirrored begun start state volume safe btree =
    let root : NodePtr = root_in volume.trees.nodes btree in
    let mirrored : IsMirrored safe.f.layout root = (safe.kept.stand btree).mirrored in
    sym (length-map root.places (λ (place : Place). place.dev)) ∙ ap (λ (devs : List ℕ). length devs) mirrored ∙ length-range_with_len 0 safe.f.layout.metadata_replicas ∙ ap (λ (layout : Layout). layout.metadata_replicas) safe.known.layout

-- Where the session may begin with what was found, the ring may be kept of that.
pub may_keep_ring : FoundLaws → (loaded : Loaded) (memory : State) (begun : Found) (start state : DevicesState) → found_in loaded ≡ begun → is_layout_of state.sizes loaded.layout ≡ true
    → IsOpened loaded.layout loaded.session loaded.map loaded.needed (node_places (found_in loaded)) memory → MayBegin begun (now start) → IsCoreSafe begun start state memory.volume → MayKeepRing begun
may_keep_ring of_found loaded memory begun start state opens layout is begins safe =
    let entry : FoundEntry = is.volume.newest in
    let f : Found = found_in loaded in
    let finds : found (as_read (now start)) ≡ Ok f = begins.ready.mended.found_on.on.finds ∙ ap (λ (g : Found). Ok g) (sym opens) in
    let same : last_of loaded.needed ≡ entry = get_or_from_slice_get loaded.needed (length loaded.needed - 1) entry no_entry is.volume.last in
    let few : entry.end ≤ entry.number + 64 = newest_is_few of_found (as_read (now start)) f entry finds (and_parts (is_layout loaded.layout) (have_room loaded.layout.blocks state.sizes) layout).0 is.volume.last in
    let order = of_found.oldest (as_read (now start)) f finds in
    let all = of_found.count (as_read (now start)) f finds in
    subst MayKeepRing opens (record {
      one = subst (λ (volume : Volume). HaveOneNode volume.trees.nodes) is.volume.is safe.one;
      mirrored = subst (λ (volume : Volume). LieOnMirrors volume.layout.metadata_replicas volume.trees.nodes) is.volume.is (found_mirrored begun start state memory.volume safe);
      oldest = order;
      count = omega (arith, order, all);
      few = subst (λ (e : FoundEntry). e.end ≤ e.number + 64) (sym same) few;
    })
