-- After blocks were taken over each extent's blocks lie in a bucket of users, and no block is used twice.
use Rattle.std.proofs.Common.{◌≡◌, ⊎_elim, inl, inr, ℕ, ◌+◌, ◌-◌, ◌/◌, ◌%◌, ◌<◌, ◌≤◌, Option, Some, None, List, [], ◌∷◌, ◌++◌, length, map, min, refl, sym, ap, ◌∙◌, subst, arith}
use Rattle.std.specs.Prelude.{All, IfSome, option_map, slice_get, slice_index}
use Rattle.std.specs.BTreeMap.{is_at}
use Rattle.std.specs.Map.{values_of}
use Rattle.std.proofs.lemmas.List.Elements.{All-cons, All-head, All-map, All-nil, All-tail}
use Rattle.std.proofs.lemmas.Map.Views.{All-map-remove_entry, All-values-insert_entry}
use Rattle.snap_tree.specs.Snaps.{Snaps, parent_of}
use Rattle.vol_types.specs.KeyMapLaws.{entries_of-with_update}
use Rattle.vol_types.specs.KeyMaps.{Entries, IsKeyMap, KeyMap, with_update, with_updates}
use Rattle.vol_types.specs.Maps.{put_at}
use Rattle.vol_types.specs.Positions.{pos_cmp}
use Rattle.vol_types.specs.declared.keys.Key.{Key}
use Rattle.vol_types.specs.declared.keys.Update.{Update}
use Rattle.vol_types.specs.declared.layout.Layout.{Layout}
use Rattle.vol_types.specs.declared.pointers.Place.{Place}
use Rattle.vol_types.specs.declared.pointers.Pointer.{Pointer}
use Rattle.vol_types.specs.declared.positions.Btree.TheVariants.{Extents}
use Rattle.vol_types.specs.declared.positions.Pos.{Pos}
use Rattle.vol_types.specs.declared.values.Value.{Value}
use Rattle.vol_types.specs.declared.values.Value.TheVariants as values
use Rattle.key_meaning.specs.Blocks.{blocks_of}
use Rattle.key_meaning.specs.Checks.{AreBlocksPlaced, HasWellPlaced, IsWellPlaced, count_in_bucket, kept_buckets, pointers_of, used_places}
use Rattle.extent_ops.specs.Above.{hole_of, holes_to_hide, swept}
use Rattle.extent_ops.specs.Content.{AreFreshWithin, AreLookedAt, HavePlaces}
use Rattle.extent_ops.specs.Cutting.{change_of, collected, cut_all, cut_value, part_of, pointer_behind, put_part, stretch_of, update_at, updates_of}
use Rattle.extent_ops.specs.Placing.{MayBePlaced, places_in, places_maybe}
use Rattle.extent_ops.specs.Stretches.{RiseFrom, outside}
use Rattle.extent_ops.specs.declared.cutting.Change.{Change}
use Rattle.extent_ops.specs.declared.stretches.Stretch.{Stretch}
use Rattle.extent_ops.proofs.Counting.{of_changes, of_maybe, uses, uses-append}
use Rattle.extent_ops.proofs.Cuts.{cut-from}
use Rattle.extent_ops.proofs.Fitting.{all-of, collected-has}
use Rattle.extent_ops.proofs.Fresh.{all-member, fresh_rise}
use Rattle.extent_ops.proofs.Gaps.{IsGap}
use Rattle.extent_ops.proofs.Members.{Has, has-append, has-map, map-has}
use Rattle.extent_ops.proofs.Pieces.{blocks_of-part_of}
use Rattle.extent_ops.proofs.Promising.{Makes, first_file, holes_for, looked_of_file}
use Rattle.extent_ops.proofs.Taken.{cut_all-has, looked_at}
use Rattle.extent_ops.proofs.Using.{used-few}

-- Some blocks further on in a bucket the bucket is the same.
same_bucket : (block skip : ℕ) → block % 16 + skip < 16 → (block + skip) / 16 ≡ block / 16
same_bucket block skip within = omega (arith, within)

rest_bucket : (block skip : ℕ) → block % 16 + skip < 16 → (block + skip) % 16 ≡ block % 16 + skip
rest_bucket block skip within = omega (arith, within)

module _ (nodes : List Place) (layout : Layout) where
  -- The pointers of a value are well placed.
  abbrev Well : Value → Type 0
  Well value = All (IsWellPlaced nodes layout (blocks_of value)) (pointers_of value)

  pointer-well : (skip count all : ℕ) (pointer : Pointer) → IsWellPlaced nodes layout all pointer → pointer.place.block + all ≤ 4294967295 → 0 < count → skip + count ≤ all → IsWellPlaced nodes layout count (pointer_behind skip pointer)
  pointer-well skip count all pointer is fit some le = record {
    one_bucket = let one = is.one_bucket in let rest = rest_bucket pointer.place.block skip (omega (arith, one, some, le)) in subst (λ (b : ℕ). b % 16 + count ≤ 16) (sym at) (omega (arith, one, rest, le));
    on_device = let on = is.on_device in subst (λ (b : ℕ). b + count ≤ slice_index layout.blocks pointer.place.dev) (sym at) (omega (arith, on, le));
    for_users = subst (λ (b : ℕ). kept_buckets layout pointer.place.dev ≤ b) (sym bucket) is.for_users;
    for_no_node = subst (λ (b : ℕ). count_in_bucket nodes pointer.place.dev b ≡ 0) (sym bucket) is.for_no_node;
  }
    where
      at : min (pointer.place.block + skip) 4294967295 ≡ pointer.place.block + skip
      at = omega (arith, fit, some, le)

      bucket : min (pointer.place.block + skip) 4294967295 / 16 ≡ pointer.place.block / 16
      bucket = let one = is.one_bucket in ap (λ b. b / 16) at ∙ same_bucket pointer.place.block skip (omega (arith, one, some, le))

  pointers-well : (skip count all : ℕ) (pointers : List Pointer) → All (IsWellPlaced nodes layout all) pointers → All (λ (p : Pointer). p.place.block + all ≤ 4294967295) pointers → 0 < count → skip + count ≤ all → All (IsWellPlaced nodes layout count) (map (pointer_behind skip) pointers)
  pointers-well skip count all [] is fit some le = All-nil (IsWellPlaced nodes layout count)
  pointers-well skip count all (pointer ∷ pointers) is fit some le =
      All-cons (IsWellPlaced nodes layout count) (pointer_behind skip pointer) (map (pointer_behind skip) pointers)
      (pointer-well skip count all pointer (All-head (IsWellPlaced nodes layout all) pointer pointers is) (All-head (λ (p : Pointer). p.place.block + all ≤ 4294967295) pointer pointers fit) some le)
      (pointers-well skip count all pointers (All-tail (IsWellPlaced nodes layout all) pointer pointers is) (All-tail (λ (p : Pointer). p.place.block + all ≤ 4294967295) pointer pointers fit) some le)

  -- A part of a well placed value is so too.
  part-well : (skip count : ℕ) (value : Value) → HavePlaces value → 0 < count → skip + count ≤ blocks_of value → Well value → Well (part_of skip count value)
  part-well skip count (values.Extent e) fit some le is =
      subst (λ (n : ℕ). All (IsWellPlaced nodes layout n) (map (pointer_behind skip) e.pointers)) (sym (blocks_of-part_of skip count (values.Extent e) le))
      (pointers-well skip count (length e.digests) e.pointers is fit.places some le)
  part-well skip count (values.Hole n) fit some le is = All-nil (IsWellPlaced nodes layout (min count n))
  part-well skip count (values.Inode x) fit some le is = is
  part-well skip count (values.Names x) fit some le is = is
  part-well skip count values.White fit some le is = is
  part-well skip count (values.Subs x) fit some le is = is
  part-well skip count (values.Snap x) fit some le is = is
  part-well skip count (values.Live x) fit some le is = is
  part-well skip count (values.Back x) fit some le is = is
  part-well skip count values.Gone fit some le is = is
  part-well skip count (values.Counter x) fit some le is = is
  part-well skip count (values.Node x) fit some le is = is

  cut_value-well : (stretches : List Stretch) (from end : ℕ) (value : Value) (change : Change) → RiseFrom from stretches → HavePlaces value → Well value → Has change (cut_value stretches end (Some value)) → IfSome change.value Well
  cut_value-well stretches from end value change rise fit is has = ⊎_elim
      (λ (left : (part : Stretch) × (Has part (outside (end - blocks_of value) end stretches) × IsGap (end - blocks_of value) end stretches part × (change ≡ put_part (end - blocks_of value) value part))).
      let gap = left.1.1 in
      subst (λ (c : Change). IfSome c.value Well) (sym left.1.2) (part-well (left.0.first - (end - blocks_of value)) (left.0.end - left.0.first) value fit (omega (arith, gap.some)) (omega (arith, gap.low, gap.some, gap.high)) is))
      (λ (gone : change ≡ record { end = end; value = None }). subst (λ (c : Change). IfSome c.value Well) (sym gone) tt)
      (cut-from stretches from rise end value change has)

  -- What is put stands well, and so does the rest.
  put-well : (pos : Pos) (value : Option Value) (entries : Entries) → IfSome value Well → All Well (values_of entries) → All Well (values_of (put_at pos_cmp pos value entries))
  put-well pos None entries put all = All-map-remove_entry (is_at (pos_cmp pos)) (λ (e : Pos × Value). e.1) Well entries all
  put-well pos (Some value) entries put all = All-values-insert_entry pos_cmp pos value Well entries all put

  well-after : (file id : ℕ) (xs : List (ℕ × Option Value)) (keys : KeyMap) → ((x : ℕ × Option Value) → Has x xs → IfSome x.1 Well) → All Well (values_of keys.extents) → All Well (values_of (with_updates (map (update_at file id) xs) keys).extents)
  well-after file id [] keys each all = all
  well-after file id (x ∷ xs) keys each all = well-after file id xs (with_update (update_at file id x) keys) (λ y has. each y (inr has))
      (subst (λ (es : Entries). All Well (values_of es)) (sym (entries_of-with_update (update_at file id x) keys Extents)) (put-well (record { inode = file; offset = x.0; snapshot = id }) x.1 keys.extents (each x (inl refl)) all))

  -- So all stands well and no block is used twice, where what is given does so and uses none.
  pub placed_after : (keys_map : KeyMap) (file id first last from : ℕ) (keys : List Key) (stretches : List Stretch) (given : List Change) → IsKeyMap keys_map → All (λ (entry : Pos × Value). HavePlaces entry.1) keys_map.extents → AreLookedAt keys_map file first last keys
      → RiseFrom from stretches → AreBlocksPlaced keys_map nodes layout → ((change : Change) → Has change given → IfSome change.value Well)
      → ((place : Place) → uses place (used_places keys_map) + of_changes place given ≤ 1) → AreBlocksPlaced (with_updates (updates_of file id (cut_all id stretches keys ++ given)) keys_map) nodes layout
  placed_after keys_map file id first last from keys stretches given is fit looked rise placed well few = record {
    placed = all-of (HasWellPlaced nodes layout) (with_updates (updates_of file id (cut_all id stretches keys ++ given)) keys_map).extents
        (λ e has. all-member Well e.1 (values_of (with_updates (updates_of file id (cut_all id stretches keys ++ given)) keys_map).extents) after (map-has (λ (e : Pos × Value). e.1) e (with_updates (updates_of file id (cut_all id stretches keys ++ given)) keys_map).extents has));
    blocks = λ place. let more = used-few place keys_map is file id first last from keys stretches given looked rise fits in let most = few place in omega (arith, more, most);
    nodes_placed = placed.nodes_placed;
  }
    where
      fits : (e : Pos × Value) → Has e keys_map.extents → HavePlaces e.1
      fits e has = all-member (λ (entry : Pos × Value). HavePlaces entry.1) e keys_map.extents fit has

      cut : (change : Change) → Has change (cut_all id stretches keys) → IfSome change.value Well
      cut change has =
          let it = cut_all-has id stretches keys change has in
          let there = (looked_at keys_map file first last id keys it.0 it.1.0 is looked it.1.1.0).1 in
          cut_value-well stretches from it.0 it.1.0 change rise (fits (record { inode = file; offset = it.0; snapshot = id }, it.1.0) there)
          (all-member (HasWellPlaced nodes layout) (record { inode = file; offset = it.0; snapshot = id }, it.1.0) keys_map.extents placed.placed there) it.1.1.1

      each : (x : ℕ × Option Value) → Has x (collected [] (cut_all id stretches keys ++ given)) → IfSome x.1 Well
      each x has =
          let it = collected-has (cut_all id stretches keys ++ given) x has in
          subst (λ (y : ℕ × Option Value). IfSome y.1 Well) (sym it.1.1) (⊎_elim (cut it.0) (well it.0) (has-append it.0 (cut_all id stretches keys) given it.1.0))

      after : All Well (values_of (with_updates (updates_of file id (cut_all id stretches keys ++ given)) keys_map).extents)
      after = well-after file id (collected [] (cut_all id stretches keys ++ given)) keys_map each (All-map Well (λ (e : Pos × Value). e.1) keys_map.extents placed.placed)

  -- What fresh keys give,
  fresh_uses : (place : Place) (fresh : List Key) → of_changes place (map change_of fresh) ≡ uses place (places_in fresh)
  fresh_uses place [] = refl
  fresh_uses place (key ∷ keys) = (λ i. here key.value i + fresh_uses place keys i) ∙ sym (uses-append place (places_maybe key.value) (places_in keys))
    where
      here : (value : Option Value) → of_maybe place value ≡ uses place (places_maybe value)
      here None = refl
      here (Some value) = refl

  pub fresh_placed : (keys_map : KeyMap) (file id first last : ℕ) (keys fresh : List Key) → IsKeyMap keys_map → All (λ (entry : Pos × Value). HavePlaces entry.1) keys_map.extents → AreFreshWithin file id first last fresh → AreLookedAt keys_map file first last keys
      → AreBlocksPlaced keys_map nodes layout → MayBePlaced keys_map nodes layout fresh → AreBlocksPlaced (with_updates (updates_of file id (cut_all id (map stretch_of fresh) keys ++ map change_of fresh)) keys_map) nodes layout
  fresh_placed keys_map file id first last keys fresh is fit are looked placed may = placed_after keys_map file id first last first keys (map stretch_of fresh) (map change_of fresh) is fit looked (fresh_rise file id first fresh are.fresh) placed
      (λ change has. let from = has-map change_of change fresh has in
      subst (λ (c : Change). IfSome c.value Well) (sym from.1.1) (all-member (λ (key : Key). IfSome key.value Well) from.0 fresh may.placed from.1.0))
      (λ place. let most = may.blocks place in let split = uses-append place (used_places keys_map) (places_in fresh) in let same = fresh_uses place fresh in omega (arith, most, split, same))

  -- and holes, which use nothing.
  holes_use : (place : Place) (parts : List Stretch) → of_changes place (map hole_of parts) ≡ 0
  holes_use place [] = refl
  holes_use place (part ∷ parts) = let rest = holes_use place parts in omega (arith, rest)

  holes-use : (place : Place) (tree : Snaps) (parent : Option ℕ) (w : Stretch) (keys : List Key) → of_changes place (holes_to_hide tree parent w keys) ≡ 0
  holes-use place tree None w keys = refl
  holes-use place tree (Some parent) w keys = holes_use place (swept tree parent w keys)

  holes-well : (tree : Snaps) (parent : Option ℕ) (w : Stretch) (keys : List Key) (change : Change) → Has change (holes_to_hide tree parent w keys) → IfSome change.value Well
  holes-well tree None w keys change has = elim has [ ]
  holes-well tree (Some parent) w keys change has = let from = has-map hole_of change (swept tree parent w keys) has in
      subst (λ (c : Change). IfSome c.value Well) (sym from.1.1) (All-nil (IsWellPlaced nodes layout (min (from.0.end - from.0.first) 4294967295)))

  pub holes_placed : (tree : Snaps) (parent : Option ℕ) (keys_map : KeyMap) (file id first last : ℕ) (w : Stretch) (keys : List Key) → w.first ≤ w.end → IsKeyMap keys_map → All (λ (entry : Pos × Value). HavePlaces entry.1) keys_map.extents → AreLookedAt keys_map file first last keys
      → AreBlocksPlaced keys_map nodes layout → AreBlocksPlaced (with_updates (updates_of file id (cut_all id (w ∷ []) keys ++ holes_to_hide tree parent w keys)) keys_map) nodes layout
  holes_placed tree parent keys_map file id first last w keys forward is fit looked placed = placed_after keys_map file id first last w.first keys (w ∷ []) (holes_to_hide tree parent w keys) is fit looked (omega arith, forward, tt) placed
      (λ change has. holes-well tree parent w keys change has)
      (λ place. let most = placed.blocks place in let none = holes-use place tree parent w keys in omega (arith, most, none))

-- what taking fresh keys over promises of places
abbrev pub PlacesFresh : ℕ → List Key → List Key → List Update → Type 0
PlacesFresh id keys fresh updates = (keys_map : KeyMap) (file first last : ℕ) (nodes : List Place) (layout : Layout) → IsKeyMap keys_map → All (λ (entry : Pos × Value). HavePlaces entry.1) keys_map.extents → AreFreshWithin file id first last fresh
    → AreLookedAt keys_map file first last keys → AreBlocksPlaced keys_map nodes layout → MayBePlaced keys_map nodes layout fresh → AreBlocksPlaced (with_updates updates keys_map) nodes layout

pub fresh_places : (id : ℕ) (keys fresh : List Key) (updates : List Update) → Makes id keys fresh updates → PlacesFresh id keys fresh updates
fresh_places id keys fresh updates makes keys_map file first last nodes layout is fit are looked placed may =
    subst (λ (u : List Update). AreBlocksPlaced (with_updates u keys_map) nodes layout) (sym (makes file first last are)) (fresh_placed nodes layout keys_map file id first last keys fresh is fit are looked placed may)

-- and what punching does
abbrev pub PlacesHoles : ℕ → ℕ → List Key → List Update → Type 0
PlacesHoles first last keys updates = (keys_map : KeyMap) (file : ℕ) (nodes : List Place) (layout : Layout) → IsKeyMap keys_map → All (λ (entry : Pos × Value). HavePlaces entry.1) keys_map.extents
    → AreLookedAt keys_map file first last keys → AreBlocksPlaced keys_map nodes layout → AreBlocksPlaced (with_updates updates keys_map) nodes layout

pub holes_places : (tree : Snaps) (number id first last : ℕ) (w : Stretch) (keys : List Key) (updates : List Update) → updates ≡ holes_for tree number id w keys → w.first ≤ w.end → option_map (λ (key : Key). key.pos.inode) (slice_get keys 0) ≡ Some number
    → PlacesHoles first last keys updates
holes_places tree number id first last w keys updates made forward at keys_map file nodes layout is fit looked placed =
    subst (λ (u : List Update). AreBlocksPlaced (with_updates u keys_map) nodes layout)
    (sym (made ∙ (λ i. holes_for tree (first_file file number keys at (looked_of_file keys_map file first last keys looked) i) id w keys)))
    (holes_placed nodes layout tree (parent_of tree id) keys_map file id first last w keys forward is fit looked placed)
