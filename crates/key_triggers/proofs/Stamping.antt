-- The extents after updates were expanded are those of the plan, with the present generations.
use Rattle.std.proofs.Common.{◌≡◌, ℕ, Bool, true, false, cond, List, [], ◌∷◌, ◌++◌, map, Option, Some, None, refl, sym, ap, ◌∙◌, subst, All}
use Rattle.std.specs.Prelude.{◌&&◌, flat_map, option_map, unwrap_or}
use Rattle.std.specs.BTreeMap.{is_at}
use Rattle.std.specs.List.Sorted.{IsStrictlySortedBy}
use Rattle.std.specs.Map.{keys_of}
use Rattle.std.proofs.lemmas.List.Elements.{All-cons, All-head, All-nil, All-tail}
use Rattle.std.proofs.lemmas.Option.{none-some, same_Some}
use Rattle.key_meaning.specs.Blocks.{blocks_of}
use Rattle.key_meaning.specs.Checks.{HasWellPlaced, IsOfGeneration, IsWellPlaced, places_behind, places_of, pointers_of}
use Rattle.key_triggers.specs.Stamps.{stamped, stamped_pointer, stamped_value}
use Rattle.vol_types.specs.KeyMapLaws.{IsKeyMap-with_update, value_in-with_update}
use Rattle.vol_types.specs.KeyMaps.{Entries, IsKeyMap, KeyMap, is_update_of, value_in, with_update, with_updates}
use Rattle.vol_types.specs.MapLaws.{same_maps}
use Rattle.vol_types.specs.Maps.{IsMap, value_at}
use Rattle.vol_types.specs.PositionLaws.{pos_exact, pos_total}
use Rattle.vol_types.specs.Positions.{pos_cmp}
use Rattle.vol_types.specs.declared.keys.Update.{Update}
use Rattle.vol_types.specs.declared.layout.Layout.{Layout}
use Rattle.vol_types.specs.declared.pointers.Place.{Place}
use Rattle.vol_types.specs.declared.pointers.Pointer.{Pointer}
use Rattle.vol_types.specs.declared.positions.Btree.TheVariants.{Extents}
use Rattle.vol_types.specs.declared.positions.Pos.{Pos}
use Rattle.vol_types.specs.declared.values.Value.{Value}
use Rattle.vol_types.specs.declared.values.Value.TheVariants as values

-- the entry, of whose value each pointer has the present generation
abbrev pub stamped_entry : KeyMap → Pos × Value → Pos × Value
stamped_entry keys entry = (entry.0, stamped_value keys entry.1)

module _ (keys : KeyMap) where
  same_pointer : (pointer : Pointer) → IsOfGeneration keys pointer → stamped_pointer keys pointer ≡ pointer
  same_pointer pointer is = λ i. record { place = pointer.place; generation = (ap (λ (o : Option ℕ). unwrap_or o 0) is) i }

  same_pointers : (pointers : List Pointer) → All (IsOfGeneration keys) pointers → map (stamped_pointer keys) pointers ≡ pointers
  same_pointers [] are = refl
  same_pointers (pointer ∷ pointers) are =
      let first = same_pointer pointer (All-head (IsOfGeneration keys) pointer pointers are) in
      let rest = same_pointers pointers (All-tail (IsOfGeneration keys) pointer pointers are) in
      λ i. first i ∷ rest i

  -- A value of the present generations is as it is.
  same_value : (value : Value) → All (IsOfGeneration keys) (pointers_of value) → stamped_value keys value ≡ value
  same_value (values.Extent extent) are = λ i. values.Extent (record { pointers = same_pointers extent.pointers are i; digests = extent.digests })
  same_value (values.Inode inode) are = refl
  same_value (values.Names links) are = refl
  same_value (values.Hole blocks) are = refl
  same_value values.White are = refl
  same_value (values.Subs subs) are = refl
  same_value (values.Snap snap) are = refl
  same_value (values.Live live) are = refl
  same_value (values.Back extent) are = refl
  same_value values.Gone are = refl
  same_value (values.Counter next) are = refl
  same_value (values.Node node) are = refl

  -- What all values have, the one at a position has.
  pub at_all : (P : Value → Type 0) (entries : Entries) → All (λ entry. P entry.1) entries → (pos : Pos) (value : Value) → value_at pos_cmp pos entries ≡ Some value → P value
  at_all P [] all pos value there = absurd (none-some value there)
  at_all P (entry ∷ entries) all pos value there = by (is_at (pos_cmp pos) entry.0) there (λ is. at_all P entries (All-tail (λ (e : Pos × Value). P e.1) entry entries all) pos value is)
    where
      by : (b : Bool) → cond b (Some entry.1) (value_at pos_cmp pos entries) ≡ Some value → (value_at pos_cmp pos entries ≡ Some value → P value) → P value
      by true is later = subst P (same_Some entry.1 value is) (All-head (λ (e : Pos × Value). P e.1) entry entries all)
      by false is later = later is

  -- What stands there is of the present generations at first.
  pub stamped_first : All (λ entry. All (IsOfGeneration keys) (pointers_of entry.1)) keys.extents → (pos : Pos) → value_in keys Extents pos ≡ option_map (stamped_value keys) (value_in keys Extents pos)
  stamped_first are pos = by (value_in keys Extents pos) refl
    where
      by : (there : Option Value) → value_in keys Extents pos ≡ there → there ≡ option_map (stamped_value keys) there
      by None is = refl
      by (Some value) is = ap Some (sym (same_value value (at_all (λ (v : Value). All (IsOfGeneration keys) (pointers_of v)) keys.extents are pos value is)))

  -- So it is after updates.
  pub stamped_on : (updates : List Update) (new planned : KeyMap) → IsKeyMap new → IsKeyMap planned → ((pos : Pos) → value_in new Extents pos ≡ option_map (stamped_value keys) (value_in planned Extents pos))
      → (pos : Pos) → value_in (with_updates (map (stamped keys) updates) new) Extents pos ≡ option_map (stamped_value keys) (value_in (with_updates updates planned) Extents pos)
  stamped_on [] new planned is map_of same pos = same pos
  stamped_on (update ∷ updates) new planned is map_of same pos =
      stamped_on updates (with_update (stamped keys update) new) (with_update update planned) (IsKeyMap-with_update (stamped keys update) new is) (IsKeyMap-with_update update planned map_of)
      (λ q. value_in-with_update (stamped keys update) new Extents q is ∙ by q (is_update_of Extents update && is_at (pos_cmp update.pos) q) ∙ sym (ap (option_map (stamped_value keys)) (value_in-with_update update planned Extents q map_of))) pos
    where
      by : (q : Pos) (b : Bool) → cond b (option_map (stamped_value keys) update.value) (value_in new Extents q) ≡ option_map (stamped_value keys) (cond b update.value (value_in planned Extents q))
      by q true = refl
      by q false = same q

  value_at-stamped : (entries : Entries) (pos : Pos) → value_at pos_cmp pos (map (stamped_entry keys) entries) ≡ option_map (stamped_value keys) (value_at pos_cmp pos entries)
  value_at-stamped [] pos = refl
  value_at-stamped (entry ∷ entries) pos = ap (λ (o : Option Value). cond (is_at (pos_cmp pos) entry.0) (Some (stamped_value keys entry.1)) o) (value_at-stamped entries pos) ∙ by (is_at (pos_cmp pos) entry.0)
    where
      by : (b : Bool) → cond b (Some (stamped_value keys entry.1)) (option_map (stamped_value keys) (value_at pos_cmp pos entries)) ≡ option_map (stamped_value keys) (cond b (Some entry.1) (value_at pos_cmp pos entries))
      by true = refl
      by false = refl

  keys_of-stamped : (entries : Entries) → keys_of (map (stamped_entry keys) entries) ≡ keys_of entries
  keys_of-stamped [] = refl
  keys_of-stamped (entry ∷ entries) = ap (λ ks. entry.0 ∷ ks) (keys_of-stamped entries)

  -- The entries are those of the plan, stamped.
  pub stamped_entries : (entries planned : Entries) → IsMap pos_cmp entries → IsMap pos_cmp planned → ((pos : Pos) → value_at pos_cmp pos entries ≡ option_map (stamped_value keys) (value_at pos_cmp pos planned)) → entries ≡ map (stamped_entry keys) planned
  stamped_entries entries planned is map_of same =
      same_maps pos_total pos_exact entries (map (stamped_entry keys) planned) is (subst (IsStrictlySortedBy pos_cmp) (sym (keys_of-stamped planned)) map_of) (λ pos. same pos ∙ sym (value_at-stamped planned pos))

  behind-stamped : (blocks : ℕ) (pointers : List Pointer) → flat_map (places_behind blocks) (map (stamped_pointer keys) pointers) ≡ flat_map (places_behind blocks) pointers
  behind-stamped blocks [] = refl
  behind-stamped blocks (pointer ∷ pointers) = ap (λ ps. places_behind blocks pointer ++ ps) (behind-stamped blocks pointers)

  -- A stamped value uses the same places.
  pub places-stamped : (value : Value) → places_of (stamped_value keys value) ≡ places_of value
  places-stamped (values.Extent extent) = behind-stamped (blocks_of (values.Extent extent)) extent.pointers
  places-stamped (values.Inode inode) = refl
  places-stamped (values.Names links) = refl
  places-stamped (values.Hole blocks) = refl
  places-stamped values.White = refl
  places-stamped (values.Subs subs) = refl
  places-stamped (values.Snap snap) = refl
  places-stamped (values.Live live) = refl
  places-stamped (values.Back extent) = refl
  places-stamped values.Gone = refl
  places-stamped (values.Counter next) = refl
  places-stamped (values.Node node) = refl

  -- So all do.
  pub used-stamped : (entries : Entries) → flat_map (λ (entry : Pos × Value). places_of entry.1) (map (stamped_entry keys) entries) ≡ flat_map (λ (entry : Pos × Value). places_of entry.1) entries
  used-stamped [] = refl
  used-stamped (entry ∷ entries) = ap (λ ps. ps ++ flat_map (λ (e : Pos × Value). places_of e.1) (map (stamped_entry keys) entries)) (places-stamped entry.1) ∙ ap (λ ps. places_of entry.1 ++ ps) (used-stamped entries)

  -- The pointers of a stamped value are stamped.
  pub pointers-stamped : (value : Value) → pointers_of (stamped_value keys value) ≡ map (stamped_pointer keys) (pointers_of value)
  pointers-stamped (values.Extent extent) = refl
  pointers-stamped (values.Inode inode) = refl
  pointers-stamped (values.Names links) = refl
  pointers-stamped (values.Hole blocks) = refl
  pointers-stamped values.White = refl
  pointers-stamped (values.Subs subs) = refl
  pointers-stamped (values.Snap snap) = refl
  pointers-stamped (values.Live live) = refl
  pointers-stamped (values.Back extent) = refl
  pointers-stamped values.Gone = refl
  pointers-stamped (values.Counter next) = refl
  pointers-stamped (values.Node node) = refl

  blocks-stamped : (value : Value) → blocks_of (stamped_value keys value) ≡ blocks_of value
  blocks-stamped (values.Extent extent) = refl
  blocks-stamped (values.Inode inode) = refl
  blocks-stamped (values.Names links) = refl
  blocks-stamped (values.Hole blocks) = refl
  blocks-stamped values.White = refl
  blocks-stamped (values.Subs subs) = refl
  blocks-stamped (values.Snap snap) = refl
  blocks-stamped (values.Live live) = refl
  blocks-stamped (values.Back extent) = refl
  blocks-stamped values.Gone = refl
  blocks-stamped (values.Counter next) = refl
  blocks-stamped (values.Node node) = refl

  placed_pointers : (nodes : List Place) (layout : Layout) (blocks : ℕ) (pointers : List Pointer) → All (IsWellPlaced nodes layout blocks) pointers → All (IsWellPlaced nodes layout blocks) (map (stamped_pointer keys) pointers)
  placed_pointers nodes layout blocks [] placed = All-nil (IsWellPlaced nodes layout blocks)
  placed_pointers nodes layout blocks (pointer ∷ pointers) placed =
      let one = All-head (IsWellPlaced nodes layout blocks) pointer pointers placed in
      All-cons (IsWellPlaced nodes layout blocks) (stamped_pointer keys pointer) (map (stamped_pointer keys) pointers) (record { one_bucket = one.one_bucket; on_device = one.on_device; for_users = one.for_users; for_no_node = one.for_no_node })
      (placed_pointers nodes layout blocks pointers (All-tail (IsWellPlaced nodes layout blocks) pointer pointers placed))

  -- Stamped entries lie where they did.
  pub placed-stamped : (nodes : List Place) (layout : Layout) (entries : Entries) → All (HasWellPlaced nodes layout) entries → All (HasWellPlaced nodes layout) (map (stamped_entry keys) entries)
  placed-stamped nodes layout [] placed = All-nil (HasWellPlaced nodes layout)
  placed-stamped nodes layout (entry ∷ entries) placed =
      All-cons (HasWellPlaced nodes layout) (stamped_entry keys entry) (map (stamped_entry keys) entries)
      (subst (λ (ps : List Pointer). All (IsWellPlaced nodes layout (blocks_of (stamped_value keys entry.1))) ps) (sym (pointers-stamped entry.1))
      (subst (λ n. All (IsWellPlaced nodes layout n) (map (stamped_pointer keys) (pointers_of entry.1))) (sym (blocks-stamped entry.1))
      (placed_pointers nodes layout (blocks_of entry.1) (pointers_of entry.1) (All-head (HasWellPlaced nodes layout) entry entries placed))))
      (placed-stamped nodes layout entries (All-tail (HasWellPlaced nodes layout) entry entries placed))
