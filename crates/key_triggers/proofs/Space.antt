-- After updates were expanded the keys on space are the inverse of the extents again.
use Rattle.std.proofs.Common.{◌≡◌, ◌≢◌, ℕ, ◌+◌, ◌-◌, ◌^◌, ◌≤◌, Bool, true, false, cond, min, List, [], ◌∷◌, ◌++◌, map, Option, Some, None, refl, sym, ap, ◌∙◌, subst, arith, All, ⊎_elim, inl, inr}
use Rattle.std.specs.Prelude.{◌==◌, ◌&&◌, ◌||◌, ◌↔◌, ◌/◌, count_by, flat_map, is_some, nat_lt, option_map, unwrap_or}
use Rattle.std.specs.BTreeMap.{is_at}
use Rattle.std.specs.List.{list_any}
use Rattle.std.proofs.lemmas.Bool.{false≢true, ne_eqb}
use Rattle.std.proofs.lemmas.List.Elements.{All-cons, All-nil, All-weaker}
use Rattle.std.proofs.lemmas.Option.{none-some, same_Some}
use Rattle.key_meaning.specs.Blocks.{blocks_of}
use Rattle.key_meaning.specs.Checks.{AreBlocksPlaced, HasWellPlaced, IsOfGeneration, is_place, back_in, back_of, count_in_bucket, has_pointer_at, live_blocks, live_in, places_of, pointers_of, used_places}
use Rattle.key_meaning.specs.Tidy.{IsKeyOf}
use Rattle.key_meaning.specs.SoundLaws.{IsIn, all_in}
use Rattle.key_triggers.specs.Changes.{values_after, values_before}
use Rattle.key_triggers.specs.Expanding.{expanded, owners_of, tallies_of}
use Rattle.key_triggers.specs.Follows.{IsNoSpaceUpdate, MayFollow, generation_in}
use Rattle.key_triggers.specs.Positions.{bucket_pos}
use Rattle.key_triggers.specs.Owners.{left_by, owner_update}
use Rattle.key_triggers.specs.Stamps.{stamped, stamped_pointer, stamped_value}
use Rattle.key_triggers.specs.Tallies.{live_update}
use Rattle.key_triggers.proofs.Changing.{AreChanges}
use Rattle.key_triggers.proofs.Emitted.{emitted_elsewhere, emitted_here, put_by}
use Rattle.key_triggers.proofs.Counting.{same_pos, used, used_by}
use Rattle.key_triggers.proofs.Following.{blocks_new, bucket_value, changes, generations_new, others_stay, planned_map, stamps_apart, used_after}
use Rattle.key_triggers.proofs.Owning.{any_at, any_begins, held_none, held_some, left_at, one_begins, owners_map}
use Rattle.key_triggers.proofs.Placing.{pos_of}
use Rattle.key_triggers.proofs.Stamping.{at_all, pointers-stamped, placed-stamped, stamped_entries, stamped_entry, stamped_first, stamped_on, used-stamped}
use Rattle.key_triggers.proofs.Sums.{at_itself, found_at, total}
use Rattle.vol_types.specs.KeyMapLaws.{IsKeyMap-with_updates, with_updates-append}
use Rattle.vol_types.specs.Ranges.{IsValue}
use Rattle.vol_types.specs.KeyMaps.{Entries, IsKeyMap, KeyMap, is_update_of, value_in, with_updates}
use Rattle.vol_types.specs.Maps.{value_at}
use Rattle.vol_types.specs.Positions.{pos_cmp}
use Rattle.vol_types.specs.declared.keys.Update.{Update}
use Rattle.vol_types.specs.declared.layout.Layout.{Layout}
use Rattle.vol_types.specs.declared.pointers.Place.{Place}
use Rattle.vol_types.specs.declared.pointers.Pointer.{Pointer}
use Rattle.vol_types.specs.declared.positions.Btree.TheVariants.{Extents, Alloc, Backptrs}
use Rattle.vol_types.specs.declared.positions.Pos.{Pos}
use Rattle.vol_types.specs.declared.values.Live.{Live}
use Rattle.vol_types.specs.declared.values.Value.{Value}
use Rattle.vol_types.specs.declared.values.Value.TheVariants as values

-- Two options are both there or both not.
none_both : {X : Type 0} (one other : Option X) → is_some one ≡ is_some other → other ≡ None → one ≡ None
none_both None other same none = refl
none_both (Some x) other same none = absurd (false≢true (sym (same ∙ ap (λ o. is_some o) none)))

-- A value that is at a position is one of the values.
of_value : (dev block : ℕ) (value : Option Value) → has_pointer_at dev block value ≡ true → (v : Value) × (value ≡ Some v)
of_value dev block None has = absurd (false≢true has)
of_value dev block (Some v) has = (v, refl)

-- A value with a pointer is an extent, which has a block.
in_range_blocks : (value : Value) → IsValue value → pointers_of value ≢ [] → 1 ≤ blocks_of value
in_range_blocks (values.Extent extent) is some = is.blocks.0
in_range_blocks (values.Inode inode) is some = absurd (some refl)
in_range_blocks (values.Names links) is some = absurd (some refl)
in_range_blocks (values.Hole blocks) is some = absurd (some refl)
in_range_blocks values.White is some = absurd (some refl)
in_range_blocks (values.Subs subs) is some = absurd (some refl)
in_range_blocks (values.Snap snap) is some = absurd (some refl)
in_range_blocks (values.Live live) is some = absurd (some refl)
in_range_blocks (values.Back extent) is some = absurd (some refl)
in_range_blocks values.Gone is some = absurd (some refl)
in_range_blocks (values.Counter next) is some = absurd (some refl)
in_range_blocks (values.Node node) is some = absurd (some refl)

has_some : (dev block : ℕ) (value : Value) → has_pointer_at dev block (Some value) ≡ true → pointers_of value ≢ []
has_some dev block value has none = false≢true (sym (ap (list_any (λ pointer. pointer.place.dev == dev && pointer.place.block == block)) none) ∙ has)

in_some : (pointer : Pointer) (pointers : List Pointer) → IsIn pointer pointers → pointers ≢ []
in_some pointer pointers is none = subst (IsIn pointer) none is

-- A pointer's blocks count in its bucket,
in_used : (pointer : Pointer) (blocks : ℕ) (pointers : List Pointer) → IsIn pointer pointers → blocks ≤ used_by (bucket_pos pointer.place) blocks pointers
in_used pointer blocks [] is = absurd is
in_used pointer blocks (first ∷ pointers) is = ⊎_elim
    (λ (same : pointer ≡ first).
    let here : is_at (pos_cmp (bucket_pos first.place)) (bucket_pos pointer.place) ≡ true = ap (λ (p : Pointer). is_at (pos_cmp (bucket_pos first.place)) (bucket_pos p.place)) same ∙ at_itself (bucket_pos first.place) in
    omega (arith, ap (λ b. cond {A = ℕ} b blocks 0) here))
    (λ (later : IsIn pointer pointers). let rest = in_used pointer blocks pointers later in omega (arith, rest))
    is

-- and a value's among those of all.
in_total : (count : Value → ℕ) (entry : Pos × Value) (entries : Entries) → IsIn entry entries → count entry.1 ≤ total count entries
in_total count entry [] is = absurd is
in_total count entry (first ∷ entries) is = ⊎_elim
    (λ (same : entry ≡ first). omega (arith, ap (λ (e : Pos × Value). count e.1) same))
    (λ (later : IsIn entry entries). let rest = in_total count entry entries later in omega (arith, rest))
    is

-- What holds of each member when it was changed holds of all changed ones.
all_changed : {X Y : Type 0} (P : Y → Type 0) (change : X → Y) (xs : List X) → ((x : X) → IsIn x xs → P (change x)) → All P (map change xs)
all_changed P change [] each = All-nil P
all_changed P change (x ∷ xs) each = All-cons P (change x) (map change xs) (each x (inl refl)) (all_changed P change xs (λ y is. each y (inr is)))

module _ (keys : KeyMap) (updates : List Update) (nodes : List Place) (layout : Layout) (may : MayFollow keys updates nodes layout) where
  -- What stands at an extent's position after all updates.
  pub extent_at : (pos : Pos) → value_in (with_updates (expanded keys updates) keys) Extents pos ≡ option_map (stamped_value keys) (value_in (with_updates updates keys) Extents pos)
  extent_at pos =
      ap (λ (k : KeyMap). value_in k Extents pos) (with_updates-append (map (stamped keys) updates ++ map (live_update keys) (tallies_of keys updates)) (map owner_update (owners_of keys updates)) keys)
      ∙ emitted_elsewhere Backptrs (λ p owner. option_map values.Back owner) (owners_of keys updates) (with_updates (map (stamped keys) updates ++ map (live_update keys) (tallies_of keys updates)) keys)
      (IsKeyMap-with_updates (map (stamped keys) updates ++ map (live_update keys) (tallies_of keys updates)) keys may.is_map) Extents pos refl
      ∙ ap (λ (k : KeyMap). value_in k Extents pos) (with_updates-append (map (stamped keys) updates) (map (live_update keys) (tallies_of keys updates)) keys)
      ∙ emitted_elsewhere Alloc (bucket_value keys) (tallies_of keys updates) (with_updates (map (stamped keys) updates) keys) (IsKeyMap-with_updates (map (stamped keys) updates) keys may.is_map) Extents pos refl
      ∙ stamped_on keys updates keys keys may.is_map may.is_map (stamped_first keys may.counted.generations) pos

  new_map : IsKeyMap (with_updates (expanded keys updates) keys)
  new_map = IsKeyMap-with_updates (expanded keys updates) keys may.is_map

  extents_new : (with_updates (expanded keys updates) keys).extents ≡ map (stamped_entry keys) (with_updates updates keys).extents
  extents_new = stamped_entries keys (with_updates (expanded keys updates) keys).extents (with_updates updates keys).extents (new_map.rises Extents) ((planned_map keys updates nodes layout may).rises Extents) extent_at

  used_same : used_places (with_updates (expanded keys updates) keys) ≡ used_places (with_updates updates keys)
  used_same = ap (flat_map (λ (entry : Pos × Value). places_of entry.1)) extents_new ∙ used-stamped keys (with_updates updates keys).extents

  -- Each bucket's key says how many of its blocks are used.
  pub blocks_counted : (dev bucket : ℕ) → live_blocks (with_updates (expanded keys updates) keys) dev bucket ≡ count_in_bucket (used_places (with_updates (expanded keys updates) keys)) dev bucket
  blocks_counted dev bucket = blocks_new keys updates nodes layout may dev bucket ∙ sym (ap (λ ps. count_in_bucket ps dev bucket) used_same)

  -- The blocks lie where the plan has them.
  pub blocks_placed : AreBlocksPlaced (with_updates (expanded keys updates) keys) nodes layout
  blocks_placed = record {
    placed = subst (All (HasWellPlaced nodes layout)) (sym extents_new) (placed-stamped keys nodes layout (with_updates updates keys).extents may.planned.placed);
    blocks = λ place. subst (λ (ps : List Place). count_by (is_place place) ps ≤ 1) (sym used_same) (may.planned.blocks place);
    nodes_placed = may.planned.nodes_placed;
  }

  -- What stands at a block's position after all updates.
  block_at : (block : Pos) → value_in (with_updates (expanded keys updates) keys) Backptrs block ≡ put_by (λ p owner. option_map values.Back owner) block (value_at pos_cmp block (owners_of keys updates)) (value_in keys Backptrs block)
  block_at block =
      ap (λ (k : KeyMap). value_in k Backptrs block) (with_updates-append (map (stamped keys) updates ++ map (live_update keys) (tallies_of keys updates)) (map owner_update (owners_of keys updates)) keys)
      ∙ emitted_here Backptrs (λ p owner. option_map values.Back owner) same_pos refl (owners_of keys updates) (with_updates (map (stamped keys) updates ++ map (live_update keys) (tallies_of keys updates)) keys)
      (IsKeyMap-with_updates (map (stamped keys) updates ++ map (live_update keys) (tallies_of keys updates)) keys may.is_map) (owners_map keys updates) block
      ∙ ap (put_by (λ p owner. option_map values.Back owner) block (value_at pos_cmp block (owners_of keys updates)))
      (ap (λ (k : KeyMap). value_in k Backptrs block) (with_updates-append (map (stamped keys) updates) (map (live_update keys) (tallies_of keys updates)) keys)
      ∙ emitted_elsewhere Alloc (bucket_value keys) (tallies_of keys updates) (with_updates (map (stamped keys) updates) keys) (IsKeyMap-with_updates (map (stamped keys) updates) keys may.is_map) Backptrs block refl
      ∙ others_stay Backptrs (map (stamped keys) updates) keys may.is_map (stamps_apart keys Backptrs updates (All-weaker IsNoSpaceUpdate (λ update. is_update_of Backptrs update ≡ false) (λ update apart. apart.block) updates may.apart)) block)

  module _ (dev block : ℕ) where
    back_by : (there : Option (Option Pos)) → value_at pos_cmp (pos_of dev block) (owners_of keys updates) ≡ there
        → back_in (with_updates (expanded keys updates) keys) dev block ≡ back_of (put_by (λ p owner. option_map values.Back owner) (pos_of dev block) there (value_in keys Backptrs (pos_of dev block)))
    back_by there is = ap back_of (block_at (pos_of dev block) ∙ ap (λ (o : Option (Option Pos)). put_by (λ p owner. option_map values.Back owner) (pos_of dev block) o (value_in keys Backptrs (pos_of dev block))) is)

    -- Whether a pointer begins at a block hangs on no generation.
    begins_same : (value : Option Value) → has_pointer_at dev block (option_map (stamped_value keys) value) ≡ has_pointer_at dev block value
    begins_same None = refl
    begins_same (Some value) = ap (list_any (λ pointer. pointer.place.dev == dev && pointer.place.block == block)) (pointers-stamped keys value) ∙ stamps_begin (pointers_of value)
      where
        stamps_begin : (pointers : List Pointer) → list_any (λ pointer. pointer.place.dev == dev && pointer.place.block == block) (map (stamped_pointer keys) pointers) ≡ list_any (λ pointer. pointer.place.dev == dev && pointer.place.block == block) pointers
        stamps_begin [] = refl
        stamps_begin (pointer ∷ pointers) = ap (λ b. (pointer.place.dev == dev && pointer.place.block == block) || b) (stamps_begin pointers)

    -- the plan has a pointer there from an extent at a position
    abbrev plans : Pos → Type 0
    plans pos = has_pointer_at dev block (value_in (with_updates updates keys) Extents pos) ≡ true

    -- A position that isn't changed has what it had.
    unchanged_at : any_begins dev block (values_after updates []) ≡ false → (pos : Pos) → plans pos → (value_at pos_cmp pos (values_after updates []) ≡ None) × (has_pointer_at dev block (value_in keys Extents pos) ≡ true)
    unchanged_at none pos has = by (value_at pos_cmp pos (values_after updates [])) refl
      where
        all : AreChanges keys (with_updates updates keys) (values_before keys updates []) (values_after updates [])
        all = changes keys updates nodes layout may

        by : (there : Option (Option Value)) → value_at pos_cmp pos (values_after updates []) ≡ there → (value_at pos_cmp pos (values_after updates []) ≡ None) × (has_pointer_at dev block (value_in keys Extents pos) ≡ true)
        by None is = (is, ap (has_pointer_at dev block) (sym (all.stays pos is)) ∙ has)
        by (Some value) is = absurd (false≢true (sym none ∙ any_at dev block (values_after updates []) pos value is (ap (has_pointer_at dev block) (sym (all.is pos value is)) ∙ has)))

    -- An extent of the plan has a block.
    some_blocks : (pos : Pos) (value : Value) → value_in (with_updates updates keys) Extents pos ≡ Some value → has_pointer_at dev block (Some value) ≡ true → 1 ≤ blocks_of value
    some_blocks pos value there has = in_range_blocks value (at_all keys IsValue (with_updates updates keys).extents
        (All-weaker (IsKeyOf (with_updates updates keys) Extents) (λ (entry : Pos × Value). IsValue entry.1) (λ entry key. key.in_range) (with_updates updates keys).extents (may.drawn.each Extents)) pos value there) (has_some dev block value has)

    -- Two positions of the plan with a pointer there are one.
    one_plan : (p q : Pos) → plans p → plans q → p ≡ q
    one_plan p q has too =
        let one = of_value dev block (value_in (with_updates updates keys) Extents p) has in
        let other = of_value dev block (value_in (with_updates updates keys) Extents q) too in
        let here : has_pointer_at dev block (Some one.0) ≡ true = sym (ap (has_pointer_at dev block) one.1) ∙ has in
        let there : has_pointer_at dev block (Some other.0) ≡ true = sym (ap (has_pointer_at dev block) other.1) ∙ too in
        one_begins dev block (with_updates updates keys).extents ((planned_map keys updates nodes layout may).rises Extents) may.planned.blocks p q one.0 other.0 one.1 other.1
        (some_blocks p one.0 one.1 here) (some_blocks q other.0 other.1 there) here there

    module _ (extent : Pos) where
      all_changes : AreChanges keys (with_updates updates keys) (values_before keys updates []) (values_after updates [])
      all_changes = changes keys updates nodes layout may

      keys_lead : has_pointer_at dev block (value_in keys Extents extent) ≡ true → back_in keys dev block ≡ Some extent
      keys_lead = (may.counted.back dev block extent).1

      -- Where a new extent begins at the block, the block leads to it.
      led_by_new : any_begins dev block (values_after updates []) ≡ true → (back_in (with_updates (expanded keys updates) keys) dev block ≡ Some extent) ↔ plans extent
      led_by_new some =
          let held = held_some dev block (values_after updates []) (left_by (values_before keys updates []) []) some in
          let back : back_in (with_updates (expanded keys updates) keys) dev block ≡ Some held.entry.0 = back_by (Some (Some held.entry.0)) held.owner in
          let has : plans held.entry.0 = ap (has_pointer_at dev block) (all_changes.is held.entry.0 held.entry.1 (found_at held.entry (values_after updates []) all_changes.after_map held.member)) ∙ held.here in
          (λ is. subst plans (same_Some held.entry.0 extent (sym back ∙ is)) has, λ too. back ∙ ap Some (one_plan held.entry.0 extent has too))

      -- Where an old one did and no new one does, it leads nowhere.
      led_nowhere : any_begins dev block (values_after updates []) ≡ false → any_begins dev block (values_before keys updates []) ≡ true → (back_in (with_updates (expanded keys updates) keys) dev block ≡ Some extent) ↔ plans extent
      led_nowhere none some =
          let owner : value_at pos_cmp (pos_of dev block) (owners_of keys updates) ≡ Some None =
          held_none dev block (values_after updates []) (left_by (values_before keys updates []) []) none ∙ left_at dev block (values_before keys updates []) [] ∙ ap (λ b. cond {A = Option (Option Pos)} b (Some None) None) some in
          let back : back_in (with_updates (expanded keys updates) keys) dev block ≡ None = back_by (Some None) owner in
          let held = held_some dev block (values_before keys updates []) [] some in
          let there = found_at held.entry (values_before keys updates []) all_changes.before_map held.member in
          let old : back_in keys dev block ≡ Some held.entry.0 = (may.counted.back dev block held.entry.0).1 (ap (has_pointer_at dev block) (all_changes.was held.entry.0 held.entry.1 there) ∙ held.here) in (
            λ is. absurd (none-some extent (sym back ∙ is)),
            λ has.
                let still = unchanged_at none extent has in
                let same : held.entry.0 ≡ extent = same_Some held.entry.0 extent (sym old ∙ keys_lead still.1) in
                let gone : value_at pos_cmp extent (values_before keys updates []) ≡ None = none_both (value_at pos_cmp extent (values_before keys updates [])) (value_at pos_cmp extent (values_after updates [])) (all_changes.same extent) still.0 in
                absurd (none-some held.entry.1 (sym gone ∙ ap (λ (p : Pos). value_at pos_cmp p (values_before keys updates [])) (sym same) ∙ there)),
          )

      -- Else it leads where it did.
      led_still : any_begins dev block (values_after updates []) ≡ false → any_begins dev block (values_before keys updates []) ≡ false → (back_in (with_updates (expanded keys updates) keys) dev block ≡ Some extent) ↔ plans extent
      led_still none nor =
          let owner : value_at pos_cmp (pos_of dev block) (owners_of keys updates) ≡ None =
          held_none dev block (values_after updates []) (left_by (values_before keys updates []) []) none ∙ left_at dev block (values_before keys updates []) [] ∙ ap (λ b. cond {A = Option (Option Pos)} b (Some None) None) nor in
          let back : back_in (with_updates (expanded keys updates) keys) dev block ≡ back_in keys dev block = back_by None owner in (
            λ is. by ((may.counted.back dev block extent).0 (sym back ∙ is)) (value_at pos_cmp extent (values_after updates [])) refl,
            λ has. back ∙ keys_lead (unchanged_at none extent has).1,
          )
        where
          was : has_pointer_at dev block (value_in keys Extents extent) ≡ true → (there : Option (Option Value)) → value_at pos_cmp extent (values_before keys updates []) ≡ there → is_some there ≡ true → ⊥
          was has None is some = false≢true some
          was has (Some value) is some = false≢true (sym nor ∙ any_at dev block (values_before keys updates []) extent value is (ap (has_pointer_at dev block) (sym (all_changes.was extent value is)) ∙ has))

          by : has_pointer_at dev block (value_in keys Extents extent) ≡ true → (there : Option (Option Value)) → value_at pos_cmp extent (values_after updates []) ≡ there → plans extent
          by has None is = ap (has_pointer_at dev block) (all_changes.stays extent is) ∙ has
          by has (Some value) is = absurd (was has (value_at pos_cmp extent (values_before keys updates [])) refl (all_changes.same extent ∙ ap (λ (o : Option (Option Value)). is_some o) is))

      led : (s t : Bool) → any_begins dev block (values_after updates []) ≡ s → any_begins dev block (values_before keys updates []) ≡ t → (back_in (with_updates (expanded keys updates) keys) dev block ≡ Some extent) ↔ plans extent
      led true t is was = led_by_new is
      led false true is was = led_nowhere is was
      led false false is was = led_still is was

      -- The key of a block leads to the extent of which a copy begins there.
      pub back_new : (back_in (with_updates (expanded keys updates) keys) dev block ≡ Some extent) ↔ (has_pointer_at dev block (value_in (with_updates (expanded keys updates) keys) Extents extent) ≡ true)
      back_new =
          let same : has_pointer_at dev block (value_in (with_updates (expanded keys updates) keys) Extents extent) ≡ has_pointer_at dev block (value_in (with_updates updates keys) Extents extent) =
          ap (has_pointer_at dev block) (extent_at extent) ∙ begins_same (value_in (with_updates updates keys) Extents extent) in
          let both = led (any_begins dev block (values_after updates [])) (any_begins dev block (values_before keys updates [])) refl refl in
          (λ is. same ∙ both.0 is, λ has. both.1 (sym same ∙ has))

  -- A pointer of a stamped extent has the generation of its bucket.
  of_generation : (entry : Pos × Value) → IsIn entry (with_updates updates keys).extents → (pointer : Pointer) → IsIn pointer (pointers_of entry.1) → IsOfGeneration (with_updates (expanded keys updates) keys) (stamped_pointer keys pointer)
  of_generation entry member pointer begins = by (live_in (with_updates (expanded keys updates) keys) pointer.place.dev (pointer.place.block / 16)) refl
    where
      some : 1 ≤ blocks_of entry.1
      some = in_range_blocks entry.1 (all_in (IsKeyOf (with_updates updates keys) Extents) entry (with_updates updates keys).extents (may.drawn.each Extents) member).in_range (in_some pointer (pointers_of entry.1) begins)

      in_use : 1 ≤ live_blocks (with_updates (expanded keys updates) keys) pointer.place.dev (pointer.place.block / 16)
      in_use = omega (
        arith,
        blocks_new keys updates nodes layout may pointer.place.dev (pointer.place.block / 16),
        used_after keys updates nodes layout may pointer.place.dev (pointer.place.block / 16),
        in_total (used (bucket_pos pointer.place)) entry (with_updates updates keys).extents member,
        in_used pointer (blocks_of entry.1) (pointers_of entry.1) begins,
        some,
      )

      not_empty : (live_blocks (with_updates (expanded keys updates) keys) pointer.place.dev (pointer.place.block / 16) == 0) ≡ false
      not_empty = ne_eqb (live_blocks (with_updates (expanded keys updates) keys) pointer.place.dev (pointer.place.block / 16)) 0 (λ none. omega (arith, none, in_use))

      and_false : (b : Bool) → (b && false) ≡ false
      and_false true = refl
      and_false false = refl

      generation : generation_in (with_updates (expanded keys updates) keys) pointer.place.dev (pointer.place.block / 16) ≡ generation_in keys pointer.place.dev (pointer.place.block / 16)
      generation =
          generations_new keys updates nodes layout may pointer.place.dev (pointer.place.block / 16)
          ∙ ap (λ b. cond {A = ℕ} b (min (generation_in keys pointer.place.dev (pointer.place.block / 16) + 1) (2 ^ 32 - 1)) (generation_in keys pointer.place.dev (pointer.place.block / 16)))
          (ap (λ b. nat_lt 0 (live_blocks keys pointer.place.dev (pointer.place.block / 16)) && b) not_empty ∙ and_false (nat_lt 0 (live_blocks keys pointer.place.dev (pointer.place.block / 16))))

      by : (live : Option Live) → live_in (with_updates (expanded keys updates) keys) pointer.place.dev (pointer.place.block / 16) ≡ live → IsOfGeneration (with_updates (expanded keys updates) keys) (stamped_pointer keys pointer)
      by None is = absurd (omega (arith, in_use, ap (λ (o : Option Live). unwrap_or (option_map (λ (l : Live). l.blocks) o) 0) is))
      by (Some live) is =
          ap (option_map (λ (l : Live). l.generation)) is
          ∙ ap Some (sym (ap (λ (o : Option Live). unwrap_or (option_map (λ (l : Live). l.generation) o) 0) is) ∙ generation)

  -- All pointers do.
  pub generations_all : All (λ (entry : Pos × Value). All (IsOfGeneration (with_updates (expanded keys updates) keys)) (pointers_of entry.1)) (with_updates (expanded keys updates) keys).extents
  generations_all = subst (All (λ (entry : Pos × Value). All (IsOfGeneration (with_updates (expanded keys updates) keys)) (pointers_of entry.1))) (sym extents_new)
      (all_changed (λ (entry : Pos × Value). All (IsOfGeneration (with_updates (expanded keys updates) keys)) (pointers_of entry.1)) (stamped_entry keys) (with_updates updates keys).extents
      (λ entry member. subst (All (IsOfGeneration (with_updates (expanded keys updates) keys))) (sym (pointers-stamped keys entry.1))
      (all_changed (IsOfGeneration (with_updates (expanded keys updates) keys)) (stamped_pointer keys) (pointers_of entry.1) (of_generation entry member))))
