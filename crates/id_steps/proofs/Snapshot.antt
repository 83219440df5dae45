-- Where the leaf of a subvolume is split, and the source and the copy have the new leaves, sound and tidy keys stay so, and mean the
-- forest with the copy.
use Rattle.std.proofs.Common.{◌≡◌, ℕ, ◌+◌, ◌-◌, ◌<◌, ◌≤◌, ◌^◌, Bool, true, false, cond, Option, Some, None, List, [], ◌∷◌, refl, sym, ap, ◌∙◌, subst, arith}
use Rattle.std.specs.Prelude.{◌≢◌, ◌==◌, ◌++◌, All, IsSome, count_by, option_map, unwrap_or}
use Rattle.std.specs.BTreeMap.{is_at}
use Rattle.std.specs.Int.{IsInRange}
use Rattle.std.specs.Option.{option_to_list}
use Rattle.std.specs.Ordering.{is_eq, nat_cmp}
use Rattle.std.proofs.lemmas.Bool.{eq-eqb, eqb-true, ne_eqb, true≢false}
use Rattle.std.proofs.lemmas.Cmp.{nat_list_cmp_total, tied_itself}
use Rattle.std.proofs.lemmas.Map.Lookups.{exact_bytes}
use Rattle.std.proofs.lemmas.Option.{same_Some, none-some as none_some}
use Rattle.id_steps.proofs.Common.{AreAbove, IsGoodIn, above_less, above_other, above_then, count_fails, count_none, count_one, counter_stays, drawn_where, map_same, named_other, named_then, put_twice, subvolumes_put, trees_same}
use Rattle.id_steps.proofs.Growing.{Grows, good_alike, grown_is_kept, grown_space}
use Rattle.id_steps.proofs.Joined.{found_copy, found_old, found_source, split_found, split_joined}
use Rattle.id_steps.proofs.Origins.{split_copy, split_grows, split_origin, split_other, split_source}
use Rattle.id_steps.proofs.Puts.{AreKeysBy, counter_of_none, counter_put, keeps_one, keeps_then, keyed_still, keyed_then, old_names, old_roots, puts_have, snap_of_none, snap_put, subs_of_none, subs_put}
use Rattle.id_steps.proofs.Records.{AreIdPlaces, all_above_counter, drawn_places, places_stay, record_follows}
use Rattle.id_steps.proofs.Slots.{each_found, put_counted, put_found, slot_found, slot_in_range}
use Rattle.id_steps.specs.Changes.{KeepsFiles}
use Rattle.id_steps.specs.Entries.{PutsSub, counter_update, sub_of, subs_update}
use Rattle.id_steps.specs.Ids.{AreJoined}
use Rattle.id_steps.specs.Steps.{copied_to, moved_to, slot_then, snapshot_updates}
use Rattle.key_meaning.specs.Alike.{ShowAlike}
use Rattle.key_meaning.specs.AlikeLaws.{tree_of-alike}
use Rattle.key_meaning.specs.Checks.{AreTreesJoined, DoLeavesMatch, IsLiveLeaf, IsSpaceCounted, count_with_id}
use Rattle.key_meaning.specs.CounterLaws.{entries_other}
use Rattle.key_meaning.specs.Forest.{Read, all_subs, counter_in, forest_in, next_in, sub_named, subs_in, subs_of, tree_named, tree_of}
use Rattle.key_meaning.specs.KeptLaws.{all_from_in}
use Rattle.key_meaning.specs.SameLaws.{same_subs}
use Rattle.key_meaning.specs.SoundLaws.{IsIn, all_in, found_in, ids_tell_apart, sub_named-in}
use Rattle.key_meaning.specs.TableLaws.{same_key}
use Rattle.key_meaning.specs.Tidy.{AreKeysDrawn, AreNamesGood, IsDrawn, id_counter}
use Rattle.key_meaning.specs.UpdateLaws.{counter_in-other, counter_in-put}
use Rattle.key_meaning.specs.Visible.{snaps_of}
use Rattle.key_meaning.specs.VisibleLaws.{snaps_of-with_update}
use Rattle.key_steps.specs.Kept.{DoIdsMatch, IsKept, IsLeafGood}
use Rattle.plain_forest.specs.Forest.{Tree}
use Rattle.plain_forest.specs.Names.{is_good_subvolume_name}
use Rattle.plain_forest.specs.Steps.{numbers_per_client}
use Rattle.snap_tree.specs.ChainLaws.{found_above}
use Rattle.snap_tree.specs.Snaps.{is_live}
use Rattle.snap_tree.specs.Splits.{interior_over, leaf_under, snap_update, split_snaps}
use Rattle.vol_digest.specs.Digests.{slot_of}
use Rattle.vol_types.specs.KeyMapLaws.{IsKeyMap-with_update}
use Rattle.vol_types.specs.KeyMaps.{Entries, IsKeyMap, KeyMap, with_update, with_updates}
use Rattle.vol_types.specs.Maps.{put_at, value_at, with_value}
use Rattle.vol_types.specs.Positions.{pos_cmp}
use Rattle.vol_types.specs.Ranges.{name_cmp}
use Rattle.vol_types.specs.declared.layout.Layout.{Layout}
use Rattle.vol_types.specs.declared.pointers.Place.{Place}
use Rattle.vol_types.specs.declared.positions.Btree.TheVariants.{Subvols}
use Rattle.vol_types.specs.declared.values.Snap.{Snap}
use Rattle.vol_types.specs.declared.values.SnapState.TheVariants.{LiveLeaf}
use Rattle.vol_types.specs.declared.values.Sub.{Sub}

module _ (keys : KeyMap) (nodes : List Place) (layout : Layout) (is : IsKeyMap keys) (kept : IsKept keys nodes layout) (space : IsSpaceCounted keys) (good : All (IsLeafGood keys) (all_subs keys)) (matching : DoLeavesMatch keys)
    (source copy : List ℕ) (sub : Sub) (leaf : Snap) (locked : Bool) (sources copies : List Sub) (found : sub_named keys source ≡ Some sub) (at : value_at nat_cmp sub.id (snaps_of keys) ≡ Some leaf)
    (left : 2 ≤ next_in keys id_counter) (named : is_good_subvolume_name copy ≡ true) (free : sub_named keys copy ≡ None) (small : sub.id < 2 ^ 32)
    (puts_source : PutsSub source (Some (moved_to (next_in keys id_counter) sub)) (subs_in keys (slot_of source)) sources)
    (puts_copy : PutsSub copy (Some (copied_to (next_in keys id_counter - 1) copy locked sub)) (slot_then keys source copy sources) copies) where
  abbrev n : ℕ
  n = next_in keys id_counter

  abbrev over : Snap
  over = interior_over n (n - 1) leaf

  abbrev moved : Sub
  moved = moved_to n sub

  abbrev copied : Sub
  copied = copied_to (n - 1) copy locked sub

  abbrev one : KeyMap
  one = with_update (snap_update sub.id over) keys

  abbrev two : KeyMap
  two = with_update (snap_update n (leaf_under sub.id)) one

  abbrev three : KeyMap
  three = with_update (snap_update (n - 1) (leaf_under sub.id)) two

  abbrev four : KeyMap
  four = with_update (subs_update (slot_of source) sources) three

  abbrev five : KeyMap
  five = with_update (subs_update (slot_of copy) copies) four

  abbrev new : KeyMap
  new = with_update (counter_update id_counter (n - 2)) five

  is_one : IsKeyMap one
  is_one = IsKeyMap-with_update (snap_update sub.id over) keys is

  is_two : IsKeyMap two
  is_two = IsKeyMap-with_update (snap_update n (leaf_under sub.id)) one is_one

  is_three : IsKeyMap three
  is_three = IsKeyMap-with_update (snap_update (n - 1) (leaf_under sub.id)) two is_two

  is_four : IsKeyMap four
  is_four = IsKeyMap-with_update (subs_update (slot_of source) sources) three is_three

  is_five : IsKeyMap five
  is_five = IsKeyMap-with_update (subs_update (slot_of copy) copies) four is_four

  is_new : IsKeyMap new
  is_new = IsKeyMap-with_update (counter_update id_counter (n - 2)) five is_five

  -- The updates of a snapshot make these keys, also where the two slots are one.
  pub snapshot_is : with_updates (snapshot_updates keys sub leaf source copy sources copies) keys ≡ new
  snapshot_is = by (slot_of source == slot_of copy) refl
    where
      by : (b : Bool) → (slot_of source == slot_of copy) ≡ b
          → with_updates (cond b (subs_update (slot_of copy) copies ∷ []) (subs_update (slot_of source) sources ∷ subs_update (slot_of copy) copies ∷ []) ++ counter_update id_counter (n - 2) ∷ []) three ≡ new
      by true same = ap (with_update (counter_update id_counter (n - 2))) (sym (put_twice (slot_of copy) sources copies three is_three) ∙ ap (λ slot. with_update (subs_update (slot_of copy) copies) (with_update (subs_update slot sources) three)) (sym (eqb-true (slot_of source) (slot_of copy) same)))
      by false apart = refl

  is_member : IsIn sub (all_subs keys)
  is_member = (sub_named-in keys source sub found).0

  live : leaf.state ≡ LiveLeaf
  live = let is_leaf = all_in (λ (s : Sub). IsLiveLeaf keys s.id) sub (all_subs keys) kept.ids.subvolumes is_member in
      ap (λ (s : Snap). s.state) (same_Some leaf is_leaf.snap (sym at ∙ is_leaf.found)) ∙ is_leaf.live

  -- the ids of live leaves are above the new ones
  above : (id : ℕ) → IsLiveLeaf keys id → n < id
  above id was = found_above n id (snaps_of keys) was.snap (all_above_counter keys kept.drawn) was.found

  own_above : n < sub.id
  own_above = found_above n sub.id (snaps_of keys) leaf (all_above_counter keys kept.drawn) at

  snaps_new : snaps_of new ≡ split_snaps (snaps_of keys) sub.id n leaf
  snaps_new = snaps_of-with_update (counter_update id_counter (n - 2)) five is_five refl ∙ snaps_of-with_update (subs_update (slot_of copy) copies) four is_four refl ∙ snaps_of-with_update (subs_update (slot_of source) sources) three is_three refl
      ∙ record_follows two (n - 1) (leaf_under sub.id) is_two places_two
      ∙ ap (with_value nat_cmp (n - 1) (leaf_under sub.id)) (record_follows one n (leaf_under sub.id) is_one places_one ∙ ap (with_value nat_cmp n (leaf_under sub.id)) (record_follows keys sub.id over is (drawn_places keys kept.drawn)))
    where
      places_one : AreIdPlaces one
      places_one = places_stay keys sub.id over is (drawn_places keys kept.drawn)

      places_two : AreIdPlaces two
      places_two = places_stay one n (leaf_under sub.id) is_one (places_stay keys sub.id over is (drawn_places keys kept.drawn))

  subvols_three : three.subvols ≡ keys.subvols
  subvols_three = entries_other (snap_update (n - 1) (leaf_under sub.id)) two Subvols refl ∙ entries_other (snap_update n (leaf_under sub.id)) one Subvols refl ∙ entries_other (snap_update sub.id over) keys Subvols refl

  subvols_new : new.subvols ≡ five.subvols
  subvols_new = entries_other (counter_update id_counter (n - 2)) five Subvols refl

  in_slot : (slot : ℕ) → subs_in three slot ≡ subs_in keys slot
  in_slot slot = ap (λ (entries : Entries). subs_of (value_at pos_cmp (record { inode = 0; offset = slot; snapshot = 0 }) entries)) subvols_three

  puts_three : PutsSub source (Some moved) (subs_in three (slot_of source)) sources
  puts_three = subst (λ (subs : List Sub). PutsSub source (Some moved) subs sources) (sym (in_slot (slot_of source))) puts_source

  puts_four : PutsSub copy (Some copied) (subs_in four (slot_of copy)) copies
  puts_four = subst (λ (subs : List Sub). PutsSub copy (Some copied) subs copies) (sym (slot_found three is_three source (Some moved) sources puts_three (slot_of copy) ∙ ap (λ (subs : List Sub). cond (slot_of source == slot_of copy) sources subs) (in_slot (slot_of copy)))) puts_copy

  named_four : (other : List ℕ) → sub_named four other ≡ cond (is_eq (name_cmp source other)) (Some moved) (sub_named keys other)
  named_four other = put_found three is_three source (Some moved) sources puts_three other ∙ ap (λ o. cond (is_eq (name_cmp source other)) (Some moved) o) (ap (sub_of other) (in_slot (slot_of other)))

  -- which subvolume each name has then
  named_new : (other : List ℕ) → sub_named new other ≡ cond (is_eq (name_cmp copy other)) (Some copied) (cond (is_eq (name_cmp source other)) (Some moved) (sub_named keys other))
  named_new other = ap (λ (entries : Entries). sub_of other (subs_of (value_at pos_cmp (record { inode = 0; offset = slot_of other; snapshot = 0 }) entries))) subvols_new
      ∙ put_found four is_four copy (Some copied) copies puts_four other ∙ ap (λ o. cond (is_eq (name_cmp copy other)) (Some copied) o) (named_four other)

  keeps : KeepsFiles keys new
  keeps = keeps_then keys one new (keeps_one (snap_update sub.id over) keys (snap_of_none sub.id over))
      (keeps_then one two new (keeps_one (snap_update n (leaf_under sub.id)) one (snap_of_none n (leaf_under sub.id)))
      (keeps_then two three new (keeps_one (snap_update (n - 1) (leaf_under sub.id)) two (snap_of_none (n - 1) (leaf_under sub.id)))
      (keeps_then three four new (keeps_one (subs_update (slot_of source) sources) three (subs_of_none (slot_of source) sources))
      (keeps_then four five new (keeps_one (subs_update (slot_of copy) copies) four (subs_of_none (slot_of copy) copies)) (keeps_one (counter_update id_counter (n - 2)) five (counter_of_none id_counter (n - 2)))))))

  grows : Grows keys new (split_origin keys new keeps.files kept.drawn sub.id)
  grows = split_grows keys new keeps.files kept.drawn sub.id leaf at left snaps_new

  counts_five : (counter : ℕ) → counter_in five counter ≡ counter_in keys counter
  counts_five counter = counter_in-other (subs_update (slot_of copy) copies) four is_four refl counter ∙ counter_in-other (subs_update (slot_of source) sources) three is_three refl counter
      ∙ counter_in-other (snap_update (n - 1) (leaf_under sub.id)) two is_two refl counter ∙ counter_in-other (snap_update n (leaf_under sub.id)) one is_one refl counter ∙ counter_in-other (snap_update sub.id over) keys is refl counter

  counts_new : (counter : ℕ) → counter_in new counter ≡ cond (id_counter == counter) (Some (n - 2)) (counter_in five counter)
  counts_new counter = counter_in-put (counter_update id_counter (n - 2)) five is_five refl id_counter (n - 2) refl refl counter

  clients_same : (client : ℕ) → client < 16 → counter_in new client ≡ counter_in keys client
  clients_same client lt = counts_new client ∙ ap (λ b. cond b (Some (n - 2)) (counter_in five client)) (ne_eqb id_counter client (λ same. omega (arith, lt, same))) ∙ counts_five client

  ids_count : counter_in new id_counter ≡ Some (n - 2)
  ids_count = counts_new id_counter ∙ ap (λ b. cond b (Some (n - 2)) (counter_in five id_counter)) (eq-eqb id_counter id_counter refl)

  ids_next : next_in new id_counter ≡ n - 2
  ids_next = ap (λ o. unwrap_or o 0) ids_count

  still : (number : ℕ) → IsDrawn keys number → IsDrawn new number
  still = drawn_where keys new clients_same

  fits : n ≤ 4294967294
  fits = kept.drawn.id_counter_there.in_range.1

  keyed_three : AreKeysBy keys three
  keyed_three = keyed_then keys two (snap_update (n - 1) (leaf_under sub.id)) (snap_put keys (n - 1) (leaf_under sub.id) (omega (arith, fits)))
      (keyed_then keys one (snap_update n (leaf_under sub.id)) (snap_put keys n (leaf_under sub.id) (omega (arith, fits))) (keyed_then keys keys (snap_update sub.id over) (snap_put keys sub.id over small) kept.drawn.each))

  keyed_four : AreKeysBy keys four
  keyed_four = keyed_then keys three (subs_update (slot_of source) sources) (subs_put keys (slot_of source) sources puts_source.in_range
      (puts_have (λ (s : Sub). IsDrawn keys s.root) source (Some moved) (subs_in three (slot_of source)) sources puts_three (λ put same. subst (λ (s : Sub). IsDrawn keys s.root) (same_Some moved put same) own_root) (old_roots keys three (slot_of source) (keyed_three Subvols)))) keyed_three
    where
      own_root : IsDrawn keys sub.root
      own_root = all_in (λ (s : Sub). IsDrawn keys s.root) sub (subs_in keys (slot_of source)) (old_roots keys keys (slot_of source) (kept.drawn.each Subvols)) (found_in (λ (s : Sub). is_eq (name_cmp source s.name)) sub (subs_in keys (slot_of source)) found).0

  keyed_five : AreKeysBy keys five
  keyed_five = keyed_then keys four (subs_update (slot_of copy) copies) (subs_put keys (slot_of copy) copies puts_copy.in_range
      (puts_have (λ (s : Sub). IsDrawn keys s.root) copy (Some copied) (subs_in four (slot_of copy)) copies puts_four (λ put same. subst (λ (s : Sub). IsDrawn keys s.root) (same_Some copied put same) own_root) (old_roots keys four (slot_of copy) (keyed_four Subvols)))) keyed_four
    where
      own_root : IsDrawn keys sub.root
      own_root = all_in (λ (s : Sub). IsDrawn keys s.root) sub (subs_in keys (slot_of source)) (old_roots keys keys (slot_of source) (kept.drawn.each Subvols)) (found_in (λ (s : Sub). is_eq (name_cmp source s.name)) sub (subs_in keys (slot_of source)) found).0

  drawn_new : AreKeysDrawn new
  drawn_new = record {
    each = keyed_still keys new new still (keyed_then keys five (counter_update id_counter (n - 2)) (counter_put keys id_counter (n - 2) (omega arith)) keyed_five);
    ids = subst (λ m. AreAbove m new) (sym ids_next) (above_other (n - 2) (counter_update id_counter (n - 2)) five refl (above_other (n - 2) (subs_update (slot_of copy) copies) four refl (above_other (n - 2) (subs_update (slot_of source) sources) three refl
        (above_then (n - 2) (snap_update (n - 1) (leaf_under sub.id)) two (omega (arith, left)) (above_then (n - 2) (snap_update n (leaf_under sub.id)) one (omega (arith, left)) (above_then (n - 2) (snap_update sub.id over) keys (omega (arith, own_above)) (above_less n (n - 2) keys (omega arith) kept.drawn.ids)))))));
    clients = λ client lt. counter_stays keys new 1 numbers_per_client client (clients_same client lt) (kept.drawn.clients client lt);
    id_counter_there = record { there = subst IsSome (sym ids_count) refl; in_range = subst (IsInRange 0 4294967294) (sym ids_next) (omega arith, omega (arith, fits)) };
  }

  names_three : AreNamesGood three
  names_three = named_other (snap_update (n - 1) (leaf_under sub.id)) two refl refl (named_other (snap_update n (leaf_under sub.id)) one refl refl (named_other (snap_update sub.id over) keys refl refl kept.named))

  names_four : AreNamesGood four
  names_four = named_then (slot_of source) sources three (puts_have (IsGoodIn (slot_of source)) source (Some moved) (subs_in three (slot_of source)) sources puts_three (λ put same. subst (IsGoodIn (slot_of source)) (same_Some moved put same) own_name) (old_names three (slot_of source) names_three)) names_three
    where
      own_name : IsGoodIn (slot_of source) moved
      own_name = all_in (IsGoodIn (slot_of source)) sub (subs_in keys (slot_of source)) (old_names keys (slot_of source) kept.named) (found_in (λ (s : Sub). is_eq (name_cmp source s.name)) sub (subs_in keys (slot_of source)) found).0

  names_new : AreNamesGood new
  names_new = named_other (counter_update id_counter (n - 2)) five refl refl
      (named_then (slot_of copy) copies four (puts_have (IsGoodIn (slot_of copy)) copy (Some copied) (subs_in four (slot_of copy)) copies puts_four (λ put same. subst (IsGoodIn (slot_of copy)) (same_Some copied put same) (refl, named)) (old_names four (slot_of copy) names_four)) names_four)

  -- what the copy, the source and each other subvolume has, all have
  each_new : (P : Sub → Type 0) → P copied → P moved → ((s : Sub) → is_eq (name_cmp source s.name) ≡ false → sub_named keys s.name ≡ Some s → P s) → (s : Sub) → IsIn s (all_subs new) → P s
  each_new P own_copy own_source others s among = by (is_eq (name_cmp copy s.name)) (is_eq (name_cmp source s.name)) refl (sym (named_new s.name) ∙ each_found new is_new drawn_new names_new s among)
    where
      by : (a b : Bool) → is_eq (name_cmp source s.name) ≡ b → cond a (Some copied) (cond b (Some moved) (sub_named keys s.name)) ≡ Some s → P s
      by true b at_source same = subst P (same_Some copied s same) own_copy
      by false true at_source same = subst P (same_Some moved s same) own_source
      by false false apart is_there = others s apart is_there

  -- a subvolume of another name has a live leaf that isn't the source's
  other_leaf : (s : Sub) → is_eq (name_cmp source s.name) ≡ false → sub_named keys s.name ≡ Some s → (sub.id ≢ s.id) × IsLiveLeaf keys s.id
  other_leaf s apart is_there = (differ, all_in (λ (t : Sub). IsLiveLeaf keys t.id) s (all_subs keys) kept.ids.subvolumes (sub_named-in keys s.name s is_there).0)
    where
      differ : sub.id ≢ s.id
      differ same = true≢false (sym (ap is_eq (tied_itself nat_list_cmp_total source)) ∙ ap (λ (m : List ℕ). is_eq (name_cmp source m)) (ids_tell_apart keys source s.name sub s matching found is_there (sym same)) ∙ apart)

  at_new : (x : ℕ) (snap : Snap) → value_at nat_cmp x (split_snaps (snaps_of keys) sub.id n leaf) ≡ Some snap → value_at nat_cmp x (snaps_of new) ≡ Some snap
  at_new x snap is_at_x = ap (value_at nat_cmp x) snaps_new ∙ is_at_x

  source_leaf : IsLiveLeaf new n
  source_leaf = record { snap = leaf_under sub.id; found = at_new n (leaf_under sub.id) (found_source (snaps_of keys) sub.id n leaf at left (all_above_counter keys kept.drawn)); live = refl }

  copy_leaf : IsLiveLeaf new (n - 1)
  copy_leaf = record { snap = leaf_under sub.id; found = at_new (n - 1) (leaf_under sub.id) (found_copy (snaps_of keys) sub.id n leaf at left (all_above_counter keys kept.drawn)); live = refl }

  leaf_then : (id : ℕ) → sub.id ≢ id → IsLiveLeaf keys id → IsLiveLeaf new id
  leaf_then id apart was = record {
    snap = was.snap;
    found = at_new id was.snap (found_old (snaps_of keys) sub.id n leaf at left (all_above_counter keys kept.drawn) id (above id was) ∙ ap (λ b. cond b (Some over) (value_at nat_cmp id (snaps_of keys))) (ne_eqb sub.id id apart) ∙ was.found);
    live = was.live;
  }

  -- what the two new leaves and each other live leaf has, all have
  each_leaf : (P : ℕ → Type 0) → P (n - 1) → P n → ((id : ℕ) → sub.id ≢ id → IsLiveLeaf keys id → P id) → (id : ℕ) → IsLiveLeaf new id → P id
  each_leaf P own_copy own_source others id now =
      by (n - 1 == id) refl (n == id) refl (sub.id == id) refl (sym (split_found (snaps_of keys) sub.id n leaf at left (all_above_counter keys kept.drawn) id) ∙ ap (value_at nat_cmp id) (sym snaps_new) ∙ now.found)
    where
      by : (a : Bool) → (n - 1 == id) ≡ a → (b : Bool) → (n == id) ≡ b → (c : Bool) → (sub.id == id) ≡ c
          → cond a (Some (leaf_under sub.id)) (cond b (Some (leaf_under sub.id)) (cond c (Some over) (value_at nat_cmp id (snaps_of keys)))) ≡ Some now.snap → P id
      by true same b _ c _ is_there = subst P (eqb-true (n - 1) id same) own_copy
      by false _ true same c _ is_there = subst P (eqb-true n id same) own_source
      by false _ false _ true same is_there = absurd (true≢false (ap is_live (sym now.live ∙ ap (λ (s : Snap). s.state) (sym (same_Some over now.snap is_there)))))
      by false _ false _ false apart is_there = others id (λ same. true≢false (sym (eq-eqb sub.id id same) ∙ apart)) (record { snap = now.snap; found = is_there; live = now.live })

  not_same : is_eq (name_cmp source copy) ≡ false
  not_same = by (is_eq (name_cmp source copy)) refl
    where
      by : (b : Bool) → is_eq (name_cmp source copy) ≡ b → b ≡ false
      by true same = absurd (none_some sub (sym free ∙ ap (sub_named keys) (sym (same_key exact_bytes source copy same)) ∙ found))
      by false apart = refl

  -- so many subvolumes pass a test then
  count_new : (test : Sub → Bool) → count_by test (all_subs new) + count_by test (sub ∷ []) ≡ (count_by test (all_subs keys) + count_by test (moved ∷ [])) + count_by test (copied ∷ [])
  count_new test =
      let second = put_counted four is_four copy (Some copied) copies puts_four (slot_in_range keys four (slot_of copy) (keyed_four Subvols)) test in
      let first = put_counted three is_three source (Some moved) sources puts_three (slot_in_range keys three (slot_of source) (keyed_three Subvols)) test in
      let last : count_by test (all_subs new) ≡ count_by test (all_subs five) = ap (count_by test) (same_subs five new subvols_new) in
      let old : count_by test (all_subs three) ≡ count_by test (all_subs keys) = ap (count_by test) (same_subs keys three subvols_three) in
      let none : count_by test (option_to_list (sub_named four copy)) ≡ 0 = ap (λ (o : Option Sub). count_by test (option_to_list o)) (named_four copy ∙ ap (λ b. cond b (Some moved) (sub_named keys copy)) not_same ∙ free) in
      let gone : count_by test (option_to_list (sub_named three source)) ≡ count_by test (sub ∷ []) = ap (λ (o : Option Sub). count_by test (option_to_list o)) (ap (sub_of source) (in_slot (slot_of source)) ∙ found) in
      omega (arith, second, first, last, old, none, gone)

  -- no subvolume had a new id
  none_had : (id : ℕ) → id ≤ n → count_with_id keys id ≡ 0
  none_had id le = count_none (λ (s : Sub). s.id == id) (all_subs keys) (λ s among. ne_eqb s.id id (λ same. let up = above s.id (all_in (λ (t : Sub). IsLiveLeaf keys t.id) s (all_subs keys) kept.ids.subvolumes among) in omega (arith, le, up, same)))

  ids_new : DoIdsMatch new
  ids_new = record {
    subvolumes = all_from_in (λ (s : Sub). IsLiveLeaf new s.id) (all_subs new) (each_new (λ s. IsLiveLeaf new s.id) copy_leaf source_leaf (λ s apart is_there. let other = other_leaf s apart is_there in leaf_then s.id other.0 other.1));
    leaves = each_leaf (λ id. count_with_id new id ≡ 1) of_copy of_source of_others;
  }
    where
      of_copy : count_with_id new (n - 1) ≡ 1
      of_copy =
          let test = λ (s : Sub). s.id == (n - 1) in
          let sums = count_new test in
          let old = none_had (n - 1) (omega arith) in
          let a : count_by test (sub ∷ []) ≡ 0 = count_fails test sub (ne_eqb sub.id (n - 1) (λ same. omega (arith, own_above, same))) in
          let b : count_by test (moved ∷ []) ≡ 0 = count_fails test moved (ne_eqb n (n - 1) (λ same. omega (arith, left, same))) in
          let c : count_by test (copied ∷ []) ≡ 1 = count_one test copied (eq-eqb (n - 1) (n - 1) refl) in
          omega (arith, sums, old, a, b, c)

      of_source : count_with_id new n ≡ 1
      of_source =
          let test = λ (s : Sub). s.id == n in
          let sums = count_new test in
          let old = none_had n (omega arith) in
          let a : count_by test (sub ∷ []) ≡ 0 = count_fails test sub (ne_eqb sub.id n (λ same. omega (arith, own_above, same))) in
          let b : count_by test (moved ∷ []) ≡ 1 = count_one test moved (eq-eqb n n refl) in
          let c : count_by test (copied ∷ []) ≡ 0 = count_fails test copied (ne_eqb (n - 1) n (λ same. omega (arith, left, same))) in
          omega (arith, sums, old, a, b, c)

      of_others : (id : ℕ) → sub.id ≢ id → IsLiveLeaf keys id → count_with_id new id ≡ 1
      of_others id apart was =
          let test = λ (s : Sub). s.id == id in
          let sums = count_new test in
          let up = above id was in
          let old = kept.ids.leaves id was in
          let a : count_by test (sub ∷ []) ≡ 0 = count_fails test sub (ne_eqb sub.id id apart) in
          let b : count_by test (moved ∷ []) ≡ 0 = count_fails test moved (ne_eqb n id (λ same. omega (arith, up, same))) in
          let c : count_by test (copied ∷ []) ≡ 0 = count_fails test copied (ne_eqb (n - 1) id (λ same. omega (arith, up, same))) in
          omega (arith, sums, old, a, b, c)

  trees_new : AreTreesJoined new
  trees_new = record { each = subst AreJoined (sym snaps_new) (split_joined (snaps_of keys) sub.id n leaf at left (all_above_counter keys kept.drawn) live kept.trees.each) }

  -- the leaf of each other subvolume shows what it showed
  other_alike : (id : ℕ) → IsLiveLeaf keys id → ShowAlike new id keys id
  other_alike id was = let up = above id was in split_other keys new keeps.files kept.drawn sub.id leaf at left snaps_new kept.extents id (λ same. omega (arith, up, same)) (λ same. omega (arith, up, same))

  -- The keys are kept then,
  pub snapshot_kept : IsKept new nodes layout
  snapshot_kept = grown_is_kept keys new (split_origin keys new keeps.files kept.drawn sub.id) grows kept.extents keeps nodes layout kept is_new trees_new ids_new drawn_new names_new

  -- space is counted,
  pub snapshot_space : IsSpaceCounted new
  snapshot_space = grown_space keys new (split_origin keys new keeps.files kept.drawn sub.id) grows kept.extents keeps space

  -- what each subvolume shows is good,
  pub snapshot_good : All (IsLeafGood new) (all_subs new)
  snapshot_good = all_from_in (IsLeafGood new) (all_subs new) (each_new (IsLeafGood new)
      (good_alike keys new sub copied (split_copy keys new keeps.files kept.drawn sub.id leaf at left snaps_new kept.extents) refl own)
      (good_alike keys new sub moved (split_source keys new keeps.files kept.drawn sub.id leaf at left snaps_new kept.extents) refl own)
      (λ s apart is_there. good_alike keys new s s (other_alike s.id (other_leaf s apart is_there).1) refl (all_in (IsLeafGood keys) s (all_subs keys) good (sub_named-in keys s.name s is_there).0)))
    where
      own : IsLeafGood keys sub
      own = all_in (IsLeafGood keys) sub (all_subs keys) good is_member

  -- and the forest has the copy.
  pub snapshot_forest : (read : Read) → forest_in new read ≡ record (forest_in keys read) {
    subvolumes = with_value name_cmp copy (record (tree_of keys read sub) { locked = locked }) (forest_in keys read).subvolumes;
    ids_left = (forest_in keys read).ids_left - 2;
  }
  snapshot_forest read = λ i. record {
    subvolumes = (subvolumes_put keys new read copy same ∙ ap (λ (t : Option Tree). put_at name_cmp copy t (forest_in keys read).subvolumes) made) i;
    next = map_same (next_in new) (next_in keys) 16 0 (λ client lt. ap (λ o. unwrap_or o 0) (clients_same client (omega (arith, lt)))) i;
    ids_left = ids_next i;
  }
    where
      made : tree_named new read copy ≡ Some (record (tree_of keys read sub) { locked = locked })
      made = ap (option_map (tree_of new read)) (named_new copy ∙ ap (λ b. cond b (Some copied) (cond (is_eq (name_cmp source copy)) (Some moved) (sub_named keys copy))) (ap is_eq (tied_itself nat_list_cmp_total copy)))
          ∙ ap Some (tree_of-alike new keys read copied (record sub { read_only = locked }) (split_copy keys new keeps.files kept.drawn sub.id leaf at left snaps_new kept.extents) refl refl)

      same : (other : List ℕ) → is_at (name_cmp copy) other ≡ false → tree_named new read other ≡ tree_named keys read other
      same other apart = ap (option_map (tree_of new read)) (named_new other ∙ ap (λ b. cond b (Some copied) (cond (is_eq (name_cmp source other)) (Some moved) (sub_named keys other))) apart) ∙ by (is_eq (name_cmp source other)) refl
        where
          by : (b : Bool) → is_eq (name_cmp source other) ≡ b → option_map (tree_of new read) (cond b (Some moved) (sub_named keys other)) ≡ option_map (tree_of keys read) (sub_named keys other)
          by true at_source = ap Some (tree_of-alike new keys read moved sub (split_source keys new keeps.files kept.drawn sub.id leaf at left snaps_new kept.extents) refl refl) ∙ ap (option_map (tree_of keys read)) (sym (ap (sub_named keys) (sym (same_key exact_bytes source other at_source)) ∙ found))
          by false differ = trees_same keys new read (sub_named keys other) (λ s is_there. other_alike s.id (all_in (λ (t : Sub). IsLiveLeaf keys t.id) s (all_subs keys) kept.ids.subvolumes (sub_named-in keys other s is_there).0))
