-- Where the leaf of a subvolume dies and its entry goes, sound and tidy keys stay so, and mean the forest without it.
use Rattle.std.proofs.Common.{◌≡◌, ℕ, ◌<◌, ◌^◌, Bool, true, false, cond, Option, Some, None, List, [], refl, sym, ap, ◌∙◌, subst, arith, map}
use Rattle.std.specs.Prelude.{◌≢◌, ◌==◌, All, count_by, option_map, unwrap_or}
use Rattle.std.specs.BTreeMap.{is_at}
use Rattle.std.specs.List.{range_with_len}
use Rattle.std.specs.Option.{option_to_list}
use Rattle.std.specs.Ordering.{is_eq, nat_cmp}
use Rattle.std.proofs.lemmas.Bool.{eq-eqb, ne_eqb, true≢false}
use Rattle.std.proofs.lemmas.Cmp.{nat_list_cmp_total, tied_itself}
use Rattle.std.proofs.lemmas.Option.{same_Some, none-some as none_some}
use Rattle.id_steps.proofs.Common.{AreAbove, IsGoodIn, above_other, above_then, count_fails, counter_stays, drawn_where, named_other, named_then, subvolumes_put, trees_same}
use Rattle.id_steps.proofs.Growing.{Grows, good_alike, grown_alike, grown_is_kept, grown_space}
use Rattle.id_steps.proofs.Joined.{dead_joined}
use Rattle.id_steps.proofs.Origins.{dead_grows}
use Rattle.id_steps.proofs.Puts.{keeps_one, keeps_then, keyed_still, keyed_then, old_names, old_roots, puts_have, snap_of_none, snap_put, subs_of_none, subs_put}
use Rattle.id_steps.proofs.Records.{all_above_counter, drawn_places, record_follows}
use Rattle.id_steps.proofs.Slots.{each_found, put_counted, put_found, slot_in_range}
use Rattle.id_steps.specs.Changes.{KeepsFiles}
use Rattle.id_steps.specs.Entries.{PutsSub, sub_of, subs_update}
use Rattle.id_steps.specs.Ids.{AreJoined, dead, with_dead}
use Rattle.key_meaning.specs.Checks.{AreTreesJoined, DoLeavesMatch, IsLiveLeaf, IsSpaceCounted, count_with_id}
use Rattle.key_meaning.specs.CounterLaws.{entries_other}
use Rattle.key_meaning.specs.Forest.{Read, all_subs, counter_in, forest_in, next_in, sub_named, subs_in, subs_of, tree_named, tree_of}
use Rattle.key_meaning.specs.KeptLaws.{all_from_in}
use Rattle.key_meaning.specs.SameLaws.{same_subs}
use Rattle.key_meaning.specs.SoundLaws.{IsIn, all_in, ids_tell_apart, sub_named-in}
use Rattle.key_meaning.specs.Tidy.{AreKeysDrawn, AreNamesGood, IsDrawn, id_counter}
use Rattle.key_meaning.specs.UpdateLaws.{counter_in-other}
use Rattle.key_meaning.specs.Visible.{snaps_of}
use Rattle.key_meaning.specs.VisibleLaws.{snaps_of-with_update}
use Rattle.key_steps.specs.Kept.{DoIdsMatch, IsKept, IsLeafGood}
use Rattle.plain_forest.specs.Forest.{Tree}
use Rattle.plain_forest.specs.Steps.{numbers_per_client}
use Rattle.snap_tree.specs.ChainLaws.{found_above}
use Rattle.snap_tree.specs.MapLaws.{value_at-with}
use Rattle.snap_tree.specs.Snaps.{is_live}
use Rattle.snap_tree.specs.Splits.{snap_update}
use Rattle.vol_digest.specs.Digests.{slot_of}
use Rattle.vol_types.specs.KeyMapLaws.{IsKeyMap-with_update}
use Rattle.vol_types.specs.KeyMaps.{Entries, IsKeyMap, KeyMap, value_in, with_update}
use Rattle.vol_types.specs.Maps.{put_at, value_at, without}
use Rattle.vol_types.specs.Positions.{pos_cmp}
use Rattle.vol_types.specs.Ranges.{IsKeyValue, name_cmp}
use Rattle.vol_types.specs.declared.layout.Layout.{Layout}
use Rattle.vol_types.specs.declared.pointers.Place.{Place}
use Rattle.vol_types.specs.declared.positions.Btree.TheVariants.{Subvols}
use Rattle.vol_types.specs.declared.values.Snap.{Snap}
use Rattle.vol_types.specs.declared.values.SnapState.TheVariants.{LiveLeaf}
use Rattle.vol_types.specs.declared.values.Sub.{Sub}

-- a dead leaf is no live one
dead_is_not_live : (leaf : Snap) → (dead leaf).state ≡ LiveLeaf → ⊥
dead_is_not_live leaf live = true≢false (ap is_live (sym live))

module _ (keys : KeyMap) (nodes : List Place) (layout : Layout) (is : IsKeyMap keys) (kept : IsKept keys nodes layout) (space : IsSpaceCounted keys) (good : All (IsLeafGood keys) (all_subs keys)) (matching : DoLeavesMatch keys)
    (name : List ℕ) (sub : Sub) (leaf : Snap) (left : List Sub) (found : sub_named keys name ≡ Some sub) (at : value_at nat_cmp sub.id (snaps_of keys) ≡ Some leaf) (puts : PutsSub name None (subs_in keys (slot_of name)) left) (small : sub.id < 2 ^ 32) where
  abbrev one : KeyMap
  one = with_update (snap_update sub.id (dead leaf)) keys

  abbrev new : KeyMap
  new = with_update (subs_update (slot_of name) left) one

  is_one : IsKeyMap one
  is_one = IsKeyMap-with_update (snap_update sub.id (dead leaf)) keys is

  is_new : IsKeyMap new
  is_new = IsKeyMap-with_update (subs_update (slot_of name) left) one is_one

  is_member : IsIn sub (all_subs keys)
  is_member = (sub_named-in keys name sub found).0

  live : leaf.state ≡ LiveLeaf
  live = let is_leaf = all_in (λ (s : Sub). IsLiveLeaf keys s.id) sub (all_subs keys) kept.ids.subvolumes is_member in
      ap (λ (s : Snap). s.state) (same_Some leaf is_leaf.snap (sym at ∙ is_leaf.found)) ∙ is_leaf.live

  snaps_new : snaps_of new ≡ with_dead sub.id leaf (snaps_of keys)
  snaps_new = snaps_of-with_update (subs_update (slot_of name) left) one is_one refl ∙ record_follows keys sub.id (dead leaf) is (drawn_places keys kept.drawn)

  snap_found : (x : ℕ) → value_at nat_cmp x (snaps_of new) ≡ cond (sub.id == x) (Some (dead leaf)) (value_at nat_cmp x (snaps_of keys))
  snap_found x = ap (value_at nat_cmp x) snaps_new ∙ value_at-with (snaps_of keys) sub.id x (dead leaf)

  subvols_one : one.subvols ≡ keys.subvols
  subvols_one = entries_other (snap_update sub.id (dead leaf)) keys Subvols refl

  in_slot : (slot : ℕ) → subs_in one slot ≡ subs_in keys slot
  in_slot slot = ap (λ (entries : Entries). subs_of (value_at pos_cmp (record { inode = 0; offset = slot; snapshot = 0 }) entries)) subvols_one

  named_one : (other : List ℕ) → sub_named one other ≡ sub_named keys other
  named_one other = ap (Rattle.id_steps.specs.Entries.sub_of other) (in_slot (slot_of other))

  puts_one : PutsSub name None (subs_in one (slot_of name)) left
  puts_one = subst (λ (subs : List Sub). PutsSub name None subs left) (sym (in_slot (slot_of name))) puts

  in_range_one : IsKeyValue (value_in one Subvols (record { inode = 0; offset = slot_of name; snapshot = 0 }))
  in_range_one = subst (λ (entries : Entries). IsKeyValue (value_at pos_cmp (record { inode = 0; offset = slot_of name; snapshot = 0 }) entries)) (sym subvols_one) (slot_in_range keys keys (slot_of name) (kept.drawn.each Subvols))

  -- which subvolume each name has then
  named_new : (other : List ℕ) → sub_named new other ≡ cond (is_eq (name_cmp name other)) None (sub_named keys other)
  named_new other = put_found one is_one name None left puts_one other ∙ ap (λ o. cond (is_eq (name_cmp name other)) None o) (named_one other)

  keeps : KeepsFiles keys new
  keeps = keeps_then keys one new (keeps_one (snap_update sub.id (dead leaf)) keys (snap_of_none sub.id (dead leaf))) (keeps_one (subs_update (slot_of name) left) one (subs_of_none (slot_of name) left))

  grows : Grows keys new (λ x. x)
  grows = dead_grows keys new keeps.files sub.id leaf at snaps_new

  counts : (counter : ℕ) → counter_in new counter ≡ counter_in keys counter
  counts counter = counter_in-other (subs_update (slot_of name) left) one is_one refl counter ∙ counter_in-other (snap_update sub.id (dead leaf)) keys is refl counter

  next_same : (counter : ℕ) → next_in new counter ≡ next_in keys counter
  next_same counter = ap (λ o. unwrap_or o 0) (counts counter)

  still : (number : ℕ) → IsDrawn keys number → IsDrawn new number
  still = drawn_where keys new (λ client lt. counts client)

  roots : All (λ (s : Sub). IsDrawn keys s.root) left
  roots = puts_have (λ (s : Sub). IsDrawn keys s.root) name None (subs_in keys (slot_of name)) left puts (λ put none. absurd (none_some put none)) (old_roots keys keys (slot_of name) (kept.drawn.each Subvols))

  drawn_new : AreKeysDrawn new
  drawn_new = record {
    each = keyed_still keys new new still (keyed_then keys one (subs_update (slot_of name) left) (subs_put keys (slot_of name) left puts.in_range roots) (keyed_then keys keys (snap_update sub.id (dead leaf)) (snap_put keys sub.id (dead leaf) small) kept.drawn.each));
    ids = subst (λ n. AreAbove n new) (sym (next_same id_counter)) (above_other (next_in keys id_counter) (subs_update (slot_of name) left) one refl
        (above_then (next_in keys id_counter) (snap_update sub.id (dead leaf)) keys (found_above (next_in keys id_counter) sub.id (snaps_of keys) leaf (all_above_counter keys kept.drawn) at) kept.drawn.ids));
    clients = λ client lt. counter_stays keys new 1 numbers_per_client client (counts client) (kept.drawn.clients client lt);
    id_counter_there = counter_stays keys new 0 4294967294 id_counter (counts id_counter) kept.drawn.id_counter_there;
  }

  names_new : AreNamesGood new
  names_new = named_then (slot_of name) left one (puts_have (IsGoodIn (slot_of name)) name None (subs_in keys (slot_of name)) left puts (λ put none. absurd (none_some put none)) (old_names keys (slot_of name) kept.named))
      (named_other (snap_update sub.id (dead leaf)) keys refl refl kept.named)

  -- each subvolume that is left has another name, and was there
  each_new : (s : Sub) → IsIn s (all_subs new) → (is_eq (name_cmp name s.name) ≡ false) × (sub_named keys s.name ≡ Some s)
  each_new s among = by (is_eq (name_cmp name s.name)) refl (sym (named_new s.name) ∙ each_found new is_new drawn_new names_new s among)
    where
      by : (b : Bool) → is_eq (name_cmp name s.name) ≡ b → cond b None (sub_named keys s.name) ≡ Some s → (is_eq (name_cmp name s.name) ≡ false) × (sub_named keys s.name ≡ Some s)
      by true same none = absurd (none_some s none)
      by false apart is_there = (apart, is_there)

  other_id : (s : Sub) → is_eq (name_cmp name s.name) ≡ false → sub_named keys s.name ≡ Some s → sub.id ≢ s.id
  other_id s apart is_there same = true≢false (sym (ap is_eq (tied_itself nat_list_cmp_total name)) ∙ ap (λ (n : List ℕ). is_eq (name_cmp name n)) (ids_tell_apart keys name s.name sub s matching found is_there (sym same)) ∙ apart)

  leaf_then : (id : ℕ) → sub.id ≢ id → IsLiveLeaf keys id → IsLiveLeaf new id
  leaf_then id apart was = record { snap = was.snap; found = snap_found id ∙ ap (λ b. cond b (Some (dead leaf)) (value_at nat_cmp id (snaps_of keys))) (ne_eqb sub.id id apart) ∙ was.found; live = was.live }

  leaf_was : (id : ℕ) → IsLiveLeaf new id → (sub.id ≢ id) × IsLiveLeaf keys id
  leaf_was id now = by (sub.id == id) refl (sym (snap_found id) ∙ now.found)
    where
      by : (b : Bool) → (sub.id == id) ≡ b → cond b (Some (dead leaf)) (value_at nat_cmp id (snaps_of keys)) ≡ Some now.snap → (sub.id ≢ id) × IsLiveLeaf keys id
      by true same is_dead = absurd (dead_is_not_live leaf (ap (λ (s : Snap). s.state) (same_Some (dead leaf) now.snap is_dead) ∙ now.live))
      by false apart was = ((λ same. true≢false (sym (eq-eqb sub.id id same) ∙ apart)), record { snap = now.snap; found = was; live = now.live })

  ids_new : DoIdsMatch new
  ids_new = record {
    subvolumes = all_from_in (λ (s : Sub). IsLiveLeaf new s.id) (all_subs new) (λ s among. let e = each_new s among in
        leaf_then s.id (other_id s e.0 e.1) (all_in (λ (t : Sub). IsLiveLeaf keys t.id) s (all_subs keys) kept.ids.subvolumes (sub_named-in keys s.name s e.1).0));
    leaves = λ id now. counted_then id (leaf_was id now).0 (leaf_was id now).1;
  }
    where
      counted_then : (id : ℕ) → sub.id ≢ id → IsLiveLeaf keys id → count_with_id new id ≡ 1
      counted_then id apart was =
          let test = λ (s : Sub). s.id == id in
          let sums = put_counted one is_one name None left puts_one in_range_one test in
          let one_all : count_by test (all_subs one) ≡ 1 = ap (count_by test) (same_subs keys one subvols_one) ∙ kept.ids.leaves id was in
          let gone : count_by test (option_to_list (sub_named one name)) ≡ 0 = ap (λ (o : Option Sub). count_by test (option_to_list o)) (named_one name ∙ found) ∙ count_fails test sub (ne_eqb sub.id id apart) in
          let none : count_by test [] ≡ 0 = refl in
          omega (arith, sums, one_all, gone, none)

  trees_new : AreTreesJoined new
  trees_new = record { each = subst AreJoined (sym snaps_new) (dead_joined (snaps_of keys) sub.id leaf at live kept.trees.each) }

  -- The keys are kept then,
  pub removed_kept : IsKept new nodes layout
  removed_kept = grown_is_kept keys new (λ x. x) grows kept.extents keeps nodes layout kept is_new trees_new ids_new drawn_new names_new

  -- space is counted,
  pub removed_space : IsSpaceCounted new
  removed_space = grown_space keys new (λ x. x) grows kept.extents keeps space

  -- what each subvolume shows is good,
  pub removed_good : All (IsLeafGood new) (all_subs new)
  removed_good = all_from_in (IsLeafGood new) (all_subs new) (λ s among. good_alike keys new s s (grown_alike keys new (λ x. x) grows kept.extents s.id) refl (all_in (IsLeafGood keys) s (all_subs keys) good (sub_named-in keys s.name s (each_new s among).1).0))

  -- and the forest has the subvolume no more.
  pub removed_forest : (read : Read) → forest_in new read ≡ record (forest_in keys read) { subvolumes = without name_cmp name (forest_in keys read).subvolumes }
  removed_forest read = λ i. record {
    subvolumes = (subvolumes_put keys new read name same ∙ ap (λ (t : Option Tree). put_at name_cmp name t (forest_in keys read).subvolumes) none) i;
    next = map (λ client. next_same client i) (range_with_len 0 16);
    ids_left = next_same 16 i;
  }
    where
      none : tree_named new read name ≡ None
      none = ap (option_map (tree_of new read)) (named_new name ∙ ap (λ b. cond b None (sub_named keys name)) (ap is_eq (tied_itself nat_list_cmp_total name)))

      same : (other : List ℕ) → is_at (name_cmp name) other ≡ false → tree_named new read other ≡ tree_named keys read other
      same other apart = ap (option_map (tree_of new read)) (named_new other ∙ ap (λ b. cond b None (sub_named keys other)) apart) ∙ trees_same keys new read (sub_named keys other) (λ s _. grown_alike keys new (λ x. x) grows kept.extents s.id)
