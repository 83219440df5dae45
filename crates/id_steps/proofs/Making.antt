-- Where a new root has a subvolume, whose root directory is put there, sound and tidy keys stay so, and mean the forest with it.
use Rattle.std.proofs.Common.{◌≡◌, ℕ, ◌+◌, ◌-◌, ◌*◌, ◌/◌, ◌%◌, ◌<◌, ◌≤◌, Bool, true, false, cond, Option, Some, None, List, [], ◌∷◌, refl, sym, ap, ◌∙◌, subst, arith}
use Rattle.std.specs.Prelude.{◌≢◌, ◌==◌, All, IsSome, count_by, unwrap_or}
use Rattle.std.specs.Int.{IsInRange}
use Rattle.std.specs.Option.{option_to_list}
use Rattle.std.specs.Ordering.{is_eq, nat_cmp}
use Rattle.std.proofs.lemmas.Bool.{eq-eqb, eqb-true, ne_eqb}
use Rattle.std.proofs.lemmas.Option.{same_Some}
use Rattle.id_steps.proofs.Common.{AreAbove, IsGoodIn, above_less, above_other, above_then, count_fails, count_none, count_one, counter_stays, named_other, named_then}
use Rattle.id_steps.proofs.Growing.{Grows, grown_is_kept}
use Rattle.id_steps.proofs.Joined.{root_joined}
use Rattle.id_steps.proofs.Origins.{root_grows}
use Rattle.id_steps.proofs.Puts.{AreKeysBy, counter_of_none, counter_put, keeps_one, keeps_then, keyed_still, keyed_then, old_names, old_roots, puts_have, snap_of_none, snap_put, subs_of_none, subs_put}
use Rattle.id_steps.proofs.Records.{AreIdPlaces, HasIdPlace, all_above_counter, drawn_places, fresh_is_none, record_follows}
use Rattle.id_steps.proofs.Slots.{each_found, put_counted, put_found, slot_in_range}
use Rattle.id_steps.specs.Changes.{KeepsFiles}
use Rattle.id_steps.specs.Entries.{PutsSub, counter_update, sub_of, subs_update}
use Rattle.id_steps.specs.Ids.{AreJoined, with_root}
use Rattle.id_steps.specs.Steps.{drawn_number, made_sub}
use Rattle.key_meaning.specs.Checks.{IsLiveLeaf, count_with_id}
use Rattle.key_meaning.specs.CounterLaws.{entries_other}
use Rattle.key_meaning.specs.Forest.{all_subs, counter_in, next_in, sub_named, subs_in, subs_of}
use Rattle.key_meaning.specs.KeptLaws.{all_from_in}
use Rattle.key_meaning.specs.NumberLaws.{unused_from_counter}
use Rattle.key_meaning.specs.Numbers.{IsUnused}
use Rattle.key_meaning.specs.SameLaws.{same_subs}
use Rattle.key_meaning.specs.SoundLaws.{IsIn, all_in, sub_named-in}
use Rattle.key_meaning.specs.Tidy.{AreKeysDrawn, AreNamesGood, IsCounterFrom, IsDrawn, id_counter}
use Rattle.key_meaning.specs.UpdateLaws.{counter_in-other, counter_in-put}
use Rattle.key_meaning.specs.Visible.{snaps_of}
use Rattle.key_meaning.specs.VisibleLaws.{snaps_of-with_update}
use Rattle.key_steps.specs.Kept.{DoIdsMatch, IsKept}
use Rattle.plain_forest.specs.Names.{is_good_subvolume_name}
use Rattle.plain_forest.specs.Steps.{numbers_per_client}
use Rattle.snap_tree.specs.ChainLaws.{found_above}
use Rattle.snap_tree.specs.MapLaws.{value_at-with}
use Rattle.snap_tree.specs.Splits.{leaf_under, snap_update}
use Rattle.vol_digest.specs.Digests.{slot_of}
use Rattle.vol_types.specs.KeyMapLaws.{IsKeyMap-with_update}
use Rattle.vol_types.specs.KeyMaps.{Entries, IsKeyMap, KeyMap, with_update}
use Rattle.vol_types.specs.Maps.{value_at}
use Rattle.vol_types.specs.Positions.{pos_cmp}
use Rattle.vol_types.specs.Ranges.{name_cmp}
use Rattle.vol_types.specs.declared.layout.Layout.{Layout}
use Rattle.vol_types.specs.declared.pointers.Place.{Place}
use Rattle.vol_types.specs.declared.positions.Btree.TheVariants.{Snapshots, Subvols}
use Rattle.vol_types.specs.declared.values.Sub.{Sub}

module _ (keys : KeyMap) (nodes : List Place) (layout : Layout) (is : IsKeyMap keys) (kept : IsKept keys nodes layout) (client : ℕ) (name : List ℕ) (subs : List Sub)
    (lt : client < 16) (room : next_in keys client < numbers_per_client) (left : 1 ≤ next_in keys id_counter) (named : is_good_subvolume_name name ≡ true) (free : sub_named keys name ≡ None)
    (puts : PutsSub name (Some (made_sub keys client name)) (subs_in keys (slot_of name)) subs) where
  abbrev id : ℕ
  id = next_in keys id_counter

  abbrev root : ℕ
  root = drawn_number keys client

  abbrev sub : Sub
  sub = made_sub keys client name

  abbrev count : ℕ
  count = next_in keys client + 1

  abbrev one : KeyMap
  one = with_update (counter_update client count) keys

  abbrev two : KeyMap
  two = with_update (snap_update id (leaf_under 0)) one

  abbrev three : KeyMap
  three = with_update (subs_update (slot_of name) subs) two

  abbrev four : KeyMap
  four = with_update (counter_update id_counter (id - 1)) three

  is_one : IsKeyMap one
  is_one = IsKeyMap-with_update (counter_update client count) keys is

  is_two : IsKeyMap two
  is_two = IsKeyMap-with_update (snap_update id (leaf_under 0)) one is_one

  is_three : IsKeyMap three
  is_three = IsKeyMap-with_update (subs_update (slot_of name) subs) two is_two

  -- The keys with the new root and its subvolume are a key map,
  pub is_four : IsKeyMap four
  is_four = IsKeyMap-with_update (counter_update id_counter (id - 1)) three is_three

  some : id ≢ 0
  some zero = omega (arith, left, zero)

  none_there : value_at nat_cmp id (snaps_of keys) ≡ None
  none_there = fresh_is_none keys id kept.drawn (omega arith)

  above : (x : ℕ) → IsLiveLeaf keys x → id < x
  above x was = found_above id x (snaps_of keys) was.snap (all_above_counter keys kept.drawn) was.found

  places_one : AreIdPlaces one
  places_one = subst (All HasIdPlace) (sym (entries_other (counter_update client count) keys Snapshots refl)) (drawn_places keys kept.drawn)

  snaps_four : snaps_of four ≡ with_root id (snaps_of keys)
  snaps_four = snaps_of-with_update (counter_update id_counter (id - 1)) three is_three refl ∙ snaps_of-with_update (subs_update (slot_of name) subs) two is_two refl
      ∙ record_follows one id (leaf_under 0) is_one places_one ∙ ap (with_root id) (snaps_of-with_update (counter_update client count) keys is refl)

  snap_found : (x : ℕ) → value_at nat_cmp x (snaps_of four) ≡ cond (id == x) (Some (leaf_under 0)) (value_at nat_cmp x (snaps_of keys))
  snap_found x = ap (value_at nat_cmp x) snaps_four ∙ value_at-with (snaps_of keys) id x (leaf_under 0)

  subvols_two : two.subvols ≡ keys.subvols
  subvols_two = entries_other (snap_update id (leaf_under 0)) one Subvols refl ∙ entries_other (counter_update client count) keys Subvols refl

  subvols_four : four.subvols ≡ three.subvols
  subvols_four = entries_other (counter_update id_counter (id - 1)) three Subvols refl

  in_slot : (slot : ℕ) → subs_in two slot ≡ subs_in keys slot
  in_slot slot = ap (λ (entries : Entries). subs_of (value_at pos_cmp (record { inode = 0; offset = slot; snapshot = 0 }) entries)) subvols_two

  puts_two : PutsSub name (Some sub) (subs_in two (slot_of name)) subs
  puts_two = subst (λ (old : List Sub). PutsSub name (Some sub) old subs) (sym (in_slot (slot_of name))) puts

  -- in which each name has the subvolume that it had, but the new one,
  pub named_four : (other : List ℕ) → sub_named four other ≡ cond (is_eq (name_cmp name other)) (Some sub) (sub_named keys other)
  named_four other = ap (λ (entries : Entries). sub_of other (subs_of (value_at pos_cmp (record { inode = 0; offset = slot_of other; snapshot = 0 }) entries))) subvols_four
      ∙ put_found two is_two name (Some sub) subs puts_two other ∙ ap (λ o. cond (is_eq (name_cmp name other)) (Some sub) o) (ap (sub_of other) (in_slot (slot_of other)))

  -- no key of a file changes,
  pub keeps_four : KeepsFiles keys four
  keeps_four = keeps_then keys one four (keeps_one (counter_update client count) keys (counter_of_none client count))
      (keeps_then one two four (keeps_one (snap_update id (leaf_under 0)) one (snap_of_none id (leaf_under 0)))
      (keeps_then two three four (keeps_one (subs_update (slot_of name) subs) two (subs_of_none (slot_of name) subs)) (keeps_one (counter_update id_counter (id - 1)) three (counter_of_none id_counter (id - 1)))))

  -- all ids go on,
  pub grows_four : Grows keys four (λ x. x)
  grows_four = root_grows keys four keeps_four.files kept.drawn left snaps_four

  counts_one : (counter : ℕ) → counter_in one counter ≡ cond (client == counter) (Some count) (counter_in keys counter)
  counts_one counter = counter_in-put (counter_update client count) keys is refl client count refl refl counter

  -- the counters stand so,
  pub counts_four : (counter : ℕ) → counter_in four counter ≡ cond (id_counter == counter) (Some (id - 1)) (cond (client == counter) (Some count) (counter_in keys counter))
  counts_four counter = counter_in-put (counter_update id_counter (id - 1)) three is_three refl id_counter (id - 1) refl refl counter
      ∙ ap (λ o. cond (id_counter == counter) (Some (id - 1)) o) (counter_in-other (subs_update (slot_of name) subs) two is_two refl counter ∙ counter_in-other (snap_update id (leaf_under 0)) one is_one refl counter ∙ counts_one counter)

  client_count : (other : ℕ) → other < 16 → counter_in four other ≡ cond (client == other) (Some count) (counter_in keys other)
  client_count other fits = counts_four other ∙ ap (λ b. cond b (Some (id - 1)) (cond (client == other) (Some count) (counter_in keys other))) (ne_eqb id_counter other (λ same. omega (arith, fits, same)))

  own_count : counter_in four client ≡ Some count
  own_count = client_count client lt ∙ ap (λ b. cond b (Some count) (counter_in keys client)) (eq-eqb client client refl)

  ids_count : counter_in four id_counter ≡ Some (id - 1)
  ids_count = counts_four id_counter ∙ ap (λ b. cond b (Some (id - 1)) (cond (client == id_counter) (Some count) (counter_in keys id_counter))) (eq-eqb id_counter id_counter refl)

  ids_next : next_in four id_counter ≡ id - 1
  ids_next = ap (λ o. unwrap_or o 0) ids_count

  still : (number : ℕ) → IsDrawn keys number → IsDrawn four number
  still number was = record { client = was.client; count = by (client == (number / numbers_per_client)) refl }
    where
      by : (b : Bool) → (client == (number / numbers_per_client)) ≡ b → number % numbers_per_client < next_in four (number / numbers_per_client)
      by true same = let now : next_in four (number / numbers_per_client) ≡ count = ap (λ o. unwrap_or o 0) (client_count (number / numbers_per_client) was.client ∙ ap (λ b. cond b (Some count) (counter_in keys (number / numbers_per_client))) same) in
          let old : next_in keys (number / numbers_per_client) ≡ next_in keys client = ap (next_in keys) (sym (eqb-true client (number / numbers_per_client) same)) in omega (arith, now, old, was.count)
      by false apart = let now : next_in four (number / numbers_per_client) ≡ next_in keys (number / numbers_per_client) = ap (λ o. unwrap_or o 0) (client_count (number / numbers_per_client) was.client ∙ ap (λ b. cond b (Some count) (counter_in keys (number / numbers_per_client))) apart) in omega (arith, now, was.count)

  -- the number of the root is drawn,
  pub root_drawn : IsDrawn four root
  root_drawn = let whose : (client * numbers_per_client + next_in keys client) / numbers_per_client ≡ client = omega (arith, room) in
      let which : (client * numbers_per_client + next_in keys client) % numbers_per_client ≡ next_in keys client = omega (arith, room) in
      let now : next_in four client ≡ count = ap (λ o. unwrap_or o 0) own_count in
      record { client = omega (arith, whose, lt); count = subst (λ c. (client * numbers_per_client + next_in keys client) % numbers_per_client < next_in four c) (sym whose) (omega (arith, which, now)) }

  fits : id ≤ 4294967294
  fits = kept.drawn.id_counter_there.in_range.1

  keyed_two : AreKeysBy four two
  keyed_two = keyed_then four one (snap_update id (leaf_under 0)) (snap_put four id (leaf_under 0) (omega (arith, fits)))
      (keyed_then four keys (counter_update client count) (counter_put four client count (omega (arith, lt))) (keyed_still keys four keys still kept.drawn.each))

  keyed_three : AreKeysBy four three
  keyed_three = keyed_then four two (subs_update (slot_of name) subs) (subs_put four (slot_of name) subs puts.in_range
      (puts_have (λ (s : Sub). IsDrawn four s.root) name (Some sub) (subs_in two (slot_of name)) subs puts_two (λ put same. subst (λ (s : Sub). IsDrawn four s.root) (same_Some sub put same) root_drawn) (old_roots four two (slot_of name) (keyed_two Subvols)))) keyed_two

  client_there : (other : ℕ) → other < 16 → IsCounterFrom four 1 numbers_per_client other
  client_there other below = by (client == other) refl
    where
      by : (b : Bool) → (client == other) ≡ b → IsCounterFrom four 1 numbers_per_client other
      by true same = let now : counter_in four other ≡ Some count = client_count other below ∙ ap (λ b. cond b (Some count) (counter_in keys other)) same in
          record { there = subst IsSome (sym now) refl; in_range = subst (λ (o : Option ℕ). IsInRange 1 numbers_per_client (unwrap_or o 0)) (sym now) (omega arith, omega (arith, room)) }
      by false apart = counter_stays keys four 1 numbers_per_client other (client_count other below ∙ ap (λ b. cond b (Some count) (counter_in keys other)) apart) (kept.drawn.clients other below)

  drawn_four : AreKeysDrawn four
  drawn_four = record {
    each = keyed_then four three (counter_update id_counter (id - 1)) (counter_put four id_counter (id - 1) (omega arith)) keyed_three;
    ids = subst (λ m. AreAbove m four) (sym ids_next) (above_other (id - 1) (counter_update id_counter (id - 1)) three refl (above_other (id - 1) (subs_update (slot_of name) subs) two refl
        (above_then (id - 1) (snap_update id (leaf_under 0)) one (omega (arith, left)) (above_other (id - 1) (counter_update client count) keys refl (above_less id (id - 1) keys (omega arith) kept.drawn.ids)))));
    clients = client_there;
    id_counter_there = record { there = subst IsSome (sym ids_count) refl; in_range = subst (IsInRange 0 4294967294) (sym ids_next) (omega arith, omega (arith, fits)) };
  }

  names_two : AreNamesGood two
  names_two = named_other (snap_update id (leaf_under 0)) one refl refl (named_other (counter_update client count) keys refl refl kept.named)

  names_four : AreNamesGood four
  names_four = named_other (counter_update id_counter (id - 1)) three refl refl
      (named_then (slot_of name) subs two (puts_have (IsGoodIn (slot_of name)) name (Some sub) (subs_in two (slot_of name)) subs puts_two (λ put same. subst (IsGoodIn (slot_of name)) (same_Some sub put same) (refl, named)) (old_names two (slot_of name) names_two)) names_two)

  -- what the new subvolume has and each other one that was there, all have,
  pub each_four : (P : Sub → Type 0) → P sub → ((s : Sub) → IsIn s (all_subs keys) → P s) → (s : Sub) → IsIn s (all_subs four) → P s
  each_four P own others s among = by (is_eq (name_cmp name s.name)) (sym (named_four s.name) ∙ each_found four is_four drawn_four names_four s among)
    where
      by : (b : Bool) → cond b (Some sub) (sub_named keys s.name) ≡ Some s → P s
      by true same = subst P (same_Some sub s same) own
      by false is_there = others s (sub_named-in keys s.name s is_there).0

  leaf_of : (s : Sub) → IsIn s (all_subs keys) → IsLiveLeaf keys s.id
  leaf_of s among = all_in (λ (t : Sub). IsLiveLeaf keys t.id) s (all_subs keys) kept.ids.subvolumes among

  -- its leaf is live,
  pub own_leaf : IsLiveLeaf four id
  own_leaf = record { snap = leaf_under 0; found = snap_found id ∙ ap (λ b. cond b (Some (leaf_under 0)) (value_at nat_cmp id (snaps_of keys))) (eq-eqb id id refl); live = refl }

  -- as all live leaves still are,
  pub leaf_then : (x : ℕ) → IsLiveLeaf keys x → (x ≢ id) × IsLiveLeaf four x
  leaf_then x was = let up = above x was in ((λ same. omega (arith, up, same)), record { snap = was.snap; found = snap_found x ∙ ap (λ b. cond b (Some (leaf_under 0)) (value_at nat_cmp x (snaps_of keys))) (ne_eqb id x (λ same. omega (arith, up, same))) ∙ was.found; live = was.live })

  count_four : (test : Sub → Bool) → count_by test (all_subs four) ≡ count_by test (all_subs keys) + count_by test (sub ∷ [])
  count_four test =
      let sums = put_counted two is_two name (Some sub) subs puts_two (slot_in_range four two (slot_of name) (keyed_two Subvols)) test in
      let last : count_by test (all_subs four) ≡ count_by test (all_subs three) = ap (count_by test) (same_subs three four subvols_four) in
      let old : count_by test (all_subs two) ≡ count_by test (all_subs keys) = ap (count_by test) (same_subs keys two subvols_two) in
      let none : count_by test (option_to_list (sub_named two name)) ≡ 0 = ap (λ (o : Option Sub). count_by test (option_to_list o)) (ap (sub_of name) (in_slot (slot_of name)) ∙ free) in
      omega (arith, sums, last, old, none)

  ids_four : DoIdsMatch four
  ids_four = record {
    subvolumes = all_from_in (λ (s : Sub). IsLiveLeaf four s.id) (all_subs four) (each_four (λ s. IsLiveLeaf four s.id) own_leaf (λ s among. (leaf_then s.id (leaf_of s among)).1));
    leaves = λ x now. by x now (id == x) refl (sym (snap_found x) ∙ now.found);
  }
    where
      by : (x : ℕ) (now : IsLiveLeaf four x) (b : Bool) → (id == x) ≡ b → cond b (Some (leaf_under 0)) (value_at nat_cmp x (snaps_of keys)) ≡ Some now.snap → count_with_id four x ≡ 1
      by x now true same is_there =
          let test = λ (s : Sub). s.id == x in
          let sums = count_four test in
          let at : id ≡ x = eqb-true id x same in
          let own : count_by test (sub ∷ []) ≡ 1 = count_one test sub same in
          let old : count_by test (all_subs keys) ≡ 0 = count_none test (all_subs keys) (λ s among. ne_eqb s.id x (λ equal. let up = above s.id (leaf_of s among) in omega (arith, up, equal, at))) in
          omega (arith, sums, own, old)
      by x now false apart is_there =
          let test = λ (s : Sub). s.id == x in
          let sums = count_four test in
          let own : count_by test (sub ∷ []) ≡ 0 = count_fails test sub apart in
          let old = kept.ids.leaves x (record { snap = now.snap; found = is_there; live = now.live }) in
          omega (arith, sums, own, old)

  -- and they are kept.
  pub four_kept : IsKept four nodes layout
  four_kept = grown_is_kept keys four (λ x. x) grows_four kept.extents keeps_four nodes layout kept is_four
      (record { each = subst AreJoined (sym snaps_four) (root_joined (snaps_of keys) id some (all_above_counter keys kept.drawn) kept.trees.each) }) ids_four drawn_four names_four

  -- No key named the root's number.
  pub unused : IsUnused keys root
  unused = unused_from_counter keys client (next_in keys client) kept.drawn (omega arith) room
