-- Steps from sound and tidy keys to what is good in the id of a subvolume end in such keys, and change the tree of this subvolume alone.
use Rattle.std.proofs.Common.{◌≡◌, ℕ, ◌+◌, ◌-◌, ◌<◌, Bool, true, false, cond, Option, Some, List, [], ◌∷◌, refl, sym, ap, ◌∙◌, subst, arith, map, slice_set}
use Rattle.std.specs.Prelude.{◌≢◌, ◌==◌, All, option_map, slice_index, unwrap_or}
use Rattle.std.specs.BTreeMap.{is_at}
use Rattle.std.proofs.lemmas.List.FromFn.{get_or-map-range_with_len}
use Rattle.std.proofs.lemmas.Option.{same_Some}
use Rattle.key_meaning.specs.ForestLaws.{tree_at}
use Rattle.key_meaning.specs.UpdateLaws.{set_one}
use Rattle.vol_types.specs.Maps.{value_at}
use Rattle.std.specs.List.{range_with_len}
use Rattle.std.proofs.lemmas.Bool.{eq-eqb, eqb-true, ne_eqb, true≢false}
use Rattle.key_meaning.specs.Alike.{ShowAlike}
use Rattle.key_meaning.specs.AlikeLaws.{directories_in-alike}
use Rattle.key_meaning.specs.Checks.{IsSound}
use Rattle.key_meaning.specs.Forest.{Read, all_subs, counter_in, directories_in, forest_in, next_in, sub_named, tree_of}
use Rattle.key_meaning.specs.KeptLaws.{all_from_in}
use Rattle.key_meaning.specs.SameLaws.{same_subs}
use Rattle.key_meaning.specs.SoundLaws.{IsIn, all_in, leaf_is_alone, one_of_each, sub_named-in, sub_named-is}
use Rattle.key_meaning.specs.Tidy.{IsTidy}
use Rattle.key_meaning.specs.TreeLaws.{subvolumes-changed}
use Rattle.key_meaning.specs.Visible.{snaps_of}
use Rattle.key_steps.proofs.Meanings.{directories_are, one_tree, same_directories, shown_is_tree}
use Rattle.key_steps.proofs.Subvolumes.{kept_is_sound, sound_is_kept}
use Rattle.key_steps.specs.Good.{IsGoodShown}
use Rattle.key_steps.specs.Kept.{IsLeafGood}
use Rattle.key_steps.specs.Shown.{AreDirectoriesOf, IsTreeOf, Shown}
use Rattle.key_steps.specs.Steps.{Steps}
use Rattle.plain_forest.specs.Forest.{Names, Tree}
use Rattle.plain_forest.specs.Maps.{changed_at}
use Rattle.snap_tree.specs.Snaps.{is_ancestor_of}
use Rattle.vol_types.specs.KeyMaps.{IsKeyMap, KeyMap}
use Rattle.vol_types.specs.Ranges.{name_cmp}
use Rattle.vol_types.specs.declared.layout.Layout.{Layout}
use Rattle.vol_types.specs.declared.pointers.Place.{Place}
use Rattle.vol_types.specs.declared.values.Sub.{Sub}

-- Where an id shows the same in new keys, what is good there is so still.
good_alike : (keys new : KeyMap) (sub : Sub) → ShowAlike new sub.id keys sub.id → IsLeafGood keys sub → IsLeafGood new sub
good_alike keys new sub alike good = subst (λ (p : Shown × List (ℕ × Names)). IsGoodShown sub.root p.0 p.1)
    (λ i. (record { inodes = λ number. sym (alike.inodes number) i; links = λ directory slot. sym (alike.names directory slot) i; blocks = λ file block. sym (alike.blocks file block) i }, sym (directories_in-alike new keys sub.id sub.id alike) i)) good

-- a value that is there is changed alike by a change and by what it makes of the value
changed_to : (name : List ℕ) (change : Tree → Tree) (tree : Tree) (entries : List (List ℕ × Tree)) → value_at name_cmp name entries ≡ Some tree → changed_at name_cmp name (λ _. change tree) entries ≡ changed_at name_cmp name change entries
changed_to name change tree [] there = refl
changed_to name change tree (e ∷ es) there = by (is_at (name_cmp name) e.0) there (changed_to name change tree es)
  where
    by : (b : Bool) → cond b (Some e.1) (value_at name_cmp name es) ≡ Some tree → (value_at name_cmp name es ≡ Some tree → changed_at name_cmp name (λ _. change tree) es ≡ changed_at name_cmp name change es)
        → cond b ((e.0, change tree) ∷ es) (e ∷ changed_at name_cmp name (λ _. change tree) es) ≡ cond b ((e.0, change e.1) ∷ es) (e ∷ changed_at name_cmp name change es)
    by true here later = λ i. (e.0, change (sym (same_Some e.1 tree here) i)) ∷ es
    by false here later = λ i. e ∷ later here i

module _ (keys new : KeyMap) (nodes : List Place) (layout : Layout) (name : List ℕ) (sub : Sub) (shown : Shown) (counters : ℕ → Option ℕ) (sound : IsSound keys nodes layout) (found : sub_named keys name ≡ Some sub) (steps : Steps keys new nodes layout sub.id shown counters) where
  module _ (read : Read) (change : Tree → Tree) (is_tree : IsTreeOf read sub shown (change (tree_of keys read sub))) where
    -- the tree of the subvolume then
    tree_then : tree_of new read sub ≡ change (tree_of keys read sub)
    tree_then = one_tree read sub shown (tree_of new read sub) (change (tree_of keys read sub)) (subst (λ (s : Shown). IsTreeOf read sub s (tree_of new read sub)) steps.shows (shown_is_tree new read sub)) is_tree

    -- the forest's subvolumes then
    subvolumes_then : (forest_in new read).subvolumes ≡ changed_at name_cmp name change (forest_in keys read).subvolumes
    subvolumes_then = subvolumes-changed keys new read name sub sound.trees sound.leaves steps.only found
        ∙ ap (λ (t : Tree). changed_at name_cmp name (λ _. t) (forest_in keys read).subvolumes) tree_then
        ∙ changed_to name change (tree_of keys read sub) (forest_in keys read).subvolumes (tree_at keys read name ∙ ap (option_map (tree_of keys read)) found)

    -- The forest has the subvolume's tree changed, and the counters that the steps end with,
    pub means_then : forest_in new read ≡ record {
      subvolumes = changed_at name_cmp name change (forest_in keys read).subvolumes;
      next = map (λ client. unwrap_or (counters client) 0) (range_with_len 0 16);
      ids_left = unwrap_or (counters 16) 0;
    }
    means_then = λ i. record {
      subvolumes = subvolumes_then i;
      next = map (λ client. unwrap_or (steps.counts i client) 0) (range_with_len 0 16);
      ids_left = unwrap_or (steps.counts i 16) 0;
    }

    -- which are the old ones where no counter was raised,
    pub uncounted_then : counters ≡ counter_in keys → forest_in new read ≡ record (forest_in keys read) { subvolumes = changed_at name_cmp name change (forest_in keys read).subvolumes }
    uncounted_then same = λ i. record {
      subvolumes = subvolumes_then i;
      next = map (λ client. unwrap_or ((steps.counts ∙ same) i client) 0) (range_with_len 0 16);
      ids_left = unwrap_or ((steps.counts ∙ same) i 16) 0;
    }

    -- or one is one more where a client's was.
    pub counted_then : (client : ℕ) → client < 16 → counters ≡ (λ counter. cond (client == counter) (Some (next_in keys client + 1)) (counter_in keys counter))
        → forest_in new read ≡ record (forest_in keys read) {
          subvolumes = changed_at name_cmp name change (forest_in keys read).subvolumes;
          next = slice_set (forest_in keys read).next client (slice_index (forest_in keys read).next client + 1);
        }
    counted_then client lt are = λ i. record {
      subvolumes = subvolumes_then i;
      next = (set_one (next_in keys) (next_in new) client 16 0 (omega arith) (omega (arith, lt)) others
          ∙ (λ j. slice_set (map (next_in keys) (range_with_len 0 16)) (from_0 j) ((itself ∙ ap (λ n. n + 1) (sym stood)) j))) i;
      ids_left = others 16 (λ same. absurd (omega (arith, lt, same))) i;
    }
      where
        from_0 : client - 0 ≡ client
        from_0 = omega arith

        stood : slice_index (map (next_in keys) (range_with_len 0 16)) client ≡ next_in keys client
        stood = get_or-map-range_with_len (next_in keys) 0 16 client client 0 lt (omega arith)

        counts : (counter : ℕ) → counter_in new counter ≡ cond (client == counter) (Some (next_in keys client + 1)) (counter_in keys counter)
        counts counter i = (steps.counts ∙ are) i counter

        others : (counter : ℕ) → counter ≢ client → next_in new counter ≡ next_in keys counter
        others counter apart = ap (λ o. unwrap_or o 0) (counts counter ∙ ap (λ b. cond b (Some (next_in keys client + 1)) (counter_in keys counter)) (ne_eqb client counter (λ same. apart (sym same))))

        itself : next_in new client ≡ next_in keys client + 1
        itself = ap (λ o. unwrap_or o 0) (counts client ∙ ap (λ b. cond b (Some (next_in keys client + 1)) (counter_in keys client)) (eq-eqb client client refl))

  module _ (directories : List (ℕ × Names)) (are : AreDirectoriesOf shown directories) (is : IsKeyMap keys) (tidy : IsTidy keys) (good : IsGoodShown sub.root shown directories) where
    -- the directories of the subvolume then
    directories_then : directories_in new sub.id ≡ directories
    directories_then = same_directories shown (directories_in new sub.id) directories (subst (λ (s : Shown). AreDirectoriesOf s (directories_in new sub.id)) steps.shows (directories_are new sub.id)) are

    -- what the subvolume shows then is good
    own_good : IsLeafGood new sub
    own_good = subst (λ (p : Shown × List (ℕ × Names)). IsGoodShown sub.root p.0 p.1) (λ i. (sym steps.shows i, sym directories_then i)) good

    -- and so is what each other one shows
    each_good : (other : Sub) → IsIn other (all_subs keys) → IsLeafGood keys other → IsLeafGood new other
    each_good other among was = by (other.id == sub.id) refl
      where
        same_sub : other.id ≡ sub.id → sub ≡ other
        same_sub same = one_of_each (λ (s : Sub). s.id == sub.id) sub other (all_subs keys) (sound.leaves.leaves sub.id (sub_named-is keys name sub sound.leaves found).leaf) (sub_named-in keys name sub found).0 among (eq-eqb sub.id sub.id refl) (eq-eqb other.id sub.id same)

        apart_from : other.id ≢ sub.id → is_ancestor_of (snaps_of keys) sub.id other.id ≡ false
        apart_from apart = below (is_ancestor_of (snaps_of keys) sub.id other.id) refl
          where
            below : (b : Bool) → is_ancestor_of (snaps_of keys) sub.id other.id ≡ b → b ≡ false
            below true is_below = absurd (apart (leaf_is_alone keys sub.id other.id sound.trees (sub_named-is keys name sub sound.leaves found).leaf is_below))
            below false is_below = refl

        by : (b : Bool) → (other.id == sub.id) ≡ b → IsLeafGood new other
        by true same = subst (IsLeafGood new) (same_sub (eqb-true other.id sub.id same)) own_good
        by false apart = good_alike keys new other (steps.only.elsewhere other.id (apart_from (λ same. true≢false (sym (eq-eqb other.id sub.id same) ∙ apart)))) was

    -- Sound and tidy they are then too.
    pub sound_then : IsSound new nodes layout × IsTidy new
    sound_then = kept_is_sound new nodes layout steps.kept (steps.space sound.space)
        (subst (All (IsLeafGood new)) (sym (same_subs keys new steps.only.subvols))
        (all_from_in (IsLeafGood new) (all_subs keys) (λ other among. each_good other among (all_in (IsLeafGood keys) other (all_subs keys) (sound_is_kept keys nodes layout is sound tidy).2 among))))
