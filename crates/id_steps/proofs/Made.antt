-- Once the root directory of a made subvolume is put, the keys are sound and tidy, and mean the forest with it.
use Rattle.std.proofs.Common.{◌≡◌, ℕ, ◌+◌, ◌-◌, ◌*◌, ◌<◌, ◌≤◌, Bool, true, false, cond, Option, Some, None, List, [], refl, sym, ap, ◌∙◌, subst, arith, map, slice_set, ⊎_elim, inl, inr}
use Rattle.std.specs.Prelude.{◌≢◌, ◌==◌, All, IsSome, count_by, is_some, option_map, slice_index, unwrap_or}
use Rattle.std.specs.BTreeMap.{is_at}
use Rattle.std.specs.List.{range_with_len, slice_index_or}
use Rattle.std.specs.Ordering.{is_eq, nat_cmp}
use Rattle.std.proofs.lemmas.Bool.{eq-eqb, eqb-true, ne_eqb, true≢false}
use Rattle.std.proofs.lemmas.Cmp.{nat_list_cmp_total, tied_itself}
use Rattle.std.proofs.lemmas.List.FromFn.{get_or-map-range_with_len}
use Rattle.std.proofs.lemmas.Option.{same_Some}
use Rattle.forest_ops.specs.Steps.{drawn, next_number}
use Rattle.forest_ops.specs.Trees.{empty_tree}
use Rattle.id_steps.proofs.Common.{AreAbove, above_other, counter_stays, drawn_where, map_same, named_other, subvolumes_put, trees_same}
use Rattle.id_steps.proofs.Growing.{good_alike, grown_alike}
use Rattle.id_steps.proofs.Making.{counts_four, each_four, four_kept, grows_four, is_four, keeps_four, leaf_then, named_four, own_leaf, root_drawn, unused}
use Rattle.id_steps.proofs.Origins.{none_shows_nothing}
use Rattle.id_steps.proofs.Puts.{IsPutBy, keyed_still, keyed_then, of_this_one}
use Rattle.id_steps.proofs.Records.{fresh_is_none}
use Rattle.id_steps.proofs.Rooted.{root_good, root_shown, root_tree}
use Rattle.id_steps.specs.Entries.{PutsSub, counter_update, sub_of, subs_update}
use Rattle.id_steps.specs.Steps.{drawn_number, empty_directory, made_sub}
use Rattle.key_meaning.specs.Alike.{ShowAlike}
use Rattle.key_meaning.specs.AlikeLaws.{alike_then}
use Rattle.key_meaning.specs.BlockLaws.{block_in-other}
use Rattle.key_meaning.specs.Blocks.{block_in}
use Rattle.key_meaning.specs.ChangeLaws.{update_changes_only}
use Rattle.key_meaning.specs.Changes.{ChangesOnly}
use Rattle.key_meaning.specs.Checks.{AreExtentsApart, AreIdsThere, IsLiveLeaf, IsSpaceCounted}
use Rattle.key_meaning.specs.CounterLaws.{entries_other}
use Rattle.key_meaning.specs.EntryLaws.{all-with_update}
use Rattle.key_meaning.specs.Forest.{Read, all_subs, counter_in, forest_in, inode_in, kind_in, links_in, links_of, next_in, sub_named, subs_in, subs_of, tree_named, tree_of}
use Rattle.key_meaning.specs.InodeLaws.{inode_keeps_below, inode_keeps_gone, this_or_same}
use Rattle.key_meaning.specs.KeptLaws.{all_from_in, blocks_stay_placed, space_stays_counted}
use Rattle.key_meaning.specs.Numbers.{NamesOthers, own_inode}
use Rattle.key_meaning.specs.SameLaws.{extents_apart-same, live_leaf_was, same_subs, trees_stay_joined}
use Rattle.key_meaning.specs.SoundLaws.{all_in, joined_are_trees, leaf_is_alone, sub_named-in}
use Rattle.key_meaning.specs.Tidy.{AreBlocksOwned, AreKeysDrawn, HasOwner, IsKeyOf, IsNoted, id_counter}
use Rattle.key_meaning.specs.UpdateLaws.{counter_in-other, inode_in-put, inode_update, set_one}
use Rattle.key_meaning.specs.Visible.{snaps_of}
use Rattle.key_meaning.specs.VisibleLaws.{snaps_of-with_update, visible-other}
use Rattle.key_steps.specs.Good.{IsGoodShown}
use Rattle.key_steps.specs.Kept.{DoIdsMatch, IsKept, IsLeafGood}
use Rattle.key_steps.specs.Shown.{IsTreeOf, Shown, shown_in}
use Rattle.key_steps.specs.Steps.{inode_value}
use Rattle.plain_forest.specs.Forest.{Names, Tree}
use Rattle.plain_forest.specs.Names.{is_good_subvolume_name}
use Rattle.plain_forest.specs.Steps.{numbers_per_client}
use Rattle.snap_tree.specs.Snaps.{Snaps, is_ancestor_of}
use Rattle.snap_tree.specs.Splits.{leaf_under, snap_update}
use Rattle.vol_digest.specs.Digests.{slot_of}
use Rattle.vol_types.specs.KeyMapLaws.{IsKeyMap-with_update}
use Rattle.vol_types.specs.KeyMaps.{Entries, IsKeyMap, KeyMap, entries_of, is_update_of, with_update}
use Rattle.vol_types.specs.Maps.{put_at, value_at, with_value}
use Rattle.vol_types.specs.Positions.{pos_cmp}
use Rattle.vol_types.specs.Ranges.{name_cmp}
use Rattle.vol_types.specs.declared.keys.Update.{Update}
use Rattle.vol_types.specs.declared.layout.Layout.{Layout}
use Rattle.vol_types.specs.declared.pointers.Place.{Place}
use Rattle.vol_types.specs.declared.positions.Btree.{Btree}
use Rattle.vol_types.specs.declared.positions.Btree.TheVariants.{Alloc, Backptrs, Deleted, Dirents, Extents, Inodes, Subvols}
use Rattle.vol_types.specs.declared.positions.Pos.{Pos}
use Rattle.vol_types.specs.declared.values.FileKind.TheVariants.{File}
use Rattle.vol_types.specs.declared.values.Inode.{Inode}
use Rattle.vol_types.specs.declared.values.Sub.{Sub}
use Rattle.vol_types.specs.declared.values.Value.{Value}

-- one tree is what shows in an id
pub record TreesOfShown : Type 0 where
  pub tree : (keys : KeyMap) (read : Read) (sub : Sub) → IsTreeOf read sub (shown_in keys sub.id) (tree_of keys read sub)
  pub one : (read : Read) (sub : Sub) (shown : Shown) (one other : Tree) → IsTreeOf read sub shown one → IsTreeOf read sub shown other → one ≡ other

module _ (keys : KeyMap) (nodes : List Place) (layout : Layout) (is : IsKeyMap keys) (kept : IsKept keys nodes layout) (client : ℕ) (name : List ℕ) (subs : List Sub)
    (lt : client < 16) (room : next_in keys client < numbers_per_client) (left : 1 ≤ next_in keys id_counter) (named : is_good_subvolume_name name ≡ true) (free : sub_named keys name ≡ None)
    (puts : PutsSub name (Some (made_sub keys client name)) (subs_in keys (slot_of name)) subs) where
  abbrev id : ℕ
  id = next_in keys id_counter

  abbrev root : ℕ
  root = drawn_number keys client

  abbrev sub : Sub
  sub = made_sub keys client name

  abbrev old : KeyMap
  old = with_update (counter_update id_counter (id - 1)) (with_update (subs_update (slot_of name) subs) (with_update (snap_update id (leaf_under 0)) (with_update (counter_update client (next_in keys client + 1)) keys)))

  abbrev put : Update
  put = own_inode id root (Some (inode_value empty_directory))

  abbrev new : KeyMap
  new = with_update put old

  is_old : IsKeyMap old
  is_old = is_four keys nodes layout is kept client name subs lt room left named free puts

  was : IsKept old nodes layout
  was = four_kept keys nodes layout is kept client name subs lt room left named free puts

  leaf : IsLiveLeaf old id
  leaf = own_leaf keys nodes layout is kept client name subs lt room left named free puts

  snaps_same : snaps_of new ≡ snaps_of old
  snaps_same = snaps_of-with_update put old is_old refl

  same : (btree : Btree) → is_update_of btree put ≡ false → entries_of new btree ≡ entries_of old btree
  same btree other = entries_other put old btree other

  -- no extent or hole is of the root's number
  no_blocks : All (NamesOthers root Extents) old.extents
  no_blocks = subst (All (NamesOthers root Extents)) (sym (keeps_four keys nodes layout is kept client name subs lt room left named free puts).files.extents) ((unused keys nodes layout is kept client name subs lt room left named free puts).each Extents)

  not_gone : All (NamesOthers root Deleted) old.deleted
  not_gone = subst (All (NamesOthers root Deleted)) (sym (keeps_four keys nodes layout is kept client name subs lt room left named free puts).deleted) ((unused keys nodes layout is kept client name subs lt room left named free puts).each Deleted)

  counts : (counter : ℕ) → counter_in new counter ≡ counter_in old counter
  counts counter = counter_in-other put old is_old refl counter

  next_same : (counter : ℕ) → next_in new counter ≡ next_in old counter
  next_same counter = ap (λ o. unwrap_or o 0) (counts counter)

  id_fits : id ≤ 4294967294
  id_fits = kept.drawn.id_counter_there.in_range.1

  root_put : IsPutBy old put
  root_put = λ btree of value at. of_this_one (λ b. IsKeyOf old b (put.pos, value)) Inodes btree
      (subst (λ (v : Value). IsKeyOf old Inodes (put.pos, v)) (same_Some (inode_value empty_directory) value at)
      (record {
        stands = record { in_leaf = λ at. refl; above = λ (up : 0 < 0). absurd (omega (arith, up)) };
        in_range = record { links = (omega arith, omega arith); size = omega arith };
        place = refl;
        id = omega (arith, id_fits);
        numbers = root_drawn keys nodes layout is kept client name subs lt room left named free puts;
      })) of

  drawn_new : AreKeysDrawn new
  drawn_new = record {
    each = keyed_still old new new (drawn_where old new (λ other fits. counts other)) (keyed_then old old put root_put was.drawn.each);
    ids = subst (λ m. AreAbove m new) (sym (next_same id_counter)) (above_other (next_in old id_counter) put old refl was.drawn.ids);
    clients = λ other fits. counter_stays old new 1 numbers_per_client other (counts other) (was.drawn.clients other fits);
    id_counter_there = counter_stays old new 0 4294967294 id_counter (counts id_counter) was.drawn.id_counter_there;
  }

  leaf_now : (x : ℕ) → IsLiveLeaf old x → IsLiveLeaf new x
  leaf_now x live = live_leaf_was new old (sym snaps_same) x live

  subs_same : all_subs new ≡ all_subs old
  subs_same = same_subs old new (same Subvols refl)

  ids_new : DoIdsMatch new
  ids_new = record {
    subvolumes = subst (All (λ (s : Sub). IsLiveLeaf new s.id)) (sym subs_same) (λ k d below. leaf_now (slice_index_or (all_subs old) k d).id (was.ids.subvolumes k d below));
    leaves = λ x live. ap (count_by (λ (s : Sub). s.id == x)) subs_same ∙ was.ids.leaves x (live_leaf_was old new snaps_same x live);
  }

  extents_new : AreExtentsApart new
  extents_new = extents_apart-same old new snaps_same (same Extents refl)
      (all-with_update (λ (entry : Pos × Value). IsSome (value_at nat_cmp entry.0.snapshot (snaps_of new))) put old Inodes (λ of value at. subst (λ (s : Snaps). IsSome (value_at nat_cmp id s)) (sym snaps_same) (ap is_some leaf.found)) (there old.inodes was.extents.inodes))
      (subst (AreIdsThere new) (sym (same Dirents refl)) (there old.dirents was.extents.dirents)) (same Deleted refl) was.extents
    where
      there : (entries : Entries) → AreIdsThere old entries → AreIdsThere new entries
      there entries ids = subst (λ (s : Snaps). All (λ (entry : Pos × Value). IsSome (value_at nat_cmp entry.0.snapshot s)) entries) (sym snaps_same) ids

  owned_new : AreBlocksOwned new
  owned_new = record {
    each = subst (All (HasOwner new)) (sym (same Extents refl)) (λ k d below. let entry = slice_index_or old.extents k d in ⊎_elim
        (λ (file : kind_in old entry.0.snapshot entry.0.inode ≡ Some File). ⊎_elim
        (λ (this : (entry.0.snapshot ≡ id) × (entry.0.inode ≡ root)). absurd (no_blocks k d below this.1))
        (λ (stays : inode_in new entry.0.snapshot entry.0.inode ≡ inode_in old entry.0.snapshot entry.0.inode). inl (ap (option_map (λ (inode : Inode). inode.kind)) stays ∙ file))
        (this_or_same old is_old id root (Some (inode_value empty_directory)) was.trees leaf entry.0.snapshot entry.0.inode))
        (λ (noted : IsNoted old entry.0.snapshot entry.0.inode). inr (subst (λ (entries : Entries). IsSome (value_at pos_cmp (record { inode = 0; offset = entry.0.inode; snapshot = entry.0.snapshot }) entries)) (sym (same Deleted refl)) noted))
        (was.owned.each k d below));
  }

  -- The keys are kept then,
  pub made_kept : IsKept new nodes layout
  made_kept = record {
    is_map = IsKeyMap-with_update put old is_old;
    trees = trees_stay_joined old new snaps_same was.trees;
    ids = ids_new;
    extents = extents_new;
    blocks = blocks_stay_placed old new nodes layout (same Extents refl) was.blocks;
    drawn = drawn_new;
    named = named_other put old refl refl was.named;
    below = inode_keeps_below old is_old id root (Some (inode_value empty_directory)) was.trees leaf (inr no_blocks) was.below;
    gone = inode_keeps_gone old is_old id root (Some (inode_value empty_directory)) was.trees leaf (inr not_gone) was.gone;
    owned = owned_new;
  }

  -- space is counted,
  pub made_space : IsSpaceCounted keys → IsSpaceCounted new
  made_space = let kept_files = keeps_four keys nodes layout is kept client name subs lt room left named free puts in
      space_stays_counted keys new (same Extents refl ∙ kept_files.files.extents) (same Alloc refl ∙ kept_files.alloc) (same Backptrs refl ∙ kept_files.backptrs)

  -- each other leaf shows what it showed
  others_alike : (x : ℕ) → IsLiveLeaf keys x → ShowAlike new x keys x
  others_alike x live = alike_then new old keys x x x (changes.elsewhere x (by (is_ancestor_of (snaps_of old) id x) refl))
      (grown_alike keys old (λ n. n) (grows_four keys nodes layout is kept client name subs lt room left named free puts) kept.extents x)
    where
      changes : ChangesOnly old new id
      changes = update_changes_only put old id is_old (record { snaps = refl; subvols = refl; place = inl refl })

      by : (b : Bool) → is_ancestor_of (snaps_of old) id x ≡ b → b ≡ false
      by true above = absurd ((leaf_then keys nodes layout is kept client name subs lt room left named free puts x live).0 (leaf_is_alone old id x was.trees leaf above))
      by false apart = refl

  -- the new leaf shows the root alone
  own_shown : shown_in new id ≡ root_shown root
  own_shown = λ i. record { inodes = λ number. inodes number i; links = λ directory slot. links directory slot i; blocks = λ file block. blocks file block i }
    where
      nothing : (number : ℕ) → inode_in old id number ≡ None
      nothing number = (grown_alike keys old (λ n. n) (grows_four keys nodes layout is kept client name subs lt room left named free puts) kept.extents id).inodes number ∙ (none_shows_nothing keys id (fresh_is_none keys id kept.drawn (omega arith))).inodes number

      inodes : (number : ℕ) → inode_in new id number ≡ cond (root == number) (Some empty_directory) None
      inodes number = by (root == number) refl
        where
          by : (b : Bool) → (root == number) ≡ b → inode_in new id number ≡ cond b (Some empty_directory) None
          by true at = ap (inode_in new id) (sym (eqb-true root number at)) ∙ inode_in-put put old is_old (joined_are_trees old was.trees) (ap is_some leaf.found) refl refl (inode_value empty_directory) refl
          by false apart = (inode_update put old is_old refl id).inodes number (λ at. true≢false (sym (eq-eqb root number (sym at)) ∙ apart)) ∙ nothing number

      links : (directory slot : ℕ) → links_in new id directory slot ≡ []
      links directory slot = ap links_of (visible-other put old is_old refl Dirents directory slot id refl)
          ∙ (grown_alike keys old (λ n. n) (grows_four keys nodes layout is kept client name subs lt room left named free puts) kept.extents id).names directory slot ∙ (none_shows_nothing keys id (fresh_is_none keys id kept.drawn (omega arith))).names directory slot

      blocks : (file block : ℕ) → block_in new id file block ≡ None
      blocks file block = block_in-other put old is_old refl refl id file block
          ∙ (grown_alike keys old (λ n. n) (grows_four keys nodes layout is kept client name subs lt room left named free puts) kept.extents id).blocks file block ∙ (none_shows_nothing keys id (fresh_is_none keys id kept.drawn (omega arith))).blocks file block

  module _ (trees : TreesOfShown) where
    own_tree : (read : Read) → tree_of new read sub ≡ empty_tree root
    own_tree read = trees.one read sub (root_shown root) (tree_of new read sub) (empty_tree root) (subst (λ (s : Shown). IsTreeOf read sub s (tree_of new read sub)) own_shown (trees.tree new read sub)) (root_tree root read sub refl refl)

    own_good : IsLeafGood new sub
    own_good = subst (λ (p : Shown × List (ℕ × Names)). IsGoodShown root p.0 p.1) (λ i. (sym own_shown i, sym (ap (λ (t : Tree). t.directories) (own_tree (λ places digest. None))) i)) (root_good root)

    -- what each subvolume shows is good,
    pub made_good : All (IsLeafGood keys) (all_subs keys) → All (IsLeafGood new) (all_subs new)
    made_good good = subst (All (IsLeafGood new)) (sym subs_same) (all_from_in (IsLeafGood new) (all_subs old) (each_four keys nodes layout is kept client name subs lt room left named free puts (IsLeafGood new) own_good
        (λ s among. good_alike keys new s s (others_alike s.id (all_in (λ (t : Sub). IsLiveLeaf keys t.id) s (all_subs keys) kept.ids.subvolumes among)) refl (all_in (IsLeafGood keys) s (all_subs keys) good among))))

    named_new : (other : List ℕ) → sub_named new other ≡ cond (is_eq (name_cmp name other)) (Some sub) (sub_named keys other)
    named_new other = ap (λ (entries : Entries). sub_of other (subs_of (value_at pos_cmp (record { inode = 0; offset = slot_of other; snapshot = 0 }) entries))) (same Subvols refl)
        ∙ named_four keys nodes layout is kept client name subs lt room left named free puts other

    counter_now : (counter : ℕ) → next_in new counter ≡ unwrap_or (cond (id_counter == counter) (Some (id - 1)) (cond (client == counter) (Some (next_in keys client + 1)) (counter_in keys counter))) 0
    counter_now counter = next_same counter ∙ ap (λ o. unwrap_or o 0) (counts_four keys nodes layout is kept client name subs lt room left named free puts counter)

    -- and the forest has the subvolume.
    pub made_forest : (read : Read) → forest_in new read ≡ record (drawn client (forest_in keys read)) {
      subvolumes = with_value name_cmp name (empty_tree (next_number client (forest_in keys read))) (forest_in keys read).subvolumes;
      ids_left = (forest_in keys read).ids_left - 1;
    }
    made_forest read = λ i. record {
      subvolumes = (subvolumes_put keys new read name others ∙ ap (λ (t : Option Tree). put_at name_cmp name t (forest_in keys read).subvolumes) (made ∙ ap (λ m. Some (empty_tree (client * numbers_per_client + m))) (sym stood))) i;
      next = (map_same (next_in new) (λ counter. cond (client == counter) (next_in keys client + 1) (next_in keys counter)) 16 0 (λ counter below. clients counter (omega (arith, below))) ∙ set_one (next_in keys) (λ counter. cond (client == counter) (next_in keys client + 1) (next_in keys counter)) client 16 0 (omega arith) (omega (arith, lt)) elsewhere
          ∙ (λ j. slice_set (map (next_in keys) (range_with_len 0 16)) (from_0 j) ((itself ∙ ap (λ m. m + 1) (sym stood)) j))) i;
      ids_left = (counter_now 16 ∙ ap (λ b. unwrap_or (cond b (Some (id - 1)) (cond (client == 16) (Some (next_in keys client + 1)) (counter_in keys 16))) 0) (eq-eqb id_counter 16 refl)) i;
    }
      where
        from_0 : client - 0 ≡ client
        from_0 = omega arith

        stood : slice_index (map (next_in keys) (range_with_len 0 16)) client ≡ next_in keys client
        stood = get_or-map-range_with_len (next_in keys) 0 16 client client 0 lt (omega arith)

        clients : (counter : ℕ) → counter < 16 → next_in new counter ≡ cond (client == counter) (next_in keys client + 1) (next_in keys counter)
        clients counter below = counter_now counter ∙ ap (λ b. unwrap_or (cond b (Some (id - 1)) (cond (client == counter) (Some (next_in keys client + 1)) (counter_in keys counter))) 0) (ne_eqb id_counter counter (λ at. omega (arith, below, at))) ∙ by (client == counter)
          where
            by : (b : Bool) → unwrap_or (cond b (Some (next_in keys client + 1)) (counter_in keys counter)) 0 ≡ cond b (next_in keys client + 1) (next_in keys counter)
            by true = refl
            by false = refl

        elsewhere : (counter : ℕ) → counter ≢ client → cond (client == counter) (next_in keys client + 1) (next_in keys counter) ≡ next_in keys counter
        elsewhere counter apart = ap (λ b. cond b (next_in keys client + 1) (next_in keys counter)) (ne_eqb client counter (λ at. apart (sym at)))

        itself : cond (client == client) (next_in keys client + 1) (next_in keys client) ≡ next_in keys client + 1
        itself = ap (λ b. cond b (next_in keys client + 1) (next_in keys client)) (eq-eqb client client refl)

        made : tree_named new read name ≡ Some (empty_tree root)
        made = ap (option_map (tree_of new read)) (named_new name ∙ ap (λ b. cond b (Some sub) (sub_named keys name)) (ap is_eq (tied_itself nat_list_cmp_total name))) ∙ ap Some (own_tree read)

        others : (other : List ℕ) → is_at (name_cmp name) other ≡ false → tree_named new read other ≡ tree_named keys read other
        others other apart = ap (option_map (tree_of new read)) (named_new other ∙ ap (λ b. cond b (Some sub) (sub_named keys other)) apart)
            ∙ trees_same keys new read (sub_named keys other) (λ s is_there. others_alike s.id (all_in (λ (t : Sub). IsLiveLeaf keys t.id) s (all_subs keys) kept.ids.subvolumes (sub_named-in keys other s is_there).0))
