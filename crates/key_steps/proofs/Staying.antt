-- What stays where inodes, names or notes of files that are gone change in one id, whichever of them it is.
use Rattle.std.proofs.Common.{◌≡◌, ℕ, ◌/◌, ◌<◌, ◌^◌, Bool, true, false, cond, Option, Some, None, List, [], ◌∷◌, refl, sym, ap, ◌∙◌, subst, arith, ⊎_elim, inl, inr}
use Rattle.std.specs.Prelude.{◌≢◌, ◌⊎◌, ◌==◌, IsSome, All, count_by, is_some, unwrap_or}
use Rattle.std.specs.BTreeMap.{is_at}
use Rattle.std.specs.Int.{IsInRange}
use Rattle.std.specs.List.{fold, slice_index_or}
use Rattle.std.specs.Ordering.{nat_cmp}
use Rattle.std.proofs.lemmas.Bool.{eq-eqb, eqb-true, true≢false}
use Rattle.std.proofs.lemmas.Cmp.{nat_cmp_total}
use Rattle.std.proofs.lemmas.List.Elements.{All-head, All-tail, All-weaker}
use Rattle.std.proofs.lemmas.Map.Lookups.{exact_unsigned}
use Rattle.key_meaning.specs.BlockLaws.{block_in-other}
use Rattle.key_meaning.specs.Blocks.{block_in}
use Rattle.key_meaning.specs.ChangeLaws.{changes_nothing, changes_then, update_changes_only}
use Rattle.key_meaning.specs.Changes.{ChangesOnly}
use Rattle.key_meaning.specs.Checks.{AreBlocksPlaced, AreExtentsApart, AreIdsThere, AreTreesJoined, HasRoom, IsLiveLeaf, IsSpaceCounted}
use Rattle.key_meaning.specs.CounterLaws.{entries_other, is_key_of-still}
use Rattle.key_meaning.specs.EntryLaws.{all-with_update}
use Rattle.key_meaning.specs.Forest.{all_subs, counter_in, inode_in, kind_in, links_in, next_in}
use Rattle.key_meaning.specs.KeptLaws.{blocks_stay_placed, space_stays_counted}
use Rattle.key_meaning.specs.SameLaws.{live_leaf_was, same_subs, trees_stay_joined}
use Rattle.key_meaning.specs.TableLaws.{same_key}
use Rattle.key_meaning.specs.Tidy.{AreBlocksBelow, AreBlocksOwned, AreGone, AreKeysDrawn, AreNamesGood, HasGoodNames, HasGoodSubvolumes, HasOwner, IsCounterFrom, IsDrawn, IsKeyOf, IsNoted, id_counter}
use Rattle.key_meaning.specs.UpdateLaws.{counter_in-other}
use Rattle.key_meaning.specs.Visible.{own_value, snaps_of}
use Rattle.key_meaning.specs.VisibleLaws.{snaps_of-with_update}
use Rattle.key_steps.specs.Kept.{DoIdsMatch, IsKept}
use Rattle.key_steps.specs.Steps.{Steps}
use Rattle.key_view.specs.Changes.{needs_whiteout, own_update, updates_to_see}
use Rattle.plain_forest.specs.Steps.{numbers_per_client}
use Rattle.snap_tree.specs.Snaps.{Snaps, is_ancestor_of, snap_of, with_snap}
use Rattle.vol_types.specs.Btrees.{btree_code}
use Rattle.vol_types.specs.KeyMapLaws.{IsKeyMap-with_update}
use Rattle.vol_types.specs.KeyMaps.{Entries, IsKeyMap, KeyMap, entries_of, is_update_of, keys_in, with_update, with_updates}
use Rattle.vol_types.specs.MapLaws.{value_at-with_value}
use Rattle.vol_types.specs.Maps.{value_at}
use Rattle.vol_types.specs.Positions.{pos_cmp}
use Rattle.vol_types.specs.Standing.{IsUpdate}
use Rattle.vol_types.specs.Values.{IsKindOf}
use Rattle.vol_types.specs.declared.keys.Key.{Key}
use Rattle.vol_types.specs.declared.keys.Update.{Update}
use Rattle.vol_types.specs.declared.layout.Layout.{Layout}
use Rattle.vol_types.specs.declared.pointers.Place.{Place}
use Rattle.vol_types.specs.declared.positions.Btree.{Btree}
use Rattle.vol_types.specs.declared.positions.Btree.TheVariants.{Extents, Inodes, Dirents, Subvols, Snapshots, Alloc, Backptrs, Deleted, Counters}
use Rattle.vol_types.specs.declared.positions.Pos.{Pos}
use Rattle.vol_types.specs.declared.values.FileKind.TheVariants.{File}
use Rattle.vol_types.specs.declared.values.Inode.{Inode}
use Rattle.vol_types.specs.declared.values.Link.{Link}
use Rattle.vol_types.specs.declared.values.Snap.{Snap}
use Rattle.vol_types.specs.declared.values.Sub.{Sub}
use Rattle.vol_types.specs.declared.values.Value.{Value}
use Rattle.vol_types.specs.declared.values.Value.TheVariants.{White}

-- the btree with a number
btree_with : ℕ → Btree
btree_with n =
    cond (n == 0) Extents (cond (n == 1) Inodes (cond (n == 2) Dirents (cond (n == 3) Subvols (cond (n == 4) Snapshots (cond (n == 5) Alloc (cond (n == 6) Backptrs (cond (n == 7) Deleted Counters)))))))

btree_found : (btree : Btree) → btree_with (btree_code btree) ≡ btree
unfolding btree_with
btree_found Extents = refl
btree_found Inodes = refl
btree_found Dirents = refl
btree_found Subvols = refl
btree_found Snapshots = refl
btree_found Alloc = refl
btree_found Backptrs = refl
btree_found Deleted = refl
btree_found Counters = refl

-- Btrees of two numbers are two.
pub two_btrees : (one other : Btree) → (btree_code one == btree_code other) ≡ false → one ≢ other
two_btrees one other apart same = true≢false (sym (eq-eqb (btree_code one) (btree_code other) (ap btree_code same)) ∙ apart)

-- A whiteout may be put in a btree in whose leaves it may stand.
pub white_may : (btree : Btree) (inode offset id : ℕ) → IsKindOf btree 5 → IsUpdate (own_update btree inode offset id (Some White))
white_may btree inode offset id kind = record { stands = record { in_leaf = λ leaf. kind; above = λ (up : 0 < 0). absurd (omega (arith, up)) }; in_range = tt }

-- What holds of the btree of an update holds of each btree that the update is of.
pub of_this_one : (P : Btree → Type 0) (btree other : Btree) (inode offset id : ℕ) (value : Option Value) → P btree → is_update_of other (own_update btree inode offset id value) ≡ true → P other
of_this_one P btree other inode offset id value holds of = subst P (sym (btree_found btree) ∙ ap btree_with (eqb-true (btree_code btree) (btree_code other) of) ∙ btree_found other) holds

-- What holds where nothing changes, after the update of a value, and after that of a whiteout holds after the updates to see the
-- value, where the first and the last may come for no value alone.
pub after_updates : (P : KeyMap → Type 0) (keys : KeyMap) (btree : Btree) (inode offset id : ℕ) (value : Option Value)
    → P keys → P (with_update (own_update btree inode offset id value) keys) → P (with_update (own_update btree inode offset id (Some White)) keys) → P (with_updates (updates_to_see keys btree inode offset id value) keys)
after_updates P keys btree inode offset id (Some value) none put white = put
after_updates P keys btree inode offset id None none put white = by (needs_whiteout keys btree inode offset id) (is_some (own_value keys btree inode offset id))
  where
    by : (hides has : Bool) → P (with_updates (cond hides (own_update btree inode offset id (Some White) ∷ []) (cond has (own_update btree inode offset id None ∷ []) [])) keys)
    by true has = white
    by false true = put
    by false false = none

-- what holds of the offset of each key of a snapshot id holds of each id
ids_have : (P : ℕ → Type 0) (entries : Entries) (snaps : Snaps) → ((id : ℕ) → IsSome (value_at nat_cmp id snaps) → P id) → All (λ (entry : Pos × Value). P entry.0.offset) entries
    → (id : ℕ) → IsSome (value_at nat_cmp id (fold (λ (snaps : Snaps) (key : Key). with_snap key.pos.offset (snap_of key.value) snaps) snaps (keys_in entries))) → P id
ids_have P [] snaps before all id there = before id there
ids_have P (e ∷ es) snaps before all id there = ids_have P es (with_snap e.0.offset (snap_of (Some e.1)) snaps) (one_more (snap_of (Some e.1))) (All-tail (λ (entry : Pos × Value). P entry.0.offset) e es all) id there
  where
    one_more : (snap : Option Snap) (other : ℕ) → IsSome (value_at nat_cmp other (with_snap e.0.offset snap snaps)) → P other
    one_more None other some = before other some
    one_more (Some snap) other some = by (is_at (nat_cmp e.0.offset) other) refl (subst IsSome (value_at-with_value nat_cmp_total e.0.offset snap other snaps) some)
      where
        by : (b : Bool) → is_at (nat_cmp e.0.offset) other ≡ b → IsSome (cond b (Some snap) (value_at nat_cmp other snaps)) → P other
        by true at found = subst P (same_key exact_unsigned e.0.offset other at) (All-head (λ (entry : Pos × Value). P entry.0.offset) e es all)
        by false apart found = before other found

-- The id of a live leaf has 32 bits.
pub leaf_is_small : (keys : KeyMap) (id : ℕ) → AreKeysDrawn keys → IsLiveLeaf keys id → id < 2 ^ 32
leaf_is_small keys id drawn leaf = ids_have (λ n. n < 2 ^ 32) keys.snapshots [] (λ other some. absurd (true≢false (sym some)))
    (All-weaker (IsKeyOf keys Snapshots) (λ (entry : Pos × Value). entry.0.offset < 2 ^ 32) (λ (entry : Pos × Value) (key : IsKeyOf keys Snapshots entry). key.place.2) keys.snapshots (drawn.each Snapshots)) id (ap is_some leaf.found)

-- What is drawn is drawn where the counters stand as they stood.
pub drawn_where : (keys new : KeyMap) → ((counter : ℕ) → counter_in new counter ≡ counter_in keys counter) → (number : ℕ) → IsDrawn keys number → IsDrawn new number
drawn_where keys new counts number was = record { client = was.client; count = let same : next_in new (number / numbers_per_client) ≡ next_in keys (number / numbers_per_client) = ap (λ o. unwrap_or o 0) (counts (number / numbers_per_client)) in omega (arith, same, was.count) }

-- Live leaves match subvolumes where ids and subvolumes are the same.
pub ids_match_where : (keys new : KeyMap) → snaps_of new ≡ snaps_of keys → new.subvols ≡ keys.subvols → DoIdsMatch keys → DoIdsMatch new
ids_match_where keys new snaps subvols was = record {
  subvolumes = subst (All (λ (sub : Sub). IsLiveLeaf new sub.id)) (sym (same_subs keys new subvols)) (λ k d lt. live_leaf_was new keys (sym snaps) (slice_index_or (all_subs keys) k d).id (was.subvolumes k d lt));
  leaves = λ id leaf. ap (count_by (λ (sub : Sub). sub.id == id)) (same_subs keys new subvols) ∙ was.leaves id (live_leaf_was keys new snaps id leaf);
}

-- Blocks stand below no inode still where inodes show as they did.
pub below_where : (keys new : KeyMap) → snaps_of new ≡ snaps_of keys → new.extents ≡ keys.extents → ((id number : ℕ) → inode_in new id number ≡ inode_in keys id number) → AreBlocksBelow keys → AreBlocksBelow new
below_where keys new snaps extents inodes was = record {
  each = λ id descendant number ancestor none some. subst (All (λ (entry : Pos × Value). entry.0.inode ≡ number → is_ancestor_of (snaps_of new) entry.0.snapshot id ≡ false)) (sym extents)
      (subst (λ (s : Snaps). All (λ (entry : Pos × Value). entry.0.inode ≡ number → is_ancestor_of s entry.0.snapshot id ≡ false) keys.extents) (sym snaps)
      (was.each id descendant number (ap (λ s. is_ancestor_of s id descendant) (sym snaps) ∙ ancestor) (sym (inodes id number) ∙ none) (subst IsSome (inodes descendant number) some)));
}

-- Blocks have owners still where what is a file stays one or is noted, and notes stay.
pub owned_where : (keys new : KeyMap) → new.extents ≡ keys.extents → ((id number : ℕ) → kind_in keys id number ≡ Some File → (kind_in new id number ≡ Some File) ⊎ IsNoted new id number)
    → ((id number : ℕ) → IsNoted keys id number → IsNoted new id number) → AreBlocksOwned keys → AreBlocksOwned new
owned_where keys new extents files notes was = record {
  each = subst (All (HasOwner new)) (sym extents) (All-weaker (HasOwner keys) (HasOwner new) (λ (entry : Pos × Value) (owner : HasOwner keys entry). ⊎_elim
      (λ (file : kind_in keys entry.0.snapshot entry.0.inode ≡ Some File). files entry.0.snapshot entry.0.inode file)
      (λ (noted : IsNoted keys entry.0.snapshot entry.0.inode). inr (notes entry.0.snapshot entry.0.inode noted)) owner) keys.extents was.each);
}

-- What is noted is noted where the notes are the same.
pub noted_where : (keys new : KeyMap) → new.deleted ≡ keys.deleted → (id number : ℕ) → IsNoted keys id number → IsNoted new id number
noted_where keys new deleted id number noted = subst (λ (entries : Entries). IsSome (value_at pos_cmp (record { inode = 0; offset = number; snapshot = id }) entries)) (sym deleted) noted

-- All that is said of kept keys but that blocks have owners.
pub record IsKeptButOwners (keys : KeyMap) (nodes : List Place) (layout : Layout) : Type 0 where
  pub is_map : IsKeyMap keys
  pub trees : AreTreesJoined keys
  pub ids : DoIdsMatch keys
  pub extents : AreExtentsApart keys
  pub blocks : AreBlocksPlaced keys nodes layout
  pub drawn : AreKeysDrawn keys
  pub named : AreNamesGood keys
  pub below : AreBlocksBelow keys
  pub gone : AreGone keys

-- Keys that are kept are so.
pub but_owners : (keys : KeyMap) (nodes : List Place) (layout : Layout) → IsKept keys nodes layout → IsKeptButOwners keys nodes layout
but_owners keys nodes layout kept = record { is_map = kept.is_map; trees = kept.trees; ids = kept.ids; extents = kept.extents; blocks = kept.blocks; drawn = kept.drawn; named = kept.named; below = kept.below; gone = kept.gone }

-- A change of inodes, names and notes in an id leaves all else.
pub record LeavesElse (keys new : KeyMap) (id : ℕ) : Type 0 where
  pub only : ChangesOnly keys new id
  pub blocks : (file block : ℕ) → block_in new id file block ≡ block_in keys id file block
  pub counts : (counter : ℕ) → counter_in new counter ≡ counter_in keys counter
  pub extents : new.extents ≡ keys.extents
  pub space : IsSpaceCounted keys → IsSpaceCounted new

-- No change leaves all,
pub leaves_all : (keys : KeyMap) (id : ℕ) → LeavesElse keys keys id
leaves_all keys id = record { only = changes_nothing keys id; blocks = λ file block. refl; counts = λ counter. refl; extents = refl; space = λ counted. counted }

-- and two changes leave what both leave.
pub leaves_then : (keys middle new : KeyMap) (id : ℕ) → LeavesElse keys middle id → LeavesElse middle new id → LeavesElse keys new id
leaves_then keys middle new id first second = record {
  only = changes_then keys middle new id first.only second.only;
  blocks = λ file block. second.blocks file block ∙ first.blocks file block;
  counts = λ counter. second.counts counter ∙ first.counts counter;
  extents = second.extents ∙ first.extents;
  space = λ counted. second.space (first.space counted);
}

-- Such a change is a step, where blocks have owners after it, to what then shows of inodes and names.
pub made_step : (keys new : KeyMap) (nodes : List Place) (layout : Layout) (id : ℕ) (inodes : ℕ → Option Inode) (links : ℕ → ℕ → List Link) → IsKeptButOwners new nodes layout → AreBlocksOwned new → LeavesElse keys new id
    → ((number : ℕ) → inode_in new id number ≡ inodes number) → ((directory slot : ℕ) → links_in new id directory slot ≡ links directory slot)
    → Steps keys new nodes layout id (record { inodes = inodes; links = links; blocks = block_in keys id }) (counter_in keys)
made_step keys new nodes layout id inodes links kept owned leaves inodes_are links_are = record {
  kept = record { is_map = kept.is_map; trees = kept.trees; ids = kept.ids; extents = kept.extents; blocks = kept.blocks; drawn = kept.drawn; named = kept.named; below = kept.below; gone = kept.gone; owned = owned };
  only = leaves.only;
  shows = λ i. record { inodes = λ number. inodes_are number i; links = λ directory slot. links_are directory slot i; blocks = λ file block. leaves.blocks file block i };
  counts = λ i counter. leaves.counts counter i;
  drawn = drawn_where keys new leaves.counts;
  space = leaves.space;
}

-- The update is of inodes, names or notes: of none of the other btrees.
pub record IsOfFiles (update : Update) : Type 0 where
  pub extents : is_update_of Extents update ≡ false
  pub subvols : is_update_of Subvols update ≡ false
  pub snaps : is_update_of Snapshots update ≡ false
  pub alloc : is_update_of Alloc update ≡ false
  pub backptrs : is_update_of Backptrs update ≡ false
  pub counters : is_update_of Counters update ≡ false

module _ (update : Update) (keys : KeyMap) (is : IsKeyMap keys) (files : IsOfFiles update) where
  abbrev new : KeyMap
  new = with_update update keys

  -- The snapshot ids are as they were,
  pub snaps_stay : snaps_of new ≡ snaps_of keys
  snaps_stay = snaps_of-with_update update keys is files.snaps

  subvols_stay : new.subvols ≡ keys.subvols
  subvols_stay = entries_other update keys Subvols files.subvols

  -- and so are extents and holes.
  pub extents_stay : new.extents ≡ keys.extents
  extents_stay = entries_other update keys Extents files.extents

  counts_stay : (counter : ℕ) → counter_in new counter ≡ counter_in keys counter
  counts_stay = counter_in-other update keys is files.counters

  next_stays : (counter : ℕ) → next_in new counter ≡ next_in keys counter
  next_stays counter = ap (λ o. unwrap_or o 0) (counts_stay counter)

  -- The update leaves all else.
  pub update_leaves : LeavesElse keys new update.pos.snapshot
  update_leaves = record {
    only = update_changes_only update keys update.pos.snapshot is (record { snaps = files.snaps; subvols = files.subvols; place = inl refl });
    blocks = block_in-other update keys is files.snaps files.extents update.pos.snapshot;
    counts = counts_stay;
    extents = extents_stay;
    space = space_stays_counted keys new extents_stay (entries_other update keys Alloc files.alloc) (entries_other update keys Backptrs files.backptrs);
  }

  counter_stays : (first last counter : ℕ) → IsCounterFrom keys first last counter → IsCounterFrom new first last counter
  counter_stays first last counter was = record { there = subst IsSome (sym (counts_stay counter)) was.there; in_range = subst (IsInRange first last) (sym (next_stays counter)) was.in_range }

  -- ids of keys are there, where that of the update is
  ids_stay : IsSome (value_at nat_cmp update.pos.snapshot (snaps_of keys)) → (btree : Btree) → AreIdsThere keys (entries_of keys btree) → AreIdsThere new (entries_of new btree)
  ids_stay there btree was = all-with_update (λ (entry : Pos × Value). IsSome (value_at nat_cmp entry.0.snapshot (snaps_of new))) update keys btree (λ of put at. subst (λ (s : Snaps). IsSome (value_at nat_cmp update.pos.snapshot s)) (sym snaps_stay) there)
      (subst (λ (s : Snaps). All (λ (entry : Pos × Value). IsSome (value_at nat_cmp entry.0.snapshot s)) (entries_of keys btree)) (sym snaps_stay) was)

  extents_apart : IsSome (value_at nat_cmp update.pos.snapshot (snaps_of keys)) → AreExtentsApart keys → AreExtentsApart new
  extents_apart there was = record {
    extents = ids_stay there Extents was.extents;
    inodes = ids_stay there Inodes was.inodes;
    dirents = ids_stay there Dirents was.dirents;
    deleted = ids_stay there Deleted was.deleted;
    room = subst (All HasRoom) (sym extents_stay) was.room;
    apart = λ file id. record { once = λ block first second one other at also. (was.apart file id).once block first second one other (own file id first ∙ at) (own file id second ∙ also) };
  }
    where
      own : (file id offset : ℕ) → own_value keys Extents file offset id ≡ own_value new Extents file offset id
      own file id offset = ap (value_at pos_cmp (record { inode = file; offset = offset; snapshot = id })) (sym extents_stay)

  keys_drawn : ((btree : Btree) → is_update_of btree update ≡ true → (put : Value) → update.value ≡ Some put → IsKeyOf keys btree (update.pos, put)) → AreKeysDrawn keys → AreKeysDrawn new
  keys_drawn keyed was = record {
    each = λ btree. all-with_update (IsKeyOf new btree) update keys btree (λ of put at. is_key_of-still keys new (drawn_where keys new counts_stay) btree (update.pos, put) (keyed btree of put at))
        (All-weaker (IsKeyOf keys btree) (IsKeyOf new btree) (is_key_of-still keys new (drawn_where keys new counts_stay) btree) (entries_of keys btree) (was.each btree));
    ids = subst (All (λ (entry : Pos × Value). next_in new id_counter < entry.0.offset)) (sym (entries_other update keys Snapshots files.snaps))
        (subst (λ n. All (λ (entry : Pos × Value). n < entry.0.offset) keys.snapshots) (sym (next_stays id_counter)) was.ids);
    clients = λ client lt. counter_stays 1 numbers_per_client client (was.clients client lt);
    id_counter_there = counter_stays 0 4294967294 id_counter was.id_counter_there;
  }

  names_good : (is_update_of Dirents update ≡ true → (put : Value) → update.value ≡ Some put → HasGoodNames (update.pos, put)) → AreNamesGood keys → AreNamesGood new
  names_good good was = record {
    subvolumes = subst (All HasGoodSubvolumes) (sym subvols_stay) was.subvolumes;
    names = all-with_update HasGoodNames update keys Dirents good was.names;
  }

  -- Files that are gone show no inode still, where inodes show none where they showed none, and none where the update notes one.
  pub gone_where : ((id number : ℕ) → inode_in keys id number ≡ None → inode_in new id number ≡ None) → (is_update_of Deleted update ≡ true → inode_in new update.pos.snapshot update.pos.offset ≡ None) → AreGone keys → AreGone new
  gone_where inodes here was = record {
    each = all-with_update (λ (entry : Pos × Value). inode_in new entry.0.snapshot entry.0.offset ≡ None) update keys Deleted (λ of put at. here of)
        (All-weaker (λ (entry : Pos × Value). inode_in keys entry.0.snapshot entry.0.offset ≡ None) (λ (entry : Pos × Value). inode_in new entry.0.snapshot entry.0.offset ≡ None) (λ (entry : Pos × Value) none. inodes entry.0.snapshot entry.0.offset none) keys.deleted was.each);
  }

  -- Keys stay kept but for owners, where the key that is put is one of its btree, with good names, its id is there, and what hangs on
  -- inodes stays.
  pub update_keeps : (nodes : List Place) (layout : Layout) → IsSome (value_at nat_cmp update.pos.snapshot (snaps_of keys))
      → ((btree : Btree) → is_update_of btree update ≡ true → (put : Value) → update.value ≡ Some put → IsKeyOf keys btree (update.pos, put))
      → (is_update_of Dirents update ≡ true → (put : Value) → update.value ≡ Some put → HasGoodNames (update.pos, put))
      → AreBlocksBelow new → AreGone new → IsKeptButOwners keys nodes layout → IsKeptButOwners new nodes layout
  update_keeps nodes layout there keyed good below gone was = record {
    is_map = IsKeyMap-with_update update keys is;
    trees = trees_stay_joined keys new snaps_stay was.trees;
    ids = ids_match_where keys new snaps_stay subvols_stay was.ids;
    extents = extents_apart there was.extents;
    blocks = blocks_stay_placed keys new nodes layout extents_stay was.blocks;
    drawn = keys_drawn keyed was.drawn;
    named = names_good good was.named;
    below = below;
    gone = gone;
  }
