-- Once the keys on space follow the extents, all stays kept, and the same shows.
use Rattle.std.proofs.Common.{◌≡◌, ℕ, ◌<◌, ◌^◌, ◌≤◌, Bool, true, false, cond, Option, Some, None, List, [], ◌∷◌, map, refl, sym, ap, ◌∙◌, subst, arith}
use Rattle.std.specs.Prelude.{◌==◌, All, IsSome, option_and_then, option_map}
use Rattle.std.specs.BTreeMap.{is_at}
use Rattle.std.specs.List.{AllByRecursion, slice_index_or}
use Rattle.std.specs.List.Sorted.{IsStrictlySortedBy}
use Rattle.std.specs.Map.{keys_of}
use Rattle.std.specs.Ordering.{is_eq, nat_cmp}
use Rattle.std.specs.declared.cmp.Ordering.TheVariants.{Less}
use Rattle.std.proofs.lemmas.Cmp.{tied_itself}
use Rattle.std.proofs.lemmas.Bool.{false≢true, true≢false}
use Rattle.std.proofs.lemmas.List.Elements.{All-append, All-cons, All-head, All-nil, All-tail}
use Rattle.std.proofs.lemmas.Option.{none-some as none_some, same_Some}
use Rattle.content_steps.proofs.Same.{MayPut, SameButContent, all_after, below_stays, counter_stays, counts_stay, drawn_stays, entry_has, gone_stay, ids_above, ids_match, ids_there, inodes_stay, links_stay, names_stay, owned_stays, snaps_stay}
use Rattle.content_steps.proofs.Stamped.{blocks_alike, covers-stamped, positions_alike, rooms_alike, space_leaves, stamped_entries, stamped_entry, stamps_alike, standing}
use Rattle.content_steps.specs.Steps.{StepsButSpace}
use Rattle.key_meaning.specs.AlikeLaws.{alike_then}
use Rattle.key_meaning.specs.Alike.{ShowAlike}
use Rattle.key_meaning.specs.Blocks.{block_in, covers, first_cover, shown_of}
use Rattle.key_meaning.specs.Checks.{AreExtentsApart, IsCoveredOnce, IsSpaceCounted, back_of, has_pointer_at}
use Rattle.key_meaning.specs.CounterLaws.{is_key_of-still}
use Rattle.key_meaning.specs.SameLaws.{trees_stay_joined}
use Rattle.key_meaning.specs.TableLaws.{same_key}
use Rattle.key_meaning.specs.Tidy.{AreKeysDrawn, HasOwner, IsDrawn, IsKeyOf, id_counter}
use Rattle.key_meaning.specs.Visible.{own_value, snaps_of}
use Rattle.key_steps.specs.Kept.{IsKept}
use Rattle.key_steps.specs.Shown.{Shown}
use Rattle.key_steps.specs.Steps.{Steps}
use Rattle.key_triggers.specs.Follows.{Follows, IsExpanded, IsNoSpaceUpdate, MayFollow}
use Rattle.key_triggers.specs.Stamps.{stamped, stamped_value}
use Rattle.snap_tree.specs.Snaps.{Snaps, chain_of, is_ancestor_of}
use Rattle.vol_types.specs.Btrees.{btree_code}
use Rattle.vol_types.specs.KeyMapLaws.{IsKeyMap-with_updates, with_updates-append}
use Rattle.vol_types.specs.KeyMaps.{Entries, KeyMap, entries_of, is_update_of, value_in, with_updates}
use Rattle.vol_types.specs.Maps.{IsMap, value_at}
use Rattle.vol_types.specs.PositionLaws.{pos_exact, pos_total}
use Rattle.vol_types.specs.Positions.{pos_cmp}
use Rattle.vol_types.specs.Ranges.{IsKeyValue, IsValue}
use Rattle.vol_types.specs.Standing.{IsUpdate, MayStand}
use Rattle.vol_types.specs.Values.{IsKindOf, kind_of}
use Rattle.vol_types.specs.declared.keys.Update.{Update}
use Rattle.vol_types.specs.declared.layout.Layout.{Layout}
use Rattle.vol_types.specs.declared.pointers.Place.{Place}
use Rattle.vol_types.specs.declared.positions.Btree.{Btree}
use Rattle.vol_types.specs.declared.positions.Btree.TheVariants.{Alloc, Backptrs, Counters, Deleted, Dirents, Extents, Inodes, Snapshots, Subvols}
use Rattle.vol_types.specs.declared.positions.Pos.{Pos}
use Rattle.vol_types.specs.declared.values.Extent.{Extent}
use Rattle.vol_types.specs.declared.values.Value.{Value}
use Rattle.vol_types.specs.declared.values.Value.TheVariants as values

-- a position that is above another one isn't equal to it
not_at : (low high : Pos) → pos_cmp low high ≡ Less → is_at (pos_cmp high) low ≡ false
not_at low high less = by (is_at (pos_cmp high) low) refl
  where
    by : (b : Bool) → is_at (pos_cmp high) low ≡ b → b ≡ false
    by true at = absurd (true≢false (sym (ap is_eq (tied_itself pos_total high)) ∙ ap (λ (p : Pos). is_eq (pos_cmp p high)) (same_key pos_exact high low at) ∙ ap is_eq less))
    by false at = refl

-- A map's entries are at their positions.
all_found : (entries : Entries) → IsMap pos_cmp entries → All (λ (entry : Pos × Value). value_at pos_cmp entry.0 entries ≡ Some entry.1) entries
unfolding IsStrictlySortedBy
all_found [] rise = All-nil (λ (entry : Pos × Value). value_at pos_cmp entry.0 [] ≡ Some entry.1)
all_found (e ∷ es) rise = All-cons (λ (entry : Pos × Value). value_at pos_cmp entry.0 (e ∷ es) ≡ Some entry.1) e es
    (ap (λ b. cond b (Some e.1) (value_at pos_cmp e.0 es)) (ap is_eq (tied_itself pos_total e.0)))
    (later es rise.0 (all_found es rise.1))
  where
    later : (rest : Entries) → AllByRecursion (λ (pos : Pos). pos_cmp e.0 pos ≡ Less) (keys_of rest) → All (λ (entry : Pos × Value). value_at pos_cmp entry.0 es ≡ Some entry.1) rest → All (λ (entry : Pos × Value). value_at pos_cmp entry.0 (e ∷ es) ≡ Some entry.1) rest
    later [] above found = All-nil (λ (entry : Pos × Value). value_at pos_cmp entry.0 (e ∷ es) ≡ Some entry.1)
    later (x ∷ xs) above found = All-cons (λ (entry : Pos × Value). value_at pos_cmp entry.0 (e ∷ es) ≡ Some entry.1) x xs
        (ap (λ b. cond b (Some e.1) (value_at pos_cmp x.0 es)) (not_at e.0 x.0 above.0) ∙ All-head (λ (entry : Pos × Value). value_at pos_cmp entry.0 es ≡ Some entry.1) x xs found)
        (later xs above.1 (All-tail (λ (entry : Pos × Value). value_at pos_cmp entry.0 es ≡ Some entry.1) x xs found))

small : 0 < 2 ^ 32
small = omega arith

module _ (keys : KeyMap) (updates all : List Update) (nodes : List Place) (layout : Layout) (before : IsKept keys nodes layout) (kept : IsKept (with_updates updates keys) nodes layout)
    (plain : All IsNoSpaceUpdate updates) (fits : All IsUpdate updates) (all_fit : All IsUpdate all) (is : IsExpanded keys updates all) (follows : Follows keys (with_updates all keys) updates nodes layout) where
  abbrev planned : KeyMap
  planned = with_updates updates keys

  abbrev new : KeyMap
  new = with_updates all keys

  in_two : new ≡ with_updates is.space (with_updates (map (stamped keys) updates) keys)
  in_two = ap (λ (us : List Update). with_updates us keys) is.are ∙ with_updates-append (map (stamped keys) updates) is.space keys

  -- btrees with neither extents nor keys on space are as the updates left them
  alike : (btree : Btree) → ((extent : Extent) → IsKindOf btree (kind_of (values.Extent extent)) → ⊥) → (btree_code Alloc == btree_code btree) ≡ false → (btree_code Backptrs == btree_code btree) ≡ false → entries_of new btree ≡ entries_of planned btree
  alike btree none no_bucket no_block =
      ap (λ (k : KeyMap). entries_of k btree) in_two
      ∙ space_leaves keys btree no_bucket no_block is.space is.only_space (with_updates (map (stamped keys) updates) keys)
      ∙ stamps_alike keys btree none updates fits keys keys refl

  same : SameButContent planned new
  same = record {
    inodes = alike Inodes (λ extent kind. false≢true kind) refl refl;
    dirents = alike Dirents (λ extent kind. false≢true kind) refl refl;
    subvols = alike Subvols (λ extent kind. false≢true kind) refl refl;
    snapshots = alike Snapshots (λ extent kind. false≢true kind) refl refl;
    deleted = alike Deleted (λ extent kind. false≢true kind) refl refl;
    counters = alike Counters (λ extent kind. false≢true kind) refl refl;
  }

  new_map : (btree : Btree) → IsMap pos_cmp (entries_of new btree)
  new_map btree = (IsKeyMap-with_updates all keys before.is_map).rises btree

  extents_new : new.extents ≡ map (stamped_entry keys) planned.extents
  extents_new = stamped_entries keys new.extents planned.extents (new_map Extents) (kept.is_map.rises Extents) follows.extents

  blocks_same : (id file block : ℕ) → block_in new id file block ≡ block_in planned id file block
  blocks_same id file block =
      ap (λ (s : Snaps). option_and_then (shown_of block) (first_cover new file block (chain_of s id))) (snaps_stay planned new same)
      ∙ blocks_alike keys new planned extents_new file block (chain_of (snaps_of planned) id)

  shows_alike : (id : ℕ) → ShowAlike new id planned id
  shows_alike id = record { inodes = inodes_stay planned new same id; names = links_stay planned new same id; blocks = blocks_same id }

  -- one stamped value covers what the value covers
  covered_once : (file id : ℕ) → IsCoveredOnce planned file id → IsCoveredOnce new file id
  covered_once file id was = record {
    once = λ block first second one other at also over too.
        let it = from first one at in
        let its = from second other also in
        was.once block first second it.0 its.0 it.1.0 its.1.0
        (sym (ap (λ v. covers first v block) it.1.1 ∙ covers-stamped keys first it.0 block) ∙ over)
        (sym (ap (λ v. covers second v block) its.1.1 ∙ covers-stamped keys second its.0 block) ∙ too);
  }
    where
      from : (offset : ℕ) (value : Value) → own_value new Extents file offset id ≡ Some value → (v : Value) × ((own_value planned Extents file offset id ≡ Some v) × (value ≡ stamped_value keys v))
      from offset value at = by (own_value planned Extents file offset id) refl
        where
          by : (o : Option Value) → own_value planned Extents file offset id ≡ o → (v : Value) × ((own_value planned Extents file offset id ≡ Some v) × (value ≡ stamped_value keys v))
          by None none = absurd (none_some value (sym (follows.extents (record { inode = file; offset = offset; snapshot = id }) ∙ ap (option_map (stamped_value keys)) none) ∙ at))
          by (Some v) some = (v, (some, same_Some value (stamped_value keys v) (sym at ∙ follows.extents (record { inode = file; offset = offset; snapshot = id }) ∙ ap (option_map (stamped_value keys)) some)))

  apart : AreExtentsApart new
  apart = record {
    extents = ids_there planned new same new.extents new.extents refl (positions_alike keys new planned extents_new (λ (pos : Pos). IsSome (value_at nat_cmp pos.snapshot (snaps_of planned))) kept.extents.extents);
    inodes = ids_there planned new same new.inodes planned.inodes same.inodes kept.extents.inodes;
    dirents = ids_there planned new same new.dirents planned.dirents same.dirents kept.extents.dirents;
    deleted = ids_there planned new same new.deleted planned.deleted same.deleted kept.extents.deleted;
    room = rooms_alike keys new planned extents_new (λ blocks end. blocks ≤ end) kept.extents.room;
    apart = λ file id. covered_once file id (kept.extents.apart file id);
  }

  -- each value may stand in its btree, and is in range
  forms : (btree : Btree) → All (λ (entry : Pos × Value). MayStand btree 0 entry.1 × IsValue entry.1) (entries_of new btree)
  forms btree = all_after (λ (entry : Pos × Value). MayStand btree 0 entry.1 × IsValue entry.1) btree all keys
      (λ k d lt of put at. (standing btree (slice_index_or all k d) put of (all_fit k d lt) at, subst IsKeyValue at (all_fit k d lt).in_range))
      (λ k d lt. ((before.drawn.each btree k d lt).stands, (before.drawn.each btree k d lt).in_range))

  -- keys on space stand without a snapshot id
  zeros : (btree : Btree) → All (λ (update : Update). is_update_of btree update ≡ false) updates → All (λ (entry : Pos × Value). entry.0.snapshot ≡ 0) (entries_of keys btree) → All (λ (entry : Pos × Value). entry.0.snapshot ≡ 0) (entries_of new btree)
  zeros btree none was = all_after P btree all keys (subst (All (MayPut P btree)) (sym is.are) (All-append (MayPut P btree) (map (stamped keys) updates) is.space (stamps updates none) (λ k d lt of put at. is.at_zero k d lt))) was
    where
      P : Pos × Value → Type 0
      P entry = entry.0.snapshot ≡ 0

      stamps : (us : List Update) → All (λ (update : Update). is_update_of btree update ≡ false) us → All (MayPut P btree) (map (stamped keys) us)
      stamps [] none = All-nil (MayPut P btree)
      stamps (u ∷ us) none = All-cons (MayPut P btree) (stamped keys u) (map (stamped keys) us) (λ of put at. absurd (true≢false (sym of ∙ All-head (λ (update : Update). is_update_of btree update ≡ false) u us none)))
          (stamps us (All-tail (λ (update : Update). is_update_of btree update ≡ false) u us none))

  -- each extent's position is one of an id, and its number is drawn
  extents_drawn : All (λ (entry : Pos × Value). (entry.0.snapshot < 2 ^ 32) × IsDrawn new entry.0.inode) new.extents
  extents_drawn = positions_alike keys new planned extents_new (λ (pos : Pos). (pos.snapshot < 2 ^ 32) × IsDrawn new pos.inode)
      (λ k d lt. ((kept.drawn.each Extents k d lt).id, drawn_stays planned new same (slice_index_or planned.extents k d).0.inode (kept.drawn.each Extents k d lt).numbers))

  -- where an extent is said to be by a block's key, it is
  backs_drawn : (entry : Pos × Value) → entry.0.snapshot ≡ 0 → value_in new Backptrs entry.0 ≡ Some entry.1 → (extent : Pos) → entry.1 ≡ values.Back extent → IsDrawn new extent.inode
  backs_drawn entry zero there extent at = by (value_in new Extents extent) refl
    where
      has : has_pointer_at entry.0.inode entry.0.offset (value_in new Extents extent) ≡ true
      has = (follows.counted.back entry.0.inode entry.0.offset extent).0
          (ap (λ (p : Pos). back_of (value_in new Backptrs p)) (λ i. record { inode = entry.0.inode; offset = entry.0.offset; snapshot = sym zero i }) ∙ ap back_of there ∙ ap (λ v. back_of (Some v)) at)

      by : (o : Option Value) → value_in new Extents extent ≡ o → IsDrawn new extent.inode
      by None none = absurd (false≢true (sym (ap (has_pointer_at entry.0.inode entry.0.offset) none) ∙ has))
      by (Some value) some = (entry_has (λ (e : Pos × Value). (e.0.snapshot < 2 ^ 32) × IsDrawn new e.0.inode) extent value new.extents some extents_drawn).1

  back_zeros : All (λ (entry : Pos × Value). entry.0.snapshot ≡ 0) new.backptrs
  back_zeros = follows.counted.back_keys

  alloc_zeros : All (λ (entry : Pos × Value). entry.0.snapshot ≡ 0) new.alloc
  alloc_zeros = zeros Alloc (λ k d lt. (plain k d lt).bucket) (λ k d lt. (before.drawn.each Alloc k d lt).place)

  key_same : (btree : Btree) → entries_of new btree ≡ entries_of planned btree → All (IsKeyOf new btree) (entries_of new btree)
  key_same btree entries = subst (All (IsKeyOf new btree)) (sym entries) (λ k d lt. is_key_of-still planned new (drawn_stays planned new same) btree (slice_index_or (entries_of planned btree) k d) (kept.drawn.each btree k d lt))

  each_key : (btree : Btree) → All (IsKeyOf new btree) (entries_of new btree)
  each_key Extents = λ k d lt. record { stands = (forms Extents k d lt).0; in_range = (forms Extents k d lt).1; place = tt; id = (extents_drawn k d lt).0; numbers = (extents_drawn k d lt).1 }
  each_key Inodes = key_same Inodes same.inodes
  each_key Dirents = key_same Dirents same.dirents
  each_key Subvols = key_same Subvols same.subvols
  each_key Snapshots = key_same Snapshots same.snapshots
  each_key Alloc = λ k d lt. record { stands = (forms Alloc k d lt).0; in_range = (forms Alloc k d lt).1; place = alloc_zeros k d lt; id = subst (λ n. n < 2 ^ 32) (sym (alloc_zeros k d lt)) small; numbers = tt }
  each_key Backptrs = λ k d lt. record {
    stands = (forms Backptrs k d lt).0;
    in_range = (forms Backptrs k d lt).1;
    place = back_zeros k d lt;
    id = subst (λ n. n < 2 ^ 32) (sym (back_zeros k d lt)) small;
    numbers = backs_drawn (slice_index_or new.backptrs k d) (back_zeros k d lt) (all_found new.backptrs (new_map Backptrs) k d lt);
  }
  each_key Deleted = key_same Deleted same.deleted
  each_key Counters = key_same Counters same.counters

  keys_drawn : AreKeysDrawn new
  keys_drawn = record {
    each = each_key;
    ids = ids_above planned new same id_counter kept.drawn.ids;
    clients = λ client lt. counter_stays planned new same _ _ client (kept.drawn.clients client lt);
    id_counter_there = counter_stays planned new same _ _ id_counter kept.drawn.id_counter_there;
  }

  kept_then : IsKept new nodes layout
  kept_then = record {
    is_map = IsKeyMap-with_updates all keys before.is_map;
    trees = trees_stay_joined planned new (snaps_stay planned new same) kept.trees;
    ids = ids_match planned new same kept.ids;
    extents = apart;
    blocks = follows.placed;
    drawn = keys_drawn;
    named = names_stay planned new same kept.named;
    below = below_stays planned new same (λ other descendant number ancestor none some was. positions_alike keys new planned extents_new (λ (pos : Pos). pos.inode ≡ number → is_ancestor_of (snaps_of planned) pos.snapshot other ≡ false) was) kept.below;
    gone = gone_stay planned new same kept.gone;
    owned = owned_stays planned new same (λ was. positions_alike keys new planned extents_new (λ (pos : Pos). HasOwner planned (pos, values.White)) was) kept.owned;
  }

  -- Expanded updates are steps where the plan's are but for the keys on space.
  pub expanded_are_steps : (id : ℕ) (shown : Shown) (counters : ℕ → Option ℕ) → StepsButSpace keys planned nodes layout id shown counters → Steps keys new nodes layout id shown counters
  expanded_are_steps id shown counters steps = record {
    kept = kept_then;
    only = record {
      snaps = snaps_stay planned new same ∙ steps.only.snaps;
      subvols = same.subvols ∙ steps.only.subvols;
      elsewhere = λ other away. alike_then new planned keys other other other (shows_alike other) (steps.only.elsewhere other away);
    };
    shows = (λ i. record { inodes = λ number. (shows_alike id).inodes number i; links = λ directory slot. (shows_alike id).names directory slot i; blocks = λ file block. (shows_alike id).blocks file block i }) ∙ steps.shows;
    counts = (λ i counter. counts_stay planned new same counter i) ∙ steps.counts;
    drawn = λ number was. drawn_stays planned new same number (steps.drawn number was);
    space = λ counted. follows.counted;
  }

-- Such updates may be expanded.
pub may_follow : (keys : KeyMap) (updates : List Update) (nodes : List Place) (layout : Layout) (id : ℕ) (shown : Shown) (counters : ℕ → Option ℕ) → IsKept keys nodes layout → IsSpaceCounted keys → All IsNoSpaceUpdate updates
    → StepsButSpace keys (with_updates updates keys) nodes layout id shown counters → MayFollow keys updates nodes layout
may_follow keys updates nodes layout id shown counters kept counted plain steps = record {
  is_map = kept.is_map;
  counted = counted;
  placed = kept.blocks;
  planned = steps.kept.blocks;
  drawn = steps.kept.drawn;
  apart = plain;
}
