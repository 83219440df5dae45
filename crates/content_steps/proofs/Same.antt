-- What stays where only extents and the keys on space change.
use Rattle.std.proofs.Common.{◌≡◌, ℕ, ◌/◌, ◌<◌, Bool, true, false, cond, Some, None, List, [], ◌∷◌, refl, sym, ap, ◌∙◌, subst, arith, ⊎_elim, inl, inr}
use Rattle.std.specs.Prelude.{◌==◌, IsSome, All, count_by, option_map, unwrap_or}
use Rattle.std.specs.Int.{IsInRange}
use Rattle.std.specs.List.{slice_index_or}
use Rattle.std.specs.Ordering.{nat_cmp}
use Rattle.std.specs.BTreeMap.{is_at}
use Rattle.std.proofs.lemmas.List.Elements.{All-head, All-tail}
use Rattle.std.proofs.lemmas.Option.{none-some as none_some, same_Some}
use Rattle.key_meaning.specs.Checks.{AreIdsThere, IsLiveLeaf}
use Rattle.key_meaning.specs.EntryLaws.{all-with_update}
use Rattle.key_meaning.specs.Forest.{all_subs, counter_in, inode_in, inode_of, kind_in, links_in, links_of, next_in}
use Rattle.key_meaning.specs.SameLaws.{live_leaf_was, same_subs}
use Rattle.key_meaning.specs.Tidy.{AreBlocksBelow, AreBlocksOwned, AreGone, AreNamesGood, HasGoodNames, HasGoodSubvolumes, HasOwner, IsCounterFrom, IsDrawn, IsNoted}
use Rattle.key_meaning.specs.Visible.{first_value, shown, snaps_of, visible}
use Rattle.key_meaning.specs.VisibleLaws.{first_value-same}
use Rattle.key_steps.specs.Kept.{DoIdsMatch}
use Rattle.plain_forest.specs.Steps.{numbers_per_client}
use Rattle.snap_tree.specs.Snaps.{Snaps, chain_of, is_ancestor_of, snaps_in}
use Rattle.vol_types.specs.KeyMaps.{Entries, KeyMap, entries_of, is_update_of, keys_in, with_update, with_updates}
use Rattle.vol_types.specs.Maps.{value_at}
use Rattle.key_meaning.specs.TableLaws.{same_key}
use Rattle.vol_types.specs.PositionLaws.{pos_exact}
use Rattle.vol_types.specs.Positions.{pos_cmp}
use Rattle.vol_types.specs.declared.keys.Update.{Update}
use Rattle.vol_types.specs.declared.positions.Btree.{Btree}
use Rattle.vol_types.specs.declared.positions.Btree.TheVariants.{Dirents, Inodes}
use Rattle.vol_types.specs.declared.positions.Pos.{Pos}
use Rattle.vol_types.specs.declared.values.FileKind.TheVariants.{File}
use Rattle.vol_types.specs.declared.values.Inode.{Inode}
use Rattle.vol_types.specs.declared.values.Sub.{Sub}
use Rattle.vol_types.specs.declared.values.Value.{Value}

-- What the update puts into a btree has P.
abbrev pub MayPut : (Pos × Value → Type 0) → Btree → Update → Type 0
MayPut P btree update = is_update_of btree update ≡ true → (put : Value) → update.value ≡ Some put → P (update.pos, put)

-- What all entries of a btree have, they have after updates, where what these put there has it.
pub all_after : (P : Pos × Value → Type 0) (btree : Btree) (updates : List Update) (keys : KeyMap) → All (MayPut P btree) updates → All P (entries_of keys btree) → All P (entries_of (with_updates updates keys) btree)
all_after P btree [] keys may all = all
all_after P btree (update ∷ updates) keys may all =
    all_after P btree updates (with_update update keys) (All-tail (MayPut P btree) update updates may) (all-with_update P update keys btree (All-head (MayPut P btree) update updates may) all)

-- What all entries have, one that is looked up has.
pub entry_has : (P : Pos × Value → Type 0) (pos : Pos) (value : Value) (entries : Entries) → value_at pos_cmp pos entries ≡ Some value → All P entries → P (pos, value)
entry_has P pos value [] found all = absurd (none_some value found)
entry_has P pos value (e ∷ es) found all = by (is_at (pos_cmp pos) e.0) refl found (λ later. entry_has P pos value es later (All-tail P e es all))
  where
    by : (b : Bool) → is_at (pos_cmp pos) e.0 ≡ b → cond b (Some e.1) (value_at pos_cmp pos es) ≡ Some value → (value_at pos_cmp pos es ≡ Some value → P (pos, value)) → P (pos, value)
    by true at here later = subst P (λ i. (sym (same_key pos_exact pos e.0 at) i, same_Some e.1 value here i)) (All-head P e es all)
    by false at here later = later here

-- The second key map has the keys of the first one but for extents and keys on space.
pub record SameButContent (keys new : KeyMap) : Type 0 where
  pub inodes : new.inodes ≡ keys.inodes
  pub dirents : new.dirents ≡ keys.dirents
  pub subvols : new.subvols ≡ keys.subvols
  pub snapshots : new.snapshots ≡ keys.snapshots
  pub deleted : new.deleted ≡ keys.deleted
  pub counters : new.counters ≡ keys.counters

module _ (keys new : KeyMap) (same : SameButContent keys new) where
  -- The ids are the same,
  pub snaps_stay : snaps_of new ≡ snaps_of keys
  snaps_stay = ap (λ (entries : Entries). snaps_in (keys_in entries)) same.snapshots

  visible_stays : (btree : Btree) → entries_of new btree ≡ entries_of keys btree → (inode offset id : ℕ) → visible new btree inode offset id ≡ visible keys btree inode offset id
  visible_stays btree entries inode offset id =
      ap (λ (s : Snaps). shown (first_value new btree inode offset (chain_of s id))) snaps_stay
      ∙ ap shown (first_value-same new keys btree inode offset (chain_of (snaps_of keys) id) (λ other has. ap (value_at pos_cmp (record { inode = inode; offset = offset; snapshot = other })) entries))

  -- inodes and names show as they did,
  pub inodes_stay : (id number : ℕ) → inode_in new id number ≡ inode_in keys id number
  inodes_stay id number = ap inode_of (visible_stays Inodes same.inodes 0 number id)

  pub links_stay : (id directory slot : ℕ) → links_in new id directory slot ≡ links_in keys id directory slot
  links_stay id directory slot = ap links_of (visible_stays Dirents same.dirents directory slot id)

  pub kinds_stay : (id number : ℕ) → kind_in new id number ≡ kind_in keys id number
  kinds_stay id number = ap (option_map (λ (inode : Inode). inode.kind)) (inodes_stay id number)

  -- counters stand where they stood,
  pub counts_stay : (counter : ℕ) → counter_in new counter ≡ counter_in keys counter
  counts_stay counter = ap (λ (entries : Entries). counter_in (record keys { counters = entries }) counter) same.counters

  next_stays : (counter : ℕ) → next_in new counter ≡ next_in keys counter
  next_stays counter = ap (λ o. unwrap_or o 0) (counts_stay counter)

  pub counter_stays : (first last counter : ℕ) → IsCounterFrom keys first last counter → IsCounterFrom new first last counter
  counter_stays first last counter was = record { there = subst IsSome (sym (counts_stay counter)) was.there; in_range = subst (IsInRange first last) (sym (next_stays counter)) was.in_range }

  pub ids_above : (counter : ℕ) → All (λ (entry : Pos × Value). next_in keys counter < entry.0.offset) keys.snapshots → All (λ (entry : Pos × Value). next_in new counter < entry.0.offset) new.snapshots
  ids_above counter was = subst (All (λ (entry : Pos × Value). next_in new counter < entry.0.offset)) (sym same.snapshots) (subst (λ n. All (λ (entry : Pos × Value). n < entry.0.offset) keys.snapshots) (sym (next_stays counter)) was)

  pub drawn_stays : (number : ℕ) → IsDrawn keys number → IsDrawn new number
  drawn_stays number was = record { client = was.client; count = let next : next_in new (number / numbers_per_client) ≡ next_in keys (number / numbers_per_client) = next_stays (number / numbers_per_client) in omega (arith, next, was.count) }

  -- live leaves match subvolumes,
  pub ids_match : DoIdsMatch keys → DoIdsMatch new
  ids_match was = record {
    subvolumes = subst (All (λ (sub : Sub). IsLiveLeaf new sub.id)) (sym (same_subs keys new same.subvols)) (λ k d lt. live_leaf_was new keys (sym snaps_stay) (slice_index_or (all_subs keys) k d).id (was.subvolumes k d lt));
    leaves = λ id leaf. ap (count_by (λ (sub : Sub). sub.id == id)) (same_subs keys new same.subvols) ∙ was.leaves id (live_leaf_was keys new snaps_stay id leaf);
  }

  -- names are good,
  pub names_stay : AreNamesGood keys → AreNamesGood new
  names_stay was = record {
    subvolumes = subst (All HasGoodSubvolumes) (sym same.subvols) was.subvolumes;
    names = subst (All HasGoodNames) (sym same.dirents) was.names;
  }

  -- files that are gone show no inode,
  pub gone_stay : AreGone keys → AreGone new
  gone_stay was = record {
    each = subst (All (λ (entry : Pos × Value). inode_in new entry.0.snapshot entry.0.offset ≡ None)) (sym same.deleted)
        (λ k d lt. inodes_stay (slice_index_or keys.deleted k d).0.snapshot (slice_index_or keys.deleted k d).0.offset ∙ was.each k d lt);
  }

  -- ids of the same keys are there,
  pub ids_there : (entries was : Entries) → entries ≡ was → AreIdsThere keys was → AreIdsThere new entries
  ids_there entries was is there = subst (AreIdsThere new) (sym is) (subst (λ (s : Snaps). All (λ (entry : Pos × Value). IsSome (value_at nat_cmp entry.0.snapshot s)) was) (sym snaps_stay) there)

  -- blocks stand below no inode, where those that came stand there neither,
  pub below_stays : ((id descendant number : ℕ) → is_ancestor_of (snaps_of keys) id descendant ≡ true → inode_in keys id number ≡ None → IsSome (inode_in keys descendant number)
      → All (λ (entry : Pos × Value). entry.0.inode ≡ number → is_ancestor_of (snaps_of keys) entry.0.snapshot id ≡ false) keys.extents
      → All (λ (entry : Pos × Value). entry.0.inode ≡ number → is_ancestor_of (snaps_of keys) entry.0.snapshot id ≡ false) new.extents) → AreBlocksBelow keys → AreBlocksBelow new
  below_stays carry was = record {
    each = λ id descendant number ancestor none some.
        let above : is_ancestor_of (snaps_of keys) id descendant ≡ true = ap (λ (s : Snaps). is_ancestor_of s id descendant) (sym snaps_stay) ∙ ancestor in
        let before : inode_in keys id number ≡ None = sym (inodes_stay id number) ∙ none in
        let below : IsSome (inode_in keys descendant number) = subst IsSome (inodes_stay descendant number) some in
        subst (λ (s : Snaps). All (λ (entry : Pos × Value). entry.0.inode ≡ number → is_ancestor_of s entry.0.snapshot id ≡ false) new.extents) (sym snaps_stay)
        (carry id descendant number above before below (was.each id descendant number above before below));
  }

  -- and they have owners, where those that came have one.
  pub owned_stays : (All (HasOwner keys) keys.extents → All (HasOwner keys) new.extents) → AreBlocksOwned keys → AreBlocksOwned new
  owned_stays carry was = record {
    each = λ k d lt. owner (slice_index_or new.extents k d) (carry was.each k d lt);
  }
    where
      owner : (entry : Pos × Value) → HasOwner keys entry → HasOwner new entry
      owner entry has = ⊎_elim
          (λ (file : kind_in keys entry.0.snapshot entry.0.inode ≡ Some File). inl (kinds_stay entry.0.snapshot entry.0.inode ∙ file))
          (λ (noted : IsNoted keys entry.0.snapshot entry.0.inode). inr (subst (λ (entries : Entries). IsSome (value_at pos_cmp (record { inode = 0; offset = entry.0.inode; snapshot = entry.0.snapshot }) entries)) (sym same.deleted) noted)) has
