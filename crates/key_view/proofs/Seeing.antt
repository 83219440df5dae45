-- What ids see after an id's own key was changed.
use Rattle.std.proofs.Common.{◌≡◌, ℕ, ◌<◌, Bool, true, false, cond, Option, Some, None, List, [], ◌∷◌, refl, sym, ap, ◌∙◌, subst, arith, ⊎_elim}
use Rattle.std.specs.Prelude.{◌≢◌, ◌==◌, ◌&&◌, ◌||◌, nat_eq, is_some, IsSome}
use Rattle.std.specs.BTreeMap.{is_at}
use Rattle.std.specs.List.{AllByRecursion, list_any}
use Rattle.std.specs.List.Sorted.{IsStrictlySortedBy}
use Rattle.std.specs.Option.{option_or}
use Rattle.std.specs.Ordering.{nat_cmp}
use Rattle.std.specs.declared.cmp.Ordering.TheVariants.{Less}
use Rattle.std.proofs.lemmas.Bool.{and_parts, eq-eqb, eqb-true, ne_eqb, true≢false}
use Rattle.std.proofs.lemmas.Cmp.{ranked}
use Rattle.std.proofs.lemmas.Map.Keys.{sorted_head}
use Rattle.std.proofs.lemmas.Option.{same_Some, none-some as none_some}
use Rattle.key_meaning.specs.Visible.{first_value, own_value, shown, snaps_of, visible, visible_above}
use Rattle.key_view.specs.FirstLaws.{same_at, at_itself}
use Rattle.key_view.proofs.Scanning.{at}
use Rattle.key_view.specs.Changes.{SeesThere, needs_whiteout, own_update, removal, updates_to_see}
use Rattle.snap_tree.specs.ChainLaws.{chain_of-rises, chain_of-step}
use Rattle.snap_tree.specs.Snaps.{Snaps, IsSnapTree, chain_above, chain_of, chain_of_maybe, is_ancestor_of, named_parent, parent_of, snaps_in}
use Rattle.snap_tree.specs.TreeLaws.{is_above, parent_joined}
use Rattle.vol_types.specs.Btrees.{btree_code}
use Rattle.vol_types.specs.KeyMapLaws.{entries_of-with_update, value_in-with_update}
use Rattle.vol_types.specs.KeyMaps.{Entries, KeyMap, IsKeyMap, entries_of, is_update_of, keys_in, updated_entries, with_update, with_updates}
use Rattle.vol_types.specs.Maps.{put_at, value_at}
use Rattle.vol_types.specs.Positions.{pos_cmp}
use Rattle.vol_types.specs.declared.keys.Update.{Update}
use Rattle.vol_types.specs.declared.positions.Btree.{Btree}
use Rattle.vol_types.specs.declared.positions.Btree.TheVariants.{Extents, Inodes, Dirents, Subvols, Snapshots, Alloc, Backptrs, Deleted, Counters}
use Rattle.vol_types.specs.declared.positions.Pos.{Pos}
use Rattle.vol_types.specs.declared.values.Snap.{Snap}
use Rattle.vol_types.specs.declared.values.Value.{Value}
use Rattle.vol_types.specs.declared.values.Value.TheVariants.{White}

-- the btree with a number
btree_with : ℕ → Option Btree
btree_with n =
    cond (n == 0) (Some Extents)
    (cond (n == 1) (Some Inodes)
    (cond (n == 2) (Some Dirents)
    (cond (n == 3) (Some Subvols) (cond (n == 4) (Some Snapshots) (cond (n == 5) (Some Alloc) (cond (n == 6) (Some Backptrs) (cond (n == 7) (Some Deleted) (Some Counters))))))))

btree_found : (btree : Btree) → btree_with (btree_code btree) ≡ Some btree
unfolding btree_with
btree_found Extents = refl
btree_found Inodes = refl
btree_found Dirents = refl
btree_found Subvols = refl
btree_found Snapshots = refl
btree_found Alloc = refl
btree_found Backptrs = refl
btree_found Deleted = refl
btree_found Counters = refl

-- btrees with one number are one
same_btree : (one other : Btree) → btree_code one ≡ btree_code other → one ≡ other
same_btree one other same = same_Some one other (sym (btree_found one) ∙ ap btree_with same ∙ btree_found other)

-- the chain of an id that is there goes on with that of its parent
chain_step : (snaps : Snaps) (id : ℕ) → IsSnapTree snaps → IsSome (value_at nat_cmp id snaps) → chain_of snaps id ≡ id ∷ chain_of_maybe snaps (parent_of snaps id)
chain_step snaps id tree there = by (value_at nat_cmp id snaps) refl there
  where
    named : (b : Bool) (parent : ℕ) → cond b [] (chain_of snaps parent) ≡ chain_of_maybe snaps (cond b None (Some parent))
    named true parent = refl
    named false parent = refl

    by : (o : Option Snap) → value_at nat_cmp id snaps ≡ o → IsSome o → chain_of snaps id ≡ id ∷ chain_of_maybe snaps (named_parent o)
    by None is some = absurd (true≢false (sym some))
    by (Some snap) is some =
        chain_of-step snaps id snap tree.rises is (is_above snaps id snap.parent (parent_joined snaps id snap tree.trees is)) ∙ ap (λ ids. id ∷ ids) (named (snap.parent == 0) snap.parent)

-- ids whose own values are the same have the same first value
first_value-same : (old new : KeyMap) (btree : Btree) (inode offset : ℕ) (ids : List ℕ) → ((a : ℕ) → list_any (nat_eq a) ids ≡ true → own_value new btree inode offset a ≡ own_value old btree inode offset a)
    → first_value new btree inode offset ids ≡ first_value old btree inode offset ids
first_value-same old new btree inode offset [] same = refl
first_value-same old new btree inode offset (x ∷ ids) same =
    ap (λ o. option_or o (first_value new btree inode offset ids)) (same x (ap (λ b. b || list_any (nat_eq x) ids) (eq-eqb x x refl)))
    ∙ ap (option_or (own_value old btree inode offset x)) (first_value-same old new btree inode offset ids (λ a among. same a (ap (λ b. nat_eq a x || b) among ∙ or_true (nat_eq a x))))
  where
    or_true : (b : Bool) → (b || true) ≡ true
    or_true true = refl
    or_true false = refl

-- a number is none of those above it
none_itself : (x : ℕ) (ids : List ℕ) → AllByRecursion (λ y. nat_cmp x y ≡ Less) ids → list_any (nat_eq x) ids ≡ false
none_itself x [] all = refl
none_itself x (y ∷ ids) all = ap (λ b. b || list_any (nat_eq x) ids) (ne_eqb x y (omega (arith, ranked x y Less (sym all.0)))) ∙ none_itself x ids all.1

module _ (keys : KeyMap) (btree : Btree) (inode offset id : ℕ) (value : Option Value) (is : IsKeyMap keys) where
  abbrev update : Update
  update = own_update btree inode offset id value

  abbrev changed : KeyMap
  changed = with_update update keys

  -- whether the update is of the key that an id has at a position of its own
  abbrev is_here : Btree → ℕ → ℕ → ℕ → Bool
  is_here b i o a = is_update_of b update && is_at (pos_cmp update.pos) (at i o a)

  own_after : (b : Btree) (i o a : ℕ) → own_value changed b i o a ≡ cond (is_here b i o a) value (own_value keys b i o a)
  own_after b i o a = value_in-with_update update keys b (at i o a) is

  here_true : is_here btree inode offset id ≡ true
  here_true = ap (λ b. b && is_at (pos_cmp update.pos) update.pos) (eq-eqb (btree_code btree) (btree_code btree) refl) ∙ at_itself update.pos

  own_here : own_value changed btree inode offset id ≡ value
  own_here = own_after btree inode offset id ∙ ap (λ b. cond b value (own_value keys btree inode offset id)) here_true

  own_there : (b : Btree) (i o a : ℕ) → ¬ ((b ≡ btree) × (i ≡ inode) × (o ≡ offset) × (a ≡ id)) → own_value changed b i o a ≡ own_value keys b i o a
  own_there b i o a other = own_after b i o a ∙ ap (λ t. cond t value (own_value keys b i o a)) (by (is_here b i o a) refl)
    where
      by : (t : Bool) → is_here b i o a ≡ t → t ≡ false
      by false test = refl
      by true test =
          let parts = and_parts (is_update_of b update) (is_at (pos_cmp update.pos) (at i o a)) test in
          let place = same_at update.pos (at i o a) parts.1 in
          absurd (other (sym (same_btree btree b (eqb-true (btree_code btree) (btree_code b) parts.0)), sym (ap (λ (p : Pos). p.inode) place), sym (ap (λ (p : Pos). p.offset) place), sym (ap (λ (p : Pos). p.snapshot) place)))

  ids_stay : btree ≢ Snapshots → snaps_of changed ≡ snaps_of keys
  ids_stay files = ap (λ (entries : Entries). snaps_in (keys_in entries)) (entries_of-with_update update keys Snapshots ∙ by (is_update_of Snapshots update) refl)
    where
      by : (t : Bool) → is_update_of Snapshots update ≡ t → updated_entries Snapshots update keys.snapshots ≡ keys.snapshots
      by true test = absurd (files (same_btree btree Snapshots (eqb-true (btree_code btree) (btree_code Snapshots) test)))
      by false test = ap (λ t. cond t (put_at pos_cmp update.pos update.value keys.snapshots) keys.snapshots) test

  seen_same : btree ≢ Snapshots → (b : Btree) (i o other : ℕ) → ((a : ℕ) → is_ancestor_of (snaps_of keys) a other ≡ true → own_value changed b i o a ≡ own_value keys b i o a) → visible changed b i o other ≡ visible keys b i o other
  seen_same files b i o other same =
      ap (λ s. shown (first_value changed b i o (chain_of s other))) (ids_stay files) ∙ ap shown (first_value-same keys changed b i o (chain_of (snaps_of keys) other) same)

  abbrev above : List ℕ
  above = chain_of_maybe (snaps_of keys) (parent_of (snaps_of keys) id)

  module _ (files : btree ≢ Snapshots) (tree : IsSnapTree (snaps_of keys)) (there : IsSome (value_at nat_cmp id (snaps_of keys))) where
    chain_is : chain_of (snaps_of keys) id ≡ id ∷ above
    chain_is = chain_step (snaps_of keys) id tree there

    -- the ids above aren't the id
    not_above : (a : ℕ) → list_any (nat_eq a) above ≡ true → a ≡ id → ⊥
    not_above a among same =
        true≢false (sym among ∙ ap (λ n. list_any (nat_eq n) above) same ∙ not_its_own)
      where
        not_its_own : list_any (nat_eq id) above ≡ false
        not_its_own = none_itself id above (sorted_head nat_cmp id above (subst (IsStrictlySortedBy nat_cmp) chain_is (chain_of-rises (snaps_of keys) id tree.rises)))

    -- what the id sees there then, by its own key and those above
    sees_there : SeesThere keys changed btree inode offset id (shown (option_or value (first_value keys btree inode offset above)))
    sees_there = record {
      here =
          ap (λ s. shown (first_value changed btree inode offset (chain_of s id))) (ids_stay files)
          ∙ ap (λ ids. shown (first_value changed btree inode offset ids)) chain_is
          ∙ ap (λ o. shown (option_or o (first_value changed btree inode offset above))) own_here
          ∙ ap (λ o. shown (option_or value o)) (first_value-same keys changed btree inode offset above (λ a among. own_there btree inode offset a (λ same. not_above a among same.3)));
      elsewhere = λ b i o other. seen_same files b i o id (λ a ancestor. own_there b i o a (λ same. other (same.0, same.1, same.2)));
      others = λ other apart b i o. seen_same files b i o other (λ a ancestor. own_there b i o a (λ same. true≢false (sym ancestor ∙ ap (λ n. is_ancestor_of (snaps_of keys) n other) same.3 ∙ apart)));
      ids = ids_stay files;
    }

module _ (keys : KeyMap) (btree : Btree) (inode offset id : ℕ) (is : IsKeyMap keys) (files : btree ≢ Snapshots) (tree : IsSnapTree (snaps_of keys)) (there : IsSome (value_at nat_cmp id (snaps_of keys))) where
  nothing_seen : (o : Option Value) → is_some o ≡ false → o ≡ None
  nothing_seen None is = refl
  nothing_seen (Some value) is = absurd (true≢false is)

  -- where the id has no key and its parent sees nothing, nothing changes
  no_change : needs_whiteout keys btree inode offset id ≡ false → is_some (own_value keys btree inode offset id) ≡ false → SeesThere keys keys btree inode offset id None
  no_change hidden own = record {
    here =
        ap (λ ids. shown (first_value keys btree inode offset ids)) (chain_step (snaps_of keys) id tree there)
        ∙ ap (λ o. shown (option_or o (first_value keys btree inode offset (chain_of_maybe (snaps_of keys) (parent_of (snaps_of keys) id))))) (nothing_seen (own_value keys btree inode offset id) own)
        ∙ nothing_seen (visible_above keys btree inode offset id) hidden;
    elsewhere = λ b i o other. refl;
    others = λ other apart b i o. refl;
    ids = refl;
  }

  -- after a removal the id sees nothing there
  removal_sees : SeesThere keys (with_updates (removal keys btree inode offset id) keys) btree inode offset id None
  removal_sees = by (needs_whiteout keys btree inode offset id) (is_some (own_value keys btree inode offset id)) refl refl
    where
      by : (hides has : Bool) → needs_whiteout keys btree inode offset id ≡ hides → is_some (own_value keys btree inode offset id) ≡ has
          → SeesThere keys (with_updates (cond hides (own_update btree inode offset id (Some White) ∷ []) (cond has (own_update btree inode offset id None ∷ []) [])) keys) btree inode offset id None
      by true has whiteout own = sees_there keys btree inode offset id (Some White) is files tree there
      by false true whiteout own =
          subst (λ o. SeesThere keys (with_update (own_update btree inode offset id None) keys) btree inode offset id o) (nothing_seen (visible_above keys btree inode offset id) whiteout)
          (sees_there keys btree inode offset id None is files tree there)
      by false false whiteout own = no_change whiteout own

  -- after its updates the id sees the value or none
  pub updates_see : (value : Option Value) → shown value ≡ value → SeesThere keys (with_updates (updates_to_see keys btree inode offset id value) keys) btree inode offset id value
  updates_see None shows = removal_sees
  updates_see (Some value) shows =
      subst (λ o. SeesThere keys (with_update (own_update btree inode offset id (Some value)) keys) btree inode offset id o) shows (sees_there keys btree inode offset id (Some value) is files tree there)
