-- What shows in an id after one value was put or removed.
use Rattle.std.proofs.Common.{◌≡◌, ℕ, ◌<◌, Bool, true, false, cond, Option, Some, None, List, [], ◌∷◌, refl, sym, ap, ◌∙◌, subst, arith}
use Rattle.std.specs.Prelude.{◌⊎◌, ◌==◌, ◌&&◌, ◌||◌, nat_eq, IsSome}
use Rattle.std.specs.List.{AllByRecursion, fold, list_any}
use Rattle.std.specs.List.Sorted.{IsStrictlySortedBy}
use Rattle.std.specs.Option.{option_or}
use Rattle.std.specs.Ordering.{nat_cmp, is_eq, ordering_then}
use Rattle.std.specs.declared.cmp.Ordering.{Ordering}
use Rattle.std.specs.declared.cmp.Ordering.TheVariants.{Less, Equal, Greater}
use Rattle.std.proofs.lemmas.Bool.{eq-eqb, ne_eqb, true≢false}
use Rattle.std.proofs.lemmas.Bool.Decides.{nat_tests}
use Rattle.std.proofs.lemmas.Map.Keys.{sorted_head}
use Rattle.std.proofs.lemmas.Cmp.{ranked}
use Rattle.vol_types.specs.KeyMapLaws.{entries_of-with_update, value_in-with_update}
use Rattle.vol_types.specs.KeyMaps.{IsKeyMap, KeyMap, is_update_of, keys_in, with_update}
use Rattle.vol_types.specs.Maps.{IsMap, put_at, value_at}
use Rattle.vol_types.specs.declared.keys.Key.{Key}
use Rattle.vol_types.specs.declared.values.Snap.{Snap}
use Rattle.vol_types.specs.Positions.{pos_cmp}
use Rattle.vol_types.specs.declared.keys.Update.{Update}
use Rattle.vol_types.specs.declared.positions.Btree.{Btree}
use Rattle.vol_types.specs.declared.positions.Btree.TheVariants.{Snapshots}
use Rattle.vol_types.specs.declared.values.Value.{Value}
use Rattle.snap_tree.specs.ChainLaws.{chain_of-rises, chain_of-step}
use Rattle.snap_tree.specs.MapLaws.{rises-with}
use Rattle.snap_tree.specs.Snaps.{IsSnapTree, Snaps, chain_of, chain_of_maybe, is_ancestor_of, named_parent, parent_of, snap_of, snaps_in, with_snap}
use Rattle.snap_tree.specs.TreeLaws.{is_above, parent_joined}
use Rattle.key_meaning.specs.Visible.{first_value, own_value, shown, snaps_of, visible, visible_above}

-- Key maps that have the same ids, and the same own value at a position of a btree in each id of a chain, show the same there.
pub first_value-same : (one other : KeyMap) (btree : Btree) (inode offset : ℕ) (ids : List ℕ) → ((id : ℕ) → list_any (nat_eq id) ids ≡ true → own_value one btree inode offset id ≡ own_value other btree inode offset id)
    → first_value one btree inode offset ids ≡ first_value other btree inode offset ids
first_value-same one other btree inode offset [] same = refl
first_value-same one other btree inode offset (id ∷ ids) same =
    λ i. option_or (same id (ap (λ b. b || list_any (nat_eq id) ids) (eq-eqb id id refl)) i) (first_value-same one other btree inode offset ids (λ a in_rest. same a (later a in_rest)) i)
  where
    later : (a : ℕ) → list_any (nat_eq a) ids ≡ true → list_any (nat_eq a) (id ∷ ids) ≡ true
    later a in_rest = either (a == id)
      where
        either : (b : Bool) → (b || list_any (nat_eq a) ids) ≡ true
        either true = refl
        either false = in_rest

-- The ids of a key map rise.
pub snaps_of-rises : (keys : KeyMap) → IsMap nat_cmp (snaps_of keys)
unfolding IsStrictlySortedBy
snaps_of-rises keys = over (keys_in keys.snapshots) [] tt
  where
    one_more : (id : ℕ) (snap : Option Snap) (snaps : Snaps) → IsMap nat_cmp snaps → IsMap nat_cmp (with_snap id snap snaps)
    one_more id None snaps rises = rises
    one_more id (Some snap) snaps rises = rises-with snaps id snap rises

    over : (keys : List Key) (snaps : Snaps) → IsMap nat_cmp snaps → IsMap nat_cmp (fold (λ (snaps : Snaps) (key : Key). with_snap key.pos.offset (snap_of key.value) snaps) snaps keys)
    over [] snaps rises = rises
    over (key ∷ keys) snaps rises = over keys (with_snap key.pos.offset (snap_of key.value) snaps) (one_more key.pos.offset (snap_of key.value) snaps rises)

-- The chain of an id is the id and then the chain of its parent.
pub chain_goes_on : (snaps : Snaps) (id : ℕ) → IsSnapTree snaps → IsSome (value_at nat_cmp id snaps) → chain_of snaps id ≡ id ∷ chain_of_maybe snaps (parent_of snaps id)
chain_goes_on snaps id tree there = by (value_at nat_cmp id snaps) refl there
  where
    above : (snap : Snap) → value_at nat_cmp id snaps ≡ Some snap → (snap.parent ≡ 0) ⊎ (id < snap.parent)
    above snap found = is_above snaps id snap.parent (parent_joined snaps id snap tree.trees found)

    named : (b : Bool) (parent : ℕ) → cond b [] (chain_of snaps parent) ≡ chain_of_maybe snaps (cond b None (Some parent))
    named true parent = refl
    named false parent = refl

    by : (found : Option Snap) → value_at nat_cmp id snaps ≡ found → IsSome found → chain_of snaps id ≡ id ∷ chain_of_maybe snaps (parent_of snaps id)
    by None is some = absurd (true≢false (sym some))
    by (Some snap) is some = chain_of-step snaps id snap tree.rises is (above snap is) ∙ ap (λ ids. id ∷ ids) (named (snap.parent == 0) snap.parent ∙ ap (λ o. chain_of_maybe snaps (named_parent o)) (sym is))

-- An id isn't in the chain of its parent.
pub not_above_itself : (snaps : Snaps) (id : ℕ) → IsSnapTree snaps → IsSome (value_at nat_cmp id snaps) → list_any (nat_eq id) (chain_of_maybe snaps (parent_of snaps id)) ≡ false
not_above_itself snaps id tree there = none_of (chain_of_maybe snaps (parent_of snaps id)) (sorted_head nat_cmp id (chain_of_maybe snaps (parent_of snaps id)) (subst (IsStrictlySortedBy nat_cmp) (chain_goes_on snaps id tree there) (chain_of-rises snaps id tree.rises)))
  where
    none_of : (ids : List ℕ) → AllByRecursion (λ y. nat_cmp id y ≡ Less) ids → list_any (nat_eq id) ids ≡ false
    none_of [] all = refl
    none_of (y ∷ ids) all = ap (λ b. b || list_any (nat_eq id) ids) (ne_eqb id y (omega (arith, ranked id y Less (sym all.0)))) ∙ none_of ids all.1

-- whether an update puts or removes a value at this inode and offset of a btree, in whichever id
abbrev pub is_put_at : Update → Btree → ℕ → ℕ → Bool
is_put_at update btree inode offset = is_update_of btree update && (update.pos.inode == inode && update.pos.offset == offset)

same_nat : (a b : ℕ) → is_eq (nat_cmp a b) ≡ (a == b)
same_nat a b = grind (arith, nat_tests)

then_equal : (a b c : Ordering) → is_eq (ordering_then a (ordering_then b c)) ≡ ((is_eq a && is_eq b) && is_eq c)
then_equal Less b c = refl
then_equal Equal Less c = refl
then_equal Equal Equal c = refl
then_equal Equal Greater c = refl
then_equal Greater b c = refl

and_and : (a b c : Bool) → (a && (b && c)) ≡ ((a && b) && c)
and_and true b c = refl
and_and false b c = refl

and_false : (b : Bool) → (b && false) ≡ false
and_false true = refl
and_false false = refl

pub neither : (a b : Bool) → (a || b) ≡ false → (a ≡ false) × (b ≡ false)
neither true b none = absurd (true≢false none)
neither false b none = (refl, none)

module _ (update : Update) (keys : KeyMap) (is : IsKeyMap keys) (other : is_update_of Snapshots update ≡ false) where
  -- An update of another btree leaves the snapshot ids.
  pub snaps_of-with_update : snaps_of (with_update update keys) ≡ snaps_of keys
  snaps_of-with_update = ap (λ entries. snaps_in (keys_in entries)) (entries_of-with_update update keys Snapshots ∙ ap (λ b. cond b (put_at pos_cmp update.pos update.value keys.snapshots) keys.snapshots) other)

  -- After an update its id has its own value there, and each other id what it had.
  pub own_value-with_update : (btree : Btree) (inode offset id : ℕ) → own_value (with_update update keys) btree inode offset id ≡ cond (is_put_at update btree inode offset && update.pos.snapshot == id) update.value (own_value keys btree inode offset id)
  own_value-with_update btree inode offset id =
      value_in-with_update update keys btree (record { inode = inode; offset = offset; snapshot = id }) is
      ∙ ap (λ b. cond (is_update_of btree update && b) update.value (own_value keys btree inode offset id)) (then_equal (nat_cmp update.pos.inode inode) (nat_cmp update.pos.offset offset) (nat_cmp update.pos.snapshot id) ∙ (λ i. (same_nat update.pos.inode inode i && same_nat update.pos.offset offset i) && same_nat update.pos.snapshot id i))
      ∙ ap (λ b. cond b update.value (own_value keys btree inode offset id)) (and_and (is_update_of btree update) (update.pos.inode == inode && update.pos.offset == offset) (update.pos.snapshot == id))

  -- At another inode or offset, or in another btree, each id has its own value still.
  pub own_value-other : (btree : Btree) (inode offset id : ℕ) → is_put_at update btree inode offset ≡ false → own_value (with_update update keys) btree inode offset id ≡ own_value keys btree inode offset id
  own_value-other btree inode offset id elsewhere = own_value-with_update btree inode offset id ∙ ap (λ b. cond (b && update.pos.snapshot == id) update.value (own_value keys btree inode offset id)) elsewhere

  -- And so has each other id.
  pub own_value-elsewhere : (btree : Btree) (inode offset id : ℕ) → (update.pos.snapshot == id) ≡ false → own_value (with_update update keys) btree inode offset id ≡ own_value keys btree inode offset id
  own_value-elsewhere btree inode offset id elsewhere = own_value-with_update btree inode offset id ∙ ap (λ b. cond b update.value (own_value keys btree inode offset id)) (ap (λ b. is_put_at update btree inode offset && b) elsewhere ∙ and_false (is_put_at update btree inode offset))

  -- The first value of ids among which that of the update isn't stays.
  pub first_value-elsewhere : (btree : Btree) (inode offset : ℕ) (ids : List ℕ) → list_any (nat_eq update.pos.snapshot) ids ≡ false → first_value (with_update update keys) btree inode offset ids ≡ first_value keys btree inode offset ids
  first_value-elsewhere btree inode offset [] none = refl
  first_value-elsewhere btree inode offset (id ∷ ids) none =
      let parts = neither (update.pos.snapshot == id) (list_any (nat_eq update.pos.snapshot) ids) none in
      λ i. option_or (own_value-elsewhere btree inode offset id parts.0 i) (first_value-elsewhere btree inode offset ids parts.1 i)

  -- At another inode or offset, or in another btree, each id shows what it showed.
  pub visible-other : (btree : Btree) (inode offset id : ℕ) → is_put_at update btree inode offset ≡ false → visible (with_update update keys) btree inode offset id ≡ visible keys btree inode offset id
  visible-other btree inode offset id elsewhere =
      ap (λ snaps. shown (first_value (with_update update keys) btree inode offset (chain_of snaps id))) snaps_of-with_update
      ∙ ap shown (first_value-same (with_update update keys) keys btree inode offset (chain_of (snaps_of keys) id) (λ a in_chain. own_value-other btree inode offset a elsewhere))

  -- An id whose chain the update's id isn't in shows everywhere what it showed.
  pub visible-elsewhere : (btree : Btree) (inode offset id : ℕ) → is_ancestor_of (snaps_of keys) update.pos.snapshot id ≡ false → visible (with_update update keys) btree inode offset id ≡ visible keys btree inode offset id
  visible-elsewhere btree inode offset id apart =
      ap (λ snaps. shown (first_value (with_update update keys) btree inode offset (chain_of snaps id))) snaps_of-with_update
      ∙ ap shown (first_value-elsewhere btree inode offset (chain_of (snaps_of keys) id) apart)

  module _ (tree : IsSnapTree (snaps_of keys)) (there : IsSome (value_at nat_cmp update.pos.snapshot (snaps_of keys))) where
    -- the first value that the update's id sees there: its own one, or that above
    first_put : (btree : Btree) (inode offset : ℕ) → is_put_at update btree inode offset ≡ true
        → visible (with_update update keys) btree inode offset update.pos.snapshot ≡ shown (option_or update.value (first_value keys btree inode offset (chain_of_maybe (snaps_of keys) (parent_of (snaps_of keys) update.pos.snapshot))))
    first_put btree inode offset here =
        ap (λ snaps. shown (first_value (with_update update keys) btree inode offset (chain_of snaps update.pos.snapshot))) snaps_of-with_update
        ∙ ap (λ ids. shown (first_value (with_update update keys) btree inode offset ids)) (chain_goes_on (snaps_of keys) update.pos.snapshot tree there)
        ∙ (λ i. shown (option_or (own i) (first_value-elsewhere btree inode offset (chain_of_maybe (snaps_of keys) (parent_of (snaps_of keys) update.pos.snapshot)) (not_above_itself (snaps_of keys) update.pos.snapshot tree there) i)))
      where
        own : own_value (with_update update keys) btree inode offset update.pos.snapshot ≡ update.value
        own = own_value-with_update btree inode offset update.pos.snapshot ∙ (λ i. cond (here i && eq-eqb update.pos.snapshot update.pos.snapshot refl i) update.value (own_value keys btree inode offset update.pos.snapshot))

    -- A value that was put shows in its id; a whiteout shows nothing.
    pub visible-put : (btree : Btree) (inode offset : ℕ) (value : Value) → is_put_at update btree inode offset ≡ true → update.value ≡ Some value → visible (with_update update keys) btree inode offset update.pos.snapshot ≡ shown (Some value)
    visible-put btree inode offset value here put = first_put btree inode offset here ∙ ap (λ o. shown (option_or o (first_value keys btree inode offset (chain_of_maybe (snaps_of keys) (parent_of (snaps_of keys) update.pos.snapshot))))) put

    -- Where a value was removed, its id shows what its parent shows.
    pub visible-removed : (btree : Btree) (inode offset : ℕ) → is_put_at update btree inode offset ≡ true → update.value ≡ None → visible (with_update update keys) btree inode offset update.pos.snapshot ≡ visible_above keys btree inode offset update.pos.snapshot
    visible-removed btree inode offset here removed = first_put btree inode offset here ∙ ap (λ o. shown (option_or o (first_value keys btree inode offset (chain_of_maybe (snaps_of keys) (parent_of (snaps_of keys) update.pos.snapshot))))) removed
