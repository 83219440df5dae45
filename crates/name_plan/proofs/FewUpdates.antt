-- A few updates of leaves, none of extents, fit an entry of the journal: how many they are is a sum over the steps of a change.
use Rattle.std.proofs.Common.{◌≡◌, ℕ, ◌+◌, ◌≤◌, Bool, true, false, cond, Option, Some, None, List, [], ◌∷◌, ◌++◌, refl, length, get_or, arith}
use Rattle.std.specs.Prelude.{◌≢◌, All, is_some}
use Rattle.std.proofs.lemmas.List.Elements.{All-append, All-from_recursion}
use Rattle.std.proofs.lemmas.List.Sums.{sum_by-le}
use Rattle.std.proofs.lemmas.List.{length-append}
use Rattle.key_meaning.specs.Visible.{own_value}
use Rattle.key_view.specs.Changes.{needs_whiteout, own_update, updates_to_see}
use Rattle.path_plan.specs.Made.{AreMade, update_length}
use Rattle.vol_types.specs.KeyMaps.{KeyMap}
use Rattle.vol_types.specs.LengthLaws.{short_key}
use Rattle.vol_types.specs.Standing.{IsUpdate}
use Rattle.vol_types.specs.declared.keys.Update.{Update}
use Rattle.vol_types.specs.declared.positions.Btree.{Btree}
use Rattle.vol_types.specs.declared.positions.Btree.TheVariants.{Extents}
use Rattle.vol_types.specs.declared.values.Value.{Value}
use Rattle.vol_types.specs.declared.values.Value.TheVariants.{White}

-- The updates are at most so many, all of leaves, and none is of extents.
pub record AreFew (count : ℕ) (updates : List Update) : Type 0 where
  pub count_fits : length updates ≤ count
  pub leaves : All (λ (update : Update). update.level ≡ 0) updates
  pub extents : All (λ (update : Update). update.btree ≢ Extents) updates

-- No update is few,
pub none_few : AreFew 0 []
none_few = record {
  count_fits = omega arith;
  leaves = All-from_recursion (λ (update : Update). update.level ≡ 0) [] tt;
  extents = All-from_recursion (λ (update : Update). update.btree ≢ Extents) [] tt;
}

-- one update of a leaf is one,
pub one_few : (update : Update) → update.level ≡ 0 → update.btree ≢ Extents → AreFew 1 (update ∷ [])
one_few update leaf other = record {
  count_fits = omega arith;
  leaves = All-from_recursion (λ (u : Update). u.level ≡ 0) (update ∷ []) (leaf, tt);
  extents = All-from_recursion (λ (u : Update). u.btree ≢ Extents) (update ∷ []) (other, tt);
}

-- those by which an id sees a value, or none, are at most one,
pub seen_few : (keys : KeyMap) (btree : Btree) (inode offset id : ℕ) (value : Option Value) → btree ≢ Extents → AreFew 1 (updates_to_see keys btree inode offset id value)
seen_few keys btree inode offset id (Some value) other = one_few (own_update btree inode offset id (Some value)) refl other
seen_few keys btree inode offset id None other = by (needs_whiteout keys btree inode offset id) (is_some (own_value keys btree inode offset id))
  where
    by : (white own : Bool) → AreFew 1 (cond white (own_update btree inode offset id (Some White) ∷ []) (cond own (own_update btree inode offset id None ∷ []) []))
    by true own = one_few (own_update btree inode offset id (Some White)) refl other
    by false true = one_few (own_update btree inode offset id None) refl other
    by false false = record { count_fits = omega arith; leaves = none_few.leaves; extents = none_few.extents }

-- and of two lists of them there are as many as both are.
pub then_few : (one other : ℕ) (first second : List Update) → AreFew one first → AreFew other second → AreFew (one + other) (first ++ second)
then_few one other first second few more = record {
  count_fits = omega (arith, length-append first second, few.count_fits, more.count_fits);
  leaves = All-append (λ (u : Update). u.level ≡ 0) first second few.leaves more.leaves;
  extents = All-append (λ (u : Update). u.btree ≢ Extents) first second few.extents more.extents;
}

-- Few updates that may be made are made in one entry of the journal: it has room for a hundred.
pub few_are_made : (count : ℕ) (updates : List Update) → count ≤ 100 → AreFew count updates → All IsUpdate updates → AreMade updates
few_are_made count updates small few each = record {
  each = each;
  leaves = few.leaves;
  extents = few.extents;
  few = λ mirrors le. omega (arith, le, small, few.count_fits, sum_by-le update_length 2223 updates (λ k d lt. omega (arith, short_key (get_or updates k d).value (each k d lt).in_range)));
}
