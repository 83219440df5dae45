-- The updates of subvolumes may be made, and are few.
use Rattle.std.proofs.Common.{◌≡◌, ℕ, ◌+◌, ◌-◌, ◌≤◌, ◌<◌, Bool, true, false, Some, List, [], ◌∷◌, ◌++◌, refl, ap, length, get_or, arith}
use Rattle.std.specs.Prelude.{◌≢◌, ◌==◌, if◌then◌else◌}
use Rattle.std.specs.List.{AllByRecursion}
use Rattle.std.proofs.lemmas.List.Elements.{All-from_recursion}
use Rattle.std.proofs.lemmas.List.Sums.{sum_by-le}
use Rattle.id_steps.specs.Entries.{counter_update, subs_update, subs_value}
use Rattle.id_steps.specs.Ids.{dead, split_updates}
use Rattle.id_steps.specs.Steps.{empty_directory, made_sub, made_updates, removal_updates, snapshot_updates}
use Rattle.key_meaning.specs.Forest.{next_in}
use Rattle.key_meaning.specs.Numbers.{own_inode}
use Rattle.key_steps.specs.Steps.{inode_value}
use Rattle.path_plan.specs.Made.{AreMade, update_length}
use Rattle.snap_tree.specs.Splits.{snap_update}
use Rattle.vol_digest.specs.Digests.{slot_of}
use Rattle.vol_types.specs.Btrees.{btree_code}
use Rattle.vol_types.specs.KeyMaps.{KeyMap}
use Rattle.vol_types.specs.LengthLaws.{short_key}
use Rattle.vol_types.specs.Ranges.{IsKeyValue}
use Rattle.vol_types.specs.Standing.{IsUpdate}
use Rattle.vol_types.specs.declared.keys.Update.{Update}
use Rattle.vol_types.specs.declared.positions.Btree.TheVariants.{Extents}
use Rattle.vol_types.specs.declared.values.Snap.{Snap}
use Rattle.vol_types.specs.declared.values.Sub.{Sub}

-- The update may be made, in a leaf, and is none of extents.
record IsPlain (update : Update) : Type 0 where
  may : IsUpdate update
  leaf : update.level ≡ 0
  other : update.btree ≢ Extents

counter_plain : (counter next : ℕ) → IsPlain (counter_update counter next)
counter_plain counter next = record {
  may = record { stands = record { in_leaf = λ leaf. refl; above = λ (up : 0 < 0). absurd (omega (arith, up)) }; in_range = tt };
  leaf = refl;
  other = λ same. omega (arith, ap btree_code same);
}

snap_plain : (id : ℕ) (snap : Snap) → IsPlain (snap_update id snap)
snap_plain id snap = record {
  may = record { stands = record { in_leaf = λ leaf. refl; above = λ (up : 0 < 0). absurd (omega (arith, up)) }; in_range = tt };
  leaf = refl;
  other = λ same. omega (arith, ap btree_code same);
}

root_plain : (id number : ℕ) → IsPlain (own_inode id number (Some (inode_value empty_directory)))
root_plain id number = record {
  may = record { stands = record { in_leaf = λ leaf. refl; above = λ (up : 0 < 0). absurd (omega (arith, up)) }; in_range = record { links = (omega arith, omega arith); size = omega arith } };
  leaf = refl;
  other = λ same. omega (arith, ap btree_code same);
}

subs_plain : (slot : ℕ) (subs : List Sub) → IsKeyValue (subs_value subs) → IsPlain (subs_update slot subs)
subs_plain slot [] fits = record { may = record { stands = tt; in_range = tt }; leaf = refl; other = λ same. omega (arith, ap btree_code same) }
subs_plain slot (sub ∷ subs) fits = record {
  may = record { stands = record { in_leaf = λ leaf. refl; above = λ (up : 0 < 0). absurd (omega (arith, up)) }; in_range = fits };
  leaf = refl;
  other = λ same. omega (arith, ap btree_code same);
}

-- what all have by recursion, each has in its parts
parts : (P : Update → Type 0) → ((update : Update) → IsPlain update → P update) → (updates : List Update) → AllByRecursion IsPlain updates → AllByRecursion P updates
parts P has [] all = tt
parts P has (update ∷ updates) all = (has update all.0, parts P has updates all.1)

-- A few such updates are made in one entry of the journal, which has room for a hundred.
few_made : (updates : List Update) → length updates ≤ 100 → AllByRecursion IsPlain updates → AreMade updates
few_made updates few all =
    let each = All-from_recursion IsUpdate updates (parts IsUpdate (λ update plain. plain.may) updates all) in record {
      each = each;
      leaves = All-from_recursion (λ (u : Update). u.level ≡ 0) updates (parts (λ u. u.level ≡ 0) (λ update plain. plain.leaf) updates all);
      extents = All-from_recursion (λ (u : Update). u.btree ≢ Extents) updates (parts (λ u. u.btree ≢ Extents) (λ update plain. plain.other) updates all);
      few = λ mirrors le. omega (arith, le, few, sum_by-le update_length 2223 updates (λ k d lt. omega (arith, short_key (get_or updates k d).value (each k d lt).in_range)));
    }

-- A subvolume is made,
pub made_are_made : (keys : KeyMap) (client : ℕ) (name : List ℕ) (subs : List Sub) → IsKeyValue (subs_value subs) → AreMade (made_updates keys client name subs)
made_are_made keys client name subs fits =
    few_made (made_updates keys client name subs) (omega arith)
    (counter_plain client (next_in keys client + 1), (snap_plain (made_sub keys client name).id _, (subs_plain (slot_of name) subs fits, (counter_plain 16 _, (root_plain (made_sub keys client name).id (made_sub keys client name).root, tt)))))

-- one is removed,
pub removal_is_made : (name : List ℕ) (sub : Sub) (leaf : Snap) (left : List Sub) → IsKeyValue (subs_value left) → AreMade (removal_updates name sub leaf left)
removal_is_made name sub leaf left fits = few_made (removal_updates name sub leaf left) (omega arith) (snap_plain sub.id (dead leaf), (subs_plain (slot_of name) left fits, tt))

-- and a snapshot is made.
pub snapshot_is_made : (keys : KeyMap) (sub : Sub) (leaf : Snap) (source copy : List ℕ) (sources copies : List Sub) → IsKeyValue (subs_value sources) → IsKeyValue (subs_value copies) → AreMade (snapshot_updates keys sub leaf source copy sources copies)
snapshot_is_made keys sub leaf source copy sources copies source_fits copy_fits = by (slot_of source == slot_of copy)
  where
    next : ℕ
    next = next_in keys 16

    slots : Bool → List Update
    slots one = if one then subs_update (slot_of copy) copies ∷ [] else subs_update (slot_of source) sources ∷ subs_update (slot_of copy) copies ∷ []

    all : Bool → List Update
    all one = split_updates sub.id next (next - 1) leaf ++ slots one ++ counter_update 16 (next - 2) ∷ []

    by : (one : Bool) → AreMade (all one)
    by true = few_made (all true) (omega arith) (snap_plain sub.id _, (snap_plain next _, (snap_plain (next - 1) _, (subs_plain (slot_of copy) copies copy_fits, (counter_plain 16 (next - 2), tt)))))
    by false = few_made (all false) (omega arith) (snap_plain sub.id _, (snap_plain next _, (snap_plain (next - 1) _, (subs_plain (slot_of source) sources source_fits, (subs_plain (slot_of copy) copies copy_fits, (counter_plain 16 (next - 2), tt))))))
