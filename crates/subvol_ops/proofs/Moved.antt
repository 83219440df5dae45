-- Where the source of a snapshot goes on in another id, its slot has the moved source in its place.
use Rattle.std.proofs.Common.{◌≡◌, ℕ, ◌<◌, Bool, true, false, cond, Some, None, List, [], ◌∷◌, refl, sym, ap, ◌∙◌, subst, map, length, arith}
use Rattle.std.specs.Prelude.{◌==◌}
use Rattle.std.specs.List.{AllByRecursion}
use Rattle.std.specs.List.Sorted.{IsStrictlySortedBy}
use Rattle.std.specs.Ordering.{is_eq}
use Rattle.std.specs.declared.cmp.Ordering.TheVariants.{Less}
use Rattle.std.proofs.lemmas.Bool.{and_parts, eqb-true, leb-true}
use Rattle.std.proofs.lemmas.Map.Lookups.{exact_bytes}
use Rattle.std.proofs.lemmas.Option.{none-some as none_some, same_Some}
use Rattle.id_steps.proofs.Slots.{list_rises, names_of_named}
use Rattle.id_steps.specs.Entries.{PutsSub, sub_of, subs_value}
use Rattle.id_steps.specs.SlotLists.{with_other_sub}
use Rattle.id_steps.specs.Steps.{moved_to}
use Rattle.key_meaning.specs.TableLaws.{same_key}
use Rattle.plain_forest.specs.Names.{is_good_subvolume_name}
use Rattle.subvol_ops.specs.Slots.{with_moved}
use Rattle.vol_digest.specs.Digests.{slot_of}
use Rattle.vol_types.specs.Ranges.{IsKeyValue, IsName, name_cmp}
use Rattle.vol_types.specs.declared.values.Sub.{Sub}

-- the names of some subvolumes
abbrev names_of : List Sub → List (List ℕ)
names_of subs = map (λ (sub : Sub). sub.name) subs

module _ (name : List ℕ) (id : ℕ) (sub : Sub) where
  -- the subvolumes, where that of the name is this one, moved
  abbrev put : List Sub → List Sub
  put subs = map (λ (other : Sub). cond (is_eq (name_cmp name other.name)) (moved_to id sub) other) subs

  -- where all names are above, nothing moves
  above : (subs : List Sub) → AllByRecursion (λ other. name_cmp name other ≡ Less) (names_of subs) → with_moved name id subs ≡ put subs
  above [] all = refl
  above (other ∷ subs) all =
      λ i. (ap (λ b. cond b (moved_to id other) other) (ap is_eq all.0) ∙ sym (ap (λ b. cond b (moved_to id sub) other) (ap is_eq all.0))) i ∷ above subs all.1 i

  moved : (subs : List Sub) → IsStrictlySortedBy name_cmp (names_of subs) → sub_of name subs ≡ Some sub → with_moved name id subs ≡ put subs
  unfolding IsStrictlySortedBy
  moved [] sorted found = refl
  moved (other ∷ subs) sorted found = by (is_eq (name_cmp name other.name)) refl found (moved subs sorted.1)
    where
      by : (b : Bool) → is_eq (name_cmp name other.name) ≡ b → cond b (Some other) (sub_of name subs) ≡ Some sub → (sub_of name subs ≡ Some sub → with_moved name id subs ≡ put subs)
          → cond b (moved_to id other) other ∷ with_moved name id subs ≡ cond b (moved_to id sub) other ∷ put subs
      by true at here later = λ i. moved_to id (same_Some other sub here i) ∷ above subs (subst (λ n. AllByRecursion (λ y. name_cmp n y ≡ Less) (names_of subs)) (sym (same_key exact_bytes name other.name at)) sorted.0) i
      by false at here later = ap (λ all. other ∷ all) (later here)

-- What the slot of a source has then is what it has with the moved source in place of the source.
pub moved_is_other : (name : List ℕ) (id : ℕ) (sub : Sub) (subs : List Sub) → IsKeyValue (subs_value subs) → sub_of name subs ≡ Some sub → sub.name ≡ name → with_moved name id subs ≡ with_other_sub (moved_to id sub) subs
moved_is_other name id sub subs fits found same =
    moved name id sub subs (subst (IsStrictlySortedBy name_cmp) (names_of_named subs) (list_rises subs fits)) found
    ∙ ap (λ n. map (λ (other : Sub). cond (is_eq (name_cmp n other.name)) (moved_to id sub) other) subs) (sym same)

-- As many share the slot then as did.
moved_count : (name : List ℕ) (id : ℕ) (subs : List Sub) → length (with_moved name id subs) ≡ length subs
moved_count name id [] = refl
moved_count name id (sub ∷ subs) = let later = moved_count name id subs in omega (arith, later)

-- A slot takes a further subvolume of a name: those that it has may stand as a value, none has the name, and they are few.
pub record TakesName (name : List ℕ) (subs : List Sub) : Type 0 where
  pub in_range : IsKeyValue (subs_value subs)
  pub free : sub_of name subs ≡ None
  pub few : length subs < 8

-- The slot of the copy takes it, once the source has moved.
pub takes_copy : (source copy : List ℕ) (id : ℕ) (sub moved : Sub) (subs others : List Sub) → PutsSub source (Some moved) subs (with_moved source id subs) → sub_of source subs ≡ Some sub → TakesName copy others
    → (slot_of source ≡ slot_of copy → subs ≡ others) → TakesName copy (cond (slot_of source == slot_of copy) (with_moved source id subs) others)
takes_copy source copy id sub moved subs others puts found takes alike = by (slot_of source == slot_of copy) refl
  where
    apart : subs ≡ others → (b : Bool) → is_eq (name_cmp source copy) ≡ b → cond b (Some moved) (sub_of copy subs) ≡ None
    apart same true at = absurd (none_some sub (sym takes.free ∙ ap (sub_of copy) (sym same) ∙ ap (λ (n : List ℕ). sub_of n subs) (sym (same_key exact_bytes source copy at)) ∙ found))
    apart same false at = ap (sub_of copy) same ∙ takes.free

    by : (b : Bool) → (slot_of source == slot_of copy) ≡ b → TakesName copy (cond b (with_moved source id subs) others)
    by false other = takes
    by true one = let same = alike (eqb-true (slot_of source) (slot_of copy) one) in record {
      in_range = puts.in_range;
      free = puts.found copy ∙ apart same (is_eq (name_cmp source copy)) refl;
      few = omega (arith, moved_count source id subs, ap (λ (l : List Sub). length l) same, takes.few);
    }

-- A good name of a subvolume has as many bytes as names may have.
pub good_is_name : (name : List ℕ) → is_good_subvolume_name name ≡ true → IsName name
good_is_name name good = let bounds = and_parts _ _ (and_parts _ _ (and_parts _ _ (and_parts _ _ good).0).0).0 in (leb-true 1 (length name) bounds.0, leb-true (length name) 255 bounds.1)
