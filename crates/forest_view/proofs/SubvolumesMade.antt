-- The subvolumes that are made of all keys are the forest's.
use Rattle.std.proofs.Common.{◌≡◌, ℕ, Bool, true, false, cond, Option, Some, None, List, [], ◌∷◌, refl, sym, ap, ◌∙◌, subst, arith}
use Rattle.std.specs.Prelude.{◌&&◌, ◌==◌, option_and_then, option_map, find}
use Rattle.std.specs.BTreeMap.{is_at}
use Rattle.std.specs.List.Sorted.{IsStrictlySortedBy}
use Rattle.std.specs.Option.{option_or}
use Rattle.std.specs.Ordering.{is_eq, nat_cmp, ordering_then}
use Rattle.std.specs.declared.cmp.Ordering.{Ordering}
use Rattle.std.specs.declared.cmp.Ordering.TheVariants.{Less, Equal, Greater}
use Rattle.std.proofs.lemmas.Bool.Decides.{nat_tests}
use Rattle.std.proofs.lemmas.Cmp.{nat_list_cmp_total}
use Rattle.std.proofs.lemmas.Map.Lookups.{exact_bytes}
use Rattle.forest_ops.specs.Parts.{with_new}
use Rattle.key_meaning.specs.Forest.{forest_in, subs_of, tree_of}
use Rattle.key_meaning.specs.ForestLaws.{tree_at, trees_rise}
use Rattle.plain_forest.specs.Forest.{Forest, Tree}
use Rattle.vol_digest.specs.Digests.{slot_of}
use Rattle.vol_types.specs.KeyMaps.{Entries, IsKeyMap, KeyMap, value_in}
use Rattle.vol_types.specs.MapLaws.{same_maps}
use Rattle.vol_types.specs.Maps.{IsMap, value_at}
use Rattle.vol_types.specs.PositionLaws.{pos_exact, pos_total}
use Rattle.vol_types.specs.Positions.{pos_cmp}
use Rattle.vol_types.specs.Ranges.{name_cmp}
use Rattle.vol_types.specs.declared.positions.Btree.TheVariants.{Subvols}
use Rattle.vol_types.specs.declared.positions.Pos.{Pos}
use Rattle.vol_types.specs.declared.values.Sub.{Sub}
use Rattle.vol_types.specs.declared.values.Value.{Value}
use Rattle.forest_view.specs.Meant.{no_blocks}
use Rattle.forest_view.specs.Subvolumes.{with_sub, with_subs, with_subs_at, with_subvolumes}
use Rattle.forest_view.proofs.Adding.{first_some, one_place, or_none, or_or}
use Rattle.forest_view.proofs.Slots.{IsMap-with_items, value_at-with_items, with_items}

same_number : (a b : ℕ) → is_at (nat_cmp a) b ≡ (a == b)
same_number a b = grind (arith, nat_tests)

-- a test of three numbers is one of each
all_parts : (x y z : Ordering) → is_eq (ordering_then x (ordering_then y z)) ≡ ((is_eq x && is_eq z) && is_eq y)
all_parts Less y z = refl
all_parts Equal Less Less = refl
all_parts Equal Less Equal = refl
all_parts Equal Less Greater = refl
all_parts Equal Equal Less = refl
all_parts Equal Equal Equal = refl
all_parts Equal Equal Greater = refl
all_parts Equal Greater Less = refl
all_parts Equal Greater Equal = refl
all_parts Equal Greater Greater = refl
all_parts Greater y z = refl

module _ (keys : KeyMap) where
  -- where a slot has its subvolumes
  abbrev slot_pos : ℕ → Pos
  slot_pos slot = record { inode = 0; offset = slot; snapshot = 0 }

  slot_test : (slot : ℕ) (pos : Pos) → is_at (pos_cmp (slot_pos slot)) pos ≡ ((pos.inode == 0 && pos.snapshot == 0) && slot == pos.offset)
  slot_test slot pos = all_parts (nat_cmp 0 pos.inode) (nat_cmp slot pos.offset) (nat_cmp 0 pos.snapshot) ∙ (λ i. (zero_test pos.inode i && zero_test pos.snapshot i) && same_number slot pos.offset i)
    where
      zero_test : (n : ℕ) → is_at (nat_cmp 0) n ≡ (n == 0)
      zero_test n = grind (arith, nat_tests)

  -- the subvolumes of a slot, each put where none of its name stood
  abbrev put_subs : ℕ → List Sub → List (List ℕ × Tree) → List (List ℕ × Tree)
  put_subs slot subs entries = with_items (λ (sub : Sub). sub.name) (tree_of keys no_blocks) (λ name. slot_of name == slot) subs entries

  subs_put : (slot : ℕ) (subs : List Sub) (forest : Forest) → (with_subs keys slot subs forest).subvolumes ≡ put_subs slot subs forest.subvolumes
  subs_put slot [] forest = refl
  subs_put slot (sub ∷ subs) forest = subs_put slot subs (with_sub keys slot sub forest) ∙ ap (put_subs slot subs) (by (slot_of sub.name == slot))
    where
      by : (b : Bool) → (cond b (record forest { subvolumes = with_new name_cmp sub.name (tree_of keys no_blocks sub) forest.subvolumes }) forest).subvolumes ≡ cond b (with_new name_cmp sub.name (tree_of keys no_blocks sub) forest.subvolumes) forest.subvolumes
      by true = refl
      by false = refl

  -- the tree of the first of some subvolumes that has this name
  abbrev tree_in : List ℕ → List Sub → Option Tree
  tree_in n subs = option_map (tree_of keys no_blocks) (find (λ (sub : Sub). is_at (name_cmp n) sub.name) subs)

  -- what an entry gives at a name
  abbrev given : List ℕ → Pos × Value → Option Tree
  given n entry = cond (is_at (pos_cmp (slot_pos (slot_of n))) entry.0) (tree_in n (subs_of (Some entry.1))) None

  one_entry : (n : List ℕ) (entry : Pos × Value) (forest : Forest) → value_at name_cmp n (with_subs_at keys entry forest).subvolumes ≡ option_or (value_at name_cmp n forest.subvolumes) (given n entry)
  one_entry n entry forest =
      by (entry.0.inode == 0 && entry.0.snapshot == 0)
      ∙ ap (λ b. option_or (value_at name_cmp n forest.subvolumes) (cond b (tree_in n (subs_of (Some entry.1))) None)) (sym (slot_test (slot_of n) entry.0))
    where
      by : (b : Bool) → value_at name_cmp n (cond b (with_subs keys entry.0.offset (subs_of (Some entry.1)) forest) forest).subvolumes
          ≡ option_or (value_at name_cmp n forest.subvolumes) (cond (b && slot_of n == entry.0.offset) (tree_in n (subs_of (Some entry.1))) None)
      by true =
          ap (value_at name_cmp n) (subs_put entry.0.offset (subs_of (Some entry.1)) forest)
          ∙ value_at-with_items (λ (sub : Sub). sub.name) (tree_of keys no_blocks) (λ name. slot_of name == entry.0.offset) n (subs_of (Some entry.1)) forest.subvolumes
      by false = sym (or_none (value_at name_cmp n forest.subvolumes))

  all_entries : (n : List ℕ) (entries : Entries) (forest : Forest) → value_at name_cmp n (with_subvolumes keys entries forest).subvolumes ≡ option_or (value_at name_cmp n forest.subvolumes) (first_some (given n) entries)
  all_entries n [] forest = sym (or_none (value_at name_cmp n forest.subvolumes))
  all_entries n (entry ∷ entries) forest =
      all_entries n entries (with_subs_at keys entry forest)
      ∙ ap (λ o. option_or o (first_some (given n) entries)) (one_entry n entry forest)
      ∙ or_or (value_at name_cmp n forest.subvolumes) (given n entry) (first_some (given n) entries)

  entries_rise : (entries : Entries) (forest : Forest) → IsMap name_cmp forest.subvolumes → IsMap name_cmp (with_subvolumes keys entries forest).subvolumes
  entries_rise [] forest rises = rises
  entries_rise (entry ∷ entries) forest rises = entries_rise entries (with_subs_at keys entry forest) (by (entry.0.inode == 0 && entry.0.snapshot == 0))
    where
      by : (b : Bool) → IsMap name_cmp (cond b (with_subs keys entry.0.offset (subs_of (Some entry.1)) forest) forest).subvolumes
      by true =
          subst (IsMap name_cmp) (sym (subs_put entry.0.offset (subs_of (Some entry.1)) forest))
          (IsMap-with_items (λ (sub : Sub). sub.name) (tree_of keys no_blocks) (λ name. slot_of name == entry.0.offset) (subs_of (Some entry.1)) forest.subvolumes rises)
      by false = rises

  -- what the value at the slot of a name gives
  given_there : (n : List ℕ) (value : Option Value) → option_and_then (λ v. tree_in n (subs_of (Some v))) value ≡ tree_in n (subs_of value)
  given_there n None = refl
  given_there n (Some value) = refl

  -- The subvolumes of all keys are those that are found by their names.
  pub subvolumes_made : IsKeyMap keys → (forest : Forest) → forest.subvolumes ≡ [] → (with_subvolumes keys keys.subvols forest).subvolumes ≡ (forest_in keys no_blocks).subvolumes
  unfolding IsStrictlySortedBy
  subvolumes_made is forest none =
      same_maps nat_list_cmp_total exact_bytes (with_subvolumes keys keys.subvols forest).subvolumes (forest_in keys no_blocks).subvolumes (entries_rise keys.subvols forest (subst (IsMap name_cmp) (sym none) tt)) (trees_rise keys no_blocks)
      (λ n.
      all_entries n keys.subvols forest
      ∙ ap (λ (es : List (List ℕ × Tree)). option_or (value_at name_cmp n es) (first_some (given n) keys.subvols)) none
      ∙ one_place pos_total pos_exact (λ v. tree_in n (subs_of (Some v))) (slot_pos (slot_of n)) keys.subvols (is.rises Subvols)
      ∙ given_there n (value_in keys Subvols (slot_pos (slot_of n)))
      ∙ sym (tree_at keys no_blocks n))

  -- The counters stay.
  abbrev pub counts : Forest → List ℕ × ℕ
  counts forest = (forest.next, forest.ids_left)

  subs_leave : (slot : ℕ) (subs : List Sub) (forest : Forest) → counts (with_subs keys slot subs forest) ≡ counts forest
  subs_leave slot [] forest = refl
  subs_leave slot (sub ∷ subs) forest = subs_leave slot subs (with_sub keys slot sub forest) ∙ by (slot_of sub.name == slot)
    where
      by : (b : Bool) → counts (cond b (record forest { subvolumes = with_new name_cmp sub.name (tree_of keys no_blocks sub) forest.subvolumes }) forest) ≡ counts forest
      by true = refl
      by false = refl

  pub counts_stay : (entries : Entries) (forest : Forest) → counts (with_subvolumes keys entries forest) ≡ counts forest
  counts_stay [] forest = refl
  counts_stay (entry ∷ entries) forest = counts_stay entries (with_subs_at keys entry forest) ∙ by (entry.0.inode == 0 && entry.0.snapshot == 0)
    where
      by : (b : Bool) → counts (cond b (with_subs keys entry.0.offset (subs_of (Some entry.1)) forest) forest) ≡ counts forest
      by true = subs_leave entry.0.offset (subs_of (Some entry.1)) forest
      by false = refl
