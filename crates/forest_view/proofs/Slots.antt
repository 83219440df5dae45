-- Items with names that come to a map where no such name stood, if their slot is the right one: what then stands at a name.
use Rattle.std.proofs.Common.{◌≡◌, ℕ, Bool, true, false, cond, Option, Some, None, List, [], ◌∷◌, refl, sym, ap, ◌∙◌}
use Rattle.std.specs.Prelude.{find, option_map}
use Rattle.std.specs.Option.{option_or}
use Rattle.std.specs.BTreeMap.{is_at}
use Rattle.std.proofs.lemmas.Cmp.{nat_list_cmp_total}
use Rattle.std.proofs.lemmas.Map.Lookups.{exact_bytes}
use Rattle.forest_ops.specs.Parts.{with_new}
use Rattle.key_meaning.specs.TableLaws.{same_key}
use Rattle.vol_types.specs.Maps.{IsMap, value_at}
use Rattle.vol_types.specs.Ranges.{name_cmp}
use Rattle.forest_view.proofs.Adding.{IsMap-with_new, or_none, or_or, value_at-with_new}

module _ {A Y : Type 0} (name : A → List ℕ) (give : A → Y) (right : List ℕ → Bool) where
  -- the entries after an item came
  abbrev pub with_item : A → List (List ℕ × Y) → List (List ℕ × Y)
  with_item item entries = cond (right (name item)) (with_new name_cmp (name item) (give item) entries) entries

  -- the entries after items came
  abbrev pub with_items : List A → List (List ℕ × Y) → List (List ℕ × Y)
  with_items [] entries = entries
  with_items (item ∷ items) entries = with_items items (with_item item entries)

  -- what the first item of a name gives
  abbrev pub given_at : List ℕ → List A → Option Y
  given_at q items = option_map give (find (λ item. is_at (name_cmp q) (name item)) items)

  -- what an item gives at a name
  item_at : (q : List ℕ) (item : A) (entries : List (List ℕ × Y)) (b : Bool) → right (name item) ≡ b
      → value_at name_cmp q (cond b (with_new name_cmp (name item) (give item) entries) entries) ≡ option_or (value_at name_cmp q entries) (cond b (cond (is_at (name_cmp q) (name item)) (Some (give item)) None) None)
  item_at q item entries true is = value_at-with_new nat_list_cmp_total exact_bytes (name item) (give item) q entries
  item_at q item entries false is = sym (or_none (value_at name_cmp q entries))

  -- one item and then what the others give is what all give
  joined : (q : List ℕ) (item : A) (items : List A) (m : Bool) → is_at (name_cmp q) (name item) ≡ m
      → option_or (cond (right (name item)) (cond m (Some (give item)) None) None) (cond (right q) (given_at q items) None)
      ≡ cond (right q) (option_map give (cond m (Some item) (find (λ item. is_at (name_cmp q) (name item)) items))) None
  joined q item items true at = ap (λ b. option_or (cond b (Some (give item)) None) (cond (right q) (given_at q items) None)) (ap right (sym (same_key exact_bytes q (name item) at))) ∙ by (right q)
    where
      by : (b : Bool) → option_or (cond b (Some (give item)) None) (cond b (given_at q items) None) ≡ cond b (Some (give item)) None
      by true = refl
      by false = refl
  joined q item items false at = by (right (name item))
    where
      by : (b : Bool) → option_or (cond {A = Option Y} b None None) (cond (right q) (given_at q items) None) ≡ cond (right q) (given_at q items) None
      by true = refl
      by false = refl

  -- At a name stands what stood there, or what the first item of the name gives, if the name's slot is right.
  pub value_at-with_items : (q : List ℕ) (items : List A) (entries : List (List ℕ × Y)) → value_at name_cmp q (with_items items entries) ≡ option_or (value_at name_cmp q entries) (cond (right q) (given_at q items) None)
  value_at-with_items q [] entries = sym (ap (option_or (value_at name_cmp q entries)) (nothing (right q)) ∙ or_none (value_at name_cmp q entries))
    where
      nothing : (b : Bool) → cond {A = Option Y} b None None ≡ None
      nothing true = refl
      nothing false = refl
  value_at-with_items q (item ∷ items) entries =
      value_at-with_items q items (with_item item entries)
      ∙ ap (λ o. option_or o (cond (right q) (given_at q items) None)) (item_at q item entries (right (name item)) refl)
      ∙ or_or (value_at name_cmp q entries) (cond (right (name item)) (cond (is_at (name_cmp q) (name item)) (Some (give item)) None) None) (cond (right q) (given_at q items) None)
      ∙ ap (option_or (value_at name_cmp q entries)) (joined q item items (is_at (name_cmp q) (name item)) refl)

  -- And the entries are a map still.
  pub IsMap-with_items : (items : List A) (entries : List (List ℕ × Y)) → IsMap name_cmp entries → IsMap name_cmp (with_items items entries)
  IsMap-with_items [] entries rises = rises
  IsMap-with_items (item ∷ items) entries rises = IsMap-with_items items (with_item item entries) (by (right (name item)))
    where
      by : (b : Bool) → IsMap name_cmp (cond b (with_new name_cmp (name item) (give item) entries) entries)
      by true = IsMap-with_new nat_list_cmp_total exact_bytes (name item) (give item) entries rises
      by false = rises
