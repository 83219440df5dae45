-- The changes that updates leave make of a node what its updates make of it one after the other.
use Rattle.std.proofs.Common.{◌≡◌, Bool, true, false, cond, ◌&&◌, ◌==◌, Option, Some, None, List, [], ◌∷◌, refl, sym, ap, ◌∙◌, subst}
use Rattle.std.specs.Prelude.{unwrap_or}
use Rattle.std.specs.BTreeMap.{is_at}
use Rattle.std.specs.List.{filter}
use Rattle.std.specs.List.Sorted.{IsStrictlySortedBy}
use Rattle.std.specs.Ordering.{is_eq}
use Rattle.std.specs.declared.cmp.Ordering.{Ordering}
use Rattle.std.specs.declared.cmp.Ordering.TheVariants.{Less, Equal, Greater}
use Rattle.std.proofs.lemmas.Cmp.{eq_by_cmp_equiv}
use Rattle.std.proofs.lemmas.List.Kept.{IsStrictlySortedBy-filter}
use Rattle.std.proofs.lemmas.Map.{lookup-none}
use Rattle.std.proofs.lemmas.Map.Entries.{lookup-filter-keys, none_past_head}
use Rattle.std.proofs.lemmas.Map.Keys.{IsDistinct-from_sorted, sorted_tail}
use Rattle.std.specs.Map.{keys_of}
use Rattle.image_view.specs.Trees.{is_of_node, updated}
use Rattle.vol_types.specs.Btrees.{btree_code}
use Rattle.vol_types.specs.KeyMaps.{Entries}
use Rattle.vol_types.specs.MapLaws.{IsMap-put_at, IsMap-with_value, same_maps, value_at-put_at, value_at-with_value}
use Rattle.vol_types.specs.Maps.{IsMap, put_at, value_at, with_value}
use Rattle.vol_types.specs.PositionLaws.{pos_exact, pos_total}
use Rattle.vol_types.specs.Positions.{is_within, pos_cmp}
use Rattle.vol_types.specs.declared.keys.Update.{Update}
use Rattle.vol_types.specs.declared.pointers.NodePtr.{NodePtr}
use Rattle.vol_types.specs.declared.positions.Btree.{Btree}
use Rattle.vol_types.specs.declared.positions.Pos.{Pos}
use Rattle.vol_types.specs.declared.values.Value.{Value}
use Rattle.image_reader.specs.Changes.{Changes, all_noted, changes_within, is_of_level, noted, with_changes}

equal_is : (o : Ordering) → is_eq o ≡ true → o ≡ Equal
equal_is Less e = absurd cc
equal_is Equal e = refl
equal_is Greater e = absurd cc

-- Positions that are tied are one.
same_pos : (p q : Pos) → is_at (pos_cmp p) q ≡ true → p ≡ q
same_pos p q e = pos_exact p q (equal_is (pos_cmp p q) e)

turned : (p q : Pos) → is_at (pos_cmp q) p ≡ is_at (pos_cmp p) q
turned p q = (eq_by_cmp_equiv pos_total).symm q p

-- what a change leaves, where there was this
abbrev pub left : Option (Option Value) → Option Value → Option Value
left change before = unwrap_or change before

-- the positions of the changes that pass a test
positions-part : (p : Pos → Bool) (changes : Changes) → keys_of (filter (λ c. p c.0) changes) ≡ filter p (keys_of changes)
positions-part p [] = refl
positions-part p (c ∷ cs) = by (p c.0) (positions-part p cs)
  where
    by : (b : Bool) → keys_of (filter (λ c. p c.0) cs) ≡ filter p (keys_of cs) → keys_of (cond b (c ∷ filter (λ c. p c.0) cs) (filter (λ c. p c.0) cs)) ≡ cond b (c.0 ∷ filter p (keys_of cs)) (filter p (keys_of cs))
    by true later = ap (λ ks. c.0 ∷ ks) later
    by false later = later

IsMap-part : (p : Pos → Bool) (changes : Changes) → IsMap pos_cmp changes → IsMap pos_cmp (filter (λ c. p c.0) changes)
IsMap-part p changes are = subst (IsStrictlySortedBy pos_cmp) (sym (positions-part p changes)) (IsStrictlySortedBy-filter pos_cmp p (keys_of changes) are)

-- no later change is at the first one's position
none_later : (q : Pos) (c : Pos × Option Value) (cs : Changes) → IsMap pos_cmp (c ∷ cs) → is_at (pos_cmp q) c.0 ≡ true → value_at pos_cmp q cs ≡ None
none_later q c cs rises same = lookup-none (is_at (pos_cmp q)) cs (none_past_head (eq_by_cmp_equiv pos_total) q c cs (IsDistinct-from_sorted pos_cmp (keys_of (c ∷ cs)) rises) same)

IsMap-with_changes : (changes : Changes) (entries : Entries) → IsMap pos_cmp entries → IsMap pos_cmp (with_changes changes entries)
IsMap-with_changes [] entries rises = rises
IsMap-with_changes (c ∷ cs) entries rises = IsMap-with_changes cs (put_at pos_cmp c.0 c.1 entries) (IsMap-put_at pos_total c.0 c.1 entries rises)

-- Where a position was changed, the change counts.
value-changed : (changes : Changes) (entries : Entries) → IsMap pos_cmp changes → IsMap pos_cmp entries → (q : Pos) → value_at pos_cmp q (with_changes changes entries) ≡ left (value_at pos_cmp q changes) (value_at pos_cmp q entries)
value-changed [] entries are rises q = refl
value-changed (c ∷ cs) entries are rises q =
    value-changed cs (put_at pos_cmp c.0 c.1 entries) (sorted_tail pos_cmp c.0 (keys_of cs) are) (IsMap-put_at pos_total c.0 c.1 entries rises) q
    ∙ ap (left (value_at pos_cmp q cs)) (value_at-put_at pos_total c.0 c.1 q entries rises ∙ ap (λ b. cond b c.1 (value_at pos_cmp q entries)) (sym (turned c.0 q)))
    ∙ by (is_at (pos_cmp q) c.0) refl
  where
    by : (b : Bool) → is_at (pos_cmp q) c.0 ≡ b → left (value_at pos_cmp q cs) (cond b c.1 (value_at pos_cmp q entries)) ≡ left (cond b (Some c.1) (value_at pos_cmp q cs)) (value_at pos_cmp q entries)
    by true e = ap (λ v. left v c.1) (none_later q c cs are e)
    by false e = refl

module _ (least greatest : Pos) (entries : Entries) (rises : IsMap pos_cmp entries) where
  -- the entries with the changes in the range
  abbrev made : Changes → Entries
  made changes = with_changes (changes_within least greatest changes) entries

  IsMap-made : (changes : Changes) → IsMap pos_cmp (made changes)
  IsMap-made changes = IsMap-with_changes (changes_within least greatest changes) entries rises

  value-made : (changes : Changes) → IsMap pos_cmp changes → (q : Pos) → value_at pos_cmp q (made changes) ≡ left (cond (is_within least greatest q) (value_at pos_cmp q changes) None) (value_at pos_cmp q entries)
  value-made changes are q =
      value-changed (changes_within least greatest changes) entries (IsMap-part (is_within least greatest) changes are) rises q
      ∙ ap (λ v. left v (value_at pos_cmp q entries))
      (lookup-filter-keys (is_at (pos_cmp q)) (is_within least greatest) (is_within least greatest q) (λ k at. ap (is_within least greatest) (sym (same_pos q k at))) changes)

  module _ (pos : Pos) (value : Option Value) (changes : Changes) (are : IsMap pos_cmp changes) where
    are_more : IsMap pos_cmp (with_value pos_cmp pos value changes)
    are_more = IsMap-with_value pos_total pos value changes are

    value-more : (q : Pos) → value_at pos_cmp q (made (with_value pos_cmp pos value changes))
        ≡ left (cond (is_within least greatest q) (cond (is_at (pos_cmp pos) q) (Some value) (value_at pos_cmp q changes)) None) (value_at pos_cmp q entries)
    value-more q = value-made (with_value pos_cmp pos value changes) are_more q
        ∙ ap (λ v. left (cond (is_within least greatest q) v None) (value_at pos_cmp q entries)) (value_at-with_value pos_total pos value q changes)

    -- A change in the range is put,
    pub made-in : is_within least greatest pos ≡ true → made (with_value pos_cmp pos value changes) ≡ put_at pos_cmp pos value (made changes)
    made-in within = same_maps pos_total pos_exact _ _ (IsMap-made (with_value pos_cmp pos value changes)) (IsMap-put_at pos_total pos value (made changes) (IsMap-made changes))
        (λ q. value-more q ∙ by q (is_at (pos_cmp pos) q) refl ∙ ap (cond (is_at (pos_cmp pos) q) value) (sym (value-made changes are q)) ∙ sym (value_at-put_at pos_total pos value q (made changes) (IsMap-made changes)))
      where
        by : (q : Pos) (b : Bool) → is_at (pos_cmp pos) q ≡ b → left (cond (is_within least greatest q) (cond b (Some value) (value_at pos_cmp q changes)) None) (value_at pos_cmp q entries)
            ≡ cond b value (left (cond (is_within least greatest q) (value_at pos_cmp q changes) None) (value_at pos_cmp q entries))
        by q true e = ap (λ w. left (cond w (Some value) None) (value_at pos_cmp q entries)) (ap (is_within least greatest) (sym (same_pos pos q e)) ∙ within)
        by q false e = refl

    -- and one outside it is passed over.
    pub made-out : is_within least greatest pos ≡ false → made (with_value pos_cmp pos value changes) ≡ made changes
    made-out without = same_maps pos_total pos_exact _ _ (IsMap-made (with_value pos_cmp pos value changes)) (IsMap-made changes)
        (λ q. value-more q ∙ by q (is_at (pos_cmp pos) q) refl ∙ sym (value-made changes are q))
      where
        by : (q : Pos) (b : Bool) → is_at (pos_cmp pos) q ≡ b → left (cond (is_within least greatest q) (cond b (Some value) (value_at pos_cmp q changes)) None) (value_at pos_cmp q entries)
            ≡ left (cond (is_within least greatest q) (value_at pos_cmp q changes) None) (value_at pos_cmp q entries)
        by q true e =
            let out : is_within least greatest q ≡ false = ap (is_within least greatest) (sym (same_pos pos q e)) ∙ without in
            ap (λ w. left (cond w (Some value) None) (value_at pos_cmp q entries)) out
            ∙ ap (λ w. left (cond w (value_at pos_cmp q changes) None) (value_at pos_cmp q entries)) (sym out)
        by q false e = refl

  module _ (btree : Btree) (pointer : NodePtr) where
    IsMap-noted : (update : Update) (changes : Changes) → IsMap pos_cmp changes → IsMap pos_cmp (noted btree pointer.level update changes)
    IsMap-noted update changes are = by (is_of_level btree pointer.level update)
      where
        by : (b : Bool) → IsMap pos_cmp (cond b (with_value pos_cmp update.pos update.value changes) changes)
        by true = IsMap-with_value pos_total update.pos update.value changes are
        by false = are

    -- Changes noted in turn make the same of the entries as the updates themselves.
    pub made-noted : (updates : List Update) (changes : Changes) → IsMap pos_cmp changes
        → updated (filter (is_of_node (record { btree = btree; least = least; greatest = greatest; pointer = pointer })) updates) (made changes) ≡ made (all_noted btree pointer.level updates changes)
    made-noted [] changes are = refl
    made-noted (update ∷ updates) changes are =
        by (btree_code update.btree == btree_code btree) (update.level == pointer.level) (is_within least greatest update.pos) refl
        (made-noted updates changes are) (made-noted updates more (are_more update.pos update.value changes are))
      where
        more : Changes
        more = with_value pos_cmp update.pos update.value changes

        rest : List Update
        rest = filter (is_of_node (record { btree = btree; least = least; greatest = greatest; pointer = pointer })) updates

        by : (code level within : Bool) → is_within least greatest update.pos ≡ within
            → updated rest (made changes) ≡ made (all_noted btree pointer.level updates changes) → updated rest (made more) ≡ made (all_noted btree pointer.level updates more)
            → updated (cond (code && (level && within)) (update ∷ rest) rest) (made changes) ≡ made (all_noted btree pointer.level updates (cond (code && level) more changes))
        by true true true is same put = ap (updated rest) (sym (made-in update.pos update.value changes are is)) ∙ put
        by true true false is same put = ap (updated rest) (sym (made-out update.pos update.value changes are is)) ∙ put
        by true false within is same put = same
        by false level within is same put = same
