-- The part of a map whose positions pass a test: what is looked up in it, and what it is after a value was put or taken away.
use Rattle.std.proofs.Common.{◌≡◌, Bool, true, false, cond, Option, None, [], ◌∷◌, refl, sym, ap, ◌∙◌, subst}
use Rattle.std.specs.BTreeMap.{is_at}
use Rattle.std.specs.List.{filter}
use Rattle.std.specs.List.Sorted.{IsStrictlySortedBy}
use Rattle.std.specs.Map.{keys_of}
use Rattle.std.proofs.lemmas.List.Kept.{IsStrictlySortedBy-filter}
use Rattle.std.proofs.lemmas.Map.Entries.{lookup-filter-keys}
use Rattle.tree_keys.specs.OrderLaws.{same_from_at}
use Rattle.vol_types.specs.KeyMaps.{Entries}
use Rattle.vol_types.specs.MapLaws.{IsMap-put_at, same_maps, value_at-put_at}
use Rattle.vol_types.specs.Maps.{IsMap, put_at, value_at}
use Rattle.vol_types.specs.PositionLaws.{pos_exact, pos_total}
use Rattle.vol_types.specs.Positions.{pos_cmp}
use Rattle.vol_types.specs.declared.positions.Pos.{Pos}
use Rattle.vol_types.specs.declared.values.Value.{Value}

module _ (p : Pos → Bool) where
  -- A position has in the part what it has in the whole, if it passes.
  pub value_at-part : (q : Pos) (entries : Entries) → value_at pos_cmp q (filter (λ e. p e.0) entries) ≡ cond (p q) (value_at pos_cmp q entries) None
  value_at-part q entries = lookup-filter-keys (is_at (pos_cmp q)) p (p q) (λ k at. ap p (sym (same_from_at q k at))) entries

  keys_of-part : (entries : Entries) → keys_of (filter (λ e. p e.0) entries) ≡ filter p (keys_of entries)
  keys_of-part [] = refl
  keys_of-part (e ∷ entries) = by (p e.0) (keys_of-part entries)
    where
      by : (b : Bool) → keys_of (filter (λ e. p e.0) entries) ≡ filter p (keys_of entries) → keys_of (cond b (e ∷ filter (λ e. p e.0) entries) (filter (λ e. p e.0) entries)) ≡ cond b (e.0 ∷ filter p (keys_of entries)) (filter p (keys_of entries))
      by true later = ap (λ ks. e.0 ∷ ks) later
      by false later = later

  -- The part is a map.
  pub IsMap-part : (entries : Entries) → IsMap pos_cmp entries → IsMap pos_cmp (filter (λ e. p e.0) entries)
  IsMap-part entries rises = subst (IsStrictlySortedBy pos_cmp) (sym (keys_of-part entries)) (IsStrictlySortedBy-filter pos_cmp p (keys_of entries) rises)

  module _ (pos : Pos) (value : Option Value) (entries : Entries) (rises : IsMap pos_cmp entries) where
    whole_at : (q : Pos) → value_at pos_cmp q (filter (λ e. p e.0) (put_at pos_cmp pos value entries)) ≡ cond (p q) (cond (is_at (pos_cmp pos) q) value (value_at pos_cmp q entries)) None
    whole_at q = value_at-part q (put_at pos_cmp pos value entries) ∙ ap (λ o. cond (p q) o None) (value_at-put_at pos_total pos value q entries rises)

    -- Where a position passes, the part after a change there is the changed part.
    pub part-put_at : p pos ≡ true → filter (λ e. p e.0) (put_at pos_cmp pos value entries) ≡ put_at pos_cmp pos value (filter (λ e. p e.0) entries)
    part-put_at passes =
        same_maps pos_total pos_exact _ _ (IsMap-part (put_at pos_cmp pos value entries) (IsMap-put_at pos_total pos value entries rises)) (IsMap-put_at pos_total pos value (filter (λ e. p e.0) entries) (IsMap-part entries rises))
        (λ q. whole_at q ∙ meet q (is_at (pos_cmp pos) q) refl
        ∙ sym (value_at-put_at pos_total pos value q (filter (λ e. p e.0) entries) (IsMap-part entries rises) ∙ ap (cond (is_at (pos_cmp pos) q) value) (value_at-part q entries)))
      where
        meet : (q : Pos) (b : Bool) → is_at (pos_cmp pos) q ≡ b → cond (p q) (cond b value (value_at pos_cmp q entries)) None ≡ cond b value (cond (p q) (value_at pos_cmp q entries) None)
        meet q true at = ap (λ c. cond c value None) (ap p (sym (same_from_at pos q at)) ∙ passes)
        meet q false at = refl

    -- And where it doesn't pass, the part is as before.
    pub part-untouched : p pos ≡ false → filter (λ e. p e.0) (put_at pos_cmp pos value entries) ≡ filter (λ e. p e.0) entries
    part-untouched fails =
        same_maps pos_total pos_exact _ _ (IsMap-part (put_at pos_cmp pos value entries) (IsMap-put_at pos_total pos value entries rises)) (IsMap-part entries rises)
        (λ q. whole_at q ∙ meet q (is_at (pos_cmp pos) q) refl ∙ sym (value_at-part q entries))
      where
        meet : (q : Pos) (b : Bool) → is_at (pos_cmp pos) q ≡ b → cond (p q) (cond b value (value_at pos_cmp q entries)) None ≡ cond (p q) (value_at pos_cmp q entries) None
        meet q true at = let out : p q ≡ false = ap p (sym (same_from_at pos q at)) ∙ fails in ap (λ c. cond c value None) out ∙ sym (ap (λ c. cond c (value_at pos_cmp q entries) None) out)
        meet q false at = refl
