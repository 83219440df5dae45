-- What a key map has after updates that are made of the entries of a map, one for each.
use Rattle.std.proofs.Common.{◌≡◌, Bool, true, false, cond, List, [], ◌∷◌, map, Option, Some, None, refl, sym, ap, ◌∙◌}
use Rattle.std.specs.Prelude.{◌==◌, ◌&&◌}
use Rattle.std.specs.BTreeMap.{is_at}
use Rattle.std.specs.Map.{keys_of}
use Rattle.std.proofs.lemmas.Cmp.{eq_by_cmp_equiv}
use Rattle.std.proofs.lemmas.Map.{lookup-none}
use Rattle.std.proofs.lemmas.Map.Entries.{none_past_head}
use Rattle.std.proofs.lemmas.Map.Keys.{IsDistinct-from_sorted, sorted_tail}
use Rattle.vol_types.specs.Btrees.{btree_code}
use Rattle.vol_types.specs.KeyMapLaws.{IsKeyMap-with_update, value_in-with_update}
use Rattle.vol_types.specs.KeyMaps.{IsKeyMap, KeyMap, value_in, with_update, with_updates}
use Rattle.vol_types.specs.Maps.{IsMap, value_at}
use Rattle.vol_types.specs.PositionLaws.{pos_total}
use Rattle.vol_types.specs.Positions.{pos_cmp}
use Rattle.vol_types.specs.declared.keys.Update.{Update}
use Rattle.vol_types.specs.declared.positions.Btree.{Btree}
use Rattle.vol_types.specs.declared.positions.Pos.{Pos}
use Rattle.vol_types.specs.declared.values.Value.{Value}
use Rattle.key_triggers.proofs.Sums.{turned}

-- what stands at a position, where a map says it, else what stood there
abbrev pub put_by : {X : Type 0} → (Pos → X → Option Value) → Pos → Option X → Option Value → Option Value
put_by value pos None before = before
put_by value pos (Some x) before = value pos x

module _ {X : Type 0} (of : Btree) (value : Pos → X → Option Value) where
  -- the update of an entry
  abbrev pub update_by : Pos × X → Update
  update_by entry = record { btree = of; level = 0; pos = entry.0; value = value entry.0 entry.1 }

  -- Other btrees are as they were.
  pub emitted_elsewhere : (entries : List (Pos × X)) (keys : KeyMap) → IsKeyMap keys → (btree : Btree) (pos : Pos) → (btree_code of == btree_code btree) ≡ false → value_in (with_updates (map update_by entries) keys) btree pos ≡ value_in keys btree pos
  emitted_elsewhere [] keys is btree pos apart = refl
  emitted_elsewhere (entry ∷ entries) keys is btree pos apart =
      emitted_elsewhere entries (with_update (update_by entry) keys) (IsKeyMap-with_update (update_by entry) keys is) btree pos apart
      ∙ value_in-with_update (update_by entry) keys btree pos is
      ∙ ap (λ b. cond (b && is_at (pos_cmp entry.0) pos) (value entry.0 entry.1) (value_in keys btree pos)) apart

  -- In the btree itself each position has what the map says, or else what it had.
  pub emitted_here : ((p q : Pos) → is_at (pos_cmp p) q ≡ true → p ≡ q) → (btree_code of == btree_code of) ≡ true → (entries : List (Pos × X)) (keys : KeyMap) → IsKeyMap keys → IsMap pos_cmp entries → (pos : Pos)
      → value_in (with_updates (map update_by entries) keys) of pos ≡ put_by value pos (value_at pos_cmp pos entries) (value_in keys of pos)
  emitted_here same_pos same [] keys is rises pos = refl
  emitted_here same_pos same (entry ∷ entries) keys is rises pos =
      emitted_here same_pos same entries (with_update (update_by entry) keys) (IsKeyMap-with_update (update_by entry) keys is) (sorted_tail pos_cmp entry.0 (keys_of entries) rises) pos
      ∙ ap (put_by value pos (value_at pos_cmp pos entries)) first
      ∙ by (is_at (pos_cmp pos) entry.0) refl
    where
      first : value_in (with_update (update_by entry) keys) of pos ≡ cond (is_at (pos_cmp entry.0) pos) (value entry.0 entry.1) (value_in keys of pos)
      first = value_in-with_update (update_by entry) keys of pos is ∙ ap (λ b. cond (b && is_at (pos_cmp entry.0) pos) (value entry.0 entry.1) (value_in keys of pos)) same

      by : (b : Bool) → is_at (pos_cmp pos) entry.0 ≡ b
          → put_by value pos (value_at pos_cmp pos entries) (cond (is_at (pos_cmp entry.0) pos) (value entry.0 entry.1) (value_in keys of pos))
          ≡ put_by value pos (cond b (Some entry.1) (value_at pos_cmp pos entries)) (value_in keys of pos)
      by true at =
          let none : value_at pos_cmp pos entries ≡ None = lookup-none (is_at (pos_cmp pos)) entries (none_past_head (eq_by_cmp_equiv pos_total) pos entry entries (IsDistinct-from_sorted pos_cmp (keys_of (entry ∷ entries)) rises) at) in
          let at_first : is_at (pos_cmp entry.0) pos ≡ true = turned entry.0 pos ∙ at in
          ap (λ (o : Option X). put_by value pos o (cond (is_at (pos_cmp entry.0) pos) (value entry.0 entry.1) (value_in keys of pos))) none
          ∙ ap (λ b. cond b (value entry.0 entry.1) (value_in keys of pos)) at_first
          ∙ ap (λ p. value p entry.1) (sym (same_pos pos entry.0 at))
      by false apart =
          let not_first : is_at (pos_cmp entry.0) pos ≡ false = turned entry.0 pos ∙ apart in
          ap (λ b. put_by value pos (value_at pos_cmp pos entries) (cond b (value entry.0 entry.1) (value_in keys of pos))) not_first
