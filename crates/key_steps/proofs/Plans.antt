-- Updates of other places leave which updates show a value at a place, and those are of this place alone.
use Rattle.std.proofs.Common.{◌≡◌, ℕ, Bool, true, false, cond, Option, Some, None, List, [], ◌∷◌, refl, sym, ap, ◌∙◌}
use Rattle.std.specs.Prelude.{◌≢◌, ◌==◌, ◌&&◌, All, if◌then◌else◌, is_some}
use Rattle.std.proofs.lemmas.Bool.{eqb-true}
use Rattle.std.proofs.lemmas.List.Elements.{All-cons, All-head, All-nil, All-tail}
use Rattle.key_meaning.specs.Visible.{first_value, own_value, shown, snaps_of, visible_above}
use Rattle.key_meaning.specs.VisibleLaws.{first_value-same, is_put_at, own_value-other, snaps_of-with_update}
use Rattle.key_steps.proofs.Staying.{of_this_one}
use Rattle.key_view.specs.Changes.{needs_whiteout, own_update, updates_to_see}
use Rattle.snap_tree.specs.Snaps.{chain_of_maybe, parent_of}
use Rattle.vol_types.specs.KeyMapLaws.{IsKeyMap-with_update}
use Rattle.vol_types.specs.KeyMaps.{IsKeyMap, KeyMap, is_update_of, with_update, with_updates}
use Rattle.vol_types.specs.declared.keys.Update.{Update}
use Rattle.vol_types.specs.declared.positions.Btree.{Btree}
use Rattle.vol_types.specs.declared.positions.Btree.TheVariants.{Snapshots}
use Rattle.vol_types.specs.declared.values.Value.{Value}
use Rattle.vol_types.specs.declared.values.Value.TheVariants.{White}

module _ (btree : Btree) (inode offset id : ℕ) where
  -- one update of another place leaves them
  planned_once : (keys : KeyMap) (update : Update) (value : Option Value) → IsKeyMap keys → is_update_of Snapshots update ≡ false → is_put_at update btree inode offset ≡ false
      → updates_to_see (with_update update keys) btree inode offset id value ≡ updates_to_see keys btree inode offset id value
  planned_once keys update (Some value) is snaps elsewhere = refl
  planned_once keys update None is snaps elsewhere =
      λ i. if is_some (above i) then own_update btree inode offset id (Some White) ∷ [] else if is_some (own_value-other update keys is snaps btree inode offset id elsewhere i) then own_update btree inode offset id None ∷ [] else []
    where
      above : visible_above (with_update update keys) btree inode offset id ≡ visible_above keys btree inode offset id
      above =
          ap (λ s. shown (first_value (with_update update keys) btree inode offset (chain_of_maybe s (parent_of s id)))) (snaps_of-with_update update keys is snaps)
          ∙ ap shown (first_value-same (with_update update keys) keys btree inode offset (chain_of_maybe (snaps_of keys) (parent_of (snaps_of keys) id)) (λ a in_chain. own_value-other update keys is snaps btree inode offset a elsewhere))

  -- Updates of other places leave them.
  pub planned_before : (keys : KeyMap) (updates : List Update) (value : Option Value) → IsKeyMap keys → All (λ (update : Update). is_update_of Snapshots update ≡ false) updates → All (λ (update : Update). is_put_at update btree inode offset ≡ false) updates
      → updates_to_see (with_updates updates keys) btree inode offset id value ≡ updates_to_see keys btree inode offset id value
  planned_before keys [] value is snaps elsewhere = refl
  planned_before keys (update ∷ updates) value is snaps elsewhere =
      planned_before (with_update update keys) updates value (IsKeyMap-with_update update keys is) (All-tail (λ (u : Update). is_update_of Snapshots u ≡ false) update updates snaps) (All-tail (λ (u : Update). is_put_at u btree inode offset ≡ false) update updates elsewhere)
      ∙ planned_once keys update value is (All-head (λ (u : Update). is_update_of Snapshots u ≡ false) update updates snaps) (All-head (λ (u : Update). is_put_at u btree inode offset ≡ false) update updates elsewhere)

-- what each update of an id's own key at a place has, those to see a value there have
to_see_have : (P : Update → Type 0) (keys : KeyMap) (btree : Btree) (inode offset id : ℕ) (value : Option Value) → ((own : Option Value) → P (own_update btree inode offset id own)) → All P (updates_to_see keys btree inode offset id value)
to_see_have P keys btree inode offset id value has = after value
  where
    one : (own : Option Value) → All P (own_update btree inode offset id own ∷ [])
    one own = All-cons P (own_update btree inode offset id own) [] (has own) (All-nil P)

    by : (hides kept : Bool) → All P (cond hides (own_update btree inode offset id (Some White) ∷ []) (cond kept (own_update btree inode offset id None ∷ []) []))
    by true kept = one (Some White)
    by false true = one None
    by false false = All-nil P

    after : (value : Option Value) → All P (updates_to_see keys btree inode offset id value)
    after (Some value) = one (Some value)
    after None = by (needs_whiteout keys btree inode offset id) (is_some (own_value keys btree inode offset id))

-- The updates to see a value at a place are of no other place,
pub to_see_elsewhere : (keys : KeyMap) (btree other : Btree) (inode offset id i o : ℕ) (value : Option Value) → ¬ ((other ≡ btree) × (i ≡ inode) × (o ≡ offset)) → All (λ (update : Update). is_put_at update other i o ≡ false) (updates_to_see keys btree inode offset id value)
to_see_elsewhere keys btree other inode offset id i o value apart = to_see_have (λ (update : Update). is_put_at update other i o ≡ false) keys btree inode offset id value
    (λ own. by own (is_update_of other (own_update btree inode offset id own)) (inode == i) (offset == o) refl refl refl)
  where
    by : (own : Option Value) (b c d : Bool) → is_update_of other (own_update btree inode offset id own) ≡ b → (inode == i) ≡ c → (offset == o) ≡ d → (is_update_of other (own_update btree inode offset id own) && (inode == i && offset == o)) ≡ false
    by own true true true of first second = absurd (apart (of_this_one (λ b. b ≡ btree) btree other inode offset id own refl of, sym (eqb-true inode i first), sym (eqb-true offset o second)))
    by own false c d of first second = ap (λ x. x && (inode == i && offset == o)) of
    by own true false d of first second = λ k. of k && (first k && offset == o)
    by own true true false of first second = λ k. of k && (first k && second k)

-- and of no snapshot ids where their btree isn't.
pub to_see_no_ids : (keys : KeyMap) (btree : Btree) (inode offset id : ℕ) (value : Option Value) → btree ≢ Snapshots → All (λ (update : Update). is_update_of Snapshots update ≡ false) (updates_to_see keys btree inode offset id value)
to_see_no_ids keys btree inode offset id value apart = to_see_have (λ (update : Update). is_update_of Snapshots update ≡ false) keys btree inode offset id value (λ own. by own (is_update_of Snapshots (own_update btree inode offset id own)) refl)
  where
    by : (own : Option Value) (b : Bool) → is_update_of Snapshots (own_update btree inode offset id own) ≡ b → b ≡ false
    by own true of = absurd (apart (sym (of_this_one (λ b. b ≡ btree) btree Snapshots inode offset id own refl of)))
    by own false of = refl
