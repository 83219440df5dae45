-- The value at a position after updates: it follows from the one before, and updates that are made again change nothing.
use Rattle.std.proofs.Common.{◌≡◌, Bool, true, false, cond, List, [], ◌∷◌, ◌++◌, Option, Some, None, refl, sym, ap, ◌∙◌, subst, arith}
use Rattle.std.specs.Prelude.{◌&&◌, All}
use Rattle.std.specs.BTreeMap.{is_at}
use Rattle.std.specs.List.{AllByRecursion}
use Rattle.std.specs.Map.{keys_of}
use Rattle.std.proofs.lemmas.Bool.{and_parts}
use Rattle.std.proofs.lemmas.List.Elements.{All-head, All-tail, Contains-append_right}
use Rattle.vol_types.specs.KeyMapLaws.{IsKeyMap-with_update, same_key_maps, value_in-with_update}
use Rattle.vol_types.specs.KeyMaps.{Entries, IsKeyMap, KeyMap, entries_of, is_update_of, value_in, with_update, with_updates}
use Rattle.vol_types.specs.MapLaws.{same_maps}
use Rattle.vol_types.specs.Maps.{value_at}
use Rattle.vol_types.specs.PositionLaws.{pos_exact, pos_total}
use Rattle.vol_types.specs.Positions.{pos_cmp}
use Rattle.vol_types.specs.Widths.{PosFits}
use Rattle.vol_types.specs.declared.keys.Update.{Update}
use Rattle.vol_types.specs.declared.positions.Btree.{Btree}
use Rattle.vol_types.specs.declared.positions.Pos.{Pos}
use Rattle.vol_types.specs.declared.values.Value.{Value}
use Rattle.image_view.specs.UpdatedTrees.{IsOfLeaf}
use Rattle.tree_nodes.specs.RowLaws.{same_at}
use Rattle.btree_laws.specs.Counts.{ChangeKey}
use Rattle.btree_laws.specs.Standing.{HaveWidths}

-- whether an update is of the position of the btree
abbrev is_of : Btree → Pos → Update → Bool
is_of btree pos update = is_update_of btree update && is_at (pos_cmp update.pos) pos

-- the value at a position after updates
abbrev pub value_after : Btree → Pos → List Update → Option Value → Option Value
value_after btree pos [] before = before
value_after btree pos (update ∷ updates) before = value_after btree pos updates (cond (is_of btree pos update) update.value before)

-- The value follows from the one before.
pub value_with : (btree : Btree) (pos : Pos) (updates : List Update) (keys : KeyMap) → IsKeyMap keys → value_in (with_updates updates keys) btree pos ≡ value_after btree pos updates (value_in keys btree pos)
value_with btree pos [] keys is = refl
value_with btree pos (update ∷ updates) keys is =
    value_with btree pos updates (with_update update keys) (IsKeyMap-with_update update keys is) ∙ ap (value_after btree pos updates) (value_in-with_update update keys btree pos is)

-- Updates after others are made over what these give.
pub after_joined : (btree : Btree) (pos : Pos) (one other : List Update) (before : Option Value) → value_after btree pos (one ++ other) before ≡ value_after btree pos other (value_after btree pos one before)
after_joined btree pos [] other before = refl
after_joined btree pos (update ∷ one) other before = after_joined btree pos one other (cond (is_of btree pos update) update.value before)

-- Updates that are made again change nothing.
pub after_again : (btree : Btree) (pos : Pos) (updates : List Update) (before : Option Value) → value_after btree pos updates (value_after btree pos updates before) ≡ value_after btree pos updates before
after_again btree pos [] before = refl
after_again btree pos (update ∷ updates) before = by (is_of btree pos update) (after_again btree pos updates before)
  where
    by : (b : Bool) → value_after btree pos updates (value_after btree pos updates before) ≡ value_after btree pos updates before
        → value_after btree pos updates (cond b update.value (value_after btree pos updates (cond b update.value before))) ≡ value_after btree pos updates (cond b update.value before)
    by true later = refl
    by false later = later

-- So it is with updates behind them.
pub again_joined : (btree : Btree) (pos : Pos) (one other : List Update) (before : Option Value) → value_after btree pos (one ++ other) (value_after btree pos one before) ≡ value_after btree pos (one ++ other) before
again_joined btree pos one other before =
    after_joined btree pos one other (value_after btree pos one before) ∙ ap (value_after btree pos other) (after_again btree pos one before) ∙ sym (after_joined btree pos one other before)

-- What changes a position among some updates does so among more.
pub later_update : (btree : Btree) (pos : Pos) (first updates : List Update) → ChangeKey btree pos updates → ChangeKey btree pos (first ++ updates)
later_update btree pos first updates some = (some.0, Contains-append_right first updates some.0 some.1, some.2, some.3)

-- Updates that aren't of a position leave its value.
pub unchanged : (btree : Btree) (pos : Pos) (updates : List Update) (before : Option Value) → ¬ ChangeKey btree pos updates → value_after btree pos updates before ≡ before
unchanged btree pos [] before none = refl
unchanged btree pos (update ∷ updates) before none =
    ap (λ b. value_after btree pos updates (cond b update.value before)) (no_update (is_of btree pos update) refl) ∙ unchanged btree pos updates before (λ some. none (later_update btree pos (update ∷ []) updates some))
  where
    no_update : (b : Bool) → is_of btree pos update ≡ b → is_of btree pos update ≡ false
    no_update true is = let parts = and_parts (is_update_of btree update) (is_at (pos_cmp update.pos) pos) is in absurd (none (update, (0, omega arith, refl), parts.0, same_at update.pos pos parts.1))
    no_update false is = is

-- ---- key maps

-- Key maps with the same value at each position are one.
pub same_values : (one other : KeyMap) → IsKeyMap one → IsKeyMap other → ((btree : Btree) (pos : Pos) → value_in one btree pos ≡ value_in other btree pos) → one ≡ other
same_values one other first second same =
    same_key_maps one other (λ btree. same_maps pos_total pos_exact (entries_of one btree) (entries_of other btree) (first.rises btree) (second.rises btree) (same btree))

-- ---- positions without widths

-- A position without its widths has no value.
no_value : (entries : Entries) (pos : Pos) → All PosFits (keys_of entries) → ¬ PosFits pos → value_at pos_cmp pos entries ≡ None
no_value [] pos fits wide = refl
no_value (e ∷ es) pos fits wide = by (is_at (pos_cmp pos) e.0) refl (no_value es pos (All-tail PosFits e.0 (keys_of es) fits) wide)
  where
    by : (b : Bool) → is_at (pos_cmp pos) e.0 ≡ b → value_at pos_cmp pos es ≡ None → cond b (Some e.1) (value_at pos_cmp pos es) ≡ None
    by true is later = absurd (wide (subst PosFits (sym (same_at pos e.0 is)) (All-head PosFits e.0 (keys_of es) fits)))
    by false is later = later

-- So it is after updates of leaves.
none_after : (btree : Btree) (pos : Pos) (updates : List Update) → AllByRecursion IsOfLeaf updates → ¬ PosFits pos → value_after btree pos updates None ≡ None
none_after btree pos [] leaves wide = refl
none_after btree pos (update ∷ updates) leaves wide =
    ap (λ b. value_after btree pos updates (cond b update.value None)) (no_update (is_of btree pos update) refl) ∙ none_after btree pos updates leaves.1 wide
  where
    no_update : (b : Bool) → is_of btree pos update ≡ b → is_of btree pos update ≡ false
    no_update true is = let parts = and_parts (is_update_of btree update) (is_at (pos_cmp update.pos) pos) is in absurd (wide (subst PosFits (same_at update.pos pos parts.1) leaves.0.fits))
    no_update false is = is

-- There both key maps have none.
pub both_none : (keys before : KeyMap) (updates : List Update) (btree : Btree) (pos : Pos) → IsKeyMap before → HaveWidths keys → HaveWidths before → AllByRecursion IsOfLeaf updates → ¬ PosFits pos → value_in keys btree pos ≡ value_in (with_updates updates before) btree pos
both_none keys before updates btree pos is own begun leaves wide =
    no_value (entries_of keys btree) pos (own btree) wide
    ∙ sym (value_with btree pos updates before is ∙ ap (value_after btree pos updates) (no_value (entries_of before btree) pos (begun btree) wide) ∙ none_after btree pos updates leaves wide)
