-- Positions without their widths have no keys, and updates of leaves give them none.
use Rattle.std.proofs.Common.{◌≡◌, ◌<◌, ◌^◌, Bool, true, false, cond, List, [], ◌∷◌, None, Some, refl, sym, ap, subst, ◌∙◌, arith}
use Rattle.std.specs.Prelude.{◌&&◌, All, IsSome, is_some, nat_lt}
use Rattle.std.specs.BTreeMap.{is_at}
use Rattle.std.specs.List.{AllByRecursion}
use Rattle.std.specs.Map.{keys_of}
use Rattle.std.specs.Ordering.{is_eq}
use Rattle.std.proofs.lemmas.Bool.{and_parts, ltb-false, ltb-true, true≢false}
use Rattle.std.proofs.lemmas.Cmp.{tied_itself}
use Rattle.std.proofs.lemmas.List.Elements.{All-cons, All-head, All-nil, All-tail, recursion_from_All}
use Rattle.image_view.specs.UpdatedTrees.{IsOfLeaf}
use Rattle.tree_nodes.specs.RowLaws.{same_at}
use Rattle.vol_types.specs.KeyMapLaws.{IsKeyMap-with_update, value_in-with_update}
use Rattle.vol_types.specs.KeyMaps.{Entries, IsKeyMap, KeyMap, entries_of, is_update_of, value_in, with_update, with_updates}
use Rattle.vol_types.specs.Maps.{value_at}
use Rattle.vol_types.specs.PositionLaws.{pos_total}
use Rattle.vol_types.specs.Positions.{pos_cmp}
use Rattle.vol_types.specs.Widths.{PosFits}
use Rattle.vol_types.specs.declared.keys.Update.{Update}
use Rattle.vol_types.specs.declared.positions.Btree.{Btree}
use Rattle.vol_types.specs.declared.positions.Pos.{Pos}
use Rattle.btree_laws.specs.Standing.{HaveWidths}

-- A position has its widths or not.
pub fits_or_not : (pos : Pos) (P : Type 0) → (PosFits pos → P) → (¬ PosFits pos → P) → P
fits_or_not pos P fit wide = inode (nat_lt pos.inode (2 ^ 64)) refl
  where
    snapshot : (b : Bool) → nat_lt pos.snapshot (2 ^ 32) ≡ b → pos.inode < 2 ^ 64 → pos.offset < 2 ^ 64 → P
    snapshot true is one other = fit (record { inode = one; offset = other; snapshot = ltb-true pos.snapshot (2 ^ 32) is })
    snapshot false is one other = wide (λ fits. let past = ltb-false pos.snapshot (2 ^ 32) is in let own = fits.snapshot in omega (arith, past, own))

    offset : (b : Bool) → nat_lt pos.offset (2 ^ 64) ≡ b → pos.inode < 2 ^ 64 → P
    offset true is one = snapshot (nat_lt pos.snapshot (2 ^ 32)) refl one (ltb-true pos.offset (2 ^ 64) is)
    offset false is one = wide (λ fits. let past = ltb-false pos.offset (2 ^ 64) is in let own = fits.offset in omega (arith, past, own))

    inode : (b : Bool) → nat_lt pos.inode (2 ^ 64) ≡ b → P
    inode true is = offset (nat_lt pos.offset (2 ^ 64)) refl (ltb-true pos.inode (2 ^ 64) is)
    inode false is = wide (λ fits. let past = ltb-false pos.inode (2 ^ 64) is in let own = fits.inode in omega (arith, past, own))

-- Keys that have their widths have none at one that doesn't,
no_value : (entries : Entries) (pos : Pos) → All PosFits (keys_of entries) → ¬ PosFits pos → value_at pos_cmp pos entries ≡ None
no_value [] pos fits wide = refl
no_value (e ∷ es) pos fits wide = by (is_at (pos_cmp pos) e.0) refl (no_value es pos (All-tail PosFits e.0 (keys_of es) fits) wide)
  where
    by : (b : Bool) → is_at (pos_cmp pos) e.0 ≡ b → value_at pos_cmp pos es ≡ None → cond b (Some e.1) (value_at pos_cmp pos es) ≡ None
    by true is later = absurd (wide (subst PosFits (sym (same_at pos e.0 is)) (All-head PosFits e.0 (keys_of es) fits)))
    by false is later = later

pub no_key : (keys : KeyMap) → HaveWidths keys → (btree : Btree) (pos : Pos) → ¬ PosFits pos → value_in keys btree pos ≡ None
no_key keys widths btree pos wide = no_value (entries_of keys btree) pos (widths btree) wide

-- and they have their widths where each that has a value does.
some_fit : (entries : Entries) → ((pos : Pos) → IsSome (value_at pos_cmp pos entries) → PosFits pos) → All PosFits (keys_of entries)
some_fit [] so = All-nil PosFits
some_fit (e ∷ es) so = All-cons PosFits e.0 (keys_of es)
    (so e.0 (ap is_some (ap (λ r. cond (is_eq r) (Some e.1) (value_at pos_cmp e.0 es)) (tied_itself pos_total e.0))))
    (some_fit es (λ pos some. so pos (by (is_at (pos_cmp pos) e.0) pos some)))
  where
    by : (b : Bool) (pos : Pos) → IsSome (value_at pos_cmp pos es) → is_some (cond b (Some e.1) (value_at pos_cmp pos es)) ≡ true
    by true pos some = refl
    by false pos some = some

-- An update of a leaf leaves keys their widths.
update_fits : (update : Update) (keys : KeyMap) → IsKeyMap keys → HaveWidths keys → IsOfLeaf update → HaveWidths (with_update update keys)
update_fits update keys is widths leaf btree = some_fit (entries_of (with_update update keys) btree) (λ pos some.
    by pos (is_update_of btree update && is_at (pos_cmp update.pos) pos) refl (sym (ap is_some (value_in-with_update update keys btree pos is)) ∙ some))
  where
    by : (pos : Pos) (b : Bool) → (is_update_of btree update && is_at (pos_cmp update.pos) pos) ≡ b → is_some (cond b update.value (value_in keys btree pos)) ≡ true → PosFits pos
    by pos true is_one some = subst PosFits (same_at update.pos pos (and_parts (is_update_of btree update) (is_at (pos_cmp update.pos) pos) is_one).1) leaf.fits
    by pos false is_one some = fits_or_not pos (PosFits pos) (λ fits. fits) (λ wide. absurd (true≢false (sym some ∙ ap is_some (no_key keys widths btree pos wide))))

updates_fit_each : (updates : List Update) (keys : KeyMap) → IsKeyMap keys → HaveWidths keys → AllByRecursion IsOfLeaf updates → HaveWidths (with_updates updates keys)
updates_fit_each [] keys is widths leaves = widths
updates_fit_each (update ∷ updates) keys is widths leaves = updates_fit_each updates (with_update update keys) (IsKeyMap-with_update update keys is) (update_fits update keys is widths leaves.0) leaves.1

-- So do updates of leaves.
pub updates_fit : (updates : List Update) (keys : KeyMap) → IsKeyMap keys → HaveWidths keys → All IsOfLeaf updates → HaveWidths (with_updates updates keys)
updates_fit updates keys is widths leaves = updates_fit_each updates keys is widths (recursion_from_All IsOfLeaf updates leaves)
