-- The positions of a btree's keys have the widths of their types, also once changes are taken back whose positions have them.
use Rattle.std.proofs.Common.{◌≡◌, Bool, true, false, cond, Option, List, [], ◌∷◌, ◌++◌, refl, sym, ap, ◌∙◌, subst}
use Rattle.std.specs.Prelude.{◌&&◌, All}
use Rattle.std.specs.List.{filter}
use Rattle.std.specs.Map.{keys_of}
use Rattle.std.specs.Ordering.{is_le}
use Rattle.std.proofs.lemmas.List.Elements.{All-head, All-tail}
use Rattle.journal_writer.specs.Changes.{giving, taken_back, undone}
use Rattle.journal_writer.specs.Queues.{closed_changes}
use Rattle.journal_writer.specs.declared.changes.KeyChanges.{KeyChanges}
use Rattle.journal_writer.specs.declared.changes.Pending.{Pending}
use Rattle.node_mem.specs.CountLaws.{keys-put_at}
use Rattle.node_mem.specs.RangeLaws.{same_part}
use Rattle.tree_keys.specs.OrderLaws.{le_greatest, least_le}
use Rattle.vol_types.specs.KeyMapLaws.{entries_of-with_update}
use Rattle.vol_types.specs.KeyMaps.{Entries, KeyMap, entries_of, entries_within, is_update_of, with_update}
use Rattle.vol_types.specs.Maps.{put_at}
use Rattle.vol_types.specs.Positions.{greatest_pos, is_within, least_pos, pos_cmp}
use Rattle.vol_types.specs.Widths.{PosFits}
use Rattle.vol_types.specs.declared.keys.Update.{Update}
use Rattle.vol_types.specs.declared.positions.Btree.{Btree}
use Rattle.vol_types.specs.declared.values.Value.{Value}

-- The position of an update has the widths of its parts.
abbrev pub IsWide : Update → Type 0
IsWide update = PosFits update.pos

-- Those of an entry's updates have them.
abbrev pub AreWide : Pending → Type 0
AreWide entry = All IsWide entry.changes.updates

-- Those of the keys of a btree have them.
abbrev pub HasWidths : Btree → KeyMap → Type 0
HasWidths btree keys = All PosFits (keys_of (entries_of keys btree))

module _ (btree : Btree) where
  wide_update : (update : Update) (keys : KeyMap) → IsWide update → HasWidths btree keys → HasWidths btree (with_update update keys)
  wide_update update keys wide all = subst (λ (es : Entries). All PosFits (keys_of es)) (sym (entries_of-with_update update keys btree)) (by (is_update_of btree update))
    where
      by : (b : Bool) → All PosFits (keys_of (cond b (put_at pos_cmp update.pos update.value (entries_of keys btree)) (entries_of keys btree)))
      by true = keys-put_at PosFits update.pos update.value (entries_of keys btree) all wide
      by false = all

  -- They have them once updates are taken back.
  pub wide-taken_back : (updates : List Update) (before : List (Option Value)) (keys : KeyMap) → All IsWide updates → HasWidths btree keys → HasWidths btree (taken_back updates before keys)
  wide-taken_back [] before keys wide all = all
  wide-taken_back (update ∷ updates) [] keys wide all = all
  wide-taken_back (update ∷ updates) (value ∷ before) keys wide all =
      wide_update (giving value update) (taken_back updates before keys) (All-head IsWide update updates wide) (wide-taken_back updates before keys (All-tail IsWide update updates wide) all)

  -- And once closed entries and what is behind them are.
  pub wide-waiting : (closed : List Pending) (last : KeyChanges) (keys : KeyMap) → All AreWide closed → All IsWide last.updates → HasWidths btree keys → HasWidths btree (undone (closed_changes closed ++ last ∷ []) keys)
  wide-waiting [] last keys wide last_wide all = wide-taken_back last.updates last.before keys last_wide all
  wide-waiting (entry ∷ closed) last keys wide last_wide all =
      wide-taken_back entry.changes.updates entry.changes.before (undone (closed_changes closed ++ last ∷ []) keys) (All-head AreWide entry closed wide)
      (wide-waiting closed last keys (All-tail AreWide entry closed wide) last_wide all)

all_pass : (entries : Entries) → filter (λ e. true) entries ≡ entries
all_pass [] = refl
all_pass (e ∷ es) = ap (λ (xs : Entries). e ∷ xs) (all_pass es)

-- No entry lies outside all positions.
pub whole_range : (entries : Entries) → All PosFits (keys_of entries) → entries_within least_pos greatest_pos entries ≡ entries
whole_range entries fit =
    same_part (is_within least_pos greatest_pos) (λ p. true) (λ p fits. ap (λ b. b && is_le (pos_cmp p greatest_pos)) (least_le p fits) ∙ le_greatest p fits) entries fit ∙ all_pass entries
