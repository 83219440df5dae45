-- Changes that are made and taken back.
use Rattle.std.proofs.Common.{◌≡◌, Bool, true, false, cond, Option, None, Some, List, [], ◌∷◌, ◌++◌, length, suc, refl, sym, ap, ◌∙◌, subst}
use Rattle.std.specs.Prelude.{All, IfSome, ◌==◌}
use Rattle.std.specs.BTreeMap.{is_at}
use Rattle.std.specs.Map.{values_of}
use Rattle.std.proofs.lemmas.Bool.{and_parts, eqb-true}
use Rattle.std.proofs.lemmas.List.Elements.{All-cons, All-head, All-nil, All-tail}
use Rattle.btree_map.specs.Applied.{value_under, values_before}
use Rattle.btree_map.specs.KeyLaws.{entries_of-keys_in}
use Rattle.btree_map.specs.StandLaws.{same_btree}
use Rattle.btree_map.specs.Trees.{IsTrees, Trees, keys_in}
use Rattle.node_mem.specs.CountLaws.{values-put_at}
use Rattle.tree_keys.specs.OrderLaws.{same_from_at}
use Rattle.vol_types.specs.Btrees.{btree_code}
use Rattle.vol_types.specs.KeyMaps.{Entries, IsKeyMap, KeyMap, entries_of, is_update_of, updated_entries, value_in, with_update, with_updates}
use Rattle.vol_types.specs.KeyMapLaws.{IsKeyMap-with_update, IsKeyMap-with_updates, entries_of-with_update, same_key_maps, with_updates-append}
use Rattle.vol_types.specs.MapLaws.{IsMap-put_at, same_maps, value_at-put_at}
use Rattle.vol_types.specs.Maps.{IsMap, put_at, value_at}
use Rattle.vol_types.specs.PositionLaws.{pos_exact, pos_total}
use Rattle.vol_types.specs.Positions.{pos_cmp}
use Rattle.vol_types.specs.Ranges.{IsKeyValue, IsValue}
use Rattle.vol_types.specs.Standing.{IsUpdate}
use Rattle.vol_types.specs.declared.keys.Update.{Update}
use Rattle.vol_types.specs.declared.positions.Btree.{Btree}
use Rattle.vol_types.specs.declared.positions.Pos.{Pos}
use Rattle.vol_types.specs.declared.values.Value.{Value}
use Rattle.journal_writer.specs.Changes.{AreMadeFrom, LeadTo, all_made, changes_of, changes_then, giving, taken_back, undone}
use Rattle.journal_writer.specs.declared.changes.KeyChanges.{KeyChanges}

-- Entries in which a value was put at a position and then what was there before are as they were.
pub put_again : (pos : Pos) (value : Option Value) (entries : Entries) → IsMap pos_cmp entries → put_at pos_cmp pos (value_at pos_cmp pos entries) (put_at pos_cmp pos value entries) ≡ entries
put_again pos value entries rises =
    let changed = IsMap-put_at pos_total pos value entries rises in
    same_maps pos_total pos_exact _ _ (IsMap-put_at pos_total pos (value_at pos_cmp pos entries) (put_at pos_cmp pos value entries) changed) rises
    (λ q.
    value_at-put_at pos_total pos (value_at pos_cmp pos entries) q (put_at pos_cmp pos value entries) changed
    ∙ ap (cond (is_at (pos_cmp pos) q) (value_at pos_cmp pos entries)) (value_at-put_at pos_total pos value q entries rises)
    ∙ by q (is_at (pos_cmp pos) q) refl)
  where
    by : (q : Pos) (b : Bool) → is_at (pos_cmp pos) q ≡ b → cond b (value_at pos_cmp pos entries) (cond b value (value_at pos_cmp q entries)) ≡ value_at pos_cmp q entries
    by q true at = ap (λ p. value_at pos_cmp p entries) (same_from_at pos q at)
    by q false at = refl

-- An update of a btree is under the value that the btree has at its position.
pub value_under_here : (update : Update) (keys : KeyMap) (btree : Btree) → is_update_of btree update ≡ true → value_under update keys ≡ value_at pos_cmp update.pos (entries_of keys btree)
value_under_here update keys btree of =
    let parts = and_parts (update.level == 0) (btree_code update.btree == btree_code btree) of in
    ap (λ b. cond b (value_in keys update.btree update.pos) None) parts.0
    ∙ ap (λ (b : Btree). value_at pos_cmp update.pos (entries_of keys b)) (same_btree update.btree btree (eqb-true (btree_code update.btree) (btree_code btree) parts.1))

-- One update that is made and taken back leaves the key map as it was.
pub undo_one : (update : Update) (keys : KeyMap) → IsKeyMap keys → with_update (giving (value_under update keys) update) (with_update update keys) ≡ keys
undo_one update keys is =
    same_key_maps (with_update (giving (value_under update keys) update) (with_update update keys)) keys
    (λ btree.
    entries_of-with_update (giving (value_under update keys) update) (with_update update keys) btree
    ∙ ap (updated_entries btree (giving (value_under update keys) update)) (entries_of-with_update update keys btree)
    ∙ by btree (is_update_of btree update) refl)
  where
    by : (btree : Btree) (b : Bool) → is_update_of btree update ≡ b
        → cond b (put_at pos_cmp update.pos (value_under update keys) (cond b (put_at pos_cmp update.pos update.value (entries_of keys btree)) (entries_of keys btree))) (cond b (put_at pos_cmp update.pos update.value (entries_of keys btree)) (entries_of keys btree))
        ≡ entries_of keys btree
    by btree true of =
        ap (λ (v : Option Value). put_at pos_cmp update.pos v (put_at pos_cmp update.pos update.value (entries_of keys btree))) (value_under_here update keys btree of)
        ∙ put_again update.pos update.value (entries_of keys btree) (is.rises btree)
    by btree false of = refl

-- Updates that are made and taken back leave the key map as it was.
pub taken_back-made : (updates : List Update) (keys : KeyMap) → IsKeyMap keys → taken_back updates (values_before updates keys) (with_updates updates keys) ≡ keys
taken_back-made [] keys is = refl
taken_back-made (update ∷ updates) keys is =
    ap (with_update (giving (value_under update keys) update)) (taken_back-made updates (with_update update keys) (IsKeyMap-with_update update keys is)) ∙ undo_one update keys is

-- The key map stays one when updates are taken back.
pub IsKeyMap-taken_back : (updates : List Update) (before : List (Option Value)) (keys : KeyMap) → IsKeyMap keys → IsKeyMap (taken_back updates before keys)
IsKeyMap-taken_back [] before keys is = is
IsKeyMap-taken_back (update ∷ updates) [] keys is = is
IsKeyMap-taken_back (update ∷ updates) (value ∷ before) keys is = IsKeyMap-with_update (giving value update) (taken_back updates before keys) (IsKeyMap-taken_back updates before keys is)

undone_made : (changes : List KeyChanges) (keys : KeyMap) → IsKeyMap keys → AreMadeFrom keys changes → undone changes (all_made changes keys) ≡ keys
undone_made [] keys is made = refl
undone_made (changes ∷ later) keys is made =
    ap (taken_back changes.updates changes.before) (undone_made later (with_updates changes.updates keys) (IsKeyMap-with_updates changes.updates keys is) made.1)
    ∙ ap (λ (before : List (Option Value)). taken_back changes.updates before (with_updates changes.updates keys)) made.0
    ∙ taken_back-made changes.updates keys is

-- Changes that lead from one key map to another, taken back from that, give the first.
pub undone-leads : (changes : List KeyChanges) (first last : KeyMap) → IsKeyMap first → LeadTo changes first last → undone changes last ≡ first
undone-leads changes first last is lead = ap (undone changes) lead.last ∙ undone_made changes first is lead.made

-- Each update has one value from before.
pub values_before-length : (updates : List Update) (keys : KeyMap) → length (values_before updates keys) ≡ length updates
values_before-length [] keys = refl
values_before-length (update ∷ updates) keys = ap suc (values_before-length updates (with_update update keys))

-- The values before joined updates are those before the first, and before the second after the first.
pub values_before-append : (first second : List Update) (keys : KeyMap) → values_before (first ++ second) keys ≡ values_before first keys ++ values_before second (with_updates first keys)
values_before-append [] second keys = refl
values_before-append (update ∷ first) second keys = ap (λ (vs : List (Option Value)). value_under update keys ∷ vs) (values_before-append first second (with_update update keys))

-- Changes made in turn are those of the first part and then of the second.
pub all_made-append : (first second : List KeyChanges) (keys : KeyMap) → all_made (first ++ second) keys ≡ all_made second (all_made first keys)
all_made-append [] second keys = refl
all_made-append (changes ∷ first) second keys = all_made-append first second (with_updates changes.updates keys)

-- Both parts of changes that were made were made, the second after the first.
pub AreMadeFrom-parts : (first second : List KeyChanges) (keys : KeyMap) → AreMadeFrom keys (first ++ second) → AreMadeFrom keys first × AreMadeFrom (all_made first keys) second
AreMadeFrom-parts [] second keys made = (tt, made)
AreMadeFrom-parts (changes ∷ first) second keys made = let later = AreMadeFrom-parts first second (with_updates changes.updates keys) made.1 in ((made.0, later.0), later.1)

-- And two parts that were made make one.
pub AreMadeFrom-append : (first second : List KeyChanges) (keys : KeyMap) → AreMadeFrom keys first → AreMadeFrom (all_made first keys) second → AreMadeFrom keys (first ++ second)
AreMadeFrom-append [] second keys made later = later
AreMadeFrom-append (changes ∷ first) second keys made later = (made.0, AreMadeFrom-append first second (with_updates changes.updates keys) made.1 later)

-- Changes that lead to a key map, with a further list behind them that leads on, lead where that does.
pub lead-append : (first second : List KeyChanges) (from mid to : KeyMap) → LeadTo first from mid → LeadTo second mid to → LeadTo (first ++ second) from to
lead-append first second from mid to one other = record {
  made = AreMadeFrom-append first second from one.made (subst (λ (k : KeyMap). AreMadeFrom k second) one.last other.made);
  last = other.last ∙ ap (all_made second) one.last ∙ sym (all_made-append first second from);
}

-- The first part of changes leads to where the second one begins.
pub lead-parts : (first second : List KeyChanges) (from to : KeyMap) → LeadTo (first ++ second) from to → LeadTo first from (all_made first from) × LeadTo second (all_made first from) to
lead-parts first second from to lead =
    let parts = AreMadeFrom-parts first second from lead.made in
    (record { made = parts.0; last = refl }, record { made = parts.1; last = lead.last ∙ all_made-append first second from })

-- Changes that take in those of a further commit lead to what that makes.
pub lead-then : (changes : KeyChanges) (updates : List Update) (from to : KeyMap) → LeadTo (changes ∷ []) from to → LeadTo (changes_then changes (changes_of updates to) ∷ []) from (with_updates updates to)
lead-then changes updates from to lead = record {
  made = (
    ap (λ (vs : List (Option Value)). vs ++ values_before updates to) lead.made.0
        ∙ ap (λ (k : KeyMap). values_before changes.updates from ++ values_before updates k) lead.last
        ∙ sym (values_before-append changes.updates updates from),
    tt,
  );
  last = ap (with_updates updates) lead.last ∙ sym (with_updates-append changes.updates updates from);
}

-- Further changes lead on to what they make.
pub lead-new : (updates : List Update) (to : KeyMap) → LeadTo (changes_of updates to ∷ []) to (with_updates updates to)
lead-new updates to = record { made = (refl, tt); last = refl }

in_range_at : (pos : Pos) (entries : Entries) → All IsValue (values_of entries) → IsKeyValue (value_at pos_cmp pos entries)
in_range_at pos [] all = tt
in_range_at pos (e ∷ entries) all = by (is_at (pos_cmp pos) e.0) (in_range_at pos entries (All-tail IsValue e.1 (values_of entries) all))
  where
    by : (b : Bool) → IsKeyValue (value_at pos_cmp pos entries) → IsKeyValue (cond b (Some e.1) (value_at pos_cmp pos entries))
    by true later = All-head IsValue e.1 (values_of entries) all
    by false later = later

-- Each value of the key map is in range.
abbrev AreInRange : KeyMap → Type 0
AreInRange keys = (btree : Btree) → All IsValue (values_of (entries_of keys btree))

put_in_range : (update : Update) (entries : Entries) (b : Bool) → IsKeyValue update.value → All IsValue (values_of entries) → All IsValue (values_of (cond b (put_at pos_cmp update.pos update.value entries) entries))
put_in_range update entries false value all = all
put_in_range update entries true value all = values-put_at IsValue update.pos update.value entries all (by update.value value)
  where
    by : (value : Option Value) → IsKeyValue value → IfSome value IsValue
    by None is = tt
    by (Some v) is = is

before_in_range : (updates : List Update) (keys : KeyMap) → AreInRange keys → All IsUpdate updates → All IsKeyValue (values_before updates keys)
before_in_range [] keys all are = All-nil IsKeyValue
before_in_range (update ∷ updates) keys all are =
    All-cons IsKeyValue (value_under update keys) (values_before updates (with_update update keys)) (by (update.level == 0))
    (before_in_range updates (with_update update keys)
    (λ btree.
    subst (λ (es : Entries). All IsValue (values_of es)) (sym (entries_of-with_update update keys btree)) (put_in_range update (entries_of keys btree) (is_update_of btree update) (All-head IsUpdate update updates are).in_range (all btree)))
    (All-tail IsUpdate update updates are))
  where
    by : (b : Bool) → IsKeyValue (cond b (value_in keys update.btree update.pos) None)
    by true = in_range_at update.pos (entries_of keys update.btree) (all update.btree)
    by false = tt

-- The values of btrees before updates that may be made are in range.
pub values_before-in_range : (updates : List Update) (trees : Trees) → IsTrees trees → All IsUpdate updates → All IsKeyValue (values_before updates (keys_in trees))
values_before-in_range updates trees is are =
    before_in_range updates (keys_in trees) (λ btree. subst (λ (es : Entries). All IsValue (values_of es)) (sym (entries_of-keys_in trees btree)) (is.each btree).keys.in_range) are
