-- Updates that are made again, over entries that have them, change nothing.
use Rattle.std.proofs.Common.{◌≡◌, ℕ, ◌+◌, ◌-◌, Bool, true, false, cond, List, [], ◌∷◌, ◌++◌, take, drop, Option, refl, sym, ap, ◌∙◌, arith}
use Rattle.std.proofs.Math.Seq.{take-add}
use Rattle.std.proofs.lemmas.List.{append-nil, take-append-drop}
use Rattle.std.proofs.lemmas.List.Elements.{recursion_from_All}
use Rattle.std.specs.BTreeMap.{is_at}
use Rattle.std.specs.List.{AllByRecursion}
use Rattle.std.specs.Prelude.{All}
use Rattle.journal_ring.specs.declared.found.FoundEntry.{FoundEntry}
use Rattle.vol_types.specs.KeyMapLaws.{same_key_maps}
use Rattle.vol_types.specs.KeyMaps.{Entries, IsKeyMap, KeyMap, entries_of, is_update_of, updated_entries, with_updates}
use Rattle.vol_types.specs.MapLaws.{IsMap-put_at, same_maps, value_at-put_at}
use Rattle.vol_types.specs.Maps.{IsMap, put_at, value_at}
use Rattle.vol_types.specs.PositionLaws.{pos_exact, pos_total}
use Rattle.vol_types.specs.Positions.{pos_cmp}
use Rattle.vol_types.specs.declared.keys.Update.{Update}
use Rattle.vol_types.specs.declared.positions.Btree.{Btree}
use Rattle.vol_types.specs.declared.positions.Pos.{Pos}
use Rattle.vol_types.specs.declared.values.Value.{Value}
use Rattle.image_view.specs.EntryUpdates.{updates_of-append}
use Rattle.image_view.specs.Found.{updates_of}
use Rattle.image_view.specs.NewNodes.{HoldsPassed}
use Rattle.image_view.proofs.LeafUpdates.{entries_with}
use Rattle.image_view.proofs.TreeUpdates.{entries_of-with_updates}

-- ---- one btree

-- the value at a position after an update
abbrev value_with : Btree → Update → Pos → Option Value → Option Value
value_with btree update pos before = cond (is_update_of btree update) (cond (is_at (pos_cmp update.pos) pos) update.value before) before

-- the value at a position after updates
abbrev value_after : Btree → List Update → Pos → Option Value → Option Value
value_after btree [] pos before = before
value_after btree (update ∷ updates) pos before = value_after btree updates pos (value_with btree update pos before)

-- An update leaves a map.
map_with : (btree : Btree) (update : Update) (entries : Entries) → IsMap pos_cmp entries → IsMap pos_cmp (updated_entries btree update entries)
map_with btree update entries rises = by (is_update_of btree update)
  where
    by : (mine : Bool) → IsMap pos_cmp (cond mine (put_at pos_cmp update.pos update.value entries) entries)
    by true = IsMap-put_at pos_total update.pos update.value entries rises
    by false = rises

-- So do updates.
pub map_after : (btree : Btree) (updates : List Update) (entries : Entries) → IsMap pos_cmp entries → IsMap pos_cmp (entries_with btree updates entries)
map_after btree [] entries rises = rises
map_after btree (update ∷ updates) entries rises = map_after btree updates (updated_entries btree update entries) (map_with btree update entries rises)

value_one : (btree : Btree) (update : Update) (pos : Pos) (entries : Entries) → IsMap pos_cmp entries → value_at pos_cmp pos (updated_entries btree update entries) ≡ value_with btree update pos (value_at pos_cmp pos entries)
value_one btree update pos entries rises = by (is_update_of btree update)
  where
    by : (mine : Bool) → value_at pos_cmp pos (cond mine (put_at pos_cmp update.pos update.value entries) entries) ≡ cond mine (cond (is_at (pos_cmp update.pos) pos) update.value (value_at pos_cmp pos entries)) (value_at pos_cmp pos entries)
    by true = value_at-put_at pos_total update.pos update.value pos entries rises
    by false = refl

-- The value at a position of updated entries follows from the one before.
value_of : (btree : Btree) (updates : List Update) (pos : Pos) (entries : Entries) → IsMap pos_cmp entries → value_at pos_cmp pos (entries_with btree updates entries) ≡ value_after btree updates pos (value_at pos_cmp pos entries)
value_of btree [] pos entries rises = refl
value_of btree (update ∷ updates) pos entries rises =
    value_of btree updates pos (updated_entries btree update entries) (map_with btree update entries rises) ∙ ap (value_after btree updates pos) (value_one btree update pos entries rises)

-- It is the same after the updates are made again.
value_again : (btree : Btree) (updates : List Update) (pos : Pos) (before : Option Value) → value_after btree updates pos (value_after btree updates pos before) ≡ value_after btree updates pos before
value_again btree [] pos before = refl
value_again btree (update ∷ updates) pos before = by (is_update_of btree update) (is_at (pos_cmp update.pos) pos) (value_again btree updates pos before)
  where
    by : (mine at : Bool) → value_after btree updates pos (value_after btree updates pos before) ≡ value_after btree updates pos before
        → value_after btree updates pos (cond mine (cond at update.value (value_after btree updates pos (cond mine (cond at update.value before) before))) (value_after btree updates pos (cond mine (cond at update.value before) before)))
        ≡ value_after btree updates pos (cond mine (cond at update.value before) before)
    by true true later = refl
    by true false later = later
    by false at later = later

-- Updates that are made again change nothing.
pub entries_again : (btree : Btree) (updates : List Update) (entries : Entries) → IsMap pos_cmp entries → entries_with btree updates (entries_with btree updates entries) ≡ entries_with btree updates entries
entries_again btree updates entries rises =
    let made = map_after btree updates entries rises in
    same_maps pos_total pos_exact (entries_with btree updates (entries_with btree updates entries)) (entries_with btree updates entries) (map_after btree updates (entries_with btree updates entries) made) made
    (λ pos.
    value_of btree updates pos (entries_with btree updates entries) made
    ∙ ap (value_after btree updates pos) (value_of btree updates pos entries rises)
    ∙ value_again btree updates pos (value_at pos_cmp pos entries)
    ∙ sym (value_of btree updates pos entries rises))

-- Updates after others are made over them.
pub entries_with-append : (btree : Btree) (one other : List Update) (entries : Entries) → entries_with btree (one ++ other) entries ≡ entries_with btree other (entries_with btree one entries)
entries_with-append btree [] other entries = refl
entries_with-append btree (update ∷ one) other entries = entries_with-append btree one other (updated_entries btree update entries)

-- Of updates in three parts the last two, over entries that have the first two, give the entries with all.
parts_again : (btree : Btree) (first second third : List Update) (entries : Entries) → IsMap pos_cmp entries → entries_with btree (second ++ third) (entries_with btree (first ++ second) entries) ≡ entries_with btree (first ++ (second ++ third)) entries
parts_again btree first second third entries rises =
    let begun : Entries = entries_with btree first entries in
    ap (entries_with btree (second ++ third)) (entries_with-append btree first second entries)
    ∙ entries_with-append btree second third (entries_with btree second begun)
    ∙ ap (entries_with btree third) (entries_again btree second begun (map_after btree first entries rises))
    ∙ sym (entries_with-append btree second third begun)
    ∙ sym (entries_with-append btree first (second ++ third) entries)

-- So it is with all btrees.
pub updates_again : (updates more : List Update) (keys : KeyMap) → IsKeyMap keys → with_updates more (with_updates (updates ++ more) keys) ≡ with_updates (updates ++ more) keys
updates_again updates more keys rises =
    same_key_maps (with_updates more (with_updates (updates ++ more) keys)) (with_updates (updates ++ more) keys) (λ btree.
    let begun : Entries = entries_with btree updates (entries_of keys btree) in
    let both : entries_of (with_updates (updates ++ more) keys) btree ≡ entries_with btree more begun = entries_of-with_updates (updates ++ more) keys btree ∙ entries_with-append btree updates more (entries_of keys btree) in
    entries_of-with_updates more (with_updates (updates ++ more) keys) btree
    ∙ ap (entries_with btree more) both
    ∙ entries_again btree more begun (map_after btree updates (entries_of keys btree) (rises.rises btree))
    ∙ sym both)

-- ---- the entries that are needed

-- Updates of the entries that are still needed, over keys that have those of the entries that are passed and maybe of more, give the keys with all.
entries_are : (needed : List FoundEntry) (passed : ℕ) (old new : KeyMap) (btree : Btree) → IsKeyMap old → HoldsPassed needed passed old new btree
    → entries_with btree (updates_of (drop passed needed)) (entries_of new btree) ≡ entries_with btree (updates_of needed) (entries_of old btree)
entries_are needed passed old new btree rises has =
    let more : ℕ = has.count - passed in
    let second : List FoundEntry = take more (drop passed needed) in
    let third : List FoundEntry = drop more (drop passed needed) in
    let lacks = has.none_lacks in
    let count : has.count ≡ passed + more = omega (arith, lacks) in
    let taken : updates_of (take has.count needed) ≡ updates_of (take passed needed) ++ updates_of second =
    ap (λ n. updates_of (take n needed)) count ∙ ap updates_of (take-add passed more needed) ∙ updates_of-append (take passed needed) second in
    let left : updates_of (drop passed needed) ≡ updates_of second ++ updates_of third = ap updates_of (sym (take-append-drop more (drop passed needed))) ∙ updates_of-append second third in
    let all : updates_of needed ≡ updates_of (take passed needed) ++ (updates_of second ++ updates_of third) =
    ap updates_of (sym (take-append-drop passed needed)) ∙ updates_of-append (take passed needed) (drop passed needed) ∙ ap (λ (us : List Update). updates_of (take passed needed) ++ us) left in
    let held : entries_of new btree ≡ entries_with btree (updates_of (take passed needed) ++ updates_of second) (entries_of old btree) =
    has.holds ∙ entries_of-with_updates (updates_of (take has.count needed)) old btree ∙ ap (λ (us : List Update). entries_with btree us (entries_of old btree)) taken in
    (λ i. entries_with btree (left i) (held i))
    ∙ parts_again btree (updates_of (take passed needed)) (updates_of second) (updates_of third) (entries_of old btree) (rises.rises btree)
    ∙ ap (λ (us : List Update). entries_with btree us (entries_of old btree)) (sym all)

-- So it is with the next entry behind them.
pub keys_again : (needed : List FoundEntry) (passed : ℕ) (next : FoundEntry) (old new : KeyMap) → IsKeyMap old → ((btree : Btree) → HoldsPassed needed passed old new btree)
    → with_updates (updates_of (drop passed needed ++ next ∷ [])) new ≡ with_updates next.entry.updates (with_updates (updates_of needed) old)
keys_again needed passed next old new rises has =
    let last : List Update = next.entry.updates in
    let all : updates_of (drop passed needed ++ next ∷ []) ≡ updates_of (drop passed needed) ++ last = updates_of-append (drop passed needed) (next ∷ []) ∙ ap (λ (us : List Update). updates_of (drop passed needed) ++ us) (append-nil last) in
    same_key_maps (with_updates (updates_of (drop passed needed ++ next ∷ [])) new) (with_updates last (with_updates (updates_of needed) old)) (λ btree.
    entries_of-with_updates (updates_of (drop passed needed ++ next ∷ [])) new btree
    ∙ ap (λ (us : List Update). entries_with btree us (entries_of new btree)) all
    ∙ entries_with-append btree (updates_of (drop passed needed)) last (entries_of new btree)
    ∙ ap (entries_with btree last) (entries_are needed passed old new btree rises (has btree) ∙ sym (entries_of-with_updates (updates_of needed) old btree))
    ∙ sym (entries_of-with_updates last (with_updates (updates_of needed) old) btree))

-- ---- a btree that no passed entry updates

-- Updates of other btrees leave a btree's entries.
untouched : (btree : Btree) (updates : List Update) (entries : Entries) → AllByRecursion (λ (update : Update). is_update_of btree update ≡ false) updates → entries_with btree updates entries ≡ entries
untouched btree [] entries none = refl
untouched btree (update ∷ updates) entries none =
    ap (λ (mine : Bool). entries_with btree updates (cond mine (put_at pos_cmp update.pos update.value entries) entries)) none.0 ∙ untouched btree updates entries none.1

-- So a btree's old nodes hold what is passed, where the entries that are passed have no updates of it.
pub kept_holds : (needed : List FoundEntry) (passed : ℕ) (old new : KeyMap) (btree : Btree) → entries_of new btree ≡ entries_of old btree → All (λ update. is_update_of btree update ≡ false) (updates_of (take passed needed)) → HoldsPassed needed passed old new btree
kept_holds needed passed old new btree same none = record {
  count = passed;
  none_lacks = omega arith;
  holds = same
      ∙ sym (entries_of-with_updates (updates_of (take passed needed)) old btree
      ∙ untouched btree (updates_of (take passed needed)) (entries_of old btree) (recursion_from_All (λ (update : Update). is_update_of btree update ≡ false) (updates_of (take passed needed)) none));
}
