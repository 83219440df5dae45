-- The records of snapshot ids that a key map has, and what updates make of them.
use Rattle.std.proofs.Common.{◌≡◌, ℕ, ◌+◌, ◌<◌, ◌^◌, Bool, true, false, cond, Some, List, [], ◌∷◌, ◌++◌, take, get_or, length, refl, sym, ap, ◌∙◌, subst}
use Rattle.std.specs.Prelude.{◌&&◌, ◌||◌, ◌==◌, All, IsSome, nat_lt}
use Rattle.std.specs.List.{filter, list_all}
use Rattle.std.specs.Map.{keys_of, values_of}
use Rattle.std.specs.Ordering.{is_le}
use Rattle.std.proofs.lemmas.Bool.{true≢false, and_parts, eqb-true, ltb-true}
use Rattle.std.proofs.lemmas.List.{take_more}
use Rattle.std.proofs.lemmas.List.Elements.{All-cons, All-head, All-nil, All-tail}
use Rattle.btree_map.specs.KeyLaws.{entries_of-keys_in}
use Rattle.btree_map.specs.StandLaws.{stand-with_updates}
use Rattle.btree_map.specs.Trees.{IsTrees, Trees, entries_in, keys_in}
use Rattle.dirty_nodes.specs.Ids.{changes_ids, id_trees, is_id_place, trees_of}
use Rattle.node_mem.specs.RangeLaws.{same_part}
use Rattle.snap_tree.specs.Snaps.{IsSnapKey, snap_of}
use Rattle.tree_keys.specs.OrderLaws.{least_le, le_greatest}
use Rattle.vol_types.specs.KeyMapLaws.{entries_of-with_update, with_updates-append}
use Rattle.vol_types.specs.KeyMaps.{Entries, KeyMap, entries_of, entries_within, is_update_of, with_update, with_updates}
use Rattle.vol_types.specs.KeyMaps.{keys_in as as_keys}
use Rattle.vol_types.specs.Maps.{put_at}
use Rattle.vol_types.specs.Positions.{greatest_pos, is_within, least_pos, pos_cmp}
use Rattle.vol_types.specs.Standing.{IsUpdate, MayStand}
use Rattle.vol_types.specs.Values.{IsKindOf, kind_of}
use Rattle.vol_types.specs.Widths.{PosFits}
use Rattle.vol_types.specs.declared.keys.Key.{Key}
use Rattle.vol_types.specs.declared.keys.Update.{Update}
use Rattle.vol_types.specs.declared.positions.Btree.{Btree}
use Rattle.vol_types.specs.declared.positions.Btree.TheVariants.{Snapshots}
use Rattle.vol_types.specs.declared.positions.Pos.{Pos}
use Rattle.vol_types.specs.declared.values.Value.{Value}
use Rattle.vol_types.specs.declared.values.Value.TheVariants.{Inode, Names, Extent, Hole, White, Subs, Snap, Live, Back, Gone, Counter, Node}

all_pass : (entries : Entries) → filter (λ e. true) entries ≡ entries
all_pass [] = refl
all_pass (e ∷ es) = ap (λ (xs : Entries). e ∷ xs) (all_pass es)

-- No entry lies outside all positions.
pub whole_range : (entries : Entries) → All PosFits (keys_of entries) → entries_within least_pos greatest_pos entries ≡ entries
whole_range entries fit =
    same_part (is_within least_pos greatest_pos) (λ p. true) (λ p fits. ap (λ b. b && is_le (pos_cmp p greatest_pos)) (least_le p fits) ∙ le_greatest p fits) entries fit ∙ all_pass entries

-- The loop over all positions begins with all records.
pub records_none : (trees : Trees) (snaps items : Entries) → IsTrees trees → snaps ≡ [] → items ≡ entries_within least_pos greatest_pos (entries_in trees Snapshots) → snaps ++ items ≡ entries_of (keys_in trees) Snapshots
records_none trees snaps items sound none all =
    ap (λ (es : Entries). es ++ items) none ∙ all ∙ whole_range (entries_in trees Snapshots) (sound.each Snapshots).keys.fit ∙ sym (entries_of-keys_in trees Snapshots)

-- a btree's entries after one more update
pub records_more : (updates : List Update) (place : ℕ) (update : Update) (keys : KeyMap) (now new : Entries) → place < length updates → update ≡ get_or updates place update → now ≡ entries_of (with_updates (take place updates) keys) Snapshots
    → (b : Bool) → is_update_of Snapshots update ≡ b → new ≡ cond b (put_at pos_cmp update.pos update.value now) now → new ≡ entries_of (with_updates (take (place + 1) updates) keys) Snapshots
records_more updates place update keys now new lt is so_far b test made =
    made ∙ ap (λ (c : Bool). cond c (put_at pos_cmp update.pos update.value now) now) (sym test)
    ∙ ap (λ (es : Entries). cond (is_update_of Snapshots update) (put_at pos_cmp update.pos update.value es) es) so_far
    ∙ sym (entries_of-with_update update (with_updates (take place updates) keys) Snapshots)
    ∙ ap (λ (k : KeyMap). entries_of k Snapshots)
    (sym (with_updates-append (take place updates) (update ∷ []) keys)
    ∙ ap (λ (us : List Update). with_updates us keys) (sym (take_more updates place update lt ∙ ap (λ (u : Update). take place updates ++ u ∷ []) (sym is))))

-- A value of the btree of ids is the record of one.
pub is_snap : (value : Value) → IsKindOf Snapshots (kind_of value) → IsSome (snap_of (Some value))
is_snap (Inode inode) is = absurd (true≢false (sym is))
is_snap (Names links) is = absurd (true≢false (sym is))
is_snap (Extent extent) is = absurd (true≢false (sym is))
is_snap (Hole blocks) is = absurd (true≢false (sym is))
is_snap White is = absurd (true≢false (sym is))
is_snap (Subs subs) is = absurd (true≢false (sym is))
is_snap (Snap snap) is = refl
is_snap (Live live) is = absurd (true≢false (sym is))
is_snap (Back extent) is = absurd (true≢false (sym is))
is_snap Gone is = absurd (true≢false (sym is))
is_snap (Counter next) is = absurd (true≢false (sym is))
is_snap (Node node) is = absurd (true≢false (sym is))

snap_key : (pos : Pos) (value : Value) → is_id_place pos ≡ true → MayStand Snapshots 0 value → IsSnapKey (record { pos = pos; value = Some value })
snap_key pos value place stands =
    let first = and_parts (pos.inode == 0 && nat_lt pos.offset (2 ^ 32)) (pos.snapshot == 0) place in
    let second = and_parts (pos.inode == 0) (nat_lt pos.offset (2 ^ 32)) first.0 in
    record { inode = eqb-true pos.inode 0 second.0; id = ltb-true pos.offset (2 ^ 32) second.1; snapshot = eqb-true pos.snapshot 0 first.1; snap = is_snap value (stands.in_leaf refl) }

snap_keys : (entries : Entries) → list_all (λ e. is_id_place e.0) entries ≡ true → All (MayStand Snapshots 0) (values_of entries) → All IsSnapKey (as_keys entries)
snap_keys [] places stand = All-nil IsSnapKey
snap_keys (e ∷ es) places stand =
    let parts = and_parts (is_id_place e.0) (list_all (λ e. is_id_place e.0) es) places in
    All-cons IsSnapKey (record { pos = e.0; value = Some e.1 }) (as_keys es) (snap_key e.0 e.1 parts.0 (All-head (MayStand Snapshots 0) e.1 (values_of es) stand)) (snap_keys es parts.1 (All-tail (MayStand Snapshots 0) e.1 (values_of es) stand))

-- Keys of records that stand in their places are those of ids.
pub records_are_ids : (entries : Entries) (keys : List Key) → All (MayStand Snapshots 0) (values_of entries) → list_all (λ e. is_id_place e.0) entries ≡ true → keys ≡ as_keys entries → All IsSnapKey keys
records_are_ids entries keys stand places made = subst (λ (ks : List Key). All IsSnapKey ks) (sym made) (snap_keys entries places stand)

-- What stands among the records of ids after updates may stand there.
pub records_stand : (trees : Trees) (updates : List Update) (entries : Entries) → IsTrees trees → All IsUpdate updates → entries ≡ entries_of (with_updates updates (keys_in trees)) Snapshots → All (MayStand Snapshots 0) (values_of entries)
records_stand trees updates entries sound are same =
    subst (λ (es : Entries). All (MayStand Snapshots 0) (values_of es)) (sym same)
    (stand-with_updates updates (keys_in trees) are (λ (b : Btree). subst (λ (es : Entries). All (MayStand b 0) (values_of es)) (sym (entries_of-keys_in trees b)) (sound.each b).stand) Snapshots)

-- Updates of other keys leave the records of ids.
others_leave : (updates : List Update) (keys : KeyMap) → changes_ids updates ≡ false → entries_of (with_updates updates keys) Snapshots ≡ entries_of keys Snapshots
others_leave [] keys none = refl
others_leave (update ∷ updates) keys none = by (is_update_of Snapshots update) refl none (others_leave updates (with_update update keys))
  where
    by : (b : Bool) → is_update_of Snapshots update ≡ b → (b || changes_ids updates) ≡ false → (changes_ids updates ≡ false → entries_of (with_updates updates (with_update update keys)) Snapshots ≡ entries_of (with_update update keys) Snapshots)
        → entries_of (with_updates updates (with_update update keys)) Snapshots ≡ entries_of keys Snapshots
    by true of none rest = absurd (true≢false none)
    by false of none rest = rest none ∙ entries_of-with_update update keys Snapshots ∙ ap (λ (b : Bool). cond b (put_at pos_cmp update.pos update.value (entries_of keys Snapshots)) (entries_of keys Snapshots)) of

pub ids_stay : (updates : List Update) (keys : KeyMap) → changes_ids updates ≡ false → id_trees (with_updates updates keys) ≡ id_trees keys
ids_stay updates keys none = ap (λ (es : Entries). trees_of es) (others_leave updates keys none)
