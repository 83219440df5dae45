-- What a key map has after updates, and which looks it gives.
use Rattle.std.proofs.Common.{◌≡◌, Bool, true, false, cond, List, [], ◌∷◌, ◌++◌, refl, sym, ap, ◌∙◌, subst}
use Rattle.std.specs.Prelude.{◌&&◌}
use Rattle.std.specs.BTreeMap.{is_at}
use Rattle.std.proofs.lemmas.List.Elements.{All-append, All-cons, All-nil}
use Rattle.vol_types.specs.declared.keys.Update.{Update}
use Rattle.vol_types.specs.declared.positions.Btree.{Btree}
use Rattle.vol_types.specs.declared.positions.Btree.TheVariants.{Extents, Inodes, Dirents, Subvols, Snapshots, Alloc, Backptrs, Deleted, Counters}
use Rattle.vol_types.specs.declared.positions.Pos.{Pos}
use Rattle.vol_types.specs.declared.queries.Look.{Look}
use Rattle.vol_types.specs.KeyMaps.{Entries, KeyMap, IsKeyMap, IsLook, GivesLooks, entries_of, value_in, key_map, is_update_of, updated_entries, with_update, with_updates}
use Rattle.vol_types.specs.MapLaws.{IsMap-put_at, value_at-put_at}
use Rattle.vol_types.specs.Maps.{IsMap, value_at, put_at}
use Rattle.vol_types.specs.Positions.{pos_cmp}
use Rattle.vol_types.specs.PositionLaws.{pos_total}

-- A key map has in each btree the entries that it is made of.
pub entries_of-key_map : (entries : Btree → Entries) (btree : Btree) → entries_of (key_map entries) btree ≡ entries btree
entries_of-key_map entries Extents = refl
entries_of-key_map entries Inodes = refl
entries_of-key_map entries Dirents = refl
entries_of-key_map entries Subvols = refl
entries_of-key_map entries Snapshots = refl
entries_of-key_map entries Alloc = refl
entries_of-key_map entries Backptrs = refl
entries_of-key_map entries Deleted = refl
entries_of-key_map entries Counters = refl

-- Key maps with the same entries in each btree are one.
pub same_key_maps : (one other : KeyMap) → ((btree : Btree) → entries_of one btree ≡ entries_of other btree) → one ≡ other
same_key_maps one other same = λ i. record {
  extents = same Extents i;
  inodes = same Inodes i;
  dirents = same Dirents i;
  subvols = same Subvols i;
  snapshots = same Snapshots i;
  alloc = same Alloc i;
  backptrs = same Backptrs i;
  deleted = same Deleted i;
  counters = same Counters i;
}

-- After an update each btree has its updated entries.
pub entries_of-with_update : (update : Update) (keys : KeyMap) (btree : Btree) → entries_of (with_update update keys) btree ≡ updated_entries btree update (entries_of keys btree)
unfolding with_update
entries_of-with_update update keys btree = entries_of-key_map (λ b. updated_entries b update (entries_of keys b)) btree

-- Updates one after another are joined updates.
pub with_updates-append : (first second : List Update) (keys : KeyMap) → with_updates (first ++ second) keys ≡ with_updates second (with_updates first keys)
with_updates-append [] second keys = refl
with_updates-append (update ∷ first) second keys = with_updates-append first second (with_update update keys)

updated_by : (b : Bool) (update : Update) (entries : Entries) → IsMap pos_cmp entries → IsMap pos_cmp (cond b (put_at pos_cmp update.pos update.value entries) entries)
updated_by true update entries rises = IsMap-put_at pos_total update.pos update.value entries rises
updated_by false update entries rises = rises

-- Each btree's entries are a map after an update too.
pub IsKeyMap-with_update : (update : Update) (keys : KeyMap) → IsKeyMap keys → IsKeyMap (with_update update keys)
IsKeyMap-with_update update keys is = record {
  rises = λ btree. subst (IsMap pos_cmp) (sym (entries_of-with_update update keys btree)) (updated_by (is_update_of btree update) update (entries_of keys btree) (is.rises btree));
}

-- And after updates.
pub IsKeyMap-with_updates : (updates : List Update) (keys : KeyMap) → IsKeyMap keys → IsKeyMap (with_updates updates keys)
IsKeyMap-with_updates [] keys is = is
IsKeyMap-with_updates (update ∷ updates) keys is = IsKeyMap-with_updates updates (with_update update keys) (IsKeyMap-with_update update keys is)

value_after : (b : Bool) (update : Update) (pos : Pos) (entries : Entries) → IsMap pos_cmp entries
    → value_at pos_cmp pos (cond b (put_at pos_cmp update.pos update.value entries) entries) ≡ cond (b && is_at (pos_cmp update.pos) pos) update.value (value_at pos_cmp pos entries)
value_after true update pos entries rises = value_at-put_at pos_total update.pos update.value pos entries rises
value_after false update pos entries rises = refl

-- After an update its position has its value, and every other one has what it had.
pub value_in-with_update : (update : Update) (keys : KeyMap) (btree : Btree) (pos : Pos) → IsKeyMap keys
    → value_in (with_update update keys) btree pos ≡ cond (is_update_of btree update && is_at (pos_cmp update.pos) pos) update.value (value_in keys btree pos)
value_in-with_update update keys btree pos is =
    ap (value_at pos_cmp pos) (entries_of-with_update update keys btree) ∙ value_after (is_update_of btree update) update pos (entries_of keys btree) (is.rises btree)

-- A key map gives no looks.
pub gives_none : (keys : KeyMap) → GivesLooks keys []
gives_none keys = record { each = All-nil (IsLook keys) }

-- A key map that gives some looks and then others gives them joined.
pub gives_joined : (keys : KeyMap) (first second : List Look) → GivesLooks keys first → GivesLooks keys second → GivesLooks keys (first ++ second)
gives_joined keys first second some others = record { each = All-append (IsLook keys) first second some.each others.each }

-- A key map that gives some looks and a further one gives them with it at the end.
pub gives_more : (keys : KeyMap) (looks : List Look) (look : Look) → GivesLooks keys looks → IsLook keys look → GivesLooks keys (looks ++ look ∷ [])
gives_more keys looks look gives is = gives_joined keys looks (look ∷ []) gives (record { each = All-cons (IsLook keys) look [] is (All-nil (IsLook keys)) })
