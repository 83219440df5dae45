-- Updates that may be made leave values that may stand.
use Rattle.std.proofs.Common.{◌≡◌, ℕ, Bool, true, false, cond, Option, Some, None, List, [], ◌∷◌, refl, sym, ap, ◌∙◌, subst}
use Rattle.std.specs.Prelude.{All, IfSome, ◌==◌}
use Rattle.std.specs.Map.{values_of}
use Rattle.std.proofs.lemmas.Bool.{and_parts, eqb-true}
use Rattle.std.proofs.lemmas.List.Elements.{All-head, All-tail}
use Rattle.node_mem.specs.CountLaws.{values-put_at}
use Rattle.vol_types.specs.Btrees.{btree_code}
use Rattle.vol_types.specs.KeyMaps.{Entries, KeyMap, entries_of, is_update_of, with_update, with_updates}
use Rattle.vol_types.specs.KeyMapLaws.{entries_of-with_update}
use Rattle.vol_types.specs.Maps.{put_at}
use Rattle.vol_types.specs.Positions.{pos_cmp}
use Rattle.vol_types.specs.Standing.{IsUpdate, MayStand, Stands}
use Rattle.vol_types.specs.declared.keys.Update.{Update}
use Rattle.vol_types.specs.declared.positions.Btree.{Btree}
use Rattle.vol_types.specs.declared.positions.Btree.TheVariants.{Extents, Inodes, Dirents, Subvols, Snapshots, Alloc, Backptrs, Deleted, Counters}
use Rattle.vol_types.specs.declared.values.Value.{Value}

-- the btree with a number; any one where none has it
abbrev btree_at : ℕ → Btree
btree_at code =
    cond (code == 0) Extents (cond (code == 1) Inodes (cond (code == 2) Dirents (cond (code == 3) Subvols (cond (code == 4) Snapshots (cond (code == 5) Alloc (cond (code == 6) Backptrs (cond (code == 7) Deleted Counters)))))))

btree_at-code : (btree : Btree) → btree_at (btree_code btree) ≡ btree
btree_at-code Extents = refl
btree_at-code Inodes = refl
btree_at-code Dirents = refl
btree_at-code Subvols = refl
btree_at-code Snapshots = refl
btree_at-code Alloc = refl
btree_at-code Backptrs = refl
btree_at-code Deleted = refl
btree_at-code Counters = refl

-- Btrees with the same number are one.
pub same_btree : (one other : Btree) → btree_code one ≡ btree_code other → one ≡ other
same_btree one other same = sym (btree_at-code one) ∙ ap btree_at same ∙ btree_at-code other

put_stand : (value : Option Value) (btree : Btree) (update : Update) → Stands btree 0 value → (entries : Entries) → All (MayStand btree 0) (values_of entries) → All (MayStand btree 0) (values_of (put_at pos_cmp update.pos value entries))
put_stand value btree update stands entries all = values-put_at (MayStand btree 0) update.pos value entries all (by value stands)
  where
    by : (value : Option Value) → Stands btree 0 value → IfSome value (MayStand btree 0)
    by None stands = tt
    by (Some v) stands = stands

updated_stand : (b : Bool) (btree : Btree) (update : Update) (entries : Entries) → is_update_of btree update ≡ b → IsUpdate update → All (MayStand btree 0) (values_of entries)
    → All (MayStand btree 0) (values_of (cond b (put_at pos_cmp update.pos update.value entries) entries))
updated_stand false btree update entries of is all = all
updated_stand true btree update entries of is all =
    let parts = and_parts (update.level == 0) (btree_code update.btree == btree_code btree) of in
    let level = eqb-true update.level 0 parts.0 in
    let same = same_btree update.btree btree (eqb-true (btree_code update.btree) (btree_code btree) parts.1) in
    put_stand update.value btree update (subst (λ (b : Btree). Stands b 0 update.value) same (subst (λ n. Stands update.btree n update.value) level is.stands)) entries all

-- After updates that may be made each value may stand where it does.
pub stand-with_updates : (updates : List Update) (keys : KeyMap) → All IsUpdate updates → ((btree : Btree) → All (MayStand btree 0) (values_of (entries_of keys btree)))
    → (btree : Btree) → All (MayStand btree 0) (values_of (entries_of (with_updates updates keys) btree))
stand-with_updates [] keys are stand btree = stand btree
stand-with_updates (update ∷ updates) keys are stand btree =
    stand-with_updates updates (with_update update keys) (All-tail IsUpdate update updates are)
    (λ b. subst (λ (es : Entries). All (MayStand b 0) (values_of es)) (sym (entries_of-with_update update keys b)) (updated_stand (is_update_of b update) b update (entries_of keys b) refl (All-head IsUpdate update updates are) (stand b)))
    btree
