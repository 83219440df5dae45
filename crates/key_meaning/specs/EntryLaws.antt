-- What all entries of a btree have, they have after a value was put or removed, where the new one has it.
use Rattle.std.proofs.Common.{◌≡◌, Bool, true, false, cond, Option, Some, None, [], ◌∷◌, refl, sym, subst}
use Rattle.std.specs.Prelude.{All}
use Rattle.std.specs.BTreeMap.{is_at}
use Rattle.std.specs.Ordering.{match_ordering}
use Rattle.std.specs.declared.cmp.Ordering.{Ordering}
use Rattle.std.specs.declared.cmp.Ordering.TheVariants.{Less, Equal, Greater}
use Rattle.std.proofs.lemmas.List.Elements.{All-cons, All-head, All-nil, All-tail}
use Rattle.vol_types.specs.KeyMapLaws.{entries_of-with_update}
use Rattle.vol_types.specs.KeyMaps.{Entries, KeyMap, entries_of, is_update_of, with_update}
use Rattle.vol_types.specs.Maps.{put_at, with_value, without}
use Rattle.vol_types.specs.PositionLaws.{pos_exact}
use Rattle.vol_types.specs.Positions.{pos_cmp}
use Rattle.vol_types.specs.declared.keys.Update.{Update}
use Rattle.vol_types.specs.declared.positions.Btree.{Btree}
use Rattle.vol_types.specs.declared.positions.Pos.{Pos}
use Rattle.vol_types.specs.declared.values.Value.{Value}

module _ (P : Pos × Value → Type 0) (pos : Pos) where
  all_put : (value : Value) (entries : Entries) → P (pos, value) → All P entries → All P (with_value pos_cmp pos value entries)
  all_put value [] put all = All-cons P (pos, value) [] put (All-nil P)
  all_put value (e ∷ es) put all = by (pos_cmp pos e.0) refl (all_put value es put (All-tail P e es all))
    where
      by : (r : Ordering) → pos_cmp pos e.0 ≡ r → All P (with_value pos_cmp pos value es) → All P (match_ordering r ((pos, value) ∷ e ∷ es) ((e.0, value) ∷ es) (e ∷ with_value pos_cmp pos value es))
      by Less at later = All-cons P (pos, value) (e ∷ es) put all
      by Equal at later = All-cons P (e.0, value) es (subst (λ (p : Pos). P (p, value)) (pos_exact pos e.0 at) put) (All-tail P e es all)
      by Greater at later = All-cons P e (with_value pos_cmp pos value es) (All-head P e es all) later

  all_removed : (entries : Entries) → All P entries → All P (without pos_cmp pos entries)
  all_removed [] all = All-nil P
  all_removed (e ∷ es) all = by (is_at (pos_cmp pos) e.0) (all_removed es (All-tail P e es all))
    where
      by : (b : Bool) → All P (without pos_cmp pos es) → All P (cond b es (e ∷ without pos_cmp pos es))
      by true later = All-tail P e es all
      by false later = All-cons P e (without pos_cmp pos es) (All-head P e es all) later

  -- All entries have it, where all had it and the value that is put has it.
  pub all-put_at : (value : Option Value) (entries : Entries) → ((put : Value) → value ≡ Some put → P (pos, put)) → All P entries → All P (put_at pos_cmp pos value entries)
  all-put_at None entries new all = all_removed entries all
  all-put_at (Some value) entries new all = all_put value entries (new value refl) all

-- So each btree's entries have what they had after an update, where the update has it if it is of this btree.
pub all-with_update : (P : Pos × Value → Type 0) (update : Update) (keys : KeyMap) (btree : Btree) → (is_update_of btree update ≡ true → (put : Value) → update.value ≡ Some put → P (update.pos, put)) → All P (entries_of keys btree) → All P (entries_of (with_update update keys) btree)
all-with_update P update keys btree new all = subst (All P) (sym (entries_of-with_update update keys btree)) (by (is_update_of btree update) refl)
  where
    by : (b : Bool) → is_update_of btree update ≡ b → All P (cond b (put_at pos_cmp update.pos update.value (entries_of keys btree)) (entries_of keys btree))
    by true is = all-put_at P update.pos update.value (entries_of keys btree) (new is) all
    by false is = all
