-- What updates of ids, subvolumes and counters leave as it was, and that their keys are keys of their btrees.
use Rattle.std.proofs.Common.{◌≡◌, ℕ, ◌<◌, ◌≤◌, ◌^◌, Bool, true, false, cond, Option, Some, List, [], ◌∷◌, refl, sym, ap, ◌∙◌, subst, arith}
use Rattle.std.specs.Prelude.{◌==◌, All}
use Rattle.std.specs.BTreeMap.{is_at}
use Rattle.std.specs.Ordering.{is_eq}
use Rattle.std.proofs.lemmas.Bool.{eqb-true}
use Rattle.std.proofs.lemmas.List.Elements.{All-head, All-nil, All-tail, All-weaker}
use Rattle.std.proofs.lemmas.Option.{same_Some, none-some as none_some}
use Rattle.id_steps.proofs.Slots.{sub_in_slot}
use Rattle.id_steps.specs.Changes.{KeepsFiles}
use Rattle.id_steps.specs.Entries.{PutsSub, counter_update, sub_of, subs_update, subs_value}
use Rattle.key_meaning.specs.CounterLaws.{entries_other, is_key_of-still}
use Rattle.key_meaning.specs.EntryLaws.{all-with_update}
use Rattle.key_meaning.specs.Forest.{subs_in, subs_of}
use Rattle.key_meaning.specs.KeptLaws.{all_from_in}
use Rattle.key_meaning.specs.SoundLaws.{all_in, found_in}
use Rattle.key_meaning.specs.TableLaws.{same_key}
use Rattle.key_meaning.specs.Tidy.{AreNamesGood, IsDrawn, IsKeyOf, id_counter}
use Rattle.plain_forest.specs.Names.{is_good_subvolume_name}
use Rattle.snap_tree.specs.Splits.{snap_update}
use Rattle.vol_digest.specs.Digests.{slot_of}
use Rattle.vol_types.specs.Btrees.{btree_code}
use Rattle.vol_types.specs.KeyMaps.{KeyMap, entries_of, is_update_of, with_update}
use Rattle.vol_types.specs.Maps.{value_at}
use Rattle.vol_types.specs.Positions.{pos_cmp}
use Rattle.vol_types.specs.PositionLaws.{pos_exact}
use Rattle.vol_types.specs.Ranges.{IsKeyValue, name_cmp}
use Rattle.vol_types.specs.declared.keys.Update.{Update}
use Rattle.vol_types.specs.declared.positions.Btree.{Btree}
use Rattle.vol_types.specs.declared.positions.Btree.TheVariants.{Extents, Inodes, Dirents, Subvols, Snapshots, Alloc, Backptrs, Deleted, Counters}
use Rattle.vol_types.specs.declared.positions.Pos.{Pos}
use Rattle.vol_types.specs.declared.values.Snap.{Snap}
use Rattle.vol_types.specs.declared.values.Sub.{Sub}
use Rattle.vol_types.specs.declared.values.Value.{Value}
use Rattle.vol_types.specs.declared.values.Value.TheVariants as values

-- The update is of ids, subvolumes or counters: of none of the other btrees.
pub record IsOfNoFile (update : Update) : Type 0 where
  extents : is_update_of Extents update ≡ false
  inodes : is_update_of Inodes update ≡ false
  dirents : is_update_of Dirents update ≡ false
  alloc : is_update_of Alloc update ≡ false
  backptrs : is_update_of Backptrs update ≡ false
  deleted : is_update_of Deleted update ≡ false

pub snap_of_none : (id : ℕ) (snap : Snap) → IsOfNoFile (snap_update id snap)
snap_of_none id snap = record { extents = refl; inodes = refl; dirents = refl; alloc = refl; backptrs = refl; deleted = refl }

pub subs_of_none : (slot : ℕ) (subs : List Sub) → IsOfNoFile (subs_update slot subs)
subs_of_none slot subs = record { extents = refl; inodes = refl; dirents = refl; alloc = refl; backptrs = refl; deleted = refl }

pub counter_of_none : (counter next : ℕ) → IsOfNoFile (counter_update counter next)
counter_of_none counter next = record { extents = refl; inodes = refl; dirents = refl; alloc = refl; backptrs = refl; deleted = refl }

-- Such an update keeps the keys of files,
pub keeps_one : (update : Update) (keys : KeyMap) → IsOfNoFile update → KeepsFiles keys (with_update update keys)
keeps_one update keys of = record {
  files = record { extents = entries_other update keys Extents of.extents; inodes = entries_other update keys Inodes of.inodes; dirents = entries_other update keys Dirents of.dirents };
  deleted = entries_other update keys Deleted of.deleted;
  alloc = entries_other update keys Alloc of.alloc;
  backptrs = entries_other update keys Backptrs of.backptrs;
}

-- and so do several.
pub keeps_then : (keys middle new : KeyMap) → KeepsFiles keys middle → KeepsFiles middle new → KeepsFiles keys new
keeps_then keys middle new first second = record {
  files = record { extents = second.files.extents ∙ first.files.extents; inodes = second.files.inodes ∙ first.files.inodes; dirents = second.files.dirents ∙ first.files.dirents };
  deleted = second.deleted ∙ first.deleted;
  alloc = second.alloc ∙ first.alloc;
  backptrs = second.backptrs ∙ first.backptrs;
}

-- the btree with a number
btree_with : ℕ → Btree
btree_with n =
    cond (n == 0) Extents (cond (n == 1) Inodes (cond (n == 2) Dirents (cond (n == 3) Subvols (cond (n == 4) Snapshots (cond (n == 5) Alloc (cond (n == 6) Backptrs (cond (n == 7) Deleted Counters)))))))

btree_found : (btree : Btree) → btree_with (btree_code btree) ≡ btree
unfolding btree_with
btree_found Extents = refl
btree_found Inodes = refl
btree_found Dirents = refl
btree_found Subvols = refl
btree_found Snapshots = refl
btree_found Alloc = refl
btree_found Backptrs = refl
btree_found Deleted = refl
btree_found Counters = refl

-- What holds of a btree holds of each that has its number.
pub of_this_one : (P : Btree → Type 0) (one other : Btree) → P one → (btree_code one == btree_code other) ≡ true → P other
of_this_one P one other holds of = subst P (sym (btree_found one) ∙ ap btree_with (eqb-true (btree_code one) (btree_code other) of) ∙ btree_found other) holds

-- All keys of the second key map are keys of their btrees by what is drawn in the first one.
abbrev pub AreKeysBy : KeyMap → KeyMap → Type 0
AreKeysBy base keys = (btree : Btree) → All (IsKeyOf base btree) (entries_of keys btree)

-- The value of an update is a key of a btree, by what is drawn.
abbrev pub IsPutBy : KeyMap → Update → Type 0
IsPutBy base update = (btree : Btree) → is_update_of btree update ≡ true → (put : Value) → update.value ≡ Some put → IsKeyOf base btree (update.pos, put)

-- Keys stay so where one is put.
pub keyed_then : (base keys : KeyMap) (update : Update) → IsPutBy base update → AreKeysBy base keys → AreKeysBy base (with_update update keys)
keyed_then base keys update put was = λ btree. all-with_update (IsKeyOf base btree) update keys btree (put btree) (was btree)

-- They are keys by what is drawn elsewhere too, if that is no less.
pub keyed_still : (base new keys : KeyMap) → ((number : ℕ) → IsDrawn base number → IsDrawn new number) → AreKeysBy base keys → AreKeysBy new keys
keyed_still base new keys still was = λ btree. All-weaker (IsKeyOf base btree) (IsKeyOf new btree) (is_key_of-still base new still btree) (entries_of keys btree) (was btree)

-- The record of an id is a key,
pub snap_put : (base : KeyMap) (id : ℕ) (snap : Snap) → id < 2 ^ 32 → IsPutBy base (snap_update id snap)
snap_put base id snap small = λ btree of put at. of_this_one (λ b. IsKeyOf base b (record { inode = 0; offset = id; snapshot = 0 }, put)) Snapshots btree
    (subst (λ (v : Value). IsKeyOf base Snapshots (record { inode = 0; offset = id; snapshot = 0 }, v)) (same_Some (values.Snap snap) put at)
    (record { stands = record { in_leaf = λ at. refl; above = λ (lt : 0 < 0). absurd (omega (arith, lt)) }; in_range = tt; place = (refl, refl, small); id = omega arith; numbers = tt })) of

-- and so is a counter,
pub counter_put : (base : KeyMap) (counter next : ℕ) → counter ≤ id_counter → IsPutBy base (counter_update counter next)
counter_put base counter next le = λ btree of put at. of_this_one (λ b. IsKeyOf base b (record { inode = 0; offset = counter; snapshot = 0 }, put)) Counters btree
    (subst (λ (v : Value). IsKeyOf base Counters (record { inode = 0; offset = counter; snapshot = 0 }, v)) (same_Some (values.Counter next) put at)
    (record { stands = record { in_leaf = λ at. refl; above = λ (lt : 0 < 0). absurd (omega (arith, lt)) }; in_range = tt; place = (refl, refl, le); id = omega arith; numbers = tt })) of

-- and what a slot holds, where the roots are drawn.
pub subs_put : (base : KeyMap) (slot : ℕ) (subs : List Sub) → IsKeyValue (subs_value subs) → All (λ (sub : Sub). IsDrawn base sub.root) subs → IsPutBy base (subs_update slot subs)
subs_put base slot [] fits drawn = λ btree of put at. absurd (none_some put at)
subs_put base slot (sub ∷ subs) fits drawn = λ btree of put at. of_this_one (λ b. IsKeyOf base b (record { inode = 0; offset = slot; snapshot = 0 }, put)) Subvols btree
    (subst (λ (v : Value). IsKeyOf base Subvols (record { inode = 0; offset = slot; snapshot = 0 }, v)) (same_Some (values.Subs (sub ∷ subs)) put at)
    (record { stands = record { in_leaf = λ at. refl; above = λ (lt : 0 < 0). absurd (omega (arith, lt)) }; in_range = fits; place = (refl, refl); id = omega arith; numbers = drawn })) of

-- What the subvolumes of all entries have, those of a slot have.
pub slot_has : (P : Pos → Sub → Type 0) (keys : KeyMap) (slot : ℕ) → All (λ (entry : Pos × Value). All (P entry.0) (subs_of (Some entry.1))) keys.subvols → All (P (record { inode = 0; offset = slot; snapshot = 0 })) (subs_in keys slot)
slot_has P keys slot all = over keys.subvols all
  where
    pos : Pos
    pos = record { inode = 0; offset = slot; snapshot = 0 }

    over : (entries : List (Pos × Value)) → All (λ (entry : Pos × Value). All (P entry.0) (subs_of (Some entry.1))) entries → All (P pos) (subs_of (value_at pos_cmp pos entries))
    over [] has = All-nil (P pos)
    over (e ∷ es) has = by (is_at (pos_cmp pos) e.0) refl (over es (All-tail (λ (entry : Pos × Value). All (P entry.0) (subs_of (Some entry.1))) e es has))
      where
        by : (b : Bool) → is_at (pos_cmp pos) e.0 ≡ b → All (P pos) (subs_of (value_at pos_cmp pos es)) → All (P pos) (subs_of (cond b (Some e.1) (value_at pos_cmp pos es)))
        by true at later = subst (λ (p : Pos). All (P p) (subs_of (Some e.1))) (sym (same_key pos_exact pos e.0 at)) (All-head (λ (entry : Pos × Value). All (P entry.0) (subs_of (Some entry.1))) e es has)
        by false at later = later

-- What the old subvolumes of a slot have and the one that is put, the new ones have.
pub puts_have : (P : Sub → Type 0) (name : List ℕ) (sub : Option Sub) (old new : List Sub) → PutsSub name sub old new → ((put : Sub) → sub ≡ Some put → P put) → All P old → All P new
puts_have P name sub old new puts put was = all_from_in P new (λ other among. by other (is_eq (name_cmp name other.name)) (sym (puts.found other.name) ∙ sub_in_slot new puts.in_range other among))
  where
    by : (other : Sub) (b : Bool) → cond b sub (sub_of other.name old) ≡ Some other → P other
    by other true is = put other is
    by other false is = all_in P other old was (found_in (λ (s : Sub). is_eq (name_cmp other.name s.name)) other old is).0

-- The roots of a slot are drawn,
pub old_roots : (base keys : KeyMap) (slot : ℕ) → All (IsKeyOf base Subvols) keys.subvols → All (λ (sub : Sub). IsDrawn base sub.root) (subs_in keys slot)
old_roots base keys slot keyed = slot_has (λ pos sub. IsDrawn base sub.root) keys slot (All-weaker (IsKeyOf base Subvols) (λ (entry : Pos × Value). All (λ (sub : Sub). IsDrawn base sub.root) (subs_of (Some entry.1))) (λ (entry : Pos × Value) (key : IsKeyOf base Subvols entry). key.numbers) keys.subvols keyed)

-- and its names are good.
pub old_names : (keys : KeyMap) (slot : ℕ) → AreNamesGood keys → All (λ (sub : Sub). (slot_of sub.name ≡ slot) × (is_good_subvolume_name sub.name ≡ true)) (subs_in keys slot)
old_names keys slot named = slot_has (λ pos sub. (slot_of sub.name ≡ pos.offset) × (is_good_subvolume_name sub.name ≡ true)) keys slot named.subvolumes
