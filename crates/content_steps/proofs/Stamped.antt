-- Pointers that get the present generations change no block that shows, and no update of another btree.
use Rattle.std.proofs.Common.{◌≡◌, ℕ, ◌+◌, ◌-◌, Bool, true, false, cond, Option, Some, None, List, [], ◌∷◌, map, refl, sym, ap, ◌∙◌, subst, ⊎_elim}
use Rattle.std.specs.Prelude.{◌&&◌, ◌==◌, All, find, nat_le, nat_lt, option_and_then, option_map, length, slice_index}
use Rattle.std.specs.BTreeMap.{is_at}
use Rattle.std.specs.List.Sorted.{IsStrictlySortedBy}
use Rattle.std.specs.Map.{keys_of}
use Rattle.std.specs.Option.{option_or}
use Rattle.std.proofs.lemmas.Bool.{and_parts, eqb-true}
use Rattle.std.proofs.lemmas.List.Elements.{All-cons, All-head, All-nil, All-tail}
use Rattle.key_meaning.specs.Blocks.{blocks_of, covers, first_cover, is_cover, place_at, shown_of}
use Rattle.key_meaning.specs.CounterLaws.{entries_other}
use Rattle.key_meaning.specs.UpdateLaws.{of_no_other}
use Rattle.key_triggers.specs.Follows.{IsSpaceUpdate}
use Rattle.key_triggers.specs.Stamps.{stamped, stamped_pointer, stamped_value}
use Rattle.vol_types.specs.Btrees.{btree_code}
use Rattle.vol_types.specs.KeyMapLaws.{entries_of-with_update}
use Rattle.vol_types.specs.KeyMaps.{Entries, KeyMap, entries_of, is_update_of, with_update, with_updates}
use Rattle.vol_types.specs.MapLaws.{same_maps}
use Rattle.vol_types.specs.Maps.{IsMap, put_at, value_at}
use Rattle.vol_types.specs.PositionLaws.{pos_exact, pos_total}
use Rattle.vol_types.specs.Positions.{pos_cmp}
use Rattle.vol_types.specs.Standing.{IsUpdate, MayStand, Stands}
use Rattle.vol_types.specs.Values.{IsKindOf, kind_of}
use Rattle.vol_types.specs.declared.keys.Update.{Update}
use Rattle.vol_types.specs.declared.pointers.Pointer.{Pointer}
use Rattle.vol_types.specs.declared.positions.Btree.{Btree}
use Rattle.vol_types.specs.declared.positions.Btree.TheVariants.{Alloc, Backptrs, Counters, Deleted, Dirents, Extents, Inodes, Snapshots, Subvols}
use Rattle.vol_types.specs.declared.positions.Pos.{Pos}
use Rattle.vol_types.specs.declared.values.Extent.{Extent}
use Rattle.vol_types.specs.declared.values.Value.{Value}
use Rattle.vol_types.specs.declared.values.Value.TheVariants as values

-- the btree with a number
btree_with : ℕ → Btree
btree_with n =
    cond (n == 0) Extents (cond (n == 1) Inodes (cond (n == 2) Dirents (cond (n == 3) Subvols (cond (n == 4) Snapshots (cond (n == 5) Alloc (cond (n == 6) Backptrs (cond (n == 7) Deleted Counters)))))))

btree_found : (btree : Btree) → btree_with (btree_code btree) ≡ btree
unfolding btree_with
btree_found Extents = refl
btree_found Inodes = refl
btree_found Dirents = refl
btree_found Subvols = refl
btree_found Snapshots = refl
btree_found Alloc = refl
btree_found Backptrs = refl
btree_found Deleted = refl
btree_found Counters = refl

-- Btrees of one number are one.
pub same_btree : (one other : Btree) → btree_code one ≡ btree_code other → one ≡ other
same_btree one other same = sym (btree_found one) ∙ ap btree_with same ∙ btree_found other

-- An update of a btree is of the level and the btree that it names, where its value may stand.
pub standing : (btree : Btree) (update : Update) (put : Value) → is_update_of btree update ≡ true → IsUpdate update → update.value ≡ Some put → MayStand btree 0 put
standing btree update put of may at =
    let parts = and_parts (update.level == 0) (btree_code update.btree == btree_code btree) of in
    let leaf : update.level ≡ 0 = eqb-true update.level 0 parts.0 in
    let here : update.btree ≡ btree = same_btree update.btree btree (eqb-true (btree_code update.btree) (btree_code btree) parts.1) in
    subst (λ (b : Btree). MayStand b 0 put) here (subst (λ (n : ℕ). MayStand update.btree n put) leaf (subst (Stands update.btree update.level) at may.stands))

module _ (keys : KeyMap) where
  -- the entry, of whose value each pointer has the present generation
  abbrev pub stamped_entry : Pos × Value → Pos × Value
  stamped_entry entry = (entry.0, stamped_value keys entry.1)

  -- a value that is no extent is as it was
  unstamped : (btree : Btree) → ((extent : Extent) → IsKindOf btree (kind_of (values.Extent extent)) → ⊥) → (value : Value) → IsKindOf btree (kind_of value) → stamped_value keys value ≡ value
  unstamped btree none (values.Extent extent) kind = absurd (none extent kind)
  unstamped btree none (values.Inode inode) kind = refl
  unstamped btree none (values.Names links) kind = refl
  unstamped btree none (values.Hole blocks) kind = refl
  unstamped btree none values.White kind = refl
  unstamped btree none (values.Subs subs) kind = refl
  unstamped btree none (values.Snap snap) kind = refl
  unstamped btree none (values.Live live) kind = refl
  unstamped btree none (values.Back extent) kind = refl
  unstamped btree none values.Gone kind = refl
  unstamped btree none (values.Counter next) kind = refl
  unstamped btree none (values.Node node) kind = refl

  module _ (btree : Btree) (none : (extent : Extent) → IsKindOf btree (kind_of (values.Extent extent)) → ⊥) where
    same_value : (update : Update) → IsUpdate update → is_update_of btree update ≡ true → option_map (stamped_value keys) update.value ≡ update.value
    same_value update may of = by update.value refl
      where
        by : (value : Option Value) → update.value ≡ value → option_map (stamped_value keys) value ≡ value
        by None at = refl
        by (Some put) at = ap Some (unstamped btree none put ((standing btree update put of may at).in_leaf refl))

    -- In a btree without extents updates have the same effect.
    pub stamps_alike : (updates : List Update) → All IsUpdate updates → (one other : KeyMap) → entries_of one btree ≡ entries_of other btree → entries_of (with_updates (map (stamped keys) updates) one) btree ≡ entries_of (with_updates updates other) btree
    stamps_alike [] may one other same = same
    stamps_alike (update ∷ updates) may one other same =
        stamps_alike updates (All-tail IsUpdate update updates may) (with_update (stamped keys update) one) (with_update update other)
        (entries_of-with_update (stamped keys update) one btree ∙ by (is_update_of btree update) refl ∙ sym (entries_of-with_update update other btree))
      where
        by : (b : Bool) → is_update_of btree update ≡ b → cond b (put_at pos_cmp update.pos (option_map (stamped_value keys) update.value) (entries_of one btree)) (entries_of one btree) ≡ cond b (put_at pos_cmp update.pos update.value (entries_of other btree)) (entries_of other btree)
        by true of = let value = same_value update (All-head IsUpdate update updates may) of in λ i. put_at pos_cmp update.pos (value i) (same i)
        by false of = same

  -- Updates of keys on space leave the other btrees.
  pub space_leaves : (btree : Btree) → (btree_code Alloc == btree_code btree) ≡ false → (btree_code Backptrs == btree_code btree) ≡ false → (updates : List Update) → All IsSpaceUpdate updates → (map : KeyMap) → entries_of (with_updates updates map) btree ≡ entries_of map btree
  space_leaves btree no_bucket no_block [] space map = refl
  space_leaves btree no_bucket no_block (update ∷ updates) space map =
      space_leaves btree no_bucket no_block updates (All-tail IsSpaceUpdate update updates space) (with_update update map)
      ∙ entries_other update map btree (⊎_elim (λ (of : is_update_of Alloc update ≡ true). of_no_other update Alloc btree of no_bucket) (λ (of : is_update_of Backptrs update ≡ true). of_no_other update Backptrs btree of no_block) (All-head IsSpaceUpdate update updates space))

  value_at-stamped : (entries : Entries) (pos : Pos) → value_at pos_cmp pos (map stamped_entry entries) ≡ option_map (stamped_value keys) (value_at pos_cmp pos entries)
  value_at-stamped [] pos = refl
  value_at-stamped (entry ∷ entries) pos = ap (λ (o : Option Value). cond (is_at (pos_cmp pos) entry.0) (Some (stamped_value keys entry.1)) o) (value_at-stamped entries pos) ∙ by (is_at (pos_cmp pos) entry.0)
    where
      by : (b : Bool) → cond b (Some (stamped_value keys entry.1)) (option_map (stamped_value keys) (value_at pos_cmp pos entries)) ≡ option_map (stamped_value keys) (cond b (Some entry.1) (value_at pos_cmp pos entries))
      by true = refl
      by false = refl

  keys_of-stamped : (entries : Entries) → keys_of (map stamped_entry entries) ≡ keys_of entries
  keys_of-stamped [] = refl
  keys_of-stamped (entry ∷ entries) = ap (λ ks. entry.0 ∷ ks) (keys_of-stamped entries)

  -- Entries that have the stamped values of others are those, stamped.
  pub stamped_entries : (entries planned : Entries) → IsMap pos_cmp entries → IsMap pos_cmp planned → ((pos : Pos) → value_at pos_cmp pos entries ≡ option_map (stamped_value keys) (value_at pos_cmp pos planned)) → entries ≡ map stamped_entry planned
  stamped_entries entries planned is map_of same =
      same_maps pos_total pos_exact entries (map stamped_entry planned) is (subst (IsStrictlySortedBy pos_cmp) (sym (keys_of-stamped planned)) map_of) (λ pos. same pos ∙ sym (value_at-stamped planned pos))

  -- A stamped value covers the same blocks,
  pub blocks-stamped : (value : Value) → blocks_of (stamped_value keys value) ≡ blocks_of value
  blocks-stamped (values.Extent extent) = refl
  blocks-stamped (values.Inode inode) = refl
  blocks-stamped (values.Names links) = refl
  blocks-stamped (values.Hole blocks) = refl
  blocks-stamped values.White = refl
  blocks-stamped (values.Subs subs) = refl
  blocks-stamped (values.Snap snap) = refl
  blocks-stamped (values.Live live) = refl
  blocks-stamped (values.Back extent) = refl
  blocks-stamped values.Gone = refl
  blocks-stamped (values.Counter next) = refl
  blocks-stamped (values.Node node) = refl

  pub covers-stamped : (end : ℕ) (value : Value) (block : ℕ) → covers end (stamped_value keys value) block ≡ covers end value block
  covers-stamped end value block = ap (λ n. nat_lt block end && nat_le end (block + n)) (blocks-stamped value)

  places_same : (index : ℕ) (pointers : List Pointer) → map (place_at index) (map (stamped_pointer keys) pointers) ≡ map (place_at index) pointers
  places_same index [] = refl
  places_same index (pointer ∷ pointers) = ap (λ places. place_at index pointer ∷ places) (places_same index pointers)

  -- and shows them.
  shown-stamped : (block : ℕ) (pos : Pos) (value : Value) → shown_of block (pos, stamped_value keys value) ≡ shown_of block (pos, value)
  shown-stamped block pos (values.Extent extent) = λ i. Some (record { places = places_same (block - (pos.offset - length extent.digests)) extent.pointers i; digest = slice_index extent.digests (block - (pos.offset - length extent.digests)) })
  shown-stamped block pos (values.Inode inode) = refl
  shown-stamped block pos (values.Names links) = refl
  shown-stamped block pos (values.Hole blocks) = refl
  shown-stamped block pos values.White = refl
  shown-stamped block pos (values.Subs subs) = refl
  shown-stamped block pos (values.Snap snap) = refl
  shown-stamped block pos (values.Live live) = refl
  shown-stamped block pos (values.Back extent) = refl
  shown-stamped block pos values.Gone = refl
  shown-stamped block pos (values.Counter next) = refl
  shown-stamped block pos (values.Node node) = refl

  find-stamped : (id file block : ℕ) (entries : Entries) → find (is_cover id file block) (map stamped_entry entries) ≡ option_map stamped_entry (find (is_cover id file block) entries)
  find-stamped id file block [] = refl
  find-stamped id file block (entry ∷ entries) =
      (λ i. cond (entry.0.inode == file && entry.0.snapshot == id && covers-stamped entry.0.offset entry.1 block i) (Some (stamped_entry entry)) (find-stamped id file block entries i))
      ∙ by (is_cover id file block entry)
    where
      by : (b : Bool) → cond b (Some (stamped_entry entry)) (option_map stamped_entry (find (is_cover id file block) entries)) ≡ option_map stamped_entry (cond b (Some entry) (find (is_cover id file block) entries))
      by true = refl
      by false = refl

  module _ (one other : KeyMap) (extents : one.extents ≡ map stamped_entry other.extents) where
    first-stamped : (file block : ℕ) (ids : List ℕ) → first_cover one file block ids ≡ option_map stamped_entry (first_cover other file block ids)
    first-stamped file block [] = refl
    first-stamped file block (id ∷ ids) =
        (λ i. option_or ((ap (find (is_cover id file block)) extents ∙ find-stamped id file block other.extents) i) (first-stamped file block ids i)) ∙ by (find (is_cover id file block) other.extents)
      where
        by : (own : Option (Pos × Value)) → option_or (option_map stamped_entry own) (option_map stamped_entry (first_cover other file block ids)) ≡ option_map stamped_entry (option_or own (first_cover other file block ids))
        by None = refl
        by (Some entry) = refl

    -- So ids of the same chain show the same blocks.
    pub blocks_alike : (file block : ℕ) (ids : List ℕ) → option_and_then (shown_of block) (first_cover one file block ids) ≡ option_and_then (shown_of block) (first_cover other file block ids)
    blocks_alike file block ids = ap (option_and_then (shown_of block)) (first-stamped file block ids) ∙ by (first_cover other file block ids)
      where
        by : (found : Option (Pos × Value)) → option_and_then (shown_of block) (option_map stamped_entry found) ≡ option_and_then (shown_of block) found
        by None = refl
        by (Some entry) = shown-stamped block entry.0 entry.1

    -- What holds of the position of each holds of the position of each stamped one,
    pub positions_alike : (Q : Pos → Type 0) → All (λ (entry : Pos × Value). Q entry.0) other.extents → All (λ (entry : Pos × Value). Q entry.0) one.extents
    positions_alike Q all = subst (All (λ (entry : Pos × Value). Q entry.0)) (sym extents) (each other.extents all)
      where
        each : (entries : Entries) → All (λ (entry : Pos × Value). Q entry.0) entries → All (λ (entry : Pos × Value). Q entry.0) (map stamped_entry entries)
        each [] all = All-nil (λ (entry : Pos × Value). Q entry.0)
        each (entry ∷ entries) all = All-cons (λ (e : Pos × Value). Q e.0) (stamped_entry entry) (map stamped_entry entries) (All-head (λ (e : Pos × Value). Q e.0) entry entries all) (each entries (All-tail (λ (e : Pos × Value). Q e.0) entry entries all))

    -- and so does what holds of its end and of how many blocks it covers.
    pub rooms_alike : (Q : ℕ → ℕ → Type 0) → All (λ (entry : Pos × Value). Q (blocks_of entry.1) entry.0.offset) other.extents → All (λ (entry : Pos × Value). Q (blocks_of entry.1) entry.0.offset) one.extents
    rooms_alike Q all = subst (All (λ (entry : Pos × Value). Q (blocks_of entry.1) entry.0.offset)) (sym extents) (each other.extents all)
      where
        each : (entries : Entries) → All (λ (entry : Pos × Value). Q (blocks_of entry.1) entry.0.offset) entries → All (λ (entry : Pos × Value). Q (blocks_of entry.1) entry.0.offset) (map stamped_entry entries)
        each [] all = All-nil (λ (entry : Pos × Value). Q (blocks_of entry.1) entry.0.offset)
        each (entry ∷ entries) all = All-cons (λ (e : Pos × Value). Q (blocks_of e.1) e.0.offset) (stamped_entry entry) (map stamped_entry entries)
            (subst (λ n. Q n entry.0.offset) (sym (blocks-stamped entry.1)) (All-head (λ (e : Pos × Value). Q (blocks_of e.1) e.0.offset) entry entries all)) (each entries (All-tail (λ (e : Pos × Value). Q (blocks_of e.1) e.0.offset) entry entries all))
