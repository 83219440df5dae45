-- What shows in a volume whose keys are in range is in range, and in a sound one names stand under their slots.
use Rattle.std.proofs.Common.{◌≡◌, ℕ, Bool, true, false, cond, Option, Some, None, List, [], ◌∷◌, refl, ◌∙◌, subst}
use Rattle.std.specs.Prelude.{All}
use Rattle.std.specs.BTreeMap.{is_at}
use Rattle.std.specs.Option.{option_or}
use Rattle.std.proofs.lemmas.List.Elements.{All-cons, All-head, All-nil, All-tail}
use Rattle.std.proofs.lemmas.Option.{same_Some, none-some as none_some}
use Rattle.dirent_keys.proofs.Counting.{refused_alike}
use Rattle.dirent_keys.proofs.Seeing.{may_share}
use Rattle.dirent_keys.specs.Names.{refusal_of, step_to_add}
use Rattle.key_meaning.specs.Checks.{AreNamesJoined, IsLiveLeaf, IsNameJoined}
use Rattle.key_meaning.specs.Forest.{links_in, names_in}
use Rattle.key_meaning.specs.Tidy.{AreKeysDrawn, IsKeyOf}
use Rattle.key_meaning.specs.Visible.{first_value, own_value, shown, snaps_of, visible}
use Rattle.plain_forest.specs.Steps.{check_name}
use Rattle.snap_tree.specs.Snaps.{chain_of}
use Rattle.vol_digest.specs.Digests.{slot_of}
use Rattle.vol_types.specs.KeyMaps.{Entries, KeyMap, entries_of}
use Rattle.vol_types.specs.Maps.{value_at}
use Rattle.vol_types.specs.Positions.{pos_cmp}
use Rattle.vol_types.specs.Ranges.{IsKeyValue, IsValue}
use Rattle.vol_types.specs.declared.positions.Btree.{Btree}
use Rattle.vol_types.specs.declared.positions.Btree.TheVariants.{Dirents}
use Rattle.vol_types.specs.declared.positions.Pos.{Pos}
use Rattle.vol_types.specs.declared.values.Link.{Link}
use Rattle.vol_types.specs.declared.values.Value.{Value}
use Rattle.vol_types.specs.declared.values.Value.TheVariants as values

-- what is found among entries has what all have
found_has : (P : Pos × Value → Type 0) (Q : Value → Type 0) → ((e : Pos × Value) → P e → Q e.1) → (pos : Pos) (value : Value) (entries : Entries) → All P entries → value_at pos_cmp pos entries ≡ Some value → Q value
found_has P Q gives pos value [] all found = absurd (none_some value found)
found_has P Q gives pos value (e ∷ es) all found = by (is_at (pos_cmp pos) e.0) found (found_has P Q gives pos value es (All-tail P e es all))
  where
    by : (b : Bool) → cond b (Some e.1) (value_at pos_cmp pos es) ≡ Some value → (value_at pos_cmp pos es ≡ Some value → Q value) → Q value
    by true here later = subst Q (same_Some e.1 value here) (gives e (All-head P e es all))
    by false here later = later here

module _ (keys : KeyMap) (drawn : AreKeysDrawn keys) (btree : Btree) (inode offset : ℕ) where
  own_in_range : (id : ℕ) (value : Value) → own_value keys btree inode offset id ≡ Some value → IsValue value
  own_in_range id value found = found_has (IsKeyOf keys btree) IsValue (λ e is. is.in_range) (record { inode = inode; offset = offset; snapshot = id }) value (entries_of keys btree) (drawn.each btree) found

  first_in_range : (ids : List ℕ) (value : Value) → first_value keys btree inode offset ids ≡ Some value → IsValue value
  first_in_range [] value found = absurd (none_some value found)
  first_in_range (id ∷ ids) value found = by (own_value keys btree inode offset id) refl found (first_in_range ids value)
    where
      by : (own : Option Value) → own_value keys btree inode offset id ≡ own → option_or own (first_value keys btree inode offset ids) ≡ Some value → (first_value keys btree inode offset ids ≡ Some value → IsValue value) → IsValue value
      by None is here later = later here
      by (Some x) is here later = own_in_range id value (is ∙ here)

  -- What shows is in range.
  pub shown_in_range : (id : ℕ) → IsKeyValue (visible keys btree inode offset id)
  shown_in_range id = by (first_value keys btree inode offset (chain_of (snaps_of keys) id)) (first_in_range (chain_of (snaps_of keys) id))
    where
      by : (o : Option Value) → ((value : Value) → o ≡ Some value → IsValue value) → IsKeyValue (shown o)
      by None fits = tt
      by (Some values.White) fits = tt
      by (Some value) fits = fits value refl

-- Names that are joined stand under their slot.
pub under_slot : (keys : KeyMap) (id directory slot : ℕ) (links : List Link) → All (IsNameJoined keys id directory slot) links → All (λ link. slot_of link.name ≡ slot) links
under_slot keys id directory slot [] joined = All-nil (λ (link : Link). slot_of link.name ≡ slot)
under_slot keys id directory slot (link ∷ links) joined =
    All-cons (λ (l : Link). slot_of l.name ≡ slot) link links (All-head (IsNameJoined keys id directory slot) link links joined).under_slot (under_slot keys id directory slot links (All-tail (IsNameJoined keys id directory slot) link links joined))

-- So the forest refuses a name as adding it is refused.
pub sound_refused : (keys : KeyMap) (id directory : ℕ) (link : Link) → AreKeysDrawn keys → AreNamesJoined keys → IsLiveLeaf keys id → check_name link.name (names_in keys id directory) ≡ refusal_of (step_to_add keys id directory link)
sound_refused keys id directory link drawn joined live =
    refused_alike keys id directory link (may_share (visible keys Dirents directory (slot_of link.name) id) (shown_in_range keys drawn Dirents directory (slot_of link.name) id)).rise
    (under_slot keys id directory (slot_of link.name) (links_in keys id directory (slot_of link.name)) (joined.each id directory (slot_of link.name) live))
