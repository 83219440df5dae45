-- What a block of a file belongs to, by look-ups and after an update.
use Rattle.std.proofs.Common.{◌≡◌, ℕ, Bool, true, false, cond, Option, Some, None, List, [], ◌∷◌, refl, sym, ap, ◌∙◌}
use Rattle.std.specs.Prelude.{◌&&◌, ◌==◌, nat_eq, find, option_and_then}
use Rattle.std.specs.BTreeMap.{is_at}
use Rattle.std.specs.List.{list_any}
use Rattle.std.specs.Option.{option_or}
use Rattle.std.specs.Ordering.{match_ordering}
use Rattle.std.specs.declared.cmp.Ordering.{Ordering}
use Rattle.std.specs.declared.cmp.Ordering.TheVariants.{Less, Equal, Greater}
use Rattle.std.proofs.lemmas.Bool.{true≢false}
use Rattle.snap_tree.specs.Snaps.{chain_of, is_ancestor_of}
use Rattle.vol_types.specs.KeyMapLaws.{entries_of-with_update}
use Rattle.vol_types.specs.KeyMaps.{Entries, IsKeyMap, KeyMap, is_update_of, with_update}
use Rattle.vol_types.specs.Maps.{put_at, with_value, without}
use Rattle.vol_types.specs.PositionLaws.{pos_exact}
use Rattle.vol_types.specs.Positions.{pos_cmp}
use Rattle.vol_types.specs.declared.keys.Update.{Update}
use Rattle.vol_types.specs.declared.positions.Btree.TheVariants.{Extents, Snapshots}
use Rattle.vol_types.specs.declared.positions.Pos.{Pos}
use Rattle.vol_types.specs.declared.values.Value.{Value}
use Rattle.key_meaning.specs.Blocks.{block_in, covers, first_cover, is_cover, own_cover, shown_of}
use Rattle.key_meaning.specs.TableLaws.{same_key}
use Rattle.key_meaning.specs.Visible.{snaps_of}
use Rattle.key_meaning.specs.VisibleLaws.{neither, snaps_of-with_update}

-- Where no entry at a position passes a test, a value put there or removed leaves what is found.
pub find-put_at : (test : Pos × Value → Bool) (pos : Pos) → ((value : Value) → test (pos, value) ≡ false) → (value : Option Value) (entries : Entries) → find test (put_at pos_cmp pos value entries) ≡ find test entries
find-put_at test pos fails None entries = removed entries
  where
    removed : (entries : Entries) → find test (without pos_cmp pos entries) ≡ find test entries
    removed [] = refl
    removed (e ∷ es) = by (is_at (pos_cmp pos) e.0) refl (removed es)
      where
        by : (b : Bool) → is_at (pos_cmp pos) e.0 ≡ b → find test (without pos_cmp pos es) ≡ find test es → find test (cond b es (e ∷ without pos_cmp pos es)) ≡ cond (test e) (Some e) (find test es)
        by true at later = ap (λ b. cond b (Some e) (find test es)) (sym (ap (λ (p : Pos). test (p, e.1)) (sym (same_key pos_exact pos e.0 at)) ∙ fails e.1))
        by false at later = ap (cond (test e) (Some e)) later
find-put_at test pos fails (Some value) entries = put entries
  where
    put : (entries : Entries) → find test (with_value pos_cmp pos value entries) ≡ find test entries
    put [] = ap (λ b. cond b (Some (pos, value)) None) (fails value)
    put (e ∷ es) = by (pos_cmp pos e.0) refl (put es)
      where
        at_entry : pos_cmp pos e.0 ≡ Equal → (v : Value) → test (e.0, v) ≡ false
        at_entry same v = ap (λ (p : Pos). test (p, v)) (sym (pos_exact pos e.0 same)) ∙ fails v

        by : (r : Ordering) → pos_cmp pos e.0 ≡ r → find test (with_value pos_cmp pos value es) ≡ find test es
            → find test (match_ordering r ((pos, value) ∷ e ∷ es) ((e.0, value) ∷ es) (e ∷ with_value pos_cmp pos value es)) ≡ cond (test e) (Some e) (find test es)
        by Less at later = ap (λ b. cond b (Some (pos, value)) (cond (test e) (Some e) (find test es))) (fails value)
        by Equal at later = ap (λ b. cond b (Some (e.0, value)) (find test es)) (at_entry at value) ∙ ap (λ b. cond b (Some e) (find test es)) (sym (at_entry at e.1))
        by Greater at later = ap (cond (test e) (Some e)) later

module _ (update : Update) (keys : KeyMap) (is : IsKeyMap keys) (other : is_update_of Snapshots update ≡ false) where
  extents_after : (with_update update keys).extents ≡ cond (is_update_of Extents update) (put_at pos_cmp update.pos update.value keys.extents) keys.extents
  extents_after = entries_of-with_update update keys Extents

  -- An update of another btree than the extents leaves what each block belongs to.
  pub block_in-other : is_update_of Extents update ≡ false → (id file block : ℕ) → block_in (with_update update keys) id file block ≡ block_in keys id file block
  block_in-other apart id file block =
      ap (λ snaps. option_and_then (shown_of block) (first_cover (with_update update keys) file block (chain_of snaps id))) (snaps_of-with_update update keys is other)
      ∙ ap (option_and_then (shown_of block)) (same (chain_of (snaps_of keys) id))
    where
      same : (ids : List ℕ) → first_cover (with_update update keys) file block ids ≡ first_cover keys file block ids
      same [] = refl
      same (a ∷ ids) = λ i. option_or (find (is_cover a file block) ((extents_after ∙ ap (λ b. cond b (put_at pos_cmp update.pos update.value keys.extents) keys.extents) apart) i)) (same ids i)

  -- Ids that the update isn't of have the extents and holes that they had, and so has each other file.
  pub own_cover-elsewhere : (file block id : ℕ) → (update.pos.inode == file && update.pos.snapshot == id) ≡ false → own_cover (with_update update keys) file block id ≡ own_cover keys file block id
  own_cover-elsewhere file block id apart = ap (find (is_cover id file block)) extents_after ∙ by (is_update_of Extents update)
    where
      shut : (a b c : Bool) → (a && b) ≡ false → (a && b && c) ≡ false
      shut true true c none = absurd (true≢false none)
      shut true false c none = refl
      shut false b c none = refl

      by : (b : Bool) → find (is_cover id file block) (cond b (put_at pos_cmp update.pos update.value keys.extents) keys.extents) ≡ find (is_cover id file block) keys.extents
      by true = find-put_at (is_cover id file block) update.pos (λ value. shut (update.pos.inode == file) (update.pos.snapshot == id) (covers update.pos.offset value block) apart) update.value keys.extents
      by false = refl

  first_cover-elsewhere : (file block : ℕ) (ids : List ℕ) → list_any (nat_eq update.pos.snapshot) ids ≡ false → first_cover (with_update update keys) file block ids ≡ first_cover keys file block ids
  first_cover-elsewhere file block [] none = refl
  first_cover-elsewhere file block (id ∷ ids) none =
      let parts = neither (update.pos.snapshot == id) (list_any (nat_eq update.pos.snapshot) ids) none in
      λ i. option_or (own_cover-elsewhere file block id (ap (λ b. update.pos.inode == file && b) parts.0 ∙ nothing (update.pos.inode == file)) i) (first_cover-elsewhere file block ids parts.1 i)
    where
      nothing : (b : Bool) → (b && false) ≡ false
      nothing true = refl
      nothing false = refl

  -- An id whose chain the update's id isn't in shows the blocks that it showed.
  pub block_in-elsewhere : (id file block : ℕ) → is_ancestor_of (snaps_of keys) update.pos.snapshot id ≡ false → block_in (with_update update keys) id file block ≡ block_in keys id file block
  block_in-elsewhere id file block apart =
      ap (λ snaps. option_and_then (shown_of block) (first_cover (with_update update keys) file block (chain_of snaps id))) (snaps_of-with_update update keys is other)
      ∙ ap (option_and_then (shown_of block)) (first_cover-elsewhere file block (chain_of (snaps_of keys) id) apart)

  -- Each id shows the blocks of other files that it showed.
  pub block_in-other_file : (id file block : ℕ) → (update.pos.inode == file) ≡ false → block_in (with_update update keys) id file block ≡ block_in keys id file block
  block_in-other_file id file block apart =
      ap (λ snaps. option_and_then (shown_of block) (first_cover (with_update update keys) file block (chain_of snaps id))) (snaps_of-with_update update keys is other)
      ∙ ap (option_and_then (shown_of block)) (same (chain_of (snaps_of keys) id))
    where
      same : (ids : List ℕ) → first_cover (with_update update keys) file block ids ≡ first_cover keys file block ids
      same [] = refl
      same (a ∷ ids) = λ i. option_or (own_cover-elsewhere file block a (ap (λ b. b && update.pos.snapshot == a) apart) i) (same ids i)
