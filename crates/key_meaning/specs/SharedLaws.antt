-- Ids that show the same because they share keys: those of one chain, and a new child without keys of its own.
use Rattle.std.proofs.Common.{◌≡◌, ℕ, Bool, true, false, cond, Some, None, List, [], ◌∷◌, refl, sym, ap, ◌∙◌}
use Rattle.std.specs.Prelude.{◌≢◌, ◌&&◌, ◌==◌, All, find, option_and_then}
use Rattle.std.specs.BTreeMap.{is_at}
use Rattle.std.specs.Option.{option_or}
use Rattle.std.proofs.lemmas.Bool.{ne_eqb}
use Rattle.std.proofs.lemmas.List.Elements.{All-head, All-tail}
use Rattle.snap_tree.specs.Snaps.{chain_of}
use Rattle.vol_types.specs.KeyMaps.{Entries, KeyMap}
use Rattle.vol_types.specs.Maps.{value_at}
use Rattle.vol_types.specs.PositionLaws.{pos_exact}
use Rattle.vol_types.specs.Positions.{pos_cmp}
use Rattle.vol_types.specs.declared.positions.Btree.TheVariants.{Inodes, Dirents}
use Rattle.vol_types.specs.declared.positions.Pos.{Pos}
use Rattle.vol_types.specs.declared.values.Value.{Value}
use Rattle.key_meaning.specs.Alike.{HasNoKeys, ShowAlike, HaveSameFiles}
use Rattle.key_meaning.specs.AlikeLaws.{alike_from_visible}
use Rattle.key_meaning.specs.Blocks.{first_cover, is_cover, covers, shown_of}
use Rattle.key_meaning.specs.TableLaws.{same_key}
use Rattle.key_meaning.specs.Visible.{first_value, shown, snaps_of}

-- where no entry has a snapshot id, none stands at it
none_at : (pos : Pos) (entries : Entries) → All (λ (entry : Pos × Value). entry.0.snapshot ≢ pos.snapshot) entries → value_at pos_cmp pos entries ≡ None
none_at pos [] all = refl
none_at pos (e ∷ es) all = by (is_at (pos_cmp pos) e.0) refl (none_at pos es (All-tail (λ (entry : Pos × Value). entry.0.snapshot ≢ pos.snapshot) e es all))
  where
    by : (b : Bool) → is_at (pos_cmp pos) e.0 ≡ b → value_at pos_cmp pos es ≡ None → cond b (Some e.1) (value_at pos_cmp pos es) ≡ None
    by true at later = absurd (All-head (λ (entry : Pos × Value). entry.0.snapshot ≢ pos.snapshot) e es all (ap (λ (p : Pos). p.snapshot) (sym (same_key pos_exact pos e.0 at))))
    by false at later = later

-- nor covers one of it a block
none_covers : (id file block : ℕ) (entries : Entries) → All (λ (entry : Pos × Value). entry.0.snapshot ≢ id) entries → find (is_cover id file block) entries ≡ None
none_covers id file block [] all = refl
none_covers id file block (e ∷ es) all =
    ap (λ b. cond b (Some e) (find (is_cover id file block) es)) (ap (λ b. e.0.inode == file && b && covers e.0.offset e.1 block) (ne_eqb e.0.snapshot id (All-head (λ (entry : Pos × Value). entry.0.snapshot ≢ id) e es all)) ∙ shut (e.0.inode == file))
    ∙ none_covers id file block es (All-tail (λ (entry : Pos × Value). entry.0.snapshot ≢ id) e es all)
  where
    shut : (b : Bool) → (b && false && covers e.0.offset e.1 block) ≡ false
    shut true = refl
    shut false = refl

module _ (one other : KeyMap) (same : HaveSameFiles one other) where
  same_values : (inode offset : ℕ) (ids : List ℕ) → (first_value one Inodes inode offset ids ≡ first_value other Inodes inode offset ids) × (first_value one Dirents inode offset ids ≡ first_value other Dirents inode offset ids)
  same_values inode offset [] = (refl, refl)
  same_values inode offset (id ∷ ids) = let later = same_values inode offset ids in
      (λ i. option_or (value_at pos_cmp (record { inode = inode; offset = offset; snapshot = id }) (same.inodes i)) (later.0 i), λ i. option_or (value_at pos_cmp (record { inode = inode; offset = offset; snapshot = id }) (same.dirents i)) (later.1 i))

  same_covers : (file block : ℕ) (ids : List ℕ) → first_cover one file block ids ≡ first_cover other file block ids
  same_covers file block [] = refl
  same_covers file block (id ∷ ids) = λ i. option_or (find (is_cover id file block) (same.extents i)) (same_covers file block ids i)

  -- Ids of one chain show the same, where the keys of files are the same.
  pub alike_by_chain : (id another : ℕ) → chain_of (snaps_of one) id ≡ chain_of (snaps_of other) another → ShowAlike one id other another
  alike_by_chain id another chain = alike_from_visible one other id another
      (λ number. ap (λ ids. shown (first_value one Inodes 0 number ids)) chain ∙ ap shown (same_values 0 number (chain_of (snaps_of other) another)).0)
      (λ directory slot. ap (λ ids. shown (first_value one Dirents directory slot ids)) chain ∙ ap shown (same_values directory slot (chain_of (snaps_of other) another)).1)
      (λ file block. ap (λ ids. option_and_then (shown_of block) (first_cover one file block ids)) chain ∙ ap (option_and_then (shown_of block)) (same_covers file block (chain_of (snaps_of other) another)))

  -- A new id without keys of its own shows what the id shows whose chain its own goes on with.
  pub alike_below : (id another : ℕ) → chain_of (snaps_of one) id ≡ id ∷ chain_of (snaps_of other) another → HasNoKeys one id → ShowAlike one id other another
  alike_below id another chain none = alike_from_visible one other id another
      (λ number. ap (λ ids. shown (first_value one Inodes 0 number ids)) chain
      ∙ ap (λ own. shown (option_or own (first_value one Inodes 0 number (chain_of (snaps_of other) another)))) (none_at (record { inode = 0; offset = number; snapshot = id }) one.inodes none.inodes)
      ∙ ap shown (same_values 0 number (chain_of (snaps_of other) another)).0)
      (λ directory slot. ap (λ ids. shown (first_value one Dirents directory slot ids)) chain
      ∙ ap (λ own. shown (option_or own (first_value one Dirents directory slot (chain_of (snaps_of other) another)))) (none_at (record { inode = directory; offset = slot; snapshot = id }) one.dirents none.dirents)
      ∙ ap shown (same_values directory slot (chain_of (snaps_of other) another)).1)
      (λ file block. ap (λ ids. option_and_then (shown_of block) (first_cover one file block ids)) chain
      ∙ ap (λ own. option_and_then (shown_of block) (option_or own (first_cover one file block (chain_of (snaps_of other) another)))) (none_covers id file block one.extents none.extents)
      ∙ ap (option_and_then (shown_of block)) (same_covers file block (chain_of (snaps_of other) another)))
