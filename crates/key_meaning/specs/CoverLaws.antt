-- What covers a block of a file, by look-ups.
use Rattle.std.proofs.Common.{◌≡◌, ℕ, Bool, true, false, cond, Option, Some, None, [], ◌∷◌, refl, sym, ap, ◌∙◌, subst}
use Rattle.std.specs.Prelude.{◌&&◌, ◌==◌, IsSome, find}
use Rattle.std.specs.BTreeMap.{is_at}
use Rattle.std.specs.Map.{keys_of}
use Rattle.std.specs.Option.{option_or}
use Rattle.std.specs.Ordering.{is_eq, nat_cmp}
use Rattle.std.proofs.lemmas.Bool.{eq-eqb, eqb-true, true≢false}
use Rattle.std.proofs.lemmas.Cmp.{eq_by_cmp_equiv, tied_itself}
use Rattle.std.proofs.lemmas.Map.{lookup-none}
use Rattle.std.proofs.lemmas.Map.Entries.{none_past_head}
use Rattle.std.proofs.lemmas.Map.Keys.{IsDistinct-from_sorted, sorted_tail}
use Rattle.std.proofs.lemmas.Option.{same_Some, none-some as none_some}
use Rattle.snap_tree.specs.Snaps.{IsSnapTree, chain_of_maybe, parent_of}
use Rattle.vol_types.specs.KeyMaps.{Entries, IsKeyMap, KeyMap}
use Rattle.vol_types.specs.Maps.{IsMap, value_at}
use Rattle.vol_types.specs.PositionLaws.{pos_exact, pos_total}
use Rattle.vol_types.specs.Positions.{pos_cmp}
use Rattle.vol_types.specs.declared.positions.Btree.TheVariants.{Extents}
use Rattle.vol_types.specs.declared.positions.Pos.{Pos}
use Rattle.vol_types.specs.declared.values.Value.{Value}
use Rattle.key_meaning.specs.Blocks.{cover_in, covers, first_cover, is_cover, own_cover}
use Rattle.key_meaning.specs.Checks.{IsCoveredOnce}
use Rattle.key_meaning.specs.TableLaws.{same_key}
use Rattle.key_meaning.specs.Visible.{own_value, snaps_of}
use Rattle.key_meaning.specs.VisibleLaws.{chain_goes_on}

-- An entry of a map that is found is the value at its position.
pub found_is_at : (test : Pos × Value → Bool) (entry : Pos × Value) (entries : Entries) → IsMap pos_cmp entries → find test entries ≡ Some entry → (value_at pos_cmp entry.0 entries ≡ Some entry.1) × (test entry ≡ true)
found_is_at test entry [] rises found = absurd (none_some entry found)
found_is_at test entry (e ∷ es) rises found = by (test e) refl found (found_is_at test entry es (sorted_tail pos_cmp e.0 (keys_of es) rises))
  where
    later_at : value_at pos_cmp entry.0 es ≡ Some entry.1 → (b : Bool) → is_at (pos_cmp entry.0) e.0 ≡ b → cond b (Some e.1) (value_at pos_cmp entry.0 es) ≡ Some entry.1
    later_at there true at = absurd (none_some entry.1 (sym (lookup-none (is_at (pos_cmp entry.0)) es (none_past_head (eq_by_cmp_equiv pos_total) entry.0 e es (IsDistinct-from_sorted pos_cmp (keys_of (e ∷ es)) rises) at)) ∙ there))
    later_at there false at = there

    by : (b : Bool) → test e ≡ b → cond b (Some e) (find test es) ≡ Some entry → (find test es ≡ Some entry → (value_at pos_cmp entry.0 es ≡ Some entry.1) × (test entry ≡ true)) → (value_at pos_cmp entry.0 (e ∷ es) ≡ Some entry.1) × (test entry ≡ true)
    by true passes here later = let same = same_Some e entry here in
        (subst (λ (x : Pos × Value). value_at pos_cmp x.0 (e ∷ es) ≡ Some x.1) same (ap (λ b. cond b (Some e.1) (value_at pos_cmp e.0 es)) (ap is_eq (tied_itself pos_total e.0))), ap test (sym same) ∙ passes)
    by false passes here later = let rest = later here in (later_at rest.0 (is_at (pos_cmp entry.0) e.0) refl, rest.1)

-- Where the value at a position passes, something is found.
pub at_is_found : (test : Pos × Value → Bool) (pos : Pos) (value : Value) (entries : Entries) → value_at pos_cmp pos entries ≡ Some value → test (pos, value) ≡ true → find test entries ≡ None → ⊥
at_is_found test pos value [] at passes none = none_some value at
at_is_found test pos value (e ∷ es) at passes none = by (is_at (pos_cmp pos) e.0) refl at (at_is_found test pos value es)
  where
    found_later : (b : Bool) → cond b (Some e) (find test es) ≡ None → find test es ≡ None
    found_later true nothing = absurd (none_some e (sym nothing))
    found_later false nothing = nothing

    by : (b : Bool) → is_at (pos_cmp pos) e.0 ≡ b → cond b (Some e.1) (value_at pos_cmp pos es) ≡ Some value → (value_at pos_cmp pos es ≡ Some value → test (pos, value) ≡ true → find test es ≡ None → ⊥) → ⊥
    by true same here later = none_some e (sym none ∙ ap (λ b. cond b (Some e) (find test es)) ((λ i. test (sym (same_key pos_exact pos e.0 same) i, same_Some e.1 value here i)) ∙ passes))
    by false same here later = later here passes (found_later (test e) none)

-- The position of a file's extent or hole in an id.
abbrev pub pos_of : ℕ → ℕ → ℕ → Pos
pos_of file end id = record { inode = file; offset = end; snapshot = id }

three : (a b c : Bool) → (a && b && c) ≡ true → (a ≡ true) × (b ≡ true) × (c ≡ true)
three true true c are = (refl, refl, are)
three true false c are = absurd (true≢false (sym are))
three false b c are = absurd (true≢false (sym are))

-- What covers a block of a file in an id itself is an extent or hole of that file and id, which covers the block.
pub own_cover-found : (keys : KeyMap) (file block id : ℕ) (entry : Pos × Value) → IsKeyMap keys → own_cover keys file block id ≡ Some entry
    → (entry.0 ≡ pos_of file entry.0.offset id) × (own_value keys Extents file entry.0.offset id ≡ Some entry.1) × (covers entry.0.offset entry.1 block ≡ true)
own_cover-found keys file block id entry is found =
    let has = found_is_at (is_cover id file block) entry keys.extents (is.rises Extents) found in
    let parts = three (entry.0.inode == file) (entry.0.snapshot == id) (covers entry.0.offset entry.1 block) has.1 in
    let at : entry.0 ≡ pos_of file entry.0.offset id = λ i. record { inode = eqb-true entry.0.inode file parts.0 i; offset = entry.0.offset; snapshot = eqb-true entry.0.snapshot id parts.1 i } in
    (at, ap (λ p. value_at pos_cmp p keys.extents) (sym at) ∙ has.0, parts.2)

-- Where extents and holes don't overlap, one that covers a block is what covers it.
pub own_cover-is : (keys : KeyMap) (file block id end : ℕ) (value : Value) → IsKeyMap keys → IsCoveredOnce keys file id → own_value keys Extents file end id ≡ Some value → covers end value block ≡ true → own_cover keys file block id ≡ Some (pos_of file end id, value)
own_cover-is keys file block id end value is apart at covered = by (own_cover keys file block id) refl
  where
    passes : is_cover id file block (pos_of file end id, value) ≡ true
    passes = λ i. eq-eqb file file refl i && eq-eqb id id refl i && covered i

    by : (own : Option (Pos × Value)) → own_cover keys file block id ≡ own → own ≡ Some (pos_of file end id, value)
    by None none = absurd (at_is_found (is_cover id file block) (pos_of file end id) value keys.extents at passes none)
    by (Some entry) found =
        let has = own_cover-found keys file block id entry is found in
        let same = apart.once block entry.0.offset end entry.1 value has.1 at has.2 covered in
        let there : entry.0 ≡ pos_of file end id = has.0 ∙ ap (λ e. pos_of file e id) same in
        let held : entry.1 ≡ value = same_Some entry.1 value (sym has.1 ∙ ap (λ e. own_value keys Extents file e id) same ∙ at) in
        λ i. Some (there i, held i)

-- A block belongs to what covers it in the id itself, and else to what it belongs to in the parent.
pub cover_in-step : (keys : KeyMap) (id file block : ℕ) → IsSnapTree (snaps_of keys) → IsSome (value_at nat_cmp id (snaps_of keys))
    → cover_in keys id file block ≡ option_or (own_cover keys file block id) (first_cover keys file block (chain_of_maybe (snaps_of keys) (parent_of (snaps_of keys) id)))
cover_in-step keys id file block tree there = ap (first_cover keys file block) (chain_goes_on (snaps_of keys) id tree there)
