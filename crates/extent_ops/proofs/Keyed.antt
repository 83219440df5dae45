-- What is looked up in a map: members, changes that were collected, and a key map after the updates of a file in an id.
use Rattle.std.proofs.Common.{◌≡◌, ⊎_elim, inl, inr, ℕ, Bool, true, false, cond, Option, Some, None, List, [], ◌∷◌, map, refl, sym, ap, ◌∙◌, subst, arith}
use Rattle.std.specs.Prelude.{◌≢◌, ◌&&◌, ◌==◌}
use Rattle.std.specs.BTreeMap.{is_at}
use Rattle.std.specs.List.{filter}
use Rattle.std.specs.Map.{keys_of}
use Rattle.std.specs.Ordering.{is_eq, nat_cmp}
use Rattle.std.specs.Cmp.{IsTotalOrder}
use Rattle.std.specs.declared.cmp.Ordering.{Ordering}
use Rattle.std.proofs.lemmas.Bool.{eq-eqb, eqb-true, true≢false}
use Rattle.std.proofs.lemmas.Bool.Decides.{nat_tests}
use Rattle.std.proofs.lemmas.Cmp.{eq_by_cmp_equiv, nat_cmp_total, tied_itself}
use Rattle.std.proofs.lemmas.Map.{lookup-none}
use Rattle.std.proofs.lemmas.Map.Entries.{none_past_head}
use Rattle.std.proofs.lemmas.Map.Keys.{IsDistinct-from_sorted, sorted_tail}
use Rattle.std.proofs.lemmas.Option.{none-some as none_some, same_Some}
use Rattle.vol_types.specs.KeyMapLaws.{IsKeyMap-with_update, entries_of-with_update}
use Rattle.vol_types.specs.KeyMaps.{Entries, IsKeyMap, KeyMap, entries_of, is_update_of, with_update, with_updates}
use Rattle.vol_types.specs.MapLaws.{IsMap-with_value, value_at-with_value}
use Rattle.vol_types.specs.Maps.{IsMap, put_at, value_at, with_value}
use Rattle.vol_types.specs.PositionLaws.{pos_exact}
use Rattle.vol_types.specs.Positions.{pos_cmp}
use Rattle.vol_types.specs.declared.positions.Btree.{Btree}
use Rattle.vol_types.specs.declared.positions.Btree.TheVariants.{Extents, Inodes, Dirents, Subvols, Snapshots, Alloc, Backptrs, Deleted, Counters}
use Rattle.vol_types.specs.declared.positions.Pos.{Pos}
use Rattle.vol_types.specs.declared.values.Value.{Value}
use Rattle.key_meaning.specs.Blocks.{own_cover}
use Rattle.key_meaning.specs.BlockLaws.{own_cover-elsewhere}
use Rattle.key_meaning.specs.Changes.{ChangesBlocks, ChangesOnly}
use Rattle.key_meaning.specs.ChangeLaws.{changes_nothing, changes_then, update_changes_only}
use Rattle.key_meaning.specs.TableLaws.{same_key}
use Rattle.key_meaning.specs.UpdateLaws.{extent_update}
use Rattle.key_meaning.specs.Visible.{own_value}
use Rattle.key_meaning.specs.VisibleLaws.{own_value-with_update}
use Rattle.extent_ops.specs.Cutting.{collected, update_at}
use Rattle.extent_ops.specs.declared.cutting.Change.{Change}
use Rattle.extent_ops.proofs.Members.{Has}

module _ {K X : Type 0} (cmp : K → K → Ordering) (total : IsTotalOrder cmp) where
  -- where the first key is looked for again, no later one is it
  none_later : (e : K × X) (es : List (K × X)) (q : K) → IsMap cmp (e ∷ es) → is_at (cmp q) e.0 ≡ true → value_at cmp q es ≡ None
  none_later e es q rises at = lookup-none (is_at (cmp q)) es (none_past_head (eq_by_cmp_equiv total) q e es (IsDistinct-from_sorted cmp (keys_of (e ∷ es)) rises) at)

  -- A member of a map is what stands at its key.
  pub member_at : (entry : K × X) (entries : List (K × X)) → IsMap cmp entries → Has entry entries → value_at cmp entry.0 entries ≡ Some entry.1
  member_at entry [] rises has = elim has [ ]
  member_at entry (e ∷ es) rises (inl same) = subst (λ (x : K × X). value_at cmp x.0 (e ∷ es) ≡ Some x.1) (sym same) (ap (λ b. cond b (Some e.1) (value_at cmp e.0 es)) (ap is_eq (tied_itself total e.0)))
  member_at entry (e ∷ es) rises (inr later) = by (is_at (cmp entry.0) e.0) refl (member_at entry es (sorted_tail cmp e.0 (keys_of es) rises) later)
    where
      by : (b : Bool) → is_at (cmp entry.0) e.0 ≡ b → value_at cmp entry.0 es ≡ Some entry.1 → cond b (Some e.1) (value_at cmp entry.0 es) ≡ Some entry.1
      by true at there = absurd (none_some entry.1 (sym (none_later e es entry.0 rises at) ∙ there))
      by false at there = there

-- What stands at a position is a member.
pub at_member : (pos : Pos) (value : Value) (entries : Entries) → value_at pos_cmp pos entries ≡ Some value → Has (pos, value) entries
at_member pos value [] at = absurd (none_some value at)
at_member pos value (e ∷ es) at = by (is_at (pos_cmp pos) e.0) refl at (λ later. at_member pos value es later)
  where
    by : (b : Bool) → is_at (pos_cmp pos) e.0 ≡ b → cond b (Some e.1) (value_at pos_cmp pos es) ≡ Some value → (value_at pos_cmp pos es ≡ Some value → Has (pos, value) es) → Has (pos, value) (e ∷ es)
    by true test is later = inl (λ i. (same_key pos_exact pos e.0 test i, sym (same_Some e.1 value is) i))
    by false test is later = inr (later is)

-- What a test lets through are the members that pass it.
pub filter-has : {X : Type 0} (test : X → Bool) (x : X) (xs : List X) → Has x (filter test xs) → Has x xs × (test x ≡ true)
filter-has test x [] has = elim has [ ]
filter-has test x (y ∷ ys) has = by (test y) refl has (λ later. filter-has test x ys later)
  where
    by : (b : Bool) → test y ≡ b → Has x (cond b (y ∷ filter test ys) (filter test ys)) → (Has x (filter test ys) → Has x ys × (test x ≡ true)) → Has x (y ∷ ys) × (test x ≡ true)
    by true is (inl same) later = (inl same, ap test same ∙ is)
    by true is (inr there) later = let rest = later there in (inr rest.0, rest.1)
    by false is there later = let rest = later there in (inr rest.0, rest.1)

pub has-filter : {X : Type 0} (test : X → Bool) (x : X) (xs : List X) → Has x xs → test x ≡ true → Has x (filter test xs)
has-filter test x [] has passes = elim has [ ]
has-filter test x (y ∷ ys) has passes = by (test y) refl has (λ later. has-filter test x ys later passes)
  where
    by : (b : Bool) → test y ≡ b → Has x (y ∷ ys) → (Has x ys → Has x (filter test ys)) → Has x (cond b (y ∷ filter test ys) (filter test ys))
    by true is (inl same) later = inl same
    by true is (inr there) later = inr (later there)
    by false is (inl same) later = absurd (true≢false (sym passes ∙ ap test same ∙ is))
    by false is (inr there) later = later there

-- What stands at an end of collected changes: a change with that end, or what stood there where none has it.
pub data Look (end : ℕ) (changes : List Change) (old new : Option (Option Value)) : Type 0 where
  changed : (change : Change) → Has change changes → change.end ≡ end → new ≡ Some change.value → Look end changes old new
  kept : ((change : Change) → Has change changes → change.end ≡ end → ⊥) → new ≡ old → Look end changes old new

pub look : (end : ℕ) (changes : List Change) (entries : List (ℕ × Option Value)) → Look end changes (value_at nat_cmp end entries) (value_at nat_cmp end (collected entries changes))
look end [] entries = kept (λ change has same. has) refl
look end (d ∷ ds) entries = by (look end ds (with_value nat_cmp d.end d.value entries))
  where
    new : Option (Option Value)
    new = value_at nat_cmp end (collected (with_value nat_cmp d.end d.value entries) ds)

    by : Look end ds (value_at nat_cmp end (with_value nat_cmp d.end d.value entries)) (value_at nat_cmp end (collected (with_value nat_cmp d.end d.value entries) ds)) → Look end (d ∷ ds) (value_at nat_cmp end entries) (value_at nat_cmp end (collected (with_value nat_cmp d.end d.value entries) ds))
    by (changed change has same is) = changed change (inr has) same is
    by (kept none is) = here (d.end == end) refl (is ∙ value_at-with_value nat_cmp_total d.end d.value end entries)
      where
        test : is_at (nat_cmp d.end) end ≡ (d.end == end)
        test = grind (arith, nat_tests)

        here : (b : Bool) → (d.end == end) ≡ b → value_at nat_cmp end (collected (with_value nat_cmp d.end d.value entries) ds) ≡ cond (is_at (nat_cmp d.end) end) (Some d.value) (value_at nat_cmp end entries)
            → Look end (d ∷ ds) (value_at nat_cmp end entries) (value_at nat_cmp end (collected (with_value nat_cmp d.end d.value entries) ds))
        here true equal now = changed d (inl refl) (eqb-true d.end end equal) (now ∙ ap (λ b. cond b (Some d.value) (value_at nat_cmp end entries)) (test ∙ equal))
        here false differ now = kept (λ change has same. ⊎_elim (λ (first : change ≡ d). true≢false (sym (eq-eqb d.end end (sym (ap (λ (c : Change). c.end) first) ∙ same)) ∙ differ)) (λ (later : Has change ds). none change later same) has)
            (now ∙ ap (λ b. cond b (Some d.value) (value_at nat_cmp end entries)) (test ∙ differ))

-- Collected changes are a map.
pub IsMap-collected : (changes : List Change) (entries : List (ℕ × Option Value)) → IsMap nat_cmp entries → IsMap nat_cmp (collected entries changes)
IsMap-collected [] entries rises = rises
IsMap-collected (d ∷ ds) entries rises = IsMap-collected ds (with_value nat_cmp d.end d.value entries) (IsMap-with_value nat_cmp_total d.end d.value entries rises)

-- what an update leaves of a value: what it puts there, if it is there
abbrev pub settled : Option (Option Value) → Option Value → Option Value
settled (Some value) old = value
settled None old = old

module _ (file id : ℕ) where
  -- After updates of a file in an id, it has at each end what they put there, or what it had.
  pub own_value-after : (entries : List (ℕ × Option Value)) (keys : KeyMap) (end : ℕ) → IsMap nat_cmp entries → IsKeyMap keys
      → own_value (with_updates (map (update_at file id) entries) keys) Extents file end id ≡ settled (value_at nat_cmp end entries) (own_value keys Extents file end id)
  own_value-after [] keys end rises is = refl
  own_value-after (e ∷ es) keys end rises is =
      own_value-after es (with_update (update_at file id e) keys) end (sorted_tail nat_cmp e.0 (keys_of es) rises) (IsKeyMap-with_update (update_at file id e) keys is)
      ∙ ap (settled (value_at nat_cmp end es)) (own_value-with_update (update_at file id e) keys is refl Extents file end id ∙ (λ i. cond ((eq-eqb file file refl i && (e.0 == end)) && eq-eqb id id refl i) e.1 (own_value keys Extents file end id)) ∙ ap (λ b. cond b e.1 (own_value keys Extents file end id)) (and_true (e.0 == end)))
      ∙ by (e.0 == end) refl
    where
      and_true : (b : Bool) → (b && true) ≡ b
      and_true true = refl
      and_true false = refl

      test : is_at (nat_cmp end) e.0 ≡ (e.0 == end)
      test = grind (arith, nat_tests)

      by : (b : Bool) → (e.0 == end) ≡ b → settled (value_at nat_cmp end es) (cond b e.1 (own_value keys Extents file end id)) ≡ settled (cond (is_at (nat_cmp end) e.0) (Some e.1) (value_at nat_cmp end es)) (own_value keys Extents file end id)
      by true at = (λ i. settled (none_later nat_cmp nat_cmp_total e es end rises (test ∙ at) i) e.1) ∙ sym (ap (λ b. settled (cond b (Some e.1) (value_at nat_cmp end es)) (own_value keys Extents file end id)) (test ∙ at))
      by false at = sym (ap (λ b. settled (cond b (Some e.1) (value_at nat_cmp end es)) (own_value keys Extents file end id)) (test ∙ at))

  -- Other files, and this one in other ids, have the extents and holes that they had,
  pub own_cover-after : (entries : List (ℕ × Option Value)) (keys : KeyMap) → IsKeyMap keys → (other block another : ℕ) → (other == file && another == id) ≡ false
      → own_cover (with_updates (map (update_at file id) entries) keys) other block another ≡ own_cover keys other block another
  own_cover-after [] keys is other block another apart = refl
  own_cover-after (e ∷ es) keys is other block another apart =
      own_cover-after es (with_update (update_at file id e) keys) (IsKeyMap-with_update (update_at file id e) keys is) other block another apart
      ∙ own_cover-elsewhere (update_at file id e) keys is refl other block another (turned file other id another ∙ apart)
    where
      turned : (a b c d : ℕ) → (a == b && c == d) ≡ (b == a && d == c)
      turned a b c d = grind (arith, nat_tests)

  -- other btrees have their entries,
  pub entries_of-after : (entries : List (ℕ × Option Value)) (keys : KeyMap) (btree : Btree) → btree ≢ Extents → entries_of (with_updates (map (update_at file id) entries) keys) btree ≡ entries_of keys btree
  entries_of-after [] keys btree apart = refl
  entries_of-after (e ∷ es) keys btree apart = entries_of-after es (with_update (update_at file id e) keys) btree apart ∙ entries_of-with_update (update_at file id e) keys btree ∙ by btree apart
    where
      by : (b : Btree) → b ≢ Extents → cond (is_update_of b (update_at file id e)) (put_at pos_cmp (record { inode = file; offset = e.0; snapshot = id }) e.1 (entries_of keys b)) (entries_of keys b) ≡ entries_of keys b
      by Extents apart = absurd (apart refl)
      by Inodes apart = refl
      by Dirents apart = refl
      by Subvols apart = refl
      by Snapshots apart = refl
      by Alloc apart = refl
      by Backptrs apart = refl
      by Deleted apart = refl
      by Counters apart = refl

  -- and the id and those below it alone see another file.
  pub changes_only-after : (entries : List (ℕ × Option Value)) (keys : KeyMap) → IsKeyMap keys → ChangesOnly keys (with_updates (map (update_at file id) entries) keys) id
  changes_only-after [] keys is = changes_nothing keys id
  changes_only-after (e ∷ es) keys is = changes_then keys (with_update (update_at file id e) keys) (with_updates (map (update_at file id) es) (with_update (update_at file id e) keys)) id
      (update_changes_only (update_at file id e) keys id is (record { snaps = refl; subvols = refl; place = inl refl }))
      (changes_only-after es (with_update (update_at file id e) keys) (IsKeyMap-with_update (update_at file id e) keys is))

  pub changes_blocks-after : (entries : List (ℕ × Option Value)) (keys : KeyMap) → IsKeyMap keys → (another : ℕ) → ChangesBlocks keys (with_updates (map (update_at file id) entries) keys) another file
  changes_blocks-after [] keys is another = record { inodes = λ number. refl; names = λ directory name. refl; blocks = λ other block apart. refl }
  changes_blocks-after (e ∷ es) keys is another =
      let here = extent_update (update_at file id e) keys is refl another in
      let later = changes_blocks-after es (with_update (update_at file id e) keys) (IsKeyMap-with_update (update_at file id e) keys is) another in
      record {
        inodes = λ number. later.inodes number ∙ here.inodes number;
        names = λ directory name. later.names directory name ∙ here.names directory name;
        blocks = λ other block apart. later.blocks other block apart ∙ here.blocks other block apart;
      }
