-- What sets hold up to an entry at each position: it is the same whichever of the entries that they have are made again.
use Rattle.std.proofs.Common.{◌≡◌, ℕ, zero, suc, ◌+◌, ◌-◌, ◌<◌, ◌≤◌, ◌^◌, Bool, true, false, List, [], ◌∷◌, ◌++◌, length, take, drop, Option, Some, refl, sym, ap, ◌∙◌, subst, arith}
use Rattle.std.specs.Prelude.{All, is_some, nat_lt, slice_get}
use Rattle.std.specs.BTreeMap.{is_at}
use Rattle.std.specs.List.{AllByRecursion}
use Rattle.std.proofs.Math.Seq.{take-add}
use Rattle.std.proofs.lemmas.Bool.{ltb-false, ltb-true, true≢false}
use Rattle.std.proofs.lemmas.List.{length-append, length-drop, take-append-drop}
use Rattle.std.proofs.lemmas.List.Elements.{recursion_from_All}
use Rattle.std.proofs.lemmas.Map.Entries.{lookup-filter-keys}
use Rattle.birth_index.specs.Births.{levels_of}
use Rattle.image_view.specs.EntryUpdates.{updates_of-append}
use Rattle.image_view.specs.Found.{updates_of}
use Rattle.image_view.specs.Trees.{SetsOf}
use Rattle.image_view.specs.UpdatedTrees.{IsOfLeaf}
use Rattle.journal_ring.specs.declared.found.FoundEntry.{FoundEntry}
use Rattle.tree_nodes.specs.Levels.{Levels, level_of, node_at}
use Rattle.tree_nodes.specs.RowLaws.{same_at}
use Rattle.vol_types.specs.KeyMapLaws.{IsKeyMap-with_updates, entries_of-key_map, with_updates-append}
use Rattle.vol_types.specs.KeyMaps.{Entries, IsKeyMap, KeyMap, entries_of, entries_within, value_in, with_updates}
use Rattle.vol_types.specs.Maps.{value_at}
use Rattle.vol_types.specs.PositionLaws.{is_within-iff}
use Rattle.vol_types.specs.Positions.{IsWithin, is_within, pos_cmp}
use Rattle.vol_types.specs.Widths.{PosFits}
use Rattle.vol_types.specs.declared.keys.Update.{Update}
use Rattle.vol_types.specs.declared.pointers.NodePtr.{NodePtr}
use Rattle.vol_types.specs.declared.positions.Btree.{Btree}
use Rattle.vol_types.specs.declared.positions.Pos.{Pos}
use Rattle.vol_types.specs.declared.values.Value.{Value}
use Rattle.btree_laws.specs.Counts.{ChangeKey, Counts, HasUpTo, HaveUpTo, NoneChanges}
use Rattle.btree_laws.specs.Standing.{Contents, HaveWidths, StandAsBtrees, keys_in_leaves, leaf_entries}
use Rattle.btree_laws.proofs.NineBtrees.{own_value, rooted}
use Rattle.btree_laws.proofs.Values.{after_joined, again_joined, both_none, same_values, unchanged, value_after, value_with}

-- ---- updates of entries

-- The entries up to a number are those up to a smaller one, and the ones from there on.
taken : (needed : List FoundEntry) (first count : ℕ) → first ≤ count → updates_of (take count needed) ≡ updates_of (take first needed) ++ updates_of (take (count - first) (drop first needed))
taken needed first count less =
    let both : count ≡ first + (count - first) = omega (arith, less) in
    ap (λ n. updates_of (take n needed)) both ∙ ap updates_of (take-add first (count - first) needed) ∙ updates_of-append (take first needed) (take (count - first) (drop first needed))

-- All are those up to a number, and the others.
in_two : (needed : List FoundEntry) (count : ℕ) → updates_of needed ≡ updates_of (take count needed) ++ updates_of (drop count needed)
in_two needed count = ap updates_of (sym (take-append-drop count needed)) ∙ updates_of-append (take count needed) (drop count needed)

-- ---- made again

-- With the updates of all needed entries the keys are the current ones.
pub made_again : (needed : List FoundEntry) (before keys : KeyMap) (count : Counts) → IsKeyMap before → IsKeyMap keys → HaveUpTo needed before count keys → with_updates (updates_of needed) keys ≡ with_updates (updates_of needed) before
made_again needed before keys count is own has =
    same_values (with_updates (updates_of needed) keys) (with_updates (updates_of needed) before) (IsKeyMap-with_updates (updates_of needed) keys own) (IsKeyMap-with_updates (updates_of needed) before is) at
  where
    at : (btree : Btree) (pos : Pos) → value_in (with_updates (updates_of needed) keys) btree pos ≡ value_in (with_updates (updates_of needed) before) btree pos
    at btree pos =
        let n = count btree pos in
        let first : List Update = updates_of (take (count btree pos) needed) in
        let rest : List Update = updates_of (drop (count btree pos) needed) in
        let begun = value_in before btree pos in
        value_with btree pos (updates_of needed) keys own
        ∙ ap (value_after btree pos (updates_of needed)) ((has btree pos).value ∙ value_with btree pos first before is)
        ∙ ap (λ us. value_after btree pos us (value_after btree pos first (value_in before btree pos))) (in_two needed (count btree pos))
        ∙ again_joined btree pos first rest (value_in before btree pos)
        ∙ ap (λ us. value_after btree pos us (value_in before btree pos)) (sym (in_two needed (count btree pos)))
        ∙ sym (value_with btree pos (updates_of needed) before is)

-- Entries that are counted may be left out: the others count from the keys on that have them.
pub left_out : (needed : List FoundEntry) (before keys : KeyMap) (btree : Btree) (pos : Pos) (count passed : ℕ) → HasUpTo needed before keys btree pos count → passed ≤ count
    → HasUpTo (drop passed needed) (with_updates (updates_of (take passed needed)) before) keys btree pos (count - passed)
left_out needed before keys btree pos count passed has less = record {
  within = let within = has.within in let long = length-drop passed needed in omega (arith, within, long, less);
  value = has.value
      ∙ ap (λ us. value_in (with_updates us before) btree pos) (taken needed passed count less)
      ∙ ap (λ ks. value_in ks btree pos) (with_updates-append (updates_of (take passed needed)) (updates_of (take (count - passed) (drop passed needed))) before);
}

-- So the keys are the current ones with the updates of the others.
pub passed_again : (needed : List FoundEntry) (before keys : KeyMap) (count : Counts) (passed : ℕ) → IsKeyMap before → IsKeyMap keys → HaveUpTo needed before count keys → ((btree : Btree) (pos : Pos) → passed ≤ count btree pos)
    → with_updates (updates_of (drop passed needed)) keys ≡ with_updates (updates_of needed) before
passed_again needed before keys count passed is own has reached =
    made_again (drop passed needed) (with_updates (updates_of (take passed needed)) before) keys (λ btree pos. count btree pos - passed) (IsKeyMap-with_updates (updates_of (take passed needed)) before is) own
    (λ btree pos. left_out needed before keys btree pos (count btree pos) passed (has btree pos) (reached btree pos))
    ∙ sym (with_updates-append (updates_of (take passed needed)) (updates_of (drop passed needed)) before)
    ∙ ap (λ us. with_updates us before) (sym (in_two needed passed))

-- ---- counts

-- A further entry isn't counted.
take_front : (count : ℕ) (needed more : List FoundEntry) → count ≤ length needed → take count (needed ++ more) ≡ take count needed
take_front zero needed more less = refl
take_front (suc count) [] more less = absurd (omega (arith, less))
take_front (suc count) (found ∷ needed) more less = ap (λ xs. found ∷ xs) (take_front count needed more (omega (arith, less)))

pub one_more : (needed : List FoundEntry) (next : FoundEntry) (before keys : KeyMap) (btree : Btree) (pos : Pos) (count : ℕ) → HasUpTo needed before keys btree pos count → HasUpTo (needed ++ next ∷ []) before keys btree pos count
one_more needed next before keys btree pos count has = record {
  within = let within = has.within in let long = length-append needed (next ∷ []) in omega (arith, within, long);
  value = has.value ∙ ap (λ xs. value_in (with_updates (updates_of xs) before) btree pos) (sym (take_front count needed (next ∷ []) has.within));
}

-- What is found in a part is found in all.
in_front : (end : ℕ) (xs : List FoundEntry) (k : ℕ) (x : FoundEntry) → slice_get (take end xs) k ≡ Some x → (k < end) × (slice_get xs k ≡ Some x)
in_front zero xs k x is = absurd (true≢false (sym (ap is_some is)))
in_front (suc end) [] k x is = absurd (true≢false (sym (ap is_some is)))
in_front (suc end) (y ∷ xs) zero x is = (omega arith, is)
in_front (suc end) (y ∷ xs) (suc k) x is = let later = in_front end xs k x is in let less = later.0 in (omega (arith, less), later.1)

from_there : (from : ℕ) (xs : List FoundEntry) (k : ℕ) → slice_get (drop from xs) k ≡ slice_get xs (from + k)
from_there zero xs k = let same : k ≡ 0 + k = omega arith in ap (slice_get xs) same
from_there (suc from) [] k = refl
from_there (suc from) (x ∷ xs) k = let same : suc (from + k) ≡ suc from + k = omega arith in from_there from xs k ∙ ap (slice_get (x ∷ xs)) same

-- Entries that don't change a position leave its value.
left_value : (btree : Btree) (pos : Pos) (entries : List FoundEntry) (before : Option Value) → ((k : ℕ) (found : FoundEntry) → slice_get entries k ≡ Some found → ¬ ChangeKey btree pos found.entry.updates) → value_after btree pos (updates_of entries) before ≡ before
left_value btree pos [] before none = refl
left_value btree pos (found ∷ entries) before none =
    after_joined btree pos found.entry.updates (updates_of entries) before
    ∙ ap (value_after btree pos (updates_of entries)) (unchanged btree pos found.entry.updates before (none zero found refl))
    ∙ left_value btree pos entries before (λ k. none (suc k))

-- So they may be counted.
pub raised_count : (needed : List FoundEntry) (before keys : KeyMap) (btree : Btree) (pos : Pos) (count more : ℕ) → IsKeyMap before → HasUpTo needed before keys btree pos count → count ≤ more → more ≤ length needed → NoneChanges needed count more btree pos → HasUpTo needed before keys btree pos more
raised_count needed before keys btree pos count more is has less within none = record {
  within = within;
  value =
      let first : List Update = updates_of (take count needed) in
      let between : List FoundEntry = take (more - count) (drop count needed) in
      has.value ∙ value_with btree pos first before is
      ∙ sym (left_value btree pos between (value_after btree pos first (value_in before btree pos)) at)
      ∙ sym (after_joined btree pos first (updates_of between) (value_in before btree pos))
      ∙ ap (λ us. value_after btree pos us (value_in before btree pos)) (sym (taken needed count more less))
      ∙ sym (value_with btree pos (updates_of (take more needed)) before is);
}
  where
    at : (k : ℕ) (found : FoundEntry) → slice_get (take (more - count) (drop count needed)) k ≡ Some found → ¬ ChangeKey btree pos found.entry.updates
    at k found there =
        let own = in_front (more - count) (drop count needed) k found there in
        let below = own.0 in
        none (count + k) found (omega arith) (omega (arith, below, less)) (sym (from_there count needed k) ∙ own.1)

-- A position has what its value says.
pub moved_value : (needed : List FoundEntry) (before keys others : KeyMap) (btree : Btree) (pos : Pos) (count : ℕ) → HasUpTo needed before keys btree pos count → value_in others btree pos ≡ value_in keys btree pos → HasUpTo needed before others btree pos count
moved_value needed before keys others btree pos count has same = record { within = has.within; value = same ∙ has.value }

-- ---- instances

-- The entries of a range have its values.
range_value : (first last pos : Pos) (entries : Entries) → IsWithin first last pos → value_at pos_cmp pos (entries_within first last entries) ≡ value_at pos_cmp pos entries
range_value first last pos entries within =
    lookup-filter-keys (is_at (pos_cmp pos)) (is_within first last) true (λ k is. ap (is_within first last) (sym (same_at pos k is)) ∙ (is_within-iff first last pos).1 within) entries

pub range_has : (needed : List FoundEntry) (before keys : KeyMap) (btree : Btree) (first last : Pos) (count : ℕ) → count ≤ length needed → entries_within first last (entries_of keys btree) ≡ entries_within first last (entries_of (with_updates (updates_of (take count needed)) before) btree)
    → (pos : Pos) → IsWithin first last pos → HasUpTo needed before keys btree pos count
range_has needed before keys btree first last count less same pos within = record {
  within = less;
  value = sym (range_value first last pos (entries_of keys btree) within) ∙ ap (value_at pos_cmp pos) same ∙ range_value first last pos (entries_of (with_updates (updates_of (take count needed)) before) btree) within;
}

pub leaf_has : (sets : SetsOf) (roots : List NodePtr) (trees : List Levels) (content : Btree → Contents) (needed : List FoundEntry) (before : KeyMap) (btree : Btree) (count : ℕ) (pos : Pos) (leaf : Pos × NodePtr) → StandAsBtrees sets roots trees content → count ≤ length needed → PosFits pos
    → node_at pos (level_of (levels_of trees btree) 0) ≡ Some leaf → value_at pos_cmp pos (content btree leaf.1).entries ≡ value_in (with_updates (updates_of (take count needed)) before) btree pos
    → HasUpTo needed before (keys_in_leaves content trees) btree pos count
leaf_has sets roots trees content needed before btree count pos leaf stand less fits found same = record {
  within = less;
  value =
      let own = rooted sets roots trees content stand btree in
      ap (value_at pos_cmp pos) (entries_of-key_map (λ b. leaf_entries (content b) (levels_of trees b)) btree)
      ∙ own_value sets btree own.0 (levels_of trees btree) (content btree) own.1 pos leaf found ∙ same;
}

-- A position has its widths or not.
fits_or_not : (pos : Pos) (P : Type 0) → (PosFits pos → P) → (¬ PosFits pos → P) → P
fits_or_not pos P fit wide = inode (nat_lt pos.inode (2 ^ 64)) refl
  where
    snapshot : (b : Bool) → nat_lt pos.snapshot (2 ^ 32) ≡ b → pos.inode < 2 ^ 64 → pos.offset < 2 ^ 64 → P
    snapshot true is one other = fit (record { inode = one; offset = other; snapshot = ltb-true pos.snapshot (2 ^ 32) is })
    snapshot false is one other = wide (λ fits. let past = ltb-false pos.snapshot (2 ^ 32) is in let own = fits.snapshot in omega (arith, past, own))

    offset : (b : Bool) → nat_lt pos.offset (2 ^ 64) ≡ b → pos.inode < 2 ^ 64 → P
    offset true is one = snapshot (nat_lt pos.snapshot (2 ^ 32)) refl one (ltb-true pos.offset (2 ^ 64) is)
    offset false is one = wide (λ fits. let past = ltb-false pos.offset (2 ^ 64) is in let own = fits.offset in omega (arith, past, own))

    inode : (b : Bool) → nat_lt pos.inode (2 ^ 64) ≡ b → P
    inode true is = offset (nat_lt pos.offset (2 ^ 64)) refl (ltb-true pos.inode (2 ^ 64) is)
    inode false is = wide (λ fits. let past = ltb-false pos.inode (2 ^ 64) is in let own = fits.inode in omega (arith, past, own))

-- Updates in front of others are of leaves where all are.
some_updates : (first rest : List Update) → AllByRecursion IsOfLeaf (first ++ rest) → AllByRecursion IsOfLeaf first
some_updates [] rest all = tt
some_updates (update ∷ first) rest all = (all.0, some_updates first rest all.1)

-- What holds of positions with their widths holds of all.
pub with_widths : (needed : List FoundEntry) (before keys : KeyMap) (count : Counts) → IsKeyMap before → HaveWidths before → HaveWidths keys → All IsOfLeaf (updates_of needed) → ((btree : Btree) (pos : Pos) → count btree pos ≤ length needed)
    → ((btree : Btree) (pos : Pos) → PosFits pos → HasUpTo needed before keys btree pos (count btree pos)) → HaveUpTo needed before count keys
with_widths needed before keys count is begun own leaves within has btree pos =
    fits_or_not pos (HasUpTo needed before keys btree pos (count btree pos)) (has btree pos)
    (λ wide. record {
      within = within btree pos;
      value = both_none keys before (updates_of (take (count btree pos) needed)) btree pos is own begun
          (some_updates (updates_of (take (count btree pos) needed)) (updates_of (drop (count btree pos) needed)) (subst (AllByRecursion IsOfLeaf) (in_two needed (count btree pos)) (recursion_from_All IsOfLeaf (updates_of needed) leaves))) wide;
    })
