-- Updates of leaves, each made in the leaf that covers its position, are made in the entries of all leaves together.
use Rattle.std.proofs.Common.{◌≡◌, ℕ, Bool, true, false, cond, List, [], ◌∷◌, ◌++◌, refl, sym, ap, subst, ◌∙◌}
use Rattle.std.specs.Prelude.{◌&&◌, ◌==◌, All}
use Rattle.std.specs.List.{AllByRecursion, flat_map}
use Rattle.std.specs.Map.{keys_of}
use Rattle.std.specs.Ordering.{is_le, ordering_reverse}
use Rattle.std.specs.declared.cmp.Ordering.{Ordering}
use Rattle.std.specs.declared.cmp.Ordering.TheVariants.{Less, Equal, Greater}
use Rattle.std.proofs.lemmas.Bool.{and_parts, false≢true, true≢false}
use Rattle.std.proofs.lemmas.List.Elements.{All-head, All-tail}
use Rattle.vol_types.specs.Btrees.{btree_code}
use Rattle.vol_types.specs.FollowerLaws.{greatest-last}
use Rattle.vol_types.specs.KeyMaps.{Entries, is_update_of, updated_entries}
use Rattle.vol_types.specs.Maps.{put_at}
use Rattle.vol_types.specs.PositionLaws.{pos_exact, pos_total}
use Rattle.vol_types.specs.Positions.{IsBefore, greatest_pos, is_within, pos_cmp}
use Rattle.vol_types.specs.Widths.{PosFits}
use Rattle.vol_types.specs.declared.keys.Update.{Update}
use Rattle.vol_types.specs.declared.positions.Btree.{Btree}
use Rattle.vol_types.specs.declared.positions.Pos.{Pos}
use Rattle.image_view.specs.Trees.{NodeRead, is_of_node, updated}
use Rattle.image_view.specs.UpdatedTrees.{IsOfLeaf}
use Rattle.image_view.proofs.JoinedPuts.{put_in_first, put_in_second}
use Rattle.image_view.proofs.LevelUpdates.{AreRead, Lies, are_read-with, greatests, greatests-with, next_of, reads_with, reads_with-append, wanted_in}
use Rattle.image_view.proofs.NextPositions.{next_after, next_first}

-- ---- definitions

-- Positions rise from one before them to the last one.
abbrev pub RiseTo : Pos → Pos → List Pos → Type 0
RiseTo before last [] = before ≡ last
RiseTo before last (pos ∷ rest) = IsBefore before pos × RiseTo pos last rest

-- There are some positions, and they rise to the last one.
abbrev pub AreRising : Pos → List Pos → Type 0
AreRising last [] = ⊥
AreRising last (pos ∷ rest) = RiseTo pos last rest

-- the entries of nodes, one node after the other
abbrev pub all_entries : List NodeRead → Entries
all_entries reads = flat_map (λ node. node.entries) reads

-- the entries of a btree with updates, in their order
abbrev pub entries_with : Btree → List Update → Entries → Entries
entries_with btree [] entries = entries
entries_with btree (update ∷ updates) entries = entries_with btree updates (updated_entries btree update entries)

-- ---- positions

-- What rises to the last one is before it.
pub rise_below : (before last pos : Pos) (rest : List Pos) → RiseTo before last (pos ∷ rest) → IsBefore before last
rise_below before last pos [] rise = subst (λ (p : Pos). IsBefore before p) rise.1 rise.0
rise_below before last pos (next ∷ rest) rise = pos_total.trans before pos last rise.0 (rise_below pos last next rest rise.1)

pub le_less : (p q r : Pos) → is_le (pos_cmp p q) ≡ true → IsBefore q r → IsBefore p r
le_less p q r le less = by (pos_cmp p q) refl le
  where
    by : (o : Ordering) → pos_cmp p q ≡ o → is_le o ≡ true → IsBefore p r
    by Less is le = pos_total.trans p q r is less
    by Equal is le = pos_total.congr p q r is ∙ less
    by Greater is le = absurd (false≢true le)

pub less_le : (p q r : Pos) → IsBefore p q → is_le (pos_cmp q r) ≡ true → IsBefore p r
less_le p q r less le = by (pos_cmp q r) refl le
  where
    by : (o : Ordering) → pos_cmp q r ≡ o → is_le o ≡ true → IsBefore p r
    by Less is le = pos_total.trans p q r less is
    by Equal is le = subst (λ (x : Pos). IsBefore p x) (pos_exact q r is) less
    by Greater is le = absurd (false≢true le)

turned : (p q : Pos) → IsBefore p q → pos_cmp q p ≡ Greater
turned p q less = pos_total.antisymm q p ∙ ap ordering_reverse less

-- ---- one update

-- entries with an update, if it is one of theirs
abbrev put_if : Bool → Update → Entries → Entries
put_if mine update entries = cond mine (put_at pos_cmp update.pos update.value entries) entries

-- the entries of nodes with an update made in each that covers its position, if it is one of their keys
abbrev with_puts : Bool → Update → Pos → List NodeRead → Entries
with_puts mine update least [] = []
with_puts mine update least (read ∷ reads) = put_if (mine && is_within least read.greatest update.pos) update read.entries ++ with_puts mine update (next_of read.greatest) reads

reordered : (a b c : Bool) → (a && (b && c)) ≡ ((b && a) && c)
reordered true true c = refl
reordered true false c = refl
reordered false true c = refl
reordered false false c = refl

one_put : (mine : Bool) (update : Update) (entries : Entries) → updated (cond mine (update ∷ []) []) entries ≡ put_if mine update entries
one_put true update entries = refl
one_put false update entries = refl

-- An update of a leaf is made in the leaves that cover its position.
puts_are : (btree : Btree) (update : Update) (least : Pos) (reads : List NodeRead) → update.level ≡ 0 → AreRead 0 least reads → all_entries (reads_with btree (update ∷ []) least reads) ≡ with_puts (is_update_of btree update) update least reads
puts_are btree update least [] leaf are = refl
puts_are btree update least (read ∷ reads) leaf are =
    let same : is_of_node (wanted_in btree least read) update ≡ (is_update_of btree update && is_within least read.greatest update.pos) =
    ap (λ (n : ℕ). (btree_code update.btree == btree_code btree) && ((update.level == n) && is_within least read.greatest update.pos)) are.0.numbered
    ∙ reordered (btree_code update.btree == btree_code btree) (update.level == 0) (is_within least read.greatest update.pos) in
    let here = ap (λ (b : Bool). updated (cond b (update ∷ []) []) read.entries) same ∙ one_put (is_update_of btree update && is_within least read.greatest update.pos) update read.entries in
    let later = puts_are btree update (next_of read.greatest) reads leaf are.1 in
    λ i. here i ++ later i

-- One that isn't of their keys is made in none.
no_puts : (update : Update) (least : Pos) (reads : List NodeRead) → with_puts false update least reads ≡ all_entries reads
no_puts update least [] = refl
no_puts update least (read ∷ reads) = ap (λ rest. read.entries ++ rest) (no_puts update (next_of read.greatest) reads)

module _ (update : Update) (before : Pos) (first : is_le (pos_cmp update.pos before) ≡ true) (ends : IsBefore before greatest_pos) where
  -- A position up to the end of a node isn't behind it.
  not_behind : is_le (pos_cmp (next_of before) update.pos) ≡ false
  not_behind = ap is_le (turned update.pos (next_of before) (le_less update.pos before (next_of before) first (next_after before ends)))

  -- So all that is behind the node is after the position.
  behind : (greatest : Pos) (keys : List Pos) → All (Lies (next_of before) greatest) keys → AllByRecursion (λ key. pos_cmp update.pos key ≡ Less) keys
  behind greatest [] covered = tt
  behind greatest (key ∷ keys) covered =
      let here = All-head (Lies (next_of before) greatest) key keys covered in (
        less_le update.pos (next_of before) key (le_less update.pos before (next_of before) first (next_after before ends)) (and_parts (is_le (pos_cmp (next_of before) key)) (is_le (pos_cmp key greatest)) here).0,
        behind greatest keys (All-tail (Lies (next_of before) greatest) key keys covered),
      )

joined_all : (P : Pos → Type 0) (one other : Entries) → AllByRecursion P (keys_of one) → AllByRecursion P (keys_of other) → AllByRecursion P (keys_of (one ++ other))
joined_all P [] other all others = others
joined_all P (e ∷ one) other all others = (all.0, joined_all P one other all.1 others)

-- Nodes behind a position have entries after it,
entries_behind : (update : Update) (before : Pos) (reads : List NodeRead) → is_le (pos_cmp update.pos before) ≡ true → RiseTo before greatest_pos (greatests reads) → AreRead 0 (next_of before) reads
    → AllByRecursion (λ key. pos_cmp update.pos key ≡ Less) (keys_of (all_entries reads))
entries_behind update before [] first rise are = tt
entries_behind update before (read ∷ reads) first rise are =
    let ends = rise_below before greatest_pos read.greatest (greatests reads) rise in
    joined_all (λ key. pos_cmp update.pos key ≡ Less) read.entries (all_entries reads)
    (behind update before first ends read.greatest (keys_of read.entries) are.0.entries_are.covered)
    (entries_behind update read.greatest reads (ap is_le (le_less update.pos before read.greatest first rise.0)) rise.1 are.1)

-- and an update at the position is made in none of them.
puts_behind : (update : Update) (before : Pos) (reads : List NodeRead) → is_le (pos_cmp update.pos before) ≡ true → RiseTo before greatest_pos (greatests reads) → with_puts true update (next_of before) reads ≡ all_entries reads
puts_behind update before [] first rise = refl
puts_behind update before (read ∷ reads) first rise =
    let ends = rise_below before greatest_pos read.greatest (greatests reads) rise in
    let later = puts_behind update read.greatest reads (ap is_le (le_less update.pos before read.greatest first rise.0)) rise.1 in
    ap (λ b. put_if (b && is_le (pos_cmp update.pos read.greatest)) update read.entries ++ with_puts true update (next_of read.greatest) reads) (not_behind update before first ends)
    ∙ ap (λ rest. read.entries ++ rest) later

-- Entries of a node that ends before a position are before it.
entries_before : (update : Update) (least greatest : Pos) (keys : List Pos) → IsBefore greatest update.pos → All (Lies least greatest) keys → AllByRecursion (λ key. pos_cmp update.pos key ≡ Greater) keys
entries_before update least greatest [] ends covered = tt
entries_before update least greatest (key ∷ keys) ends covered =
    let here = All-head (Lies least greatest) key keys covered in (
      turned key update.pos (le_less key greatest update.pos (and_parts (is_le (pos_cmp least key)) (is_le (pos_cmp key greatest)) here).1 ends),
      entries_before update least greatest keys ends (All-tail (Lies least greatest) key keys covered),
    )

not_after : (p q : Pos) (r : Ordering) → pos_cmp p q ≡ r → is_le r ≡ false → IsBefore q p
not_after p q Less is after = absurd (true≢false after)
not_after p q Equal is after = absurd (true≢false after)
not_after p q Greater is after = pos_total.antisymm q p ∙ ap ordering_reverse is

-- An update made in the node that covers its position is made in the entries of all nodes.
puts_joined : (update : Update) (least : Pos) (reads : List NodeRead) → PosFits update.pos → is_le (pos_cmp least update.pos) ≡ true → AreRising greatest_pos (greatests reads) → AreRead 0 least reads
    → with_puts true update least reads ≡ put_at pos_cmp update.pos update.value (all_entries reads)
puts_joined update least [] fits first rise are = absurd rise
puts_joined update least (read ∷ reads) fits first rise are =
    ap (λ b. put_if (b && is_le (pos_cmp update.pos read.greatest)) update read.entries ++ with_puts true update (next_of read.greatest) reads) first
    ∙ by (is_le (pos_cmp update.pos read.greatest)) refl (λ from some. puts_joined update (next_of read.greatest) reads fits from some are.1)
  where
    others : (ends : IsBefore read.greatest update.pos) (reads : List NodeRead) → RiseTo read.greatest greatest_pos (greatests reads) → AreRising greatest_pos (greatests reads)
    others ends [] rise = absurd (false≢true (sym (ap is_le (turned greatest_pos update.pos (subst (λ (p : Pos). IsBefore p update.pos) rise ends))) ∙ greatest-last update.pos fits))
    others ends (next ∷ reads) rise = rise.1

    by : (b : Bool) → is_le (pos_cmp update.pos read.greatest) ≡ b
        → (is_le (pos_cmp (next_of read.greatest) update.pos) ≡ true → AreRising greatest_pos (greatests reads) → with_puts true update (next_of read.greatest) reads ≡ put_at pos_cmp update.pos update.value (all_entries reads))
        → put_if b update read.entries ++ with_puts true update (next_of read.greatest) reads ≡ put_at pos_cmp update.pos update.value (read.entries ++ all_entries reads)
    by true here later =
        ap (λ rest. put_at pos_cmp update.pos update.value read.entries ++ rest) (puts_behind update read.greatest reads here rise)
        ∙ sym (put_in_first pos_cmp update.pos update.value read.entries (all_entries reads) (entries_behind update read.greatest reads here rise are.1))
    by false behind later =
        let ends = not_after update.pos read.greatest (pos_cmp update.pos read.greatest) refl behind in
        ap (λ rest. read.entries ++ rest) (later (next_first read.greatest update.pos fits ends) (others ends reads rise))
        ∙ sym (put_in_second pos_cmp update.pos update.value read.entries (all_entries reads) (entries_before update least read.greatest (keys_of read.entries) ends are.0.entries_are.covered))

-- An update of a leaf, made in the leaves of a btree, is made in the btree's entries.
one_update : (btree : Btree) (update : Update) (least : Pos) (reads : List NodeRead) → IsOfLeaf update → is_le (pos_cmp least update.pos) ≡ true → AreRising greatest_pos (greatests reads) → AreRead 0 least reads
    → all_entries (reads_with btree (update ∷ []) least reads) ≡ updated_entries btree update (all_entries reads)
one_update btree update least reads leaf first rise are = puts_are btree update least reads leaf.level are ∙ by (is_update_of btree update)
  where
    by : (mine : Bool) → with_puts mine update least reads ≡ put_if mine update (all_entries reads)
    by true = puts_joined update least reads leaf.fits first rise are
    by false = no_puts update least reads

-- ---- updates

-- Updates of leaves, made in the leaves of a btree, are made in the btree's entries.
pub leaves_joined : (btree : Btree) (updates : List Update) (least : Pos) (reads : List NodeRead) → ((pos : Pos) → PosFits pos → is_le (pos_cmp least pos) ≡ true) → AllByRecursion IsOfLeaf updates → AreRising greatest_pos (greatests reads) → AreRead 0 least reads
    → all_entries (reads_with btree updates least reads) ≡ entries_with btree updates (all_entries reads)
leaves_joined btree [] least reads first leaves rise are = ap all_entries (none_with btree least reads)
  where
    none_with : (btree : Btree) (least : Pos) (reads : List NodeRead) → reads_with btree [] least reads ≡ reads
    none_with btree least [] = refl
    none_with btree least (read ∷ reads) = ap (λ rest. read ∷ rest) (none_with btree (next_of read.greatest) reads)
leaves_joined btree (update ∷ updates) least reads first leaves rise are =
    let one : List NodeRead = reads_with btree (update ∷ []) least reads in
    ap all_entries (reads_with-append btree (update ∷ []) updates least reads)
    ∙ leaves_joined btree updates least one first leaves.1 (subst (AreRising greatest_pos) (sym (greatests-with btree (update ∷ []) least reads)) rise) (are_read-with btree 0 (update ∷ []) least reads are)
    ∙ ap (entries_with btree updates) (one_update btree update least reads leaves.0 (first update.pos leaves.0.fits) rise are)
