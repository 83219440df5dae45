-- A level of nodes that was read: its entries rise and cover what the nodes cover, and where they lead to nodes of the level below,
-- these are a level in which each node of this one ends.
use Rattle.std.proofs.Common.{◌≡◌, ◌≢◌, ℕ, zero, suc, Bool, true, false, cond, ◌&&◌, ◌||◌, List, [], ◌∷◌, ◌++◌, Option, Some, None, Result, Ok, Err, refl, sym, ap, subst, ◌∙◌}
use Rattle.std.specs.List.{AllByRecursion, cons_option, filter, filter_map, flat_map, list_all}
use Rattle.std.specs.List.Sorted.{IsStrictlySortedBy}
use Rattle.std.specs.Map.{keys_of, values_of}
use Rattle.std.specs.BTreeMap.{is_at}
use Rattle.std.specs.Option.{option_map_or}
use Rattle.std.specs.Ordering.{is_eq, is_le, is_lt}
use Rattle.std.specs.Prelude.{All, ⊤, ◌==◌, is_some, slice_get, unwrap_or}
use Rattle.std.specs.declared.cmp.Ordering.{Ordering}
use Rattle.std.specs.declared.cmp.Ordering.TheVariants.{Less, Equal, Greater}
use Rattle.std.proofs.lemmas.Bool.{and_parts, eqb-true, false≢true, true≢false}
use Rattle.std.proofs.lemmas.List.{map-append}
use Rattle.std.proofs.lemmas.List.Elements.{All-append, All-cons, All-head, All-nil, All-tail}
use Rattle.std.proofs.lemmas.List.Folds.{list_any-append}
use Rattle.std.proofs.lemmas.Map.Made.{is_some-lookup}
use Rattle.birth_index.specs.NameLaws.{one_btree}
use Rattle.key_codec.specs.Combined.{bind_ok, ok_is}
use Rattle.key_codec.specs.Formats.{◌>>=◌}
use Rattle.image_view.specs.Trees.{NodeRead, SetsOf, Wanted, are_children, child_in, children_of, each_of, ends_at, first_place, is_of_node, read_level, read_node, updated}
use Rattle.node_store.specs.NodeContents.{NodeContent, wanted_of}
use Rattle.record_codec.specs.declared.sets.SetHead.{SetHead}
use Rattle.tree_keys.specs.Cuts.{is_end}
use Rattle.tree_nodes.specs.Levels.{EndsAt, IsNodeOf, IsRow, Level}
use Rattle.tree_nodes.specs.RowLaws.{same_at}
use Rattle.vol_types.specs.Btrees.{btree_code}
use Rattle.vol_types.specs.FollowerLaws.{follows-test, not_greatest}
use Rattle.vol_types.specs.KeyMaps.{Entries}
use Rattle.vol_types.specs.MapLaws.{IsMap-append}
use Rattle.vol_types.specs.Maps.{IsMap, put_at}
use Rattle.vol_types.specs.PositionLaws.{is_within-iff, pos_total}
use Rattle.vol_types.specs.Positions.{IsBefore, IsWithin, greatest_pos, is_within, next_pos, pos_cmp}
use Rattle.vol_types.specs.Ranges.{IsValue}
use Rattle.vol_types.specs.Standing.{IsUpdate, MayStand, Stands}
use Rattle.vol_types.specs.Widths.{PosFits}
use Rattle.vol_types.specs.declared.keys.Update.{Update}
use Rattle.vol_types.specs.declared.pointers.NodePtr.{NodePtr}
use Rattle.vol_types.specs.declared.pointers.Place.{Place}
use Rattle.vol_types.specs.declared.positions.Btree.{Btree}
use Rattle.vol_types.specs.declared.positions.Pos.{Pos}
use Rattle.vol_types.specs.declared.values.Value.{Value}
use Rattle.vol_types.specs.declared.values.Value.TheVariants as values
use Rattle.replay.proofs.Contents.{IsContent, IsKeyOf, content-put}

-- what a node is wanted to be, as what stands before the keys of its sets
abbrev pub head_of : Wanted → SetHead
head_of wanted = wanted_of wanted.btree wanted.least wanted.greatest wanted.pointer

-- The sets of each node come to what may be its entries.
abbrev pub AreSound : SetsOf → Type 0
AreSound sets = (wanted : Wanted) (content : NodeContent) → sets wanted ≡ Ok content → IsContent (head_of wanted) content.entries

-- The update may be made, and its position has its widths.
pub record IsSoundUpdate (update : Update) : Type 0 where
  pub is : IsUpdate update
  pub fits : PosFits update.pos

-- ---- nodes

-- An update of a node's keys may be put into it.
update_key : (wanted : Wanted) (update : Update) → IsSoundUpdate update → is_of_node wanted update ≡ true → IsKeyOf (head_of wanted) update.pos update.value
update_key wanted update sound of =
    let a = and_parts (btree_code update.btree == btree_code wanted.btree) (update.level == wanted.pointer.level && is_within wanted.least wanted.greatest update.pos) of in
    let b = and_parts (update.level == wanted.pointer.level) (is_within wanted.least wanted.greatest update.pos) a.1 in
    let btree = one_btree update.btree wanted.btree (eqb-true (btree_code update.btree) (btree_code wanted.btree) a.0) in
    let level = eqb-true update.level wanted.pointer.level b.0 in
    record {
      fits = sound.fits;
      covered = (is_within-iff wanted.least wanted.greatest update.pos).0 b.1;
      stands = subst (λ (n : ℕ). Stands wanted.btree n update.value) level (subst (λ (t : Btree). Stands t update.level update.value) btree sound.is.stands);
      in_range = sound.is.in_range;
    }

-- Updates of a node's keys leave what may be its entries.
content-updated : (wanted : Wanted) (updates : List Update) (entries : Entries) → AllByRecursion IsSoundUpdate updates → IsContent (head_of wanted) entries → IsContent (head_of wanted) (updated (filter (is_of_node wanted) updates) entries)
content-updated wanted [] entries sound is = is
content-updated wanted (update ∷ updates) entries sound is = by (is_of_node wanted update) refl (λ es now. content-updated wanted updates es sound.1 now)
  where
    by : (b : Bool) → is_of_node wanted update ≡ b → ((es : Entries) → IsContent (head_of wanted) es → IsContent (head_of wanted) (updated (filter (is_of_node wanted) updates) es))
        → IsContent (head_of wanted) (updated (cond b (update ∷ filter (is_of_node wanted) updates) (filter (is_of_node wanted) updates)) entries)
    by true of later = later (put_at pos_cmp update.pos update.value entries) (content-put (head_of wanted) update.pos update.value entries is (update_key wanted update sound.0 of))
    by false of later = later entries is

-- The node was read as one that ends here, and lies here.
pub record IsReadOf (btree : Btree) (least : Pos) (node : Pos × NodePtr) (read : NodeRead) : Type 0 where
  pub greatest : read.greatest ≡ node.0
  pub content : IsContent (wanted_of btree least node.0 node.1) read.entries

-- the first position behind a node
abbrev pub next_of : Pos → Pos
next_of greatest = unwrap_or (next_pos greatest) greatest_pos

-- The nodes were read so, each after the one before it.
abbrev pub AreRead : Btree → Pos → Level → List NodeRead → Type 0
AreRead btree least [] [] = ⊤
AreRead btree least [] (read ∷ reads) = ⊥
AreRead btree least (node ∷ nodes) [] = ⊥
AreRead btree least (node ∷ nodes) (read ∷ reads) = IsReadOf btree least node read × AreRead btree (next_of node.0) nodes reads

module _ (sets : SetsOf) (updates : List Update) (sound : AreSound sets) (may : AllByRecursion IsSoundUpdate updates) where
  node_is_read : (btree : Btree) (least : Pos) (node : Pos × NodePtr) (read : NodeRead) → read_node sets updates (record { btree = btree; least = least; greatest = node.0; pointer = node.1 }) ≡ Ok read → IsReadOf btree least node read
  node_is_read btree least node read is =
      let wanted : Wanted = record { btree = btree; least = least; greatest = node.0; pointer = node.1 } in
      let make : NodeContent → NodeRead = λ content. record { greatest = node.0; pointer = node.1; entries = updated (filter (is_of_node wanted) updates) content.entries; end = content.end } in
      let step = bind_ok (sets wanted) (λ content. Ok (make content)) read is in
      let same : make step.0 ≡ read = ok_is (make step.0) read step.2 in
      subst (IsReadOf btree least node) same (record { greatest = refl; content = content-updated wanted updates step.0.entries may (sound wanted step.0 step.1) })

  -- A level that was read was read node by node.
  pub level_is_read : (btree : Btree) (least : Pos) (nodes : Level) (reads : List NodeRead) → read_level sets updates btree least nodes ≡ Ok reads → AreRead btree least nodes reads
  level_is_read btree least [] reads is = subst (AreRead btree least []) (ok_is [] reads is) tt
  level_is_read btree least (node ∷ nodes) reads is =
      let with_first : NodeRead → List NodeRead → Result (List NodeRead) Place = λ first others. Ok (first ∷ others) in
      let rest_by : NodeRead → Result (List NodeRead) Place = λ first. read_level sets updates btree (next_of node.0) nodes >>= with_first first in
      let first = bind_ok (read_node sets updates (record { btree = btree; least = least; greatest = node.0; pointer = node.1 })) rest_by reads is in
      let rest = bind_ok (read_level sets updates btree (next_of node.0) nodes) (with_first first.0) reads first.2 in
      subst (AreRead btree least (node ∷ nodes)) (ok_is (first.0 ∷ rest.0) reads rest.2) (node_is_read btree least node first.0 first.1, level_is_read btree (next_of node.0) nodes rest.0 rest.1)

-- ---- entries

-- the entries of nodes, one node after the other
abbrev pub all_entries : List NodeRead → Entries
all_entries reads = flat_map (λ node. node.entries) reads

-- Entries of a node that begins behind a position are after it.
after_begin : (before : Pos) → PosFits before → before ≢ greatest_pos → (greatest : Pos) (entries : Entries) → All PosFits (keys_of entries) → All (IsWithin (next_of before) greatest) (keys_of entries)
    → AllByRecursion (λ key. IsBefore before key) (keys_of entries)
after_begin before fits ends greatest [] fit covered = tt
after_begin before fits ends greatest (e ∷ es) fit covered =
    let here = (is_within-iff (next_of before) greatest e.0).1 (All-head (IsWithin (next_of before) greatest) e.0 (keys_of es) covered) in
    let le = (and_parts (is_le (pos_cmp (next_of before) e.0)) (is_le (pos_cmp e.0 greatest)) here).0 in
    (below (pos_cmp before e.0) (sym (follows-test before e.0 fits (All-head PosFits e.0 (keys_of es) fit) ends) ∙ le), after_begin before fits ends greatest es (All-tail PosFits e.0 (keys_of es) fit) (All-tail (IsWithin (next_of before) greatest) e.0 (keys_of es) covered))
  where
    below : (r : Ordering) → is_lt r ≡ true → r ≡ Less
    below Less is = refl
    below Equal is = absurd (false≢true is)
    below Greater is = absurd (false≢true is)

-- what is above a greater position is above this one
above_lower : (low high : Pos) (keys : List Pos) → IsBefore low high → AllByRecursion (λ key. IsBefore high key) keys → AllByRecursion (λ key. IsBefore low key) keys
above_lower low high [] less all = tt
above_lower low high (key ∷ keys) less all = (pos_total.trans low high key less all.0, above_lower low high keys less all.1)

by_recursion-append : {X : Type 0} (P : X → Type 0) (xs ys : List X) → AllByRecursion P xs → AllByRecursion P ys → AllByRecursion P (xs ++ ys)
by_recursion-append P [] ys all others = others
by_recursion-append P (x ∷ xs) ys all others = (all.0, by_recursion-append P xs ys all.1 others)

keys-append : {X : Type 0} (one other : List (Pos × X)) → keys_of (one ++ other) ≡ keys_of one ++ keys_of other
keys-append one other = map-append (λ e. e.0) one other

values-append : {X : Type 0} (one other : List (Pos × X)) → values_of (one ++ other) ≡ values_of one ++ values_of other
values-append one other = map-append (λ e. e.1) one other

-- a row without its first node
row_tail : (node : Pos × NodePtr) (nodes : Level) → IsRow (node ∷ nodes) → IsRow nodes
unfolding IsStrictlySortedBy
row_tail node nodes row = record { rises = row.rises.1; fits = All-tail PosFits node.0 (keys_of nodes) row.fits }

row_above : (node : Pos × NodePtr) (nodes : Level) → IsRow (node ∷ nodes) → AllByRecursion (λ key. IsBefore node.0 key) (keys_of nodes)
unfolding IsStrictlySortedBy
row_above node nodes row = row.rises.0

-- Entries of nodes behind a position are after it.
entries_after : (btree : Btree) (before : Pos) (nodes : Level) (reads : List NodeRead) → PosFits before → AllByRecursion (λ key. IsBefore before key) (keys_of nodes) → IsRow nodes → AreRead btree (next_of before) nodes reads
    → AllByRecursion (λ key. IsBefore before key) (keys_of (all_entries reads))
entries_after btree before [] [] fits above row are = tt
entries_after btree before [] (read ∷ reads) fits above row are = absurd are
entries_after btree before (node ∷ nodes) [] fits above row are = absurd are
entries_after btree before (node ∷ nodes) (read ∷ reads) fits above row are =
    let wide : PosFits node.0 = All-head PosFits node.0 (keys_of nodes) row.fits in
    let here = after_begin before fits (not_greatest before node.0 fits wide above.0) node.0 read.entries are.0.content.fit are.0.content.covered in
    let later = entries_after btree node.0 nodes reads wide (row_above node nodes row) (row_tail node nodes row) are.1 in
    subst (λ keys. AllByRecursion (λ key. IsBefore before key) keys) (sym (keys-append read.entries (all_entries reads)))
    (by_recursion-append (λ key. IsBefore before key) (keys_of read.entries) (keys_of (all_entries reads)) here (above_lower before node.0 (keys_of (all_entries reads)) above.0 later))

-- What is at most a position is before all after it.
apart : (greatest : Pos) (least : Pos) (keys later : List Pos) → All (IsWithin least greatest) keys → AllByRecursion (λ key. IsBefore greatest key) later → AllByRecursion (λ low. AllByRecursion (λ high. pos_cmp low high ≡ Less) later) keys
apart greatest least [] later covered above = tt
apart greatest least (key ∷ keys) later covered above =
    (lower (pos_cmp key greatest) refl (All-head (IsWithin least greatest) key keys covered).1, apart greatest least keys later (All-tail (IsWithin least greatest) key keys covered) above)
  where
    lower : (r : Ordering) → pos_cmp key greatest ≡ r → r ≢ Greater → AllByRecursion (λ high. pos_cmp key high ≡ Less) later
    lower Less is isnt = above_lower key greatest later is above
    lower Equal is isnt = subst (λ (p : Pos). AllByRecursion (λ high. pos_cmp p high ≡ Less) later) (sym (same_at key greatest (ap is_eq is))) above
    lower Greater is isnt = absurd (isnt refl)

-- The entries of a level rise.
pub entries_rise : (btree : Btree) (least : Pos) (nodes : Level) (reads : List NodeRead) → IsRow nodes → AreRead btree least nodes reads → IsMap pos_cmp (all_entries reads)
unfolding IsStrictlySortedBy
entries_rise btree least [] [] row are = tt
entries_rise btree least [] (read ∷ reads) row are = absurd are
entries_rise btree least (node ∷ nodes) [] row are = absurd are
entries_rise btree least (node ∷ nodes) (read ∷ reads) row are =
    let tail = row_tail node nodes row in
    let later = entries_after btree node.0 nodes reads (All-head PosFits node.0 (keys_of nodes) row.fits) (row_above node nodes row) tail are.1 in
    IsMap-append pos_cmp read.entries (all_entries reads) are.0.content.rises (entries_rise btree (next_of node.0) nodes reads tail are.1)
    (apart node.0 least (keys_of read.entries) (keys_of (all_entries reads)) are.0.content.covered later)

-- What holds of the positions of each node's entries holds of all.
keys_all : (P : Pos → Type 0) (btree : Btree) (least : Pos) (nodes : Level) (reads : List NodeRead) → ((head : SetHead) (entries : Entries) → IsContent head entries → All P (keys_of entries)) → AreRead btree least nodes reads → All P (keys_of (all_entries reads))
keys_all P btree least [] [] each are = All-nil P
keys_all P btree least [] (read ∷ reads) each are = absurd are
keys_all P btree least (node ∷ nodes) [] each are = absurd are
keys_all P btree least (node ∷ nodes) (read ∷ reads) each are =
    subst (All P) (sym (keys-append read.entries (all_entries reads)))
    (All-append P (keys_of read.entries) (keys_of (all_entries reads)) (each (wanted_of btree least node.0 node.1) read.entries are.0.content) (keys_all P btree (next_of node.0) nodes reads each are.1))

-- The positions of a level's entries have their widths.
pub entries_fit : (btree : Btree) (least : Pos) (nodes : Level) (reads : List NodeRead) → AreRead btree least nodes reads → All PosFits (keys_of (all_entries reads))
entries_fit btree least nodes reads are = keys_all PosFits btree least nodes reads (λ head entries is. is.fit) are

-- Its values are in range, and may stand there.
pub entries_stand : (btree : Btree) (level : ℕ) (least : Pos) (nodes : Level) (reads : List NodeRead) → All (IsNodeOf level) (values_of nodes) → AreRead btree least nodes reads
    → All IsValue (values_of (all_entries reads)) × All (MayStand btree level) (values_of (all_entries reads))
entries_stand btree level least [] [] each are = (All-nil IsValue, All-nil (MayStand btree level))
entries_stand btree level least [] (read ∷ reads) each are = absurd are
entries_stand btree level least (node ∷ nodes) [] each are = absurd are
entries_stand btree level least (node ∷ nodes) (read ∷ reads) each are =
    let later = entries_stand btree level (next_of node.0) nodes reads (All-tail (IsNodeOf level) node.1 (values_of nodes) each) are.1 in
    let numbered : node.1.level ≡ level = (All-head (IsNodeOf level) node.1 (values_of nodes) each).numbered in
    let stand : All (MayStand btree level) (values_of read.entries) = subst (λ (n : ℕ). All (MayStand btree n) (values_of read.entries)) numbered are.0.content.stand in
    let joined = sym (values-append read.entries (all_entries reads)) in (
      subst (All IsValue) joined (All-append IsValue (values_of read.entries) (values_of (all_entries reads)) are.0.content.in_range later.0),
      subst (All (MayStand btree level)) joined (All-append (MayStand btree level) (values_of read.entries) (values_of (all_entries reads)) stand later.1),
    )

-- ---- children

-- What leads to a node of a level is a node's pointer of that level, at its position.
child_is : (level : ℕ) (entry : Pos × Value) (child : Pos × NodePtr) → child_in level entry ≡ Some child → (child.0 ≡ entry.0) × (entry.1 ≡ values.Node child.1) × (child.1.level ≡ level)
child_is level (pos, values.Node pointer) child is = by (pointer.level == level) refl is
  where
    by : (b : Bool) → (pointer.level == level) ≡ b → cond b (Some (pos, pointer)) None ≡ Some child → (child.0 ≡ pos) × (values.Node pointer ≡ values.Node child.1) × (child.1.level ≡ level)
    by true numbered is =
        let same : (pos, pointer) ≡ child = cc in
        (ap (λ (c : Pos × NodePtr). c.0) (sym same), ap (λ (c : Pos × NodePtr). values.Node c.1) same, ap (λ (c : Pos × NodePtr). c.1.level) (sym same) ∙ eqb-true pointer.level level numbered)
    by false numbered is = absurd cc
child_is level (pos, values.Inode x) child is = absurd cc
child_is level (pos, values.Names x) child is = absurd cc
child_is level (pos, values.Extent x) child is = absurd cc
child_is level (pos, values.Hole x) child is = absurd cc
child_is level (pos, values.White) child is = absurd cc
child_is level (pos, values.Subs x) child is = absurd cc
child_is level (pos, values.Snap x) child is = absurd cc
child_is level (pos, values.Live x) child is = absurd cc
child_is level (pos, values.Back x) child is = absurd cc
child_is level (pos, values.Gone) child is = absurd cc
child_is level (pos, values.Counter x) child is = absurd cc

-- whether each entry leads to a node of the level
abbrev all_lead : ℕ → Entries → Bool
all_lead level entries = list_all (λ entry. is_some (child_in level entry)) entries

-- the nodes to which entries lead
abbrev led_to : ℕ → Entries → Level
led_to level entries = filter_map (child_in level) entries

-- Where each entry leads to a node of the level, these nodes stand at the entries' positions, and are of that level and in range.
led_keys : (level : ℕ) (entries : Entries) → all_lead level entries ≡ true → keys_of (led_to level entries) ≡ keys_of entries
led_keys level [] lead = refl
led_keys level (e ∷ es) lead =
    let both = and_parts (is_some (child_in level e)) (all_lead level es) lead in
    by (child_in level e) refl both.0 (led_keys level es both.1)
  where
    by : (o : Option (Pos × NodePtr)) → child_in level e ≡ o → is_some (child_in level e) ≡ true → keys_of (led_to level es) ≡ keys_of es → keys_of (cons_option o (led_to level es)) ≡ e.0 ∷ keys_of es
    by None is some later = absurd (true≢false (sym some ∙ ap is_some is))
    by (Some child) is some later = ap (λ (p : Pos). p ∷ keys_of (led_to level es)) (child_is level e child is).0 ∙ ap (λ keys. e.0 ∷ keys) later

led_nodes : (level : ℕ) (entries : Entries) → All IsValue (values_of entries) → All (IsNodeOf level) (values_of (led_to level entries))
led_nodes level [] in_range = All-nil (IsNodeOf level)
led_nodes level (e ∷ es) in_range = by (child_in level e) refl (led_nodes level es (All-tail IsValue e.1 (values_of es) in_range))
  where
    by : (o : Option (Pos × NodePtr)) → child_in level e ≡ o → All (IsNodeOf level) (values_of (led_to level es)) → All (IsNodeOf level) (values_of (cons_option o (led_to level es)))
    by None is later = later
    by (Some child) is later =
        let leads = child_is level e child is in
        All-cons (IsNodeOf level) child.1 (values_of (led_to level es)) (record { numbered = leads.2; in_range = subst IsValue leads.1 (All-head IsValue e.1 (values_of es) in_range) }) later

-- The last entry's position is among the positions of all.
last_is_end : (at : Pos) (entries : Entries) (place : ℕ) → option_map_or (λ (entry : Pos × Value). is_at (pos_cmp at) entry.0) (slice_get entries place) false ≡ true → is_end at (keys_of entries) ≡ true
last_is_end at [] place is = absurd (false≢true is)
last_is_end at (e ∷ es) zero is = ap (λ (b : Bool). b || is_end at (keys_of es)) is
last_is_end at (e ∷ es) (suc place) is = later (is_at (pos_cmp at) e.0) (last_is_end at es place is)
  where
    later : (b : Bool) → is_end at (keys_of es) ≡ true → (b || is_end at (keys_of es)) ≡ true
    later true there = refl
    later false there = there

-- A node of the level ends at a position exactly where that is among the ends of its nodes.
pub ends_at-end : (nodes : Level) (at : Pos) → EndsAt nodes at → is_end at (keys_of nodes) ≡ true
ends_at-end nodes at ends = sym (is_some-lookup (is_at (pos_cmp at)) nodes) ∙ ends

pub end-ends_at : (nodes : Level) (at : Pos) → is_end at (keys_of nodes) ≡ true → EndsAt nodes at
end-ends_at nodes at ends = is_some-lookup (is_at (pos_cmp at)) nodes ∙ ends

-- What the nodes of a level make of the level below.
pub record AreChildren (level : ℕ) (nodes : Level) (reads : List NodeRead) (below : Level) : Type 0 where
  pub keys : keys_of below ≡ keys_of (all_entries reads)
  pub each : All (IsNodeOf level) (values_of below)
  pub ends : (at : Pos) → is_end at (keys_of nodes) ≡ true → is_end at (keys_of below) ≡ true

-- the nodes of all, one list after the other
abbrev pub all_children : List Level → Level
all_children lists = flat_map (λ children. children) lists

one_of : (a b : Bool) (P : Type 0) → (a || b) ≡ true → (a ≡ true → P) → (b ≡ true → P) → P
one_of true b P is first second = first refl
one_of false b P is first second = second is

end-first : (at : Pos) (one other : List Pos) → is_end at one ≡ true → is_end at (one ++ other) ≡ true
end-first at one other there = list_any-append (is_at (pos_cmp at)) one other ∙ ap (λ (b : Bool). b || is_end at other) there

end-second : (at : Pos) (one other : List Pos) → is_end at other ≡ true → is_end at (one ++ other) ≡ true
end-second at one other there = list_any-append (is_at (pos_cmp at)) one other ∙ by (is_end at one)
  where
    by : (b : Bool) → (b || is_end at other) ≡ true
    by true = refl
    by false = there

child_list : (level : ℕ) (read : NodeRead) (children : Level) → children_of level read ≡ Ok children → (are_children level read.greatest read.entries ≡ true) × (led_to level read.entries ≡ children)
child_list level read children is = by (are_children level read.greatest read.entries) refl is
  where
    by : (b : Bool) → are_children level read.greatest read.entries ≡ b → cond b (Ok (led_to level read.entries)) (Err (first_place read.pointer)) ≡ Ok children
        → (are_children level read.greatest read.entries ≡ true) × (led_to level read.entries ≡ children)
    by true are is = (are, ok_is (led_to level read.entries) children is)
    by false are is = absurd cc

pub children_are : (btree : Btree) (level : ℕ) (least : Pos) (nodes : Level) (reads : List NodeRead) (lists : List Level) → AreRead btree least nodes reads → each_of (children_of level) reads ≡ Ok lists → AreChildren level nodes reads (all_children lists)
children_are btree level least [] [] lists are is =
    subst (λ (ls : List Level). AreChildren level [] [] (all_children ls)) (ok_is [] lists is) (record { keys = refl; each = All-nil (IsNodeOf level); ends = λ at there. there })
children_are btree level least [] (read ∷ reads) lists are is = absurd are
children_are btree level least (node ∷ nodes) [] lists are is = absurd are
children_are btree level least (node ∷ nodes) (read ∷ reads) lists are is =
    let with_first : Level → List Level → Result (List Level) Place = λ first others. Ok (first ∷ others) in
    let rest_by : Level → Result (List Level) Place = λ first. each_of (children_of level) reads >>= with_first first in
    let first = bind_ok (children_of level read) rest_by lists is in
    let rest = bind_ok (each_of (children_of level) reads) (with_first first.0) lists first.2 in
    let later = children_are btree level (next_of node.0) nodes reads rest.0 are.1 rest.1 in
    let one = child_list level read first.0 first.1 in
    let tests = and_parts (all_lead level read.entries) (ends_at read.greatest read.entries) one.0 in
    let children : Level = led_to level read.entries in
    let keys : keys_of children ≡ keys_of read.entries = led_keys level read.entries tests.0 in
    let joined = subst (λ (first : Level). AreChildren level (node ∷ nodes) (read ∷ reads) (first ++ all_children rest.0)) one.1 (record {
      keys = keys-append children (all_children rest.0) ∙ ap (λ ks. ks ++ keys_of (all_children rest.0)) keys ∙ ap (λ ks. keys_of read.entries ++ ks) later.keys ∙ sym (keys-append read.entries (all_entries reads));
      each = subst (All (IsNodeOf level)) (sym (values-append children (all_children rest.0))) (All-append (IsNodeOf level) (values_of children) (values_of (all_children rest.0)) (led_nodes level read.entries are.0.content.in_range) later.each);
      ends = λ at there. subst (λ ks. is_end at ks ≡ true) (sym (keys-append children (all_children rest.0)))
          (one_of (is_at (pos_cmp at) node.0) (is_end at (keys_of nodes)) _ there
          (λ here. end-first at (keys_of children) (keys_of (all_children rest.0)) (subst (λ ks. is_end at ks ≡ true) (sym keys)
          (subst (λ (p : Pos). is_end p (keys_of read.entries) ≡ true) (are.0.greatest ∙ sym (same_at at node.0 here)) (last_is_end read.greatest read.entries _ tests.1))))
          (λ below. end-second at (keys_of children) (keys_of (all_children rest.0)) (later.ends at below)));
    }) in
    subst (λ (ls : List Level). AreChildren level (node ∷ nodes) (read ∷ reads) (all_children ls)) (ok_is (first.0 ∷ rest.0) lists rest.2) joined
