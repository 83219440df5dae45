-- What an image's sets of a node come to are entries that rise and lie within the node.
use Rattle.std.proofs.Common.{◌≡◌, ℕ, zero, suc, Bool, true, false, cond, List, [], ◌∷◌, Option, Some, None, Result, Ok, Err, refl, ap, subst}
use Rattle.std.specs.Prelude.{◌&&◌, ◌==◌, option_map}
use Rattle.std.specs.List.{AllByRecursion}
use Rattle.std.specs.List.Sorted.{IsStrictlySortedBy}
use Rattle.std.specs.Option.{option_map_or}
use Rattle.std.specs.Ordering.{is_le}
use Rattle.std.proofs.lemmas.Bool.{and_parts, eqb-true}
use Rattle.std.proofs.lemmas.List.Elements.{All-nil}
use Rattle.dev_model.specs.Disk.{Image, block_at}
use Rattle.key_codec.specs.Combined.{bind_ok, ok_is}
use Rattle.key_codec.specs.Formats.{FormatOf, both, checked, followed, is_above, items, read_items}
use Rattle.node_mem.specs.CountLaws.{keys-put_at}
use Rattle.node_mem.specs.Nodes.{with_keys}
use Rattle.node_store.specs.Copies.{copies_at}
use Rattle.node_store.specs.NodeContents.{NodeContent, content_if, content_with, entries_after, is_same_pos, is_wanted, keys_if, may_hold, wanted_of}
use Rattle.node_store.specs.NodeContents.{keys_of as keys_read}
use Rattle.node_store.specs.StoredSets.{sets_in as stored_sets}
use Rattle.node_store.specs.declared.sets.StoredSet.{StoredSet}
use Rattle.node_store.specs.declared.sets.StoredSets.{StoredSets}
use Rattle.record_codec.specs.Fields.{listing, position, u32_field, value_in}
use Rattle.record_codec.specs.Sets.{all_read, head_of, is_next, key_item, set_format, set_head, set_in}
use Rattle.record_codec.specs.declared.fault.RecordFault.{RecordFault}
use Rattle.record_codec.specs.declared.fault.RecordFault.TheVariants.{Order}
use Rattle.record_codec.specs.declared.sets.SetHead.{SetHead}
use Rattle.record_codec.specs.declared.sets.SetRecord.{SetRecord}
use Rattle.vol_types.specs.Btrees.{btree_code}
use Rattle.vol_types.specs.KeyMaps.{Entries}
use Rattle.vol_types.specs.MapLaws.{IsMap-put_at}
use Rattle.vol_types.specs.Maps.{put_at}
use Rattle.vol_types.specs.PositionLaws.{pos_total}
use Rattle.vol_types.specs.Positions.{pos_cmp}
use Rattle.vol_types.specs.declared.keys.Key.{Key}
use Rattle.vol_types.specs.declared.layout.Layout.{Layout}
use Rattle.vol_types.specs.declared.positions.Pos.{Pos}
use Rattle.vol_types.specs.declared.values.Value.{Value}
use Rattle.image_view.specs.BaseLaws.{sets_in-ok}
use Rattle.image_view.specs.Found.{sets_in}
use Rattle.image_view.proofs.LevelUpdates.{AreOfNode, AreOrdered, Lies}
use Rattle.image_view.proofs.ReadParts.{checked_of, followed_of, items_of, mapped_of}

-- Keys lie within a node.
abbrev AreWithin : SetHead → List Key → Type 0
AreWithin head keys = AllByRecursion (λ (key : Key). Lies head.least head.greatest key.pos) keys

-- ---- one set

-- A key that was read of a set is covered by the node.
item_within : (head : SetHead) (before : Option Key) (bytes : List ℕ) (x : Key × List ℕ) → (key_item head before).read bytes ≡ Ok x → Lies head.least head.greatest x.0.pos
unfolding key_item
item_within head before bytes x is =
    let judged : FormatOf RecordFault Pos = checked position (is_next head before) Order in
    let made = mapped_of ((both judged (value_in head.btree head.level)).read bytes) (λ (p : Pos × Option Value). record { pos = p.0; value = p.1 }) x is in
    let parts = followed_of judged (λ _. value_in head.btree head.level) bytes made.0 made.1 in
    let pos : Pos = made.0.0.0 in
    let next : is_next head before pos ≡ true = checked_of position (is_next head before) Order bytes (pos, parts.0) parts.1 in
    let within : Lies head.least head.greatest pos = (and_parts (is_above pos_cmp (option_map (λ (key : Key). key.pos) before) pos) (is_le (pos_cmp head.least pos) && is_le (pos_cmp pos head.greatest)) next).1 in
    subst (λ (key : Key). Lies head.least head.greatest key.pos) made.2 within

-- So are all.
items_within : (head : SetHead) (before : Option Key) (n : ℕ) (bytes : List ℕ) (xs : List Key × List ℕ) → read_items (key_item head) before n bytes ≡ Ok xs → AreWithin head xs.0
items_within head before zero bytes xs is = subst (λ (r : List Key × List ℕ). AreWithin head r.0) (ok_is ([], bytes) xs is) tt
items_within head before (suc n) bytes xs is =
    let parts = items_of (key_item head) before n bytes xs is in
    subst (AreWithin head) parts.4 (item_within head before bytes parts.0 parts.2, items_within head (Some parts.0.0) n parts.0.1 parts.1 parts.3)

listing_within : (head : SetHead) (bytes : List ℕ) (xs : List Key × List ℕ) → (listing (key_item head)).read bytes ≡ Ok xs → AreWithin head xs.0
unfolding listing items
listing_within head bytes xs is =
    let made = mapped_of ((followed u32_field (items (key_item head))).read bytes) (λ (x : ℕ × List Key). x.1) xs is in
    let parts = followed_of u32_field (items (key_item head)) bytes made.0 made.1 in
    subst (AreWithin head) made.2 (items_within head None made.0.0.0 parts.0 (made.0.0.1, made.0.1) parts.2)

format_within : (bytes : List ℕ) (x : SetRecord × List ℕ) → set_format.read bytes ≡ Ok x → AreWithin (head_of x.0) x.0.keys
unfolding set_format
format_within bytes x is =
    let listed : SetHead → FormatOf RecordFault (List Key) = λ head. listing (key_item head) in
    let made = mapped_of ((followed set_head listed).read bytes) (λ (x : SetHead × List Key). record { birth = x.0.birth; btree = x.0.btree; level = x.0.level; least = x.0.least; greatest = x.0.greatest; keys = x.1 }) x is in
    let parts = followed_of set_head listed bytes made.0 made.1 in
    subst (λ (set : SetRecord). AreWithin (head_of set) set.keys) made.2 (listing_within made.0.0.0 parts.0 (made.0.0.1, made.0.1) parts.2)

-- What is read with no bytes left was read.
pub read_all : {A : Type 0} (x : A × List ℕ) (y : A) → all_read x ≡ Ok y → x.0 ≡ y
read_all (x, []) y is = ok_is x y is
read_all (x, b ∷ rest) y is = absurd cc

-- The keys of a set lie within the node that it says it is of.
set_within : (bytes : List ℕ) (set : SetRecord) → set_in bytes ≡ Ok set → AreWithin (head_of set) set.keys
unfolding set_in
set_within bytes set is =
    let read = bind_ok (set_format.read bytes) all_read set is in
    subst (λ (s : SetRecord). AreWithin (head_of s) s.keys) (read_all read.0 set read.2) (format_within bytes read.0 read.1)

-- ---- the sets of a node

same_pos : (one other : Pos) → is_same_pos one other ≡ true → one ≡ other
same_pos one other same =
    let a = and_parts (one.inode == other.inode && one.offset == other.offset) (one.snapshot == other.snapshot) same in
    let b = and_parts (one.inode == other.inode) (one.offset == other.offset) a.0 in
    let inode = eqb-true one.inode other.inode b.0 in
    let offset = eqb-true one.offset other.offset b.1 in
    let snapshot = eqb-true one.snapshot other.snapshot a.1 in
    λ i. record { inode = inode i; offset = offset i; snapshot = snapshot i }

-- What is wanted of a set's range is what it says.
same_range : (wanted head : SetHead) → is_wanted wanted head ≡ true → (head.least ≡ wanted.least) × (head.greatest ≡ wanted.greatest)
same_range wanted head same =
    let a = and_parts (head.birth == wanted.birth && btree_code head.btree == btree_code wanted.btree && head.level == wanted.level && is_same_pos head.least wanted.least) (is_same_pos head.greatest wanted.greatest) same in
    let b = and_parts (head.birth == wanted.birth && btree_code head.btree == btree_code wanted.btree && head.level == wanted.level) (is_same_pos head.least wanted.least) a.0 in
    (same_pos head.least wanted.least b.1, same_pos head.greatest wanted.greatest a.1)

-- Keys that lie within a node leave entries of it.
with_keys-of_node : (wanted : SetHead) (keys : List Key) (entries : Entries) → AreWithin wanted keys → AreOfNode wanted.least wanted.greatest entries → AreOfNode wanted.least wanted.greatest (with_keys keys entries)
with_keys-of_node wanted [] entries within are = are
with_keys-of_node wanted (key ∷ keys) entries within are = with_keys-of_node wanted keys (put_at pos_cmp key.pos key.value entries) within.1 (record {
  rises = IsMap-put_at pos_total key.pos key.value entries are.rises;
  covered = keys-put_at (Lies wanted.least wanted.greatest) key.pos key.value entries are.covered within.0;
})

keys_within : (wanted : SetHead) (n : ℕ) (r : Result SetRecord RecordFault) (keys : List Key) → ((set : SetRecord) → r ≡ Ok set → AreWithin (head_of set) set.keys) → keys_if wanted n r ≡ Some keys → AreWithin wanted keys
keys_within wanted n (Err fault) keys within is = absurd cc
keys_within wanted n (Ok set) keys within is = by (is_wanted wanted (head_of set) && may_hold n set.keys) refl is
  where
    by : (b : Bool) → (is_wanted wanted (head_of set) && may_hold n set.keys) ≡ b → cond b (Some set.keys) None ≡ Some keys → AreWithin wanted keys
    by false one is = absurd cc
    by true one is =
        let range = same_range wanted (head_of set) (and_parts (is_wanted wanted (head_of set)) (may_hold n set.keys) one).0 in
        let same : set.keys ≡ keys = cc in
        subst (AreWithin wanted) same
        (subst (λ (p : Pos). AllByRecursion (λ (key : Key). Lies wanted.least p key.pos) set.keys) range.1
        (subst (λ (p : Pos). AllByRecursion (λ (key : Key). Lies p set.greatest key.pos) set.keys) range.0 (within set refl)))

sets_merged : (wanted : SetHead) (sets : List StoredSet) (entries made : Entries) → AreOfNode wanted.least wanted.greatest entries → entries_after wanted sets entries ≡ Ok made → AreOfNode wanted.least wanted.greatest made
sets_merged wanted [] entries made are is = subst (AreOfNode wanted.least wanted.greatest) (ok_is entries made is) are
sets_merged wanted (set ∷ sets) entries made are is = by (keys_read wanted set) refl is (λ keys now. sets_merged wanted sets (with_keys keys entries) made now)
  where
    by : (o : Option (List Key)) → keys_read wanted set ≡ o → option_map_or (λ keys. entries_after wanted sets (with_keys keys entries)) o (Err set.block) ≡ Ok made
        → ((keys : List Key) → AreOfNode wanted.least wanted.greatest (with_keys keys entries) → entries_after wanted sets (with_keys keys entries) ≡ Ok made → AreOfNode wanted.least wanted.greatest made) → AreOfNode wanted.least wanted.greatest made
    by None found is later = absurd cc
    by (Some keys) found is later = later keys (with_keys-of_node wanted keys entries (keys_within wanted set.block (set_in set.payload) keys (λ read same. set_within set.payload read same) found) are) is

content_made : (wanted : SetHead) (end : ℕ) (r : Result Entries ℕ) (content : NodeContent) → ((made : Entries) → r ≡ Ok made → AreOfNode wanted.least wanted.greatest made) → content_with end r ≡ Ok content → AreOfNode wanted.least wanted.greatest content.entries
content_made wanted end (Err n) content are is = absurd cc
content_made wanted end (Ok made) content are is = subst (AreOfNode wanted.least wanted.greatest) (ap (λ (c : NodeContent). c.entries) (ok_is (record { entries = made; end = end }) content is)) (are made refl)

no_entries : (least greatest : Pos) → AreOfNode least greatest []
unfolding IsStrictlySortedBy
no_entries least greatest = record { rises = tt; covered = All-nil (Lies least greatest) }

content_of_sets : (wanted : SetHead) (r : Result StoredSets ℕ) (content : NodeContent) → content_if wanted r ≡ Ok content → AreOfNode wanted.least wanted.greatest content.entries
content_of_sets wanted (Err n) content is = absurd cc
content_of_sets wanted (Ok found) content is = content_made wanted found.end (entries_after wanted found.sets []) content (λ made e. sets_merged wanted found.sets [] made (no_entries wanted.least wanted.greatest) e) is

-- ---- an image

-- An image's sets of each node come to entries of it.
pub sets_are_ordered : (layout : Layout) (image : Image) → AreOrdered (sets_in layout image)
sets_are_ordered layout image wanted content is =
    let head = wanted_of wanted.btree wanted.least wanted.greatest wanted.pointer in
    content_of_sets head (stored_sets (copies_at (block_at image) wanted.pointer.places) layout.id head.birth) content
    (sets_in-ok layout image wanted content is).1
