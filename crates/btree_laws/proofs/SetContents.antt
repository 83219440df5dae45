-- What the sets that an image holds of a node come to: one content, with entries of the node's range.
use Rattle.std.proofs.Common.{◌&&◌, ◌≡◌, ℕ, zero, suc, ◌+◌, ◌-◌, ◌<◌, ⊎_elim, Bool, true, false, cond, List, [], ◌∷◌, ◌++◌, length, Option, Some, None, Result, Ok, Err, refl, sym, ap, subst, ◌∙◌}
use Rattle.std.specs.List.{AllByRecursion}
use Rattle.std.specs.List.Sorted.{IsStrictlySortedBy}
use Rattle.std.specs.Option.{option_map_or, option_or}
use Rattle.std.specs.Prelude.{All, IfSome, ◌==◌, option_and_then, option_map}
use Rattle.std.proofs.lemmas.Bool.{and_parts, cases_lt, eqb-true}
use Rattle.std.proofs.lemmas.List.{get_or_past}
use Rattle.std.proofs.lemmas.List.Elements.{All-append, All-cons, All-nil, recursion_from_All}
use Rattle.dev_model.specs.Disk.{Image, block_at}
use Rattle.image_view.specs.BaseLaws.{sets_in-ok}
use Rattle.image_view.specs.Found.{sets_in}
use Rattle.image_view.specs.Trees.{Wanted}
use Rattle.key_codec.specs.Combined.{bind_ok, ok_is}
use Rattle.key_codec.specs.Exact.{IsExactBut}
use Rattle.node_mem.specs.CountLaws.{keys-put_at, values-put_at}
use Rattle.node_mem.specs.Nodes.{with_keys}
use Rattle.node_store.specs.Copies.{Reading, block_in, copies_at, copy_at, shown_at, shown_below, shown_in}
use Rattle.node_store.specs.NodeContents.{NodeContent, content_if, content_with, entries_after, is_same_pos, is_wanted, keys_if, may_hold, wanted_of}
use Rattle.node_store.specs.NodeContents.{keys_of as keys_read}
use Rattle.node_store.specs.StoredSets.{Copies, begins, first_of, if_some, part_if, part_in, part_of, parts_from, set_at, set_begun, set_from, set_with, sets_from, with_set, without_gap}
use Rattle.node_store.specs.StoredSets.{sets_in as stored_sets}
use Rattle.node_store.specs.declared.opening.OpenBlock.{OpenBlock}
use Rattle.node_store.specs.declared.sets.StoredSet.{StoredSet}
use Rattle.node_store.specs.declared.sets.StoredSets.{StoredSets}
use Rattle.record_codec.specs.Sets.{IsSet, all_read, head_of, set_format, set_in}
use Rattle.record_codec.specs.declared.fault.RecordFault.{RecordFault}
use Rattle.record_codec.specs.declared.fault.RecordFault.TheVariants.{Short}
use Rattle.record_codec.specs.declared.sets.SetHead.{SetHead}
use Rattle.record_codec.specs.declared.sets.SetRecord.{SetRecord}
use Rattle.sealed_block.specs.Blocks.{Opens}
use Rattle.sealed_block.specs.Opening.{opened, payload_in}
use Rattle.sealed_block.specs.declared.heads.Head.{Head}
use Rattle.vol_types.specs.Btrees.{btree_code}
use Rattle.vol_types.specs.KeyMaps.{Entries}
use Rattle.vol_types.specs.Limits.{bucket_blocks}
use Rattle.vol_types.specs.MapLaws.{IsMap-put_at}
use Rattle.vol_types.specs.Maps.{put_at}
use Rattle.vol_types.specs.PositionLaws.{pos_total}
use Rattle.vol_types.specs.Positions.{IsWithin, pos_cmp}
use Rattle.vol_types.specs.Ranges.{IsKeyValue, IsValue}
use Rattle.vol_types.specs.Widths.{AreBytes, PosFits}
use Rattle.vol_types.specs.declared.keys.Key.{Key}
use Rattle.vol_types.specs.declared.layout.Layout.{Layout}
use Rattle.vol_types.specs.declared.pointers.Place.{Place}
use Rattle.vol_types.specs.declared.positions.Pos.{Pos}
use Rattle.vol_types.specs.declared.values.Value.{Value}
use Rattle.btree_laws.specs.HeldContents.{AreNodeEntries, ComeTo, content_stored, held_in, keys_stored, with_sets}

-- ---- keys of a node

-- The key may be put into a node of this range.
record IsKeyOf (least greatest : Pos) (key : Key) : Type 0 where
  fits : PosFits key.pos
  covered : IsWithin least greatest key.pos
  in_range : IsKeyValue key.value

-- All of them may.
abbrev AreKeysOf : Pos → Pos → List Key → Type 0
AreKeysOf least greatest keys = AllByRecursion (IsKeyOf least greatest) keys

no_entries : (least greatest : Pos) → AreNodeEntries least greatest []
unfolding IsStrictlySortedBy
no_entries least greatest = record { keys = record { rises = tt; fits = All-nil PosFits; covered = All-nil (IsWithin least greatest) }; in_range = All-nil IsValue }

if_value : (value : Option Value) → IsKeyValue value → IfSome value IsValue
if_value None is = tt
if_value (Some value) is = is

with_key : (least greatest : Pos) (key : Key) (entries : Entries) → AreNodeEntries least greatest entries → IsKeyOf least greatest key → AreNodeEntries least greatest (put_at pos_cmp key.pos key.value entries)
with_key least greatest key entries are is = record {
  keys = record {
    rises = IsMap-put_at pos_total key.pos key.value entries are.keys.rises;
    fits = keys-put_at PosFits key.pos key.value entries are.keys.fits is.fits;
    covered = keys-put_at (IsWithin least greatest) key.pos key.value entries are.keys.covered is.covered;
  };
  in_range = values-put_at IsValue key.pos key.value entries are.in_range (if_value key.value is.in_range);
}

with_all : (least greatest : Pos) (keys : List Key) (entries : Entries) → AreKeysOf least greatest keys → AreNodeEntries least greatest entries → AreNodeEntries least greatest (with_keys keys entries)
with_all least greatest [] entries all are = are
with_all least greatest (key ∷ keys) entries all are = with_all least greatest keys (put_at pos_cmp key.pos key.value entries) all.1 (with_key least greatest key entries are all.0)

-- ---- sets

same_pos : (one other : Pos) → is_same_pos one other ≡ true → one ≡ other
same_pos one other same =
    let a = and_parts (one.inode == other.inode && one.offset == other.offset) (one.snapshot == other.snapshot) same in
    let b = and_parts (one.inode == other.inode) (one.offset == other.offset) a.0 in
    let inode = eqb-true one.inode other.inode b.0 in
    let offset = eqb-true one.offset other.offset b.1 in
    let snapshot = eqb-true one.snapshot other.snapshot a.1 in
    λ i. record { inode = inode i; offset = offset i; snapshot = snapshot i }

-- A set that is one of the node has its range.
same_range : (wanted head : SetHead) → is_wanted wanted head ≡ true → (head.least ≡ wanted.least) × (head.greatest ≡ wanted.greatest)
same_range wanted head same =
    let a = and_parts (head.birth == wanted.birth && btree_code head.btree == btree_code wanted.btree && head.level == wanted.level && is_same_pos head.least wanted.least) (is_same_pos head.greatest wanted.greatest) same in
    let b = and_parts (head.birth == wanted.birth && btree_code head.btree == btree_code wanted.btree && head.level == wanted.level) (is_same_pos head.least wanted.least) a.0 in
    (same_pos head.least wanted.least b.1, same_pos head.greatest wanted.greatest a.1)

pub read_all : {A : Type 0} (x : A × List ℕ) (y : A) → all_read x ≡ Ok y → x.0 ≡ y
read_all (x, []) y is = ok_is x y is
read_all (x, b ∷ rest) y is = absurd cc

keys_of_set : (set : SetRecord) → IsSet set → AreKeysOf set.least set.greatest set.keys
keys_of_set set is = recursion_from_All (IsKeyOf set.least set.greatest) set.keys (λ k d lt. record {
  fits = (is.fits.keys k d lt).pos;
  covered = is.in_range.covered k d lt;
  in_range = is.in_range.in_range k d lt;
})

module _ (exact : IsExactBut Short IsSet set_format) where
  -- What is read of bytes as a set is one.
  set_read : (bytes : List ℕ) (set : SetRecord) → AreBytes bytes → set_in bytes ≡ Ok set → IsSet set
  unfolding set_in
  set_read bytes set are is =
      let read = bind_ok (set_format.read bytes) all_read set is in
      subst IsSet (read_all read.0 set read.2) (exact.found bytes read.0.0 read.0.1 are read.1).0

  -- The keys of a set that is one of the node are the stored ones, and may be put into it.
  keys_found : (wanted : SetHead) (n : ℕ) (r : Result SetRecord RecordFault) (keys : List Key) → ((set : SetRecord) → r ≡ Ok set → IsSet set) → keys_if wanted n r ≡ Some keys → AreKeysOf wanted.least wanted.greatest keys × (keys_stored r ≡ keys)
  keys_found wanted n (Err fault) keys sound is = absurd cc
  keys_found wanted n (Ok set) keys sound is = by (is_wanted wanted (head_of set) && may_hold n set.keys) refl is
    where
      by : (b : Bool) → (is_wanted wanted (head_of set) && may_hold n set.keys) ≡ b → cond b (Some set.keys) None ≡ Some keys → AreKeysOf wanted.least wanted.greatest keys × (set.keys ≡ keys)
      by false one is = absurd cc
      by true one is =
          let range = same_range wanted (head_of set) (and_parts (is_wanted wanted (head_of set)) (may_hold n set.keys) one).0 in
          let same : set.keys ≡ keys = cc in (
            subst (AreKeysOf wanted.least wanted.greatest) same
                (subst (λ (p : Pos). AreKeysOf wanted.least p set.keys) range.1 (subst (λ (p : Pos). AreKeysOf p set.greatest set.keys) range.0 (keys_of_set set (sound set refl)))),
            same,
          )

  -- What sets of a node make is what they come to, and entries of the node.
  sets_merged : (wanted : SetHead) (sets : List StoredSet) (entries made : Entries) → AllByRecursion (λ (set : StoredSet). AreBytes set.payload) sets → AreNodeEntries wanted.least wanted.greatest entries → entries_after wanted sets entries ≡ Ok made
      → AreNodeEntries wanted.least wanted.greatest made × (made ≡ with_sets sets entries)
  sets_merged wanted [] entries made bytes are is = (subst (AreNodeEntries wanted.least wanted.greatest) (ok_is entries made is) are, sym (ok_is entries made is))
  sets_merged wanted (set ∷ sets) entries made bytes are is = by (keys_read wanted set) refl is (λ keys now. sets_merged wanted sets (with_keys keys entries) made bytes.1 now)
    where
      by : (o : Option (List Key)) → keys_read wanted set ≡ o → option_map_or (λ keys. entries_after wanted sets (with_keys keys entries)) o (Err set.block) ≡ Ok made
          → ((keys : List Key) → AreNodeEntries wanted.least wanted.greatest (with_keys keys entries) → entries_after wanted sets (with_keys keys entries) ≡ Ok made → AreNodeEntries wanted.least wanted.greatest made × (made ≡ with_sets sets (with_keys keys entries)))
          → AreNodeEntries wanted.least wanted.greatest made × (made ≡ with_sets sets (with_keys (keys_stored (set_in set.payload)) entries))
      by None found is later = absurd cc
      by (Some keys) found is later =
          let own = keys_found wanted set.block (set_in set.payload) keys (λ read same. set_read set.payload read bytes.0 same) found in
          let all = later keys (with_all wanted.least wanted.greatest keys entries own.0 are) is in
          (all.0, all.1 ∙ ap (λ ks. with_sets sets (with_keys ks entries)) (sym own.1))

  content_made : (wanted : SetHead) (end : ℕ) (r : Result Entries ℕ) (held : Entries) (content : NodeContent) → ((made : Entries) → r ≡ Ok made → AreNodeEntries wanted.least wanted.greatest made × (made ≡ held)) → content_with end r ≡ Ok content
      → AreNodeEntries wanted.least wanted.greatest content.entries × (content ≡ record { entries = held; end = end })
  content_made wanted end (Err n) held content made is = absurd cc
  content_made wanted end (Ok entries) held content made is =
      let own = made entries refl in
      let same : record { entries = entries; end = end } ≡ content = ok_is (record { entries = entries; end = end }) content is in
      (subst (AreNodeEntries wanted.least wanted.greatest) (ap (λ (c : NodeContent). c.entries) same) own.0, sym same ∙ ap (λ (es : Entries). record { entries = es; end = end }) own.1)

  content_is : (wanted : SetHead) (r : Result StoredSets ℕ) (content : NodeContent) → ((found : StoredSets) → r ≡ Ok found → AllByRecursion (λ (set : StoredSet). AreBytes set.payload) found.sets) → content_if wanted r ≡ Ok content
      → AreNodeEntries wanted.least wanted.greatest content.entries × (content ≡ content_stored r)
  content_is wanted (Err n) content bytes is = absurd cc
  content_is wanted (Ok found) content bytes is =
      content_made wanted found.end (entries_after wanted found.sets []) (with_sets found.sets []) content (λ made e. sets_merged wanted found.sets [] made (bytes found refl) (no_entries wanted.least wanted.greatest) e) is

-- ---- the bytes of sets

if_or : {A : Type 0} (P : A → Type 0) (one other : Option A) → IfSome one P → IfSome other P → IfSome (option_or one other) P
if_or P None other first second = second
if_or P (Some x) other first second = first

if_then : {A B : Type 0} (P : A → Type 0) (Q : B → Type 0) (f : A → Option B) (o : Option A) → IfSome o P → ((x : A) → P x → IfSome (f x) Q) → IfSome (option_and_then f o) Q
if_then P Q f None some passes = tt
if_then P Q f (Some x) some passes = passes x some

if_mapped : {A B : Type 0} (P : A → Type 0) (Q : B → Type 0) (f : A → B) (o : Option A) → IfSome o P → ((x : A) → P x → Q (f x)) → IfSome (option_map f o) Q
if_mapped P Q f None some passes = tt
if_mapped P Q f (Some x) some passes = passes x some

if_passed : {A : Type 0} (P : A → Type 0) (b : Bool) (o : Option A) → IfSome o P → IfSome (cond b o None) P
if_passed P true o some = some
if_passed P false o some = tt

if_first : {A B : Type 0} (P : A → Type 0) (Q : B → Type 0) (give : A → Option B) (xs : List A) → AllByRecursion P xs → ((x : A) → P x → IfSome (give x) Q) → IfSome (first_of give xs) Q
if_first P Q give [] all passes = tt
if_first P Q give (x ∷ xs) all passes = if_or Q (give x) (first_of give xs) (passes x all.0) (if_first P Q give xs all.1 passes)

-- The block's payload is of bytes.
abbrev IsOfBytes : OpenBlock → Type 0
IsOfBytes block = AreBytes block.payload

-- So is the set's.
abbrev IsSetOfBytes : StoredSet → Type 0
IsSetOfBytes set = AreBytes set.payload

-- Each block that a copy shows has a payload of bytes.
abbrev ShowsBytes : List (Option OpenBlock) → Type 0
ShowsBytes copy = (n : ℕ) → IfSome (block_in copy n) IsOfBytes

pub bytes-append : (one other : List ℕ) → AreBytes one → AreBytes other → AreBytes (one ++ other)
bytes-append one other first second = All-append (λ b. b < 256) one other first second

module _ (copies : Copies) (show : AllByRecursion ShowsBytes copies) where
  part_bytes : (first : Head) (n p : ℕ) → IfSome (part_of copies first n p) IsOfBytes
  part_bytes first n p =
      if_first ShowsBytes IsOfBytes (part_in first n p) copies show
      (λ copy shows. if_then IsOfBytes IsOfBytes (part_if first p) (block_in copy (n + p)) (shows (n + p)) (λ block bytes. if_passed IsOfBytes _ (Some block) bytes))

  parts_bytes : (first : Head) (n count p : ℕ) → IfSome (parts_from copies first n count p) AreBytes
  parts_bytes first n zero p = All-nil (λ b. b < 256)
  parts_bytes first n (suc more) p =
      if_then IsOfBytes AreBytes (λ block. option_map (λ rest. block.payload ++ rest) (parts_from copies first n more (suc p))) (part_of copies first n p) (part_bytes first n p)
      (λ block bytes. if_mapped AreBytes AreBytes (λ rest. block.payload ++ rest) (parts_from copies first n more (suc p)) (parts_bytes first n more (suc p)) (λ rest others. bytes-append block.payload rest bytes others))

  set_bytes : (id : List ℕ) (birth n : ℕ) → IfSome (set_at copies id birth n) IsSetOfBytes
  set_bytes id birth n =
      if_first ShowsBytes IsSetOfBytes (set_from copies id birth n) copies show
      (λ copy shows. if_then IsOfBytes IsSetOfBytes (set_begun copies id birth n) (block_in copy n) (shows n)
      (λ first bytes. if_passed IsSetOfBytes (begins id birth n first.head) (option_and_then (λ rest. set_with n first.head (first.payload ++ rest)) (parts_from copies first.head n (first.head.parts - 1) 1))
      (if_then AreBytes IsSetOfBytes (λ rest. set_with n first.head (first.payload ++ rest)) (parts_from copies first.head n (first.head.parts - 1) 1) (parts_bytes first.head n (first.head.parts - 1) 1)
      (λ rest others. if_passed IsSetOfBytes _ (Some _) (bytes-append first.payload rest bytes others)))))

  all_bytes : (id : List ℕ) (birth count n : ℕ) → AllByRecursion IsSetOfBytes (sets_from copies id birth count n).sets
  all_bytes id birth zero n = tt
  all_bytes id birth (suc more) n = by (set_at copies id birth n) (set_bytes id birth n) (λ set. all_bytes id birth more (n + set.blocks))
    where
      by : (o : Option StoredSet) → IfSome o IsSetOfBytes → ((set : StoredSet) → AllByRecursion IsSetOfBytes (sets_from copies id birth more (n + set.blocks)).sets)
          → AllByRecursion IsSetOfBytes (option_map_or (λ (set : StoredSet). with_set set (sets_from copies id birth more (n + set.blocks))) o (record { sets = []; end = n })).sets
      by None some later = tt
      by (Some set) some later = (some, later set)

  found_bytes : (id : List ℕ) (birth : ℕ) (found : StoredSets) → stored_sets copies id birth ≡ Ok found → AllByRecursion IsSetOfBytes found.sets
  unfolding stored_sets
  found_bytes id birth found is =
      let all : StoredSets = sets_from copies id birth bucket_blocks 0 in
      subst (λ (f : StoredSets). AllByRecursion IsSetOfBytes f.sets) (kept all _ all.sets is) (all_bytes id birth bucket_blocks 0)
    where
      passed : (all : StoredSets) (gap : Option ℕ) → without_gap all gap ≡ Ok found → all ≡ found
      passed all (Some n) is = absurd cc
      passed all None is = ok_is all found is

      kept : (all : StoredSets) (gap : Option ℕ) (sets : List StoredSet) → if_some all gap sets ≡ Ok found → all ≡ found
      kept all gap [] is = absurd cc
      kept all gap (set ∷ sets) is = passed all gap is

-- What opens as a block is sealed as one.
abbrev pub AreSealed : Type 0
AreSealed = (block : List ℕ) (h : Head) → opened block ≡ Some h → Opens block h (payload_in block)

module _ (sealed : AreSealed) where
  shown_bytes : (bytes : List ℕ) → IfSome (shown_in bytes) IsOfBytes
  shown_bytes bytes = by (opened bytes) refl
    where
      by : (o : Option Head) → opened bytes ≡ o → IfSome (option_map (λ (head : Head). record { head = head; payload = payload_in bytes }) o) IsOfBytes
      by None is = tt
      by (Some head) is = (sealed bytes head is).bytes

  shown_at-bytes : (read : Reading) (place : Place) (n : ℕ) → IfSome (shown_at read place n) IsOfBytes
  shown_at-bytes read place n = by (read place.dev (place.block + n))
    where
      by : (o : Option (List ℕ)) → IfSome (option_and_then shown_in o) IsOfBytes
      by None = tt
      by (Some bytes) = shown_bytes bytes

  below_bytes : (read : Reading) (place : Place) (count : ℕ) → All (λ (o : Option OpenBlock). IfSome o IsOfBytes) (shown_below read place count)
  below_bytes read place zero = All-nil (λ (o : Option OpenBlock). IfSome o IsOfBytes)
  below_bytes read place (suc n) =
      All-append (λ (o : Option OpenBlock). IfSome o IsOfBytes) (shown_below read place n) (shown_at read place n ∷ []) (below_bytes read place n)
      (All-cons (λ (o : Option OpenBlock). IfSome o IsOfBytes) (shown_at read place n) [] (shown_at-bytes read place n) (All-nil (λ (o : Option OpenBlock). IfSome o IsOfBytes)))

  copy_bytes : (read : Reading) (place : Place) → ShowsBytes (copy_at read place)
  unfolding copy_at
  copy_bytes read place n =
      let copy : List (Option OpenBlock) = shown_below read place bucket_blocks in
      ⊎_elim
      (λ (lt : n < length copy). below_bytes read place bucket_blocks n None lt)
      (λ past. subst (λ (o : Option OpenBlock). IfSome o IsOfBytes) (sym (get_or_past copy n None past)) tt)
      (cases_lt n (length copy))

  copies_bytes : (read : Reading) (places : List Place) → AllByRecursion ShowsBytes (copies_at read places)
  copies_bytes read [] = tt
  copies_bytes read (place ∷ places) = (copy_bytes read place, copies_bytes read places)

  -- ---- an image

  -- The sets that an image holds of each node come to one content, with entries of the node.
  pub images_come_to : IsExactBut Short IsSet set_format → (layout : Layout) (image : Image) → ComeTo (sets_in layout image) (λ btree. held_in layout image)
  images_come_to exact layout image = record { content_is = λ wanted read is. (own wanted read is).1; entries = λ wanted read is. (own wanted read is).0 }
    where
      own : (wanted : Wanted) (read : NodeContent) → sets_in layout image wanted ≡ Ok read → AreNodeEntries wanted.least wanted.greatest read.entries × (read ≡ held_in layout image wanted.pointer)
      own wanted read is =
          let copies : Copies = copies_at (block_at image) wanted.pointer.places in
          content_is exact (wanted_of wanted.btree wanted.least wanted.greatest wanted.pointer) (stored_sets copies layout.id wanted.pointer.birth) read
          (λ found there. found_bytes copies (copies_bytes (block_at image) wanted.pointer.places) layout.id wanted.pointer.birth found there) (sets_in-ok layout image wanted read is).1
