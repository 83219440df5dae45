-- What the sets of a node come to, as an image holds them, with updates of its keys: entries of the node's range that rise, may
-- stand in its btree at its level, and are in range.
use Rattle.std.proofs.Common.{◌&&◌, ◌≡◌, ℕ, zero, suc, ◌+◌, ◌-◌, ◌<◌, ⊎_elim, Bool, true, false, cond, List, [], ◌∷◌, ◌++◌, length, Option, Some, None, Result, Ok, Err, refl, sym, ap, subst}
use Rattle.std.specs.List.{AllByRecursion}
use Rattle.std.specs.Map.{keys_of, values_of}
use Rattle.std.specs.Option.{option_map_or, option_or}
use Rattle.std.specs.Prelude.{All, IfSome, option_and_then, option_map}
use Rattle.std.specs.List.Sorted.{IsStrictlySortedBy}
use Rattle.std.proofs.lemmas.Bool.{and_parts, cases_lt, eqb-true}
use Rattle.std.proofs.lemmas.List.{get_or_past}
use Rattle.std.proofs.lemmas.List.Elements.{All-append, All-cons, All-nil, recursion_from_All}
use Rattle.birth_index.specs.NameLaws.{one_btree}
use Rattle.key_codec.specs.Combined.{bind_ok, ok_is}
use Rattle.key_codec.specs.Exact.{IsExactBut}
use Rattle.node_mem.specs.CountLaws.{keys-put_at, values-put_at}
use Rattle.node_mem.specs.Nodes.{with_keys}
use Rattle.node_store.specs.Copies.{Reading, block_in, copies_at, copy_at, shown_at, shown_below, shown_in}
use Rattle.node_store.specs.NodeContents.{NodeContent, content_if, content_in, content_with, entries_after, is_same_pos, is_wanted, keys_if, may_hold}
use Rattle.node_store.specs.NodeContents.{keys_of as keys_read}
use Rattle.node_store.specs.StoredSets.{Copies, begins, first_of, if_some, part_if, part_in, part_of, parts_from, set_at, set_begun, set_from, set_with, sets_from, sets_in, with_set, without_gap}
use Rattle.node_store.specs.declared.opening.OpenBlock.{OpenBlock}
use Rattle.node_store.specs.declared.sets.StoredSet.{StoredSet}
use Rattle.node_store.specs.declared.sets.StoredSets.{StoredSets}
use Rattle.record_codec.specs.Sets.{IsSet, all_read, head_of, set_format, set_in}
use Rattle.record_codec.specs.declared.fault.RecordFault.{RecordFault}
use Rattle.record_codec.specs.declared.fault.RecordFault.TheVariants.{Short}
use Rattle.record_codec.specs.declared.sets.SetHead.{SetHead}
use Rattle.record_codec.specs.declared.sets.SetRecord.{SetRecord}
use Rattle.sealed_block.specs.Blocks.{Opens}
use Rattle.sealed_block.specs.Opening.{opened, payload_in}
use Rattle.sealed_block.specs.declared.heads.Head.{Head}
use Rattle.vol_types.specs.Btrees.{btree_code}
use Rattle.vol_types.specs.KeyMaps.{Entries}
use Rattle.vol_types.specs.Limits.{bucket_blocks}
use Rattle.vol_types.specs.MapLaws.{IsMap-put_at}
use Rattle.vol_types.specs.Maps.{IsMap, put_at}
use Rattle.vol_types.specs.PositionLaws.{pos_total}
use Rattle.vol_types.specs.Positions.{IsWithin, pos_cmp}
use Rattle.vol_types.specs.Ranges.{IsKeyValue, IsValue}
use Rattle.vol_types.specs.Standing.{MayStand, Stands}
use Rattle.vol_types.specs.Widths.{AreBytes, PosFits}
use Rattle.vol_types.specs.declared.keys.Key.{Key}
use Rattle.vol_types.specs.declared.pointers.Place.{Place}
use Rattle.vol_types.specs.declared.positions.Pos.{Pos}
use Rattle.vol_types.specs.declared.values.Value.{Value}

-- ---- keys of a node

-- The key may be put into a node: the node covers it, it has its widths, and its value may stand there and is in range.
pub record IsKeyOf (node : SetHead) (pos : Pos) (value : Option Value) : Type 0 where
  pub fits : PosFits pos
  pub covered : IsWithin node.least node.greatest pos
  pub stands : Stands node.btree node.level value
  pub in_range : IsKeyValue value

-- The entries may be those of a node.
pub record IsContent (node : SetHead) (entries : Entries) : Type 0 where
  pub rises : IsMap pos_cmp entries
  pub fit : All PosFits (keys_of entries)
  pub covered : All (IsWithin node.least node.greatest) (keys_of entries)
  pub stand : All (MayStand node.btree node.level) (values_of entries)
  pub in_range : All IsValue (values_of entries)

-- A node may be empty.
pub content-none : (node : SetHead) → IsContent node []
unfolding IsStrictlySortedBy
content-none node = record {
  rises = tt;
  fit = All-nil PosFits;
  covered = All-nil (IsWithin node.least node.greatest);
  stand = All-nil (MayStand node.btree node.level);
  in_range = All-nil IsValue;
}

if_stands : (node : SetHead) (value : Option Value) → Stands node.btree node.level value → IfSome value (MayStand node.btree node.level)
if_stands node None stands = tt
if_stands node (Some value) stands = stands

if_value : (value : Option Value) → IsKeyValue value → IfSome value IsValue
if_value None is = tt
if_value (Some value) is = is

-- A key that may be put into a node leaves it one.
pub content-put : (node : SetHead) (pos : Pos) (value : Option Value) (entries : Entries) → IsContent node entries → IsKeyOf node pos value → IsContent node (put_at pos_cmp pos value entries)
content-put node pos value entries is key = record {
  rises = IsMap-put_at pos_total pos value entries is.rises;
  fit = keys-put_at PosFits pos value entries is.fit key.fits;
  covered = keys-put_at (IsWithin node.least node.greatest) pos value entries is.covered key.covered;
  stand = values-put_at (MayStand node.btree node.level) pos value entries is.stand (if_stands node value key.stands);
  in_range = values-put_at IsValue pos value entries is.in_range (if_value value key.in_range);
}

-- So do keys of a set.
pub content-keys : (node : SetHead) (keys : List Key) (entries : Entries) → AllByRecursion (λ (key : Key). IsKeyOf node key.pos key.value) keys → IsContent node entries → IsContent node (with_keys keys entries)
content-keys node [] entries all is = is
content-keys node (key ∷ keys) entries all is = content-keys node keys (put_at pos_cmp key.pos key.value entries) all.1 (content-put node key.pos key.value entries is all.0)

-- ---- sets

same_pos : (one other : Pos) → is_same_pos one other ≡ true → one ≡ other
same_pos one other same =
    let a = and_parts _ _ same in
    let b = and_parts _ _ a.0 in
    let inode = eqb-true one.inode other.inode b.0 in
    let offset = eqb-true one.offset other.offset b.1 in
    let snapshot = eqb-true one.snapshot other.snapshot a.1 in
    λ i. record { inode = inode i; offset = offset i; snapshot = snapshot i }

-- What is wanted of a set is what it says.
same_head : (wanted head : SetHead) → is_wanted wanted head ≡ true → head ≡ wanted
same_head wanted head same =
    let a = and_parts _ _ same in
    let b = and_parts _ _ a.0 in
    let c = and_parts _ _ b.0 in
    let d = and_parts _ _ c.0 in
    let birth = eqb-true head.birth wanted.birth d.0 in
    let btree = one_btree head.btree wanted.btree (eqb-true (btree_code head.btree) (btree_code wanted.btree) d.1) in
    let level = eqb-true head.level wanted.level c.1 in
    let least = same_pos head.least wanted.least b.1 in
    let greatest = same_pos head.greatest wanted.greatest a.1 in
    λ i. record { birth = birth i; btree = btree i; level = level i; least = least i; greatest = greatest i }

pub read_all : {A : Type 0} (x : A × List ℕ) (y : A) → all_read x ≡ Ok y → x.0 ≡ y
read_all (x, []) y is = ok_is x y is
read_all (x, b ∷ rest) y is = absurd cc

-- A set's keys may be put into the node that it is of.
keys_of_set : (set : SetRecord) → IsSet set → AllByRecursion (λ (key : Key). IsKeyOf (head_of set) key.pos key.value) set.keys
keys_of_set set is = recursion_from_All (λ (key : Key). IsKeyOf (head_of set) key.pos key.value) set.keys (λ k d lt. record {
  fits = (is.fits.keys k d lt).pos;
  covered = is.in_range.covered k d lt;
  stands = is.in_range.stand k d lt;
  in_range = is.in_range.in_range k d lt;
})

module _ (exact : IsExactBut Short IsSet set_format) where
  -- What is read of bytes as a set is one.
  set_read : (bytes : List ℕ) (set : SetRecord) → AreBytes bytes → set_in bytes ≡ Ok set → IsSet set
  unfolding set_in
  set_read bytes set are is =
      let read = bind_ok (set_format.read bytes) all_read set is in
      subst IsSet (read_all read.0 set read.2) (exact.found bytes read.0.0 read.0.1 are read.1).0

  keys_found : (wanted : SetHead) (n : ℕ) (r : Result SetRecord RecordFault) (keys : List Key) → ((set : SetRecord) → r ≡ Ok set → IsSet set) → keys_if wanted n r ≡ Some keys → AllByRecursion (λ (key : Key). IsKeyOf wanted key.pos key.value) keys
  keys_found wanted n (Err fault) keys sound is = absurd cc
  keys_found wanted n (Ok set) keys sound is = by (is_wanted wanted (head_of set) && may_hold n set.keys) refl is
    where
      by : (b : Bool) → (is_wanted wanted (head_of set) && may_hold n set.keys) ≡ b → cond b (Some set.keys) None ≡ Some keys → AllByRecursion (λ (key : Key). IsKeyOf wanted key.pos key.value) keys
      by false same is = absurd cc
      by true same is =
          let one = (and_parts (is_wanted wanted (head_of set)) (may_hold n set.keys) same).0 in
          let all = subst (λ (node : SetHead). AllByRecursion (λ (key : Key). IsKeyOf node key.pos key.value) set.keys) (same_head wanted (head_of set) one) (keys_of_set set (sound set refl)) in
          let keys_are : set.keys ≡ keys = cc in
          subst (λ ks. AllByRecursion (λ (key : Key). IsKeyOf wanted key.pos key.value) ks) keys_are all

  -- Sets of a node, one over the other, make what may be a node's entries.
  sets_merged : (wanted : SetHead) (sets : List StoredSet) (entries made : Entries) → AllByRecursion (λ (set : StoredSet). AreBytes set.payload) sets → IsContent wanted entries → entries_after wanted sets entries ≡ Ok made → IsContent wanted made
  sets_merged wanted [] entries made bytes is e = subst (IsContent wanted) (ok_is entries made e) is
  sets_merged wanted (set ∷ sets) entries made bytes is e = by (keys_read wanted set) refl e (λ keys begun. sets_merged wanted sets (with_keys keys entries) made bytes.1 begun)
    where
      by : (o : Option (List Key)) → keys_read wanted set ≡ o → option_map_or (λ keys. entries_after wanted sets (with_keys keys entries)) o (Err set.block) ≡ Ok made
          → ((keys : List Key) → IsContent wanted (with_keys keys entries) → entries_after wanted sets (with_keys keys entries) ≡ Ok made → IsContent wanted made) → IsContent wanted made
      by None found e later = absurd cc
      by (Some keys) found e later =
          later keys (content-keys wanted keys entries (keys_found wanted set.block (set_in set.payload) keys (λ read same. set_read set.payload read bytes.0 same) found) is) e

  content_made : (wanted : SetHead) (end : ℕ) (r : Result Entries ℕ) (content : NodeContent) → ((made : Entries) → r ≡ Ok made → IsContent wanted made) → content_with end r ≡ Ok content → IsContent wanted content.entries
  content_made wanted end (Err n) content sound is = absurd cc
  content_made wanted end (Ok made) content sound is = subst (IsContent wanted) (ap (λ (c : NodeContent). c.entries) (ok_is (record { entries = made; end = end }) content is)) (sound made refl)

  content_of_sets : (wanted : SetHead) (r : Result StoredSets ℕ) (content : NodeContent) → ((found : StoredSets) → r ≡ Ok found → AllByRecursion (λ (set : StoredSet). AreBytes set.payload) found.sets) → content_if wanted r ≡ Ok content
      → IsContent wanted content.entries
  content_of_sets wanted (Err n) content bytes is = absurd cc
  content_of_sets wanted (Ok found) content bytes is =
      content_made wanted found.end (entries_after wanted found.sets []) content (λ made e. sets_merged wanted found.sets [] made (bytes found refl) (content-none wanted) e) is

-- ---- the bytes of sets

if_or : {A : Type 0} (P : A → Type 0) (one other : Option A) → IfSome one P → IfSome other P → IfSome (option_or one other) P
if_or P None other first second = second
if_or P (Some x) other first second = first

if_then : {A B : Type 0} (P : A → Type 0) (Q : B → Type 0) (f : A → Option B) (o : Option A) → IfSome o P → ((x : A) → P x → IfSome (f x) Q) → IfSome (option_and_then f o) Q
if_then P Q f None some passes = tt
if_then P Q f (Some x) some passes = passes x some

if_mapped : {A B : Type 0} (P : A → Type 0) (Q : B → Type 0) (f : A → B) (o : Option A) → IfSome o P → ((x : A) → P x → Q (f x)) → IfSome (option_map f o) Q
if_mapped P Q f None some passes = tt
if_mapped P Q f (Some x) some passes = passes x some

if_passed : {A : Type 0} (P : A → Type 0) (b : Bool) (o : Option A) → IfSome o P → IfSome (cond b o None) P
if_passed P true o some = some
if_passed P false o some = tt

if_first : {A B : Type 0} (P : A → Type 0) (Q : B → Type 0) (give : A → Option B) (xs : List A) → AllByRecursion P xs → ((x : A) → P x → IfSome (give x) Q) → IfSome (first_of give xs) Q
if_first P Q give [] all passes = tt
if_first P Q give (x ∷ xs) all passes = if_or Q (give x) (first_of give xs) (passes x all.0) (if_first P Q give xs all.1 passes)

-- The block's payload is of bytes.
abbrev IsOfBytes : OpenBlock → Type 0
IsOfBytes block = AreBytes block.payload

-- So is the set's.
abbrev IsSetOfBytes : StoredSet → Type 0
IsSetOfBytes set = AreBytes set.payload

-- Each block that a copy shows has a payload of bytes.
abbrev ShowsBytes : List (Option OpenBlock) → Type 0
ShowsBytes copy = (n : ℕ) → IfSome (block_in copy n) IsOfBytes

bytes-append : (one other : List ℕ) → AreBytes one → AreBytes other → AreBytes (one ++ other)
bytes-append one other first second = All-append (λ b. b < 256) one other first second

module _ (copies : Copies) (show : AllByRecursion ShowsBytes copies) where
  part_bytes : (first : Head) (n p : ℕ) → IfSome (part_of copies first n p) IsOfBytes
  part_bytes first n p =
      if_first ShowsBytes IsOfBytes (part_in first n p) copies show
      (λ copy shows. if_then IsOfBytes IsOfBytes (part_if first p) (block_in copy (n + p)) (shows (n + p)) (λ block bytes. if_passed IsOfBytes _ (Some block) bytes))

  parts_bytes : (first : Head) (n count p : ℕ) → IfSome (parts_from copies first n count p) AreBytes
  parts_bytes first n zero p = All-nil (λ b. b < 256)
  parts_bytes first n (suc more) p =
      if_then IsOfBytes AreBytes (λ block. option_map (λ rest. block.payload ++ rest) (parts_from copies first n more (suc p))) (part_of copies first n p) (part_bytes first n p)
      (λ block bytes. if_mapped AreBytes AreBytes (λ rest. block.payload ++ rest) (parts_from copies first n more (suc p)) (parts_bytes first n more (suc p)) (λ rest others. bytes-append block.payload rest bytes others))

  set_bytes : (id : List ℕ) (birth n : ℕ) → IfSome (set_at copies id birth n) IsSetOfBytes
  set_bytes id birth n =
      if_first ShowsBytes IsSetOfBytes (set_from copies id birth n) copies show
      (λ copy shows. if_then IsOfBytes IsSetOfBytes (set_begun copies id birth n) (block_in copy n) (shows n)
      (λ first bytes. if_passed IsSetOfBytes (begins id birth n first.head) (option_and_then (λ rest. set_with n first.head (first.payload ++ rest)) (parts_from copies first.head n (first.head.parts - 1) 1))
      (if_then AreBytes IsSetOfBytes (λ rest. set_with n first.head (first.payload ++ rest)) (parts_from copies first.head n (first.head.parts - 1) 1) (parts_bytes first.head n (first.head.parts - 1) 1)
      (λ rest others. if_passed IsSetOfBytes _ (Some _) (bytes-append first.payload rest bytes others)))))

  all_bytes : (id : List ℕ) (birth count n : ℕ) → AllByRecursion IsSetOfBytes (sets_from copies id birth count n).sets
  all_bytes id birth zero n = tt
  all_bytes id birth (suc more) n = by (set_at copies id birth n) (set_bytes id birth n) (λ set. all_bytes id birth more (n + set.blocks))
    where
      by : (o : Option StoredSet) → IfSome o IsSetOfBytes → ((set : StoredSet) → AllByRecursion IsSetOfBytes (sets_from copies id birth more (n + set.blocks)).sets)
          → AllByRecursion IsSetOfBytes (option_map_or (λ (set : StoredSet). with_set set (sets_from copies id birth more (n + set.blocks))) o (record { sets = []; end = n })).sets
      by None some later = tt
      by (Some set) some later = (some, later set)

  found_bytes : (id : List ℕ) (birth : ℕ) (found : StoredSets) → sets_in copies id birth ≡ Ok found → AllByRecursion IsSetOfBytes found.sets
  unfolding sets_in
  found_bytes id birth found is =
      let all : StoredSets = sets_from copies id birth bucket_blocks 0 in
      subst (λ (f : StoredSets). AllByRecursion IsSetOfBytes f.sets) (kept all _ all.sets is) (all_bytes id birth bucket_blocks 0)
    where
      passed : (all : StoredSets) (gap : Option ℕ) → without_gap all gap ≡ Ok found → all ≡ found
      passed all (Some n) is = absurd cc
      passed all None is = ok_is all found is

      kept : (all : StoredSets) (gap : Option ℕ) (sets : List StoredSet) → if_some all gap sets ≡ Ok found → all ≡ found
      kept all gap [] is = absurd cc
      kept all gap (set ∷ sets) is = passed all gap is

module _ (sealed : (block : List ℕ) (h : Head) → opened block ≡ Some h → Opens block h (payload_in block)) where
  shown_bytes : (bytes : List ℕ) → IfSome (shown_in bytes) IsOfBytes
  shown_bytes bytes = by (opened bytes) refl
    where
      by : (o : Option Head) → opened bytes ≡ o → IfSome (option_map (λ (head : Head). record { head = head; payload = payload_in bytes }) o) IsOfBytes
      by None is = tt
      by (Some head) is = (sealed bytes head is).bytes

  shown_at-bytes : (read : Reading) (place : Place) (n : ℕ) → IfSome (shown_at read place n) IsOfBytes
  shown_at-bytes read place n = by (read place.dev (place.block + n))
    where
      by : (o : Option (List ℕ)) → IfSome (option_and_then shown_in o) IsOfBytes
      by None = tt
      by (Some bytes) = shown_bytes bytes

  below_bytes : (read : Reading) (place : Place) (count : ℕ) → All (λ (o : Option OpenBlock). IfSome o IsOfBytes) (shown_below read place count)
  below_bytes read place zero = All-nil (λ (o : Option OpenBlock). IfSome o IsOfBytes)
  below_bytes read place (suc n) =
      All-append (λ (o : Option OpenBlock). IfSome o IsOfBytes) (shown_below read place n) (shown_at read place n ∷ []) (below_bytes read place n)
      (All-cons (λ (o : Option OpenBlock). IfSome o IsOfBytes) (shown_at read place n) [] (shown_at-bytes read place n) (All-nil (λ (o : Option OpenBlock). IfSome o IsOfBytes)))

  copy_bytes : (read : Reading) (place : Place) → ShowsBytes (copy_at read place)
  unfolding copy_at
  copy_bytes read place n =
      let copy : List (Option OpenBlock) = shown_below read place bucket_blocks in
      ⊎_elim
      (λ (lt : n < length copy). below_bytes read place bucket_blocks n None lt)
      (λ past. subst (λ (o : Option OpenBlock). IfSome o IsOfBytes) (sym (get_or_past copy n None past)) tt)
      (cases_lt n (length copy))

  copies_bytes : (read : Reading) (places : List Place) → AllByRecursion ShowsBytes (copies_at read places)
  copies_bytes read [] = tt
  copies_bytes read (place ∷ places) = (copy_bytes read place, copies_bytes read places)

  -- What the blocks of a node come to may be its entries.
  pub content_sound : IsExactBut Short IsSet set_format → (read : Reading) (id : List ℕ) (wanted : SetHead) (places : List Place) (content : NodeContent) → content_in (copies_at read places) id wanted ≡ Ok content → IsContent wanted content.entries
  content_sound exact read id wanted places content is =
      let copies : Copies = copies_at read places in
      content_of_sets exact wanted (sets_in copies id wanted.birth) content (λ found there. found_bytes copies (copies_bytes read places) id wanted.birth found there) is
