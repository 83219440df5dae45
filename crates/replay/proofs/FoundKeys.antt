-- What is found in an image is a key map: its newest entry has a root for each btree, its needed entries have updates that may be made,
-- and the sets of each node come to what may be its entries.
use Rattle.std.proofs.Common.{◌≡◌, ℕ, zero, suc, ◌-◌, ◌<◌, List, [], ◌∷◌, ◌++◌, length, map, Option, Some, None, Result, Ok, Err, get_or, refl, sym, ap, subst, ◌∙◌, arith}
use Rattle.std.specs.List.{AllByRecursion, flat_map}
use Rattle.std.specs.Option.{option_map_or}
use Rattle.std.specs.Prelude.{All, slice_get}
use Rattle.std.proofs.lemmas.List.{length-append}
use Rattle.std.proofs.lemmas.List.Elements.{All-append, All-head, All-nil, All-tail, recursion_from_All}
use Rattle.birth_index.specs.Births.{BirthsDiffer, levels_of}
use Rattle.btree_map.specs.Trees.{IsTrees}
use Rattle.dev_model.specs.Disk.{Image, block_at}
use Rattle.geometry.specs.LayoutFacts.{has_places}
use Rattle.geometry.specs.SuperLaws.{layout_fits}
use Rattle.image_view.specs.BaseLaws.{found-layout, found-newest, found-trees, sets_in-ok}
use Rattle.image_view.specs.Found.{Found, found, sets_in, updates_of}
use Rattle.image_view.specs.Trees.{BtreeRead, SetsOf, TreesRead, btree_of, each_of, first_place, first_twin, joined, nodes_of, trees_of, with_own_births, with_roots}
use Rattle.journal_ring.specs.Counting.{needed_by, newest, entries_from, with_one, counting}
use Rattle.journal_ring.specs.Entries.{IsMadeOf, IsWhole, IsWholeOn}
use Rattle.journal_ring.specs.Parts.{Area, area_of}
use Rattle.journal_ring.specs.declared.found.FoundEntry.{FoundEntry}
use Rattle.key_codec.specs.Combined.{bind_ok, ok_is}
use Rattle.key_codec.specs.Exact.{IsExactBut}
use Rattle.record_codec.specs.Entries.{IsEntry, entry_format, entry_in}
use Rattle.record_codec.specs.Sets.{IsSet, all_read, set_format}
use Rattle.record_codec.specs.declared.entries.EntryRecord.{EntryRecord}
use Rattle.record_codec.specs.declared.fault.RecordFault.TheVariants.{Short}
use Rattle.sealed_block.specs.Blocks.{Opens}
use Rattle.sealed_block.specs.Opening.{opened, payload_in}
use Rattle.sealed_block.specs.Records.{IsRecord}
use Rattle.sealed_block.specs.declared.heads.Head.{Head}
use Rattle.vol_types.specs.Btrees.{btree_code}
use Rattle.vol_types.specs.Ranges.{IsNode}
use Rattle.vol_types.specs.Widths.{AreBytes}
use Rattle.vol_types.specs.declared.keys.Update.{Update}
use Rattle.vol_types.specs.declared.layout.Layout.{Layout}
use Rattle.vol_types.specs.declared.pointers.NodePtr.{NodePtr}
use Rattle.vol_types.specs.declared.pointers.Place.{Place}
use Rattle.vol_types.specs.declared.positions.Btree.{Btree}
use Rattle.replay.specs.Volumes.{trees_read}
use Rattle.replay.proofs.BtreesRead.{each_height, joined_are}
use Rattle.replay.proofs.Contents.{content_sound, read_all}
use Rattle.replay.proofs.LevelsRead.{AreSound, IsSoundUpdate, head_of}
use Rattle.replay.proofs.OwnBirths.{births_differ}

-- ---- what is read of roots, updates and sets

own_births : (twin : Option NodePtr) (all read : TreesRead) → option_map_or (λ (node : NodePtr). Err (first_place node)) twin (Ok all) ≡ Ok read → (twin ≡ None) × (all ≡ read)
own_births None all read is = (refl, ok_is all read is)
own_births (Some node) all read is = absurd cc

-- Btrees that were read are those of a key map, and no two of their nodes have one birth.
pub trees_are : (sets : SetsOf) (updates : List Update) (roots : List NodePtr) (read : TreesRead) → AreSound sets → AllByRecursion IsSoundUpdate updates → length roots ≡ 9 → All IsNode roots → trees_of sets updates roots ≡ Ok read
    → IsTrees (trees_read read) × BirthsDiffer read.nodes
unfolding trees_of
trees_are sets updates roots read sound may nine are is =
    let btrees = bind_ok (each_of (btree_of sets updates) (with_roots roots)) with_own_trees read is in
    let own = own_births (first_twin (nodes_of (joined btrees.0).nodes)) (joined btrees.0) read btrees.2 in (
      subst (λ (r : TreesRead). IsTrees (trees_read r)) own.1 (joined_are sets updates sound may roots nine are btrees.0 btrees.1),
      subst (λ (r : TreesRead). BirthsDiffer r.nodes) own.1 (births_differ (joined btrees.0).nodes own.0),
    )
  where
    with_own_trees : List BtreeRead → Result TreesRead Place
    with_own_trees btrees = with_own_births (joined btrees)

-- Each btree that was read has the levels up to its root's.
pub heights_are : (sets : SetsOf) (updates : List Update) (roots : List NodePtr) (read : TreesRead) → AreSound sets → AllByRecursion IsSoundUpdate updates → length roots ≡ 9 → All IsNode roots → trees_of sets updates roots ≡ Ok read
    → (btree : Btree) → (root : NodePtr) × (slice_get roots (btree_code btree) ≡ Some root) × (length (levels_of read.nodes btree) ≡ suc root.level)
unfolding trees_of
heights_are sets updates roots read sound may nine are is btree =
    let btrees = bind_ok (each_of (btree_of sets updates) (with_roots roots)) with_own_trees read is in
    let own = own_births (first_twin (nodes_of (joined btrees.0).nodes)) (joined btrees.0) read btrees.2 in
    let height = each_height sets updates sound may roots nine are btrees.0 btrees.1 btree in
    (height.0, height.1, ap (λ (r : TreesRead). length (levels_of r.nodes btree)) (sym own.1) ∙ height.2)
  where
    with_own_trees : List BtreeRead → Result TreesRead Place
    with_own_trees btrees = with_own_births (joined btrees)

-- ---- entries

bytes-append : (one other : List ℕ) → AreBytes one → AreBytes other → AreBytes (one ++ other)
bytes-append one other first second = All-append (λ b. b < 256) one other first second

-- Each needed entry is whole, and so is the newest one, which is the last of them.
last_whole : (before : Result (List FoundEntry) ℕ) (sequence : ℕ) (last : FoundEntry) (needed : List FoundEntry) (P : FoundEntry → Type 0) → with_one before sequence (Some last) ≡ Ok needed → All P needed → P last
last_whole (Err missing) sequence last needed P is all = absurd cc
last_whole (Ok entries) sequence last needed P is all = at_end entries (subst (All P) (sym (ok_is (entries ++ last ∷ []) needed is)) all)
  where
    at_end : (entries : List FoundEntry) → All P (entries ++ last ∷ []) → P last
    at_end [] all = All-head P last [] all
    at_end (e ∷ es) all = at_end es (All-tail P e (es ++ last ∷ []) all)

abbrev pub AreWhole : Type 0
AreWhole = (layout : Layout) (area : Area) (last : FoundEntry) (needed : List FoundEntry) → 0 < layout.journal → newest layout area ≡ Some last
    → needed_by layout area last ≡ Ok needed → All (IsWhole layout area) needed

abbrev pub AreMadeOf : Type 0
AreMadeOf = (layout : Layout) (area : Area) (dev : ℕ) (found : FoundEntry) → IsWholeOn layout area dev found → (blocks : List (List ℕ)) × IsMadeOf layout area found blocks

abbrev pub AreSealed : Type 0
AreSealed = (block : List ℕ) (h : Head) → opened block ≡ Some h → Opens block h (payload_in block)

joined_bytes : (blocks : List (List ℕ)) → AllByRecursion (λ block. AreBytes (payload_in block)) blocks → AreBytes (flat_map payload_in blocks)
joined_bytes [] each = All-nil (λ b. b < 256)
joined_bytes (block ∷ blocks) each = bytes-append (payload_in block) (flat_map payload_in blocks) each.0 (joined_bytes blocks each.1)

module _ (whole : AreWhole) (made_of : AreMadeOf) (sealed : AreSealed) (exact_entries : IsExactBut Short IsEntry entry_format) (exact_sets : IsExactBut Short IsSet set_format) where
  record_bytes : (blocks : List (List ℕ)) (payload : List ℕ) → IsRecord blocks payload → AreBytes payload
  record_bytes blocks payload is =
      subst AreBytes (sym is.joined) (joined_bytes blocks (recursion_from_All (λ block. AreBytes (payload_in block)) blocks (λ p d lt.
      let part = is.parts.parts p (omega (arith, lt, is.parts.count)) in
      subst (λ (block : List ℕ). AreBytes (payload_in block)) (same_default blocks p [] d lt) (sealed _ part.head part.opens).bytes)))
    where
      same_default : (blocks : List (List ℕ)) (p : ℕ) (c d : List ℕ) → p < length blocks → get_or blocks p c ≡ get_or blocks p d
      same_default [] p c d lt = absurd (omega (arith, lt))
      same_default (b ∷ bs) zero c d lt = refl
      same_default (b ∷ bs) (suc p) c d lt = same_default bs p c d (omega (arith, lt))

  entry_read : (bytes : List ℕ) (entry : EntryRecord) → AreBytes bytes → entry_in bytes ≡ Ok entry → IsEntry entry
  unfolding entry_in
  entry_read bytes entry are is =
      let read = bind_ok (entry_format.read bytes) all_read entry is in
      subst IsEntry (read_all read.0 entry read.2) (exact_entries.found bytes read.0.0 read.0.1 are read.1).0

  -- A whole entry is in the grammar.
  whole_is_entry : (layout : Layout) (area : Area) (found : FoundEntry) → IsWhole layout area found → IsEntry found.entry
  whole_is_entry layout area found is =
      let made = made_of layout area is.0 found is.1 in
      entry_read made.1.payload found.entry (record_bytes made.0 made.1.payload made.1.record_is) made.1.read

  updates_may : (layout : Layout) (area : Area) (entries : List FoundEntry) → AllByRecursion (IsWhole layout area) entries → All IsSoundUpdate (updates_of entries)
  updates_may layout area [] all = All-nil IsSoundUpdate
  updates_may layout area (e ∷ es) all =
      let is = whole_is_entry layout area e all.0 in
      All-append IsSoundUpdate e.entry.updates (updates_of es) (λ k d lt. record { is = is.in_range.updates k d lt; fits = (is.fits.updates k d lt).pos }) (updates_may layout area es all.1)

  -- ---- sets

  -- The sets that an image has of each node come to what may be its entries.
  sets_sound : (layout : Layout) (image : Image) → AreSound (sets_in layout image)
  sets_sound layout image wanted content is =
      content_sound sealed exact_sets (block_at image) layout.id (head_of wanted) wanted.pointer.places content
      (sets_in-ok layout image wanted content is).1

  -- ---- what is found

  -- What is found in an image was read of entries that are in the grammar.
  record WasRead (image : Image) (f : Found) : Type 0 where
    pub entries : All (IsWhole f.layout (area_of image)) f.needed
    pub newest : IsEntry f.last.entry
    pub may : AllByRecursion IsSoundUpdate (updates_of f.needed)

  was_read : (image : Image) (f : Found) → found image ≡ Ok f → WasRead image f
  was_read image f is =
      let new = found-newest image f is in
      let places = has_places (map (λ blocks. length blocks) image) f.layout (layout_fits image f.layout (found-layout image f is)) in
      let some : 0 < f.layout.journal = let least = places.least in omega (arith, least) in
      let all = whole f.layout (area_of image) f.last f.needed some new.last new.needed in
      let last = last_whole (entries_from (counting f.layout (area_of image)) f.last.entry.oldest (f.last.entry.sequence - f.last.entry.oldest)) f.last.entry.sequence f.last f.needed (IsWhole f.layout (area_of image)) new.needed all in
      let may = updates_may f.layout (area_of image) f.needed (recursion_from_All (IsWhole f.layout (area_of image)) f.needed all) in
      record { entries = all; newest = whole_is_entry f.layout (area_of image) f.last last; may = recursion_from_All IsSoundUpdate (updates_of f.needed) may }

  -- What is found in an image is a key map.
  pub found_are : (image : Image) (f : Found) → found image ≡ Ok f → IsTrees (trees_read f.trees) × BirthsDiffer f.trees.nodes
  found_are image f is =
      let read = was_read image f is in
      trees_are (sets_in f.layout image) (updates_of f.needed) f.last.entry.roots f.trees (sets_sound f.layout image) read.may read.newest.in_range.all_roots read.newest.in_range.roots (found-trees image f is)

  -- Each of its btrees has the levels up to the root's that the newest entry names.
  pub found_heights : (image : Image) (f : Found) → found image ≡ Ok f → (btree : Btree) → (root : NodePtr) × (slice_get f.last.entry.roots (btree_code btree) ≡ Some root) × (length (levels_of f.trees.nodes btree) ≡ suc root.level)
  found_heights image f is =
      let read = was_read image f is in
      heights_are (sets_in f.layout image) (updates_of f.needed) f.last.entry.roots f.trees (sets_sound f.layout image) read.may read.newest.in_range.all_roots read.newest.in_range.roots (found-trees image f is)

  -- Its needed entries are in the grammar.
  pub found_entries : (image : Image) (f : Found) → found image ≡ Ok f → All (λ (e : FoundEntry). IsEntry e.entry) f.needed
  found_entries image f is = λ k d lt. whole_is_entry f.layout (area_of image) (get_or f.needed k d) ((was_read image f is).entries k d lt)

-- Its newest entry is one of those that are needed.
pub found_some : (image : Image) (f : Found) → found image ≡ Ok f → 0 < length f.needed
found_some image f is =
    some (entries_from (counting f.layout (area_of image)) f.last.entry.oldest (f.last.entry.sequence - f.last.entry.oldest)) f.last.entry.sequence f.last f.needed (found-newest image f is).needed
  where
    some : (before : Result (List FoundEntry) ℕ) (sequence : ℕ) (last : FoundEntry) (needed : List FoundEntry) → with_one before sequence (Some last) ≡ Ok needed → 0 < length needed
    some (Err missing) sequence last needed is = absurd cc
    some (Ok entries) sequence last needed is = omega (arith, length-append entries (last ∷ []), ap length (ok_is (entries ++ last ∷ []) needed is))
