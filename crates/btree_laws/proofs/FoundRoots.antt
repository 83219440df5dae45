-- The roots that the newest entry of an image names are nine pointers that are in range, since the entry was read of bytes in its grammar.
use Rattle.std.proofs.Common.{◌≡◌, ℕ, zero, suc, ◌-◌, ◌<◌, List, [], ◌∷◌, ◌++◌, length, map, Result, Ok, Err, Some, get_or, refl, sym, subst, arith}
use Rattle.std.specs.Prelude.{All}
use Rattle.std.specs.List.{AllByRecursion, flat_map}
use Rattle.std.proofs.lemmas.List.Elements.{All-head, All-nil, All-tail, recursion_from_All}
use Rattle.dev_model.specs.Disk.{Image}
use Rattle.geometry.specs.LayoutFacts.{has_places}
use Rattle.geometry.specs.SuperLaws.{layout_fits}
use Rattle.image_view.specs.BaseLaws.{found-layout, found-newest}
use Rattle.image_view.specs.Found.{Found, found}
use Rattle.journal_ring.specs.Counting.{counting, entries_from, needed_by, newest, with_one}
use Rattle.journal_ring.specs.Entries.{IsMadeOf, IsWhole, IsWholeOn}
use Rattle.journal_ring.specs.Parts.{Area, area_of}
use Rattle.journal_ring.specs.declared.found.FoundEntry.{FoundEntry}
use Rattle.key_codec.specs.Combined.{bind_ok, ok_is}
use Rattle.key_codec.specs.Exact.{IsExactBut}
use Rattle.record_codec.specs.Entries.{IsEntry, entry_format, entry_in}
use Rattle.record_codec.specs.Sets.{all_read}
use Rattle.record_codec.specs.declared.entries.EntryRecord.{EntryRecord}
use Rattle.record_codec.specs.declared.fault.RecordFault.TheVariants.{Short}
use Rattle.sealed_block.specs.Opening.{payload_in}
use Rattle.sealed_block.specs.Records.{IsRecord}
use Rattle.vol_types.specs.Ranges.{IsNode}
use Rattle.vol_types.specs.Widths.{AreBytes}
use Rattle.vol_types.specs.declared.layout.Layout.{Layout}
use Rattle.btree_laws.proofs.SetContents.{AreSealed, bytes-append, read_all}

-- The newest entry is the last of those that are needed.
last_of_all : (before : Result (List FoundEntry) ℕ) (sequence : ℕ) (last : FoundEntry) (needed : List FoundEntry) (P : FoundEntry → Type 0) → with_one before sequence (Some last) ≡ Ok needed → All P needed → P last
last_of_all (Err missing) sequence last needed P is all = absurd cc
last_of_all (Ok entries) sequence last needed P is all = at_end entries (subst (All P) (sym (ok_is (entries ++ last ∷ []) needed is)) all)
  where
    at_end : (entries : List FoundEntry) → All P (entries ++ last ∷ []) → P last
    at_end [] all = All-head P last [] all
    at_end (e ∷ es) all = at_end es (All-tail P e (es ++ last ∷ []) all)

joined_bytes : (blocks : List (List ℕ)) → AllByRecursion (λ block. AreBytes (payload_in block)) blocks → AreBytes (flat_map payload_in blocks)
joined_bytes [] each = All-nil (λ b. b < 256)
joined_bytes (block ∷ blocks) each = bytes-append (payload_in block) (flat_map payload_in blocks) each.0 (joined_bytes blocks each.1)

-- The entries that are needed are whole, and whole ones are made of blocks.
pub record EntryLaws : Type 0 where
  pub whole : (layout : Layout) (area : Area) (last : FoundEntry) (needed : List FoundEntry) → 0 < layout.journal → newest layout area ≡ Some last → needed_by layout area last ≡ Ok needed → All (IsWhole layout area) needed
  pub made_of : (layout : Layout) (area : Area) (dev : ℕ) (found : FoundEntry) → IsWholeOn layout area dev found → (blocks : List (List ℕ)) × IsMadeOf layout area found blocks
  pub sealed : AreSealed
  pub exact : IsExactBut Short IsEntry entry_format

module _ (laws : EntryLaws) where
  record_bytes : (blocks : List (List ℕ)) (payload : List ℕ) → IsRecord blocks payload → AreBytes payload
  record_bytes blocks payload is =
      subst AreBytes (sym is.joined) (joined_bytes blocks (recursion_from_All (λ block. AreBytes (payload_in block)) blocks (λ p d lt.
      let count = is.parts.count in
      let part = is.parts.parts p (omega (arith, lt, count)) in
      subst (λ (block : List ℕ). AreBytes (payload_in block)) (same_default blocks p [] d lt) (laws.sealed _ part.head part.opens).bytes)))
    where
      same_default : (blocks : List (List ℕ)) (p : ℕ) (c d : List ℕ) → p < length blocks → get_or blocks p c ≡ get_or blocks p d
      same_default [] p c d lt = absurd (omega (arith, lt))
      same_default (b ∷ bs) zero c d lt = refl
      same_default (b ∷ bs) (suc p) c d lt = same_default bs p c d (omega (arith, lt))

  entry_read : (bytes : List ℕ) (entry : EntryRecord) → AreBytes bytes → entry_in bytes ≡ Ok entry → IsEntry entry
  unfolding entry_in
  entry_read bytes entry are is =
      let read = bind_ok (entry_format.read bytes) all_read entry is in
      subst IsEntry (read_all read.0 entry read.2) (laws.exact.found bytes read.0.0 read.0.1 are read.1).0

  -- A whole entry is in the grammar.
  whole_is_entry : (layout : Layout) (area : Area) (found : FoundEntry) → IsWhole layout area found → IsEntry found.entry
  whole_is_entry layout area found is =
      let made = laws.made_of layout area is.0 found is.1 in
      entry_read made.1.payload found.entry (record_bytes made.0 made.1.payload made.1.record_is) made.1.read

  -- The newest entry that was found is.
  newest_is_entry : (image : Image) (f : Found) → found image ≡ Ok f → IsEntry f.last.entry
  newest_is_entry image f is =
      let new = found-newest image f is in
      let least = (has_places (map (λ blocks. length blocks) image) f.layout (layout_fits image f.layout (found-layout image f is))).least in
      let all = laws.whole f.layout (area_of image) f.last f.needed (omega (arith, least)) new.last new.needed in
      whole_is_entry f.layout (area_of image) f.last
      (last_of_all (entries_from (counting f.layout (area_of image)) f.last.entry.oldest (f.last.entry.sequence - f.last.entry.oldest)) f.last.entry.sequence f.last f.needed (IsWhole f.layout (area_of image)) new.needed all)

  -- There are nine roots, and each is in range.
  pub nine_roots : (image : Image) (f : Found) → found image ≡ Ok f → length f.last.entry.roots ≡ 9
  nine_roots image f is = (newest_is_entry image f is).in_range.all_roots

  pub roots_in_range : (image : Image) (f : Found) → found image ≡ Ok f → All IsNode f.last.entry.roots
  roots_in_range image f is = (newest_is_entry image f is).in_range.roots
