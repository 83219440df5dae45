-- The newest entry of an image has a root for each of the nine btrees.
use Rattle.std.proofs.Common.{◌≡◌, ℕ, ◌<◌, List, length, Option, Some, None, Ok, sym, ap, ◌∙◌, arith}
use Rattle.std.specs.Prelude.{map, option_and_then}
use Rattle.dev_model.specs.Disk.{Image}
use Rattle.geometry.specs.LayoutFacts.{has_places}
use Rattle.geometry.specs.SuperLaws.{layout_fits}
use Rattle.journal_ring.specs.Counting.{Counts, counting, greatest_below, newest}
use Rattle.journal_ring.specs.Entries.{IsMadeOf, IsWholeOn}
use Rattle.journal_ring.specs.Parts.{Area, area_of}
use Rattle.journal_ring.specs.declared.found.FoundEntry.{FoundEntry}
use Rattle.key_codec.specs.Combined.{bind_ok}
use Rattle.key_codec.specs.Formats.{FormatOf, both, checked, followed, items}
use Rattle.record_codec.specs.Entries.{entry_format, entry_in, root_item, roots, update_item}
use Rattle.record_codec.specs.Fields.{listing, u64_field}
use Rattle.record_codec.specs.Sets.{all_read}
use Rattle.record_codec.specs.declared.entries.EntryRecord.{EntryRecord}
use Rattle.record_codec.specs.declared.fault.RecordFault.TheVariants.{Field}
use Rattle.record_codec.specs.declared.fault.RecordFault.{RecordFault}
use Rattle.std.specs.Prelude.{nat_le}
use Rattle.vol_types.specs.declared.keys.Update.{Update}
use Rattle.vol_types.specs.declared.layout.Layout.{Layout}
use Rattle.vol_types.specs.declared.pointers.NodePtr.{NodePtr}
use Rattle.image_view.specs.BaseLaws.{found-layout, found-newest}
use Rattle.image_view.specs.Found.{Found, found}
use Rattle.image_view.proofs.ReadParts.{followed_of, items_count, mapped_of}
use Rattle.image_view.proofs.SetRanges.{read_all}

roots_read : (bytes : List ℕ) (xs : List NodePtr × List ℕ) → roots.read bytes ≡ Ok xs → length xs.0 ≡ 9
unfolding roots items
roots_read bytes xs is = items_count root_item None 9 bytes xs is

format_read : (bytes : List ℕ) (x : EntryRecord × List ℕ) → entry_format.read bytes ≡ Ok x → length x.0.roots ≡ 9
unfolding entry_format
format_read bytes x is =
    let keyed : FormatOf RecordFault (List NodePtr × List Update) = both roots (listing update_item) in
    let counted : FormatOf RecordFault (ℕ × (List NodePtr × List Update)) = both u64_field keyed in
    let owned : FormatOf RecordFault (ℕ × (ℕ × (List NodePtr × List Update))) = both u64_field counted in
    let last : ℕ → FormatOf RecordFault ℕ = λ sequence. checked u64_field (λ oldest. nat_le oldest sequence) Field in
    let made = mapped_of ((followed u64_field (λ sequence. both (last sequence) owned)).read bytes) (λ (x : ℕ × (ℕ × (ℕ × (ℕ × (List NodePtr × List Update))))). record { sequence = x.0; oldest = x.1.0; session = x.1.1.0; commits = x.1.1.1.0; roots = x.1.1.1.1.0; updates = x.1.1.1.1.1 }) x is in
    let all = made.0.0 in
    let a = followed_of u64_field (λ sequence. both (last sequence) owned) bytes made.0 made.1 in
    let b = followed_of (last all.0) (λ _. owned) a.0 (all.1, made.0.1) a.2 in
    let c = followed_of u64_field (λ _. counted) b.0 (all.1.1, made.0.1) b.2 in
    let d = followed_of u64_field (λ _. keyed) c.0 (all.1.1.1, made.0.1) c.2 in
    let e = followed_of roots (λ _. listing update_item) d.0 (all.1.1.1.1, made.0.1) d.2 in
    ap (λ (entry : EntryRecord). length entry.roots) (sym made.2) ∙ roots_read d.0 (all.1.1.1.1.0, e.0) e.1

-- What is read as an entry has nine roots.
entry_read : (bytes : List ℕ) (entry : EntryRecord) → entry_in bytes ≡ Ok entry → length entry.roots ≡ 9
unfolding entry_in
entry_read bytes entry is =
    let read = bind_ok (entry_format.read bytes) all_read entry is in
    ap (λ (e : EntryRecord). length e.roots) (sym (read_all read.0 entry read.2)) ∙ format_read bytes read.0 read.1

-- The newest entry counts for some sequence.
newest_counts : (layout : Layout) (area : Area) (last : FoundEntry) → newest layout area ≡ Some last → (sequence : ℕ) × (counting layout area sequence ≡ Some last)
unfolding newest
newest_counts layout area last is = by (greatest_below layout area layout.metadata_replicas) is
  where
    by : (o : Option ℕ) → option_and_then (counting layout area) o ≡ Some last → (sequence : ℕ) × (counting layout area sequence ≡ Some last)
    by None is = absurd cc
    by (Some sequence) is = (sequence, is)

-- What is known of entries in journal areas.
pub record EntryLaws : Type 0 where
  pub counts : (layout : Layout) (area : Area) (sequence : ℕ) (found : FoundEntry) → 0 < layout.journal → counting layout area sequence ≡ Some found → (found.entry.sequence ≡ sequence) × (dev : ℕ) × Counts layout area dev found
  pub made : (layout : Layout) (area : Area) (dev : ℕ) (found : FoundEntry) → IsWholeOn layout area dev found → (blocks : List (List ℕ)) × IsMadeOf layout area found blocks

-- The newest entry of what was found has nine roots.
pub nine_roots : EntryLaws → (image : Image) (f : Found) → found image ≡ Ok f → length f.last.entry.roots ≡ 9
nine_roots laws image f is =
    let places = has_places (map (λ blocks. length blocks) image) f.layout (layout_fits image f.layout (found-layout image f is)) in
    let some : 0 < f.layout.journal = let least = places.least in omega (arith, least) in
    let at = newest_counts f.layout (area_of image) f.last (found-newest image f is).last in
    let counts = laws.counts f.layout (area_of image) at.0 f.last some at.1 in
    let made = laws.made f.layout (area_of image) counts.1 f.last counts.2.whole in
    entry_read made.1.payload f.last.entry made.1.read
