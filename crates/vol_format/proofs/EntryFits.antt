-- The first entry may be stored, in one block.
use Rattle.std.proofs.Common.{◌≡◌, ℕ, ◌+◌, ◌/◌, ◌<◌, ◌≤◌, true, List, [], ◌∷◌, length, refl, ap, ◌∙◌, sym, subst, arith}
use Rattle.std.specs.Prelude.{slice_index_or}
use Rattle.std.proofs.lemmas.List.{take_all}
use Rattle.std.proofs.lemmas.List.Elements.{All-nil}
use Rattle.std.proofs.lemmas.List.FromFn.{length-map-range_with_len}
use Rattle.vol_types.specs.LayoutLaws.{layout_found}
use Rattle.vol_types.specs.Layouts.{is_layout}
use Rattle.vol_types.specs.Ranges.{IsBucket, IsNode}
use Rattle.vol_types.specs.Standing.{IsUpdate}
use Rattle.vol_types.specs.declared.layout.Layout.{Layout}
use Rattle.sealed_block.specs.Blocks.{Opens}
use Rattle.sealed_block.specs.declared.heads.Head.{Head}
use Rattle.record_codec.specs.Entries.{IsEntryInRange, entry_format, entry_length_of}
use Rattle.record_codec.specs.declared.entries.EntryRecord.{EntryRecord}
use Rattle.journal_ring.specs.EntryBlocks.{AreEntryBlocks, IsPartBlock, part_head, part_payload}
use Rattle.vol_format.specs.Fresh.{entry_head, first_entry, fresh_root, root_place}
use Rattle.vol_format.proofs.FirstEntry.{one_part}
use Rattle.vol_format.proofs.Roots.{All-places, All-roots, short_roots}

-- There are one to three metadata devices.
pub few_mirrors : (layout : Layout) → is_layout layout ≡ true → layout.metadata_replicas ≤ 3
few_mirrors layout is = omega (arith, (layout_found layout is).metadata.1)

-- Each root lies on some.
pub root_placed_somewhere : (layout : Layout) (number : ℕ) → is_layout layout ≡ true → 0 < length (fresh_root layout number).places
root_placed_somewhere layout number is = omega (arith, (layout_found layout is).metadata.0, length-map-range_with_len (root_place layout number) 0 layout.metadata_replicas)

root_in_range : (layout : Layout) (number : ℕ) → is_layout layout ≡ true → IsNode (fresh_root layout number)
root_in_range layout number is =
    let found = layout_found layout is in
    let few = few_mirrors layout is in
    let count = length-map-range_with_len (root_place layout number) 0 layout.metadata_replicas in
    record {
      level = omega arith;
      copies = (omega (arith, count, found.metadata.0), omega (arith, count, few));
      each = All-places IsBucket layout number (λ dev mirror. record { device = omega (arith, mirror, few); first = omega (arith, found.journal_buckets) });
    }

pub entry_in_range : (layout : Layout) → is_layout layout ≡ true → IsEntryInRange (first_entry layout)
entry_in_range layout is = record {
  oldest = omega arith;
  all_roots = refl;
  roots = All-roots IsNode layout (λ number low. root_in_range layout number is);
  few = omega arith;
  updates = All-nil IsUpdate;
}

module _ (layout : Layout) (is : is_layout layout ≡ true) (lengths : (entry : EntryRecord) → length (entry_format.encode entry) ≡ entry_length_of entry.roots entry.updates) where
  abbrev payload : List ℕ
  payload = entry_format.encode (first_entry layout)

  -- The payload fits a block.
  pub short_payload : length payload ≤ 3968
  short_payload = omega (arith, lengths (first_entry layout), short_roots layout (few_mirrors layout is))

  whole_part : part_payload payload 0 ≡ payload
  whole_part = take_all 3968 payload short_payload

  head_is : entry_head layout payload ≡ part_head layout.id 0 (first_entry layout) payload 0
  head_is =
      let one : (length payload + 3967) / 3968 ≡ 1 = ap (λ n. (n + 3967) / 3968) (lengths (first_entry layout)) ∙ one_part layout (few_mirrors layout is) in
      λ i. record (entry_head layout payload) { parts = sym one i; length = sym (ap (λ (bytes : List ℕ). length bytes) whole_part) i }

  -- The block that is sealed so is the one of the entry.
  pub entry_blocks : (block : List ℕ) → Opens block (entry_head layout payload) payload → AreEntryBlocks layout.id 0 (first_entry layout) (block ∷ [])
  entry_blocks block opens = record {
    count = sym (one_part layout (few_mirrors layout is));
    parts = λ p low.
        let none : 0 ≡ p = omega (arith, low, one_part layout (few_mirrors layout is)) in
        subst (λ n. IsPartBlock layout.id 0 (first_entry layout) payload n (slice_index_or (block ∷ []) n [])) none
        (record { opens = subst (λ (h : Head). Opens block h (part_payload payload 0)) head_is (subst (Opens block (entry_head layout payload)) (sym whole_part) opens) });
  }
