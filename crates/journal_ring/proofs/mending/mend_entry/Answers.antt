use Rattle.std.proofs.Common.{◌≡◌, ◌≤◌, ◌∙◌, ap, arith, length, ℕ, List, Result, Ok, Err, subst, sym}
use Rattle.std.specs.Prelude.{OnOk}
use Rattle.dev_model.specs.Devices.{now}
use Rattle.dev_model.specs.Disk.{as_read}
use Rattle.dev_model.specs.FrameLaws.{go_on_here}
use Rattle.record_codec.specs.declared.entries.EntryRecord.{EntryRecord}
use Rattle.record_codec.specs.Entries.{entry_format, entry_length_of}
use Rattle.journal_ring.specs.EntryBlocks.{AreEntryBlocks, ArePartBlocks, HoldBlocks, part_count, parts_of}
use Rattle.journal_ring.specs.Mending.{IsEntryBlock, Mends}
use Rattle.journal_ring.proofs.Frames.{mends_none}
use Rattle.journal_ring.proofs.Sealed.{one_sealed, whole_can}
use Rattle.journal_ring.proofs.mending.mend_entry.Goals as goal

pub put_entry-requires : goal.put_entry-requires
put_entry-requires g c =
    (whole_can c.opened_blocks_are_sealed.ensures c.entries_are_exact.ensures c.entry_lengths.ensures c.args.layout.now c.requires.whole.0 c.requires.whole.1.0 c.args.found.now c.requires.whole.1.1).entry.in_range

pub sealed_parts-requires-clause-parts : goal.sealed_parts-requires-clause-parts
sealed_parts-requires-clause-parts g c =
    let entry = c.args.found.now.entry in
    let can = whole_can c.opened_blocks_are_sealed.ensures c.entries_are_exact.ensures c.entry_lengths.ensures c.args.layout.now c.requires.whole.0 c.requires.whole.1.0 c.args.found.now c.requires.whole.1.1 in
    let size : length c.as_slice.result.now ≡ entry_length_of entry.roots entry.updates = ap (λ (b : List ℕ). length b) (c.as_slice.ensures ∙ c.in_ok-payload.ensures.ok) ∙ c.entry_lengths.ensures entry in
    subst (λ n. part_count n ≤ 64) (sym size) can.parts

pub sealed_parts-requires-clause-number : goal.sealed_parts-requires-clause-number
sealed_parts-requires-clause-number g c =
    let entry = c.args.found.now.entry in
    let can = whole_can c.opened_blocks_are_sealed.ensures c.entries_are_exact.ensures c.entry_lengths.ensures c.args.layout.now c.requires.whole.0 c.requires.whole.1.0 c.args.found.now c.requires.whole.1.1 in
    let size : length c.as_slice.result.now ≡ entry_length_of entry.roots entry.updates = ap (λ (b : List ℕ). length b) (c.as_slice.ensures ∙ c.in_ok-payload.ensures.ok) ∙ c.entry_lengths.ensures entry in
    let number = can.number in
    omega (arith, number, ap part_count size)

-- Blocks that are sealed of a payload are those of the entry that it encodes.
sealed_of : (id : List ℕ) (number : ℕ) (entry : EntryRecord) (payload : List ℕ) (blocks : List (List ℕ)) → payload ≡ entry_format.encode entry → length (entry_format.encode entry) ≡ entry_length_of entry.roots entry.updates
    → length blocks ≡ part_count (length payload) → ArePartBlocks id number entry payload blocks (part_count (length payload)) → AreEntryBlocks id number entry blocks
sealed_of id number entry payload blocks is long count parts =
    let same : part_count (length payload) ≡ parts_of entry = ap (λ (bytes : List ℕ). part_count (length bytes)) is ∙ ap part_count long in
    record {
      count = count ∙ same;
      parts = subst (λ (bytes : List ℕ). ArePartBlocks id number entry bytes blocks (parts_of entry)) is (subst (ArePartBlocks id number entry payload blocks) same parts);
    }

pub settle_parts-requires-clause-number : goal.settle_parts-requires-clause-number
settle_parts-requires-clause-number g c =
    let entry = c.args.found.now.entry in
    let can = whole_can c.opened_blocks_are_sealed.ensures c.entries_are_exact.ensures c.entry_lengths.ensures c.args.layout.now c.requires.whole.0 c.requires.whole.1.0 c.args.found.now c.requires.whole.1.1 in
    let size : length c.as_slice.result.now ≡ entry_length_of entry.roots entry.updates = ap (λ (b : List ℕ). length b) (c.as_slice.ensures ∙ c.in_ok-payload.ensures.ok) ∙ c.entry_lengths.ensures entry in
    let count : length c.deref.result.now ≡ part_count (length c.as_slice.result.now) = ap length c.deref.ensures.value ∙ c.in_ok-blocks.ensures.count in
    let number = can.number in
    omega (arith, number, count, ap part_count size)

pub returns-clause-mends : goal.returns-clause-mends
returns-clause-mends g c tells blocks are =
    let D = g.D.Devices in
    let layout = c.args.layout.now in
    let found = c.args.found.now in
    let encoded : c.as_slice.result.now ≡ entry_format.encode found.entry = c.as_slice.ensures ∙ c.in_ok-payload.ensures.ok in
    let again = sealed_of layout.id found.number found.entry c.as_slice.result.now c.in_ok-blocks.blocks.items encoded (c.entry_lengths.ensures found.entry) c.in_ok-blocks.ensures.count c.in_ok-blocks.ensures.parts in
    let same : c.deref.result.now ≡ blocks = c.deref.ensures.value ∙ one_sealed layout.id found.number found.entry c.in_ok-blocks.blocks.items blocks again are in
    subst (λ (bs : List (List ℕ)). Mends (IsEntryBlock layout.metadata_replicas layout.journal found.number bs) (D.state c.args.devices.now) (D.state c.settle_parts.new.devices)) same (c.settle_parts.ensures.mends tells)

pub returns-clause-held : goal.returns-clause-held
returns-clause-held g c tells =
    let D = g.D.Devices in
    let layout = c.args.layout.now in
    let found = c.args.found.now in
    if_held c.settle_parts.result (c.settle_parts.ensures.held tells) (λ held blocks are.
    let encoded : c.as_slice.result.now ≡ entry_format.encode found.entry = c.as_slice.ensures ∙ c.in_ok-payload.ensures.ok in
    let again = sealed_of layout.id found.number found.entry c.as_slice.result.now c.in_ok-blocks.blocks.items encoded (c.entry_lengths.ensures found.entry) c.in_ok-blocks.ensures.count c.in_ok-blocks.ensures.parts in
    let same : c.deref.result.now ≡ blocks = c.deref.ensures.value ∙ one_sealed layout.id found.number found.entry c.in_ok-blocks.blocks.items blocks again are in
    subst (λ (bs : List (List ℕ)). HoldBlocks layout.metadata_replicas layout.journal found.number bs (length bs) (as_read (now (D.state c.settle_parts.new.devices)))) same held)
  where
    if_held : {T E : Type 0} {P Q : Type 0} (result : Result T E) → OnOk result P → (P → Q) → OnOk result Q
    if_held (Ok x) is then = then is
    if_held (Err e) is then = tt

pub returns-in_err-payload-clause-mends : goal.returns-in_err-payload-clause-mends
returns-in_err-payload-clause-mends g c tells blocks are =
    let layout = c.args.layout.now in
    mends_none (IsEntryBlock layout.metadata_replicas layout.journal c.args.found.now.number blocks) (g.D.Devices.state c.args.devices.now)

pub returns-in_err-payload-clause-goes_on : goal.returns-in_err-payload-clause-goes_on
returns-in_err-payload-clause-goes_on g c = go_on_here (g.D.Devices.state c.args.devices.now)

pub returns-in_err-blocks-clause-mends : goal.returns-in_err-blocks-clause-mends
returns-in_err-blocks-clause-mends g c tells blocks are =
    let layout = c.args.layout.now in
    mends_none (IsEntryBlock layout.metadata_replicas layout.journal c.args.found.now.number blocks) (g.D.Devices.state c.args.devices.now)

pub returns-in_err-blocks-clause-goes_on : goal.returns-in_err-blocks-clause-goes_on
returns-in_err-blocks-clause-goes_on g c = go_on_here (g.D.Devices.state c.args.devices.now)

pub returns-clause-quiet : goal.returns-clause-quiet
returns-clause-quiet g c = c.settle_parts.ensures.quiet

pub returns-clause-rest : goal.returns-clause-rest
returns-clause-rest g c = c.settle_parts.ensures.rest

pub returns-clause-goes_on : goal.returns-clause-goes_on
returns-clause-goes_on g c = c.settle_parts.ensures.goes_on

pub returns-clause-cause : goal.returns-clause-cause
returns-clause-cause g c = c.settle_parts.ensures.cause

pub returns-clause-device : goal.returns-clause-device
returns-clause-device g c = c.settle_parts.ensures.device
