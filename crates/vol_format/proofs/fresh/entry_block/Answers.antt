-- The block is that of the first entry.
use Rattle.std.proofs.Common.{◌≡◌, ◌≤◌, ◌∷◌, [], ℕ, List, length, ap, sym, subst, ◌∙◌}
use Rattle.sealed_block.specs.Blocks.{Opens}
use Rattle.record_codec.specs.Entries.{IsEntry, IsEntryInRange, entry_format}
use Rattle.record_codec.specs.declared.entries.EntryRecord.{EntryRecord}
use Rattle.journal_ring.specs.EntryBlocks.{AreEntryBlocks}
use Rattle.vol_format.specs.Fresh.{entry_head, first_entry}
use Rattle.vol_format.proofs.EntryFits.{entry_blocks, entry_in_range, short_payload}
use Rattle.vol_format.proofs.fresh.entry_block.Goals as goal

pub put_entry-requires : goal.put_entry-requires
put_entry-requires c = subst IsEntryInRange (sym c.in_ok-entry.ensures.entry) (entry_in_range c.args.layout.now c.requires.layout)

pub seal_entry-block-requires : goal.seal_entry-block-requires
seal_entry-block-requires c =
    let payload_is : c.as_slice.result.now ≡ entry_format.encode (first_entry c.args.layout.now) = c.as_slice.ensures ∙ c.in_ok-payload.ensures.ok ∙ ap (λ (e : EntryRecord). entry_format.encode e) c.in_ok-entry.ensures.entry in
    record { few = subst (λ (bytes : List ℕ). length bytes ≤ 3968) (sym payload_is) (short_payload c.args.layout.now c.requires.layout c.entry_lengths.ensures) }

pub returns-clause-block : goal.returns-clause-block
returns-clause-block c =
    let layout = c.args.layout.now in
    let payload_is : c.as_slice.result.now ≡ entry_format.encode (first_entry layout) = c.as_slice.ensures ∙ c.in_ok-payload.ensures.ok ∙ ap (λ (e : EntryRecord). entry_format.encode e) c.in_ok-entry.ensures.entry in
    subst (λ (bytes : List ℕ). AreEntryBlocks layout.id 0 (first_entry layout) (bytes ∷ [])) (sym c.in_ok-bytes.ensures)
    (entry_blocks layout c.requires.layout c.entry_lengths.ensures c.seal_entry-block.result (subst (λ (p : List ℕ). Opens c.seal_entry-block.result (entry_head layout p) p) payload_is c.seal_entry-block.ensures.opens))

pub returns-clause-entry : goal.returns-clause-entry
returns-clause-entry c = subst IsEntry c.in_ok-entry.ensures.entry c.in_ok-payload.ensures.entry
