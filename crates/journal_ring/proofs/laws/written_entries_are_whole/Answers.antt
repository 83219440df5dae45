use Rattle.std.proofs.Common.{◌≡◌, ℕ, ◌+◌, List, length, Some, refl, ap, ◌∙◌, sym, subst, arith}
use Rattle.record_codec.specs.Entries.{entry_format, entry_length_of}
use Rattle.journal_ring.specs.declared.found.FoundEntry.{FoundEntry}
use Rattle.journal_ring.specs.EntryBlocks.{ArePartBlocks, part_count, parts_of}
use Rattle.journal_ring.specs.Parts.{area_of}
use Rattle.journal_ring.proofs.Takes.{some_parts}
use Rattle.journal_ring.proofs.Written.{SealedOpen, stands_whole}
use Rattle.journal_ring.proofs.laws.written_entries_are_whole.Goals as goal

pub returns : goal.returns
returns c layout image number entry blocks is end are held dev mirror =
    let payload : List ℕ = entry_format.encode entry in
    let size : length payload ≡ entry_length_of entry.roots entry.updates = c.entry_lengths.ensures entry in
    let count : parts_of entry ≡ part_count (length payload) = ap part_count (sym size) in
    let sealed : SealedOpen = record { head = c.sealed_blocks_open.ensures.head; payload = c.sealed_blocks_open.ensures.payload } in
    let parts : ArePartBlocks layout.id number entry payload blocks (part_count (length payload)) = subst (λ n. ArePartBlocks layout.id number entry payload blocks n) count are.parts in
    stands_whole sealed layout (area_of image) number entry payload blocks parts
    (λ d p within lower. held d p within (omega (arith, lower, are.count, count))) dev mirror
    c.entries_are_exact.ensures is refl (some_parts (length payload) (omega (arith, size))) (omega (arith, end, count))
    ∙ ap (λ n. Some (found n)) (sym count)
  where
    found : ℕ → FoundEntry
    found n = record { number = number; end = number + n; entry = entry }
