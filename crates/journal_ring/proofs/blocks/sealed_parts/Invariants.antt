use Rattle.std.proofs.Common.{◌≡◌, length}
use Rattle.journal_ring.specs.EntryBlocks.{ArePartBlocks}
use Rattle.journal_ring.proofs.blocks.sealed_parts.Given as goal

abbrev pub invariant-loop-part : goal.invariant-loop-part
invariant-loop-part l = record {
  count : length l.blocks.items ≡ l.part;
  made : ArePartBlocks l.fn.id l.fn.number l.fn.entry l.fn.payload l.blocks.items l.part;
}
