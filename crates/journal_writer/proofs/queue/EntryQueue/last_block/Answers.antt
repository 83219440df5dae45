use Rattle.std.proofs.Common.{arith}
use Rattle.journal_writer.proofs.queue.EntryQueue.last_block.Goals as goal

pub overflow_add-result : goal.overflow_add-result
overflow_add-result c = let last = c.self.invariant.last in omega (arith, last, c.behind.ensures, c.blocks-2.ensures)
