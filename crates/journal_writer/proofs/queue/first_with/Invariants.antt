use Rattle.std.proofs.Common.{◌≡◌, drop}
use Rattle.journal_writer.specs.Queues.{first_with}
use Rattle.journal_writer.proofs.queue.first_with.Given as goal

abbrev pub invariant-loop-entry : goal.invariant-loop-entry
invariant-loop-entry l = first_with l.btree (drop l.entry-index l.entries) ≡ first_with l.btree l.entries
