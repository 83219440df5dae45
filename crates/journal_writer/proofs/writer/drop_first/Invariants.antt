use Rattle.std.proofs.Common.{◌≡◌, drop}
use Rattle.journal_writer.proofs.writer.drop_first.Given as goal

abbrev pub invariant-loop : goal.invariant-loop
invariant-loop l = l.starts.items ≡ drop l.counter l.initial.starts.items
