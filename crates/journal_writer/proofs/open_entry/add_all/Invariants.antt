use Rattle.std.proofs.Common.{◌≡◌, ◌≤◌, ◌++◌, length}
use Rattle.std.specs.Vec.Iter.{into_iter_items}
use Rattle.journal_writer.proofs.open_entry.add_all.Given as goal

abbrev pub invariant-loop-member : goal.invariant-loop-member
invariant-loop-member g l = (l.list.members ++ into_iter_items l.member-iterator ≡ l.fn.list.members ++ l.fn.members) × (length (into_iter_items l.member-iterator) ≤ l.list.spare)
