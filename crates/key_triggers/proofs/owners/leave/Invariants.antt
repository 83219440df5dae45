use Rattle.std.proofs.Common.{◌≡◌}
use Rattle.key_triggers.specs.Owners.{left_by}
use Rattle.key_triggers.proofs.owners.leave.Given as goal

abbrev pub invariant-loop-value : goal.invariant-loop-value
invariant-loop-value l = left_by l.value-iterator l.owners.entries ≡ left_by l.values.entries l.fn.owners.entries
