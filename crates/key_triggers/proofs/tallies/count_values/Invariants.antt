use Rattle.std.proofs.Common.{◌≡◌}
use Rattle.key_triggers.specs.Tallies.{counted_values}
use Rattle.key_triggers.proofs.tallies.count_values.Given as goal

abbrev pub invariant-loop-value : goal.invariant-loop-value
invariant-loop-value l = counted_values l.gives l.value-iterator l.tallies.entries ≡ counted_values l.gives l.values.entries l.fn.tallies.entries
