use Rattle.std.proofs.Common.{◌≡◌}
use Rattle.key_triggers.specs.Owners.{held_by}
use Rattle.key_triggers.proofs.owners.hold.Given as goal

abbrev pub invariant-loop-pos : goal.invariant-loop-pos
invariant-loop-pos l = held_by l.pos-iterator l.owners.entries ≡ held_by l.values.entries l.fn.owners.entries
