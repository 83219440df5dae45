use Rattle.std.proofs.Common.{◌≡◌, [], drop}
use Rattle.key_triggers.specs.Changes.{values_after}
use Rattle.key_triggers.proofs.changes.values_after.Given as goal

abbrev pub invariant-loop-update : goal.invariant-loop-update
invariant-loop-update l = values_after (drop l.update-index l.updates) l.values.entries ≡ values_after l.updates []
