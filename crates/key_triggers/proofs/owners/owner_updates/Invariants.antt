use Rattle.std.proofs.Common.{◌≡◌, ◌++◌, map}
use Rattle.key_triggers.specs.Owners.{owner_update}
use Rattle.key_triggers.proofs.owners.owner_updates.Given as goal

abbrev pub invariant-loop-block : goal.invariant-loop-block
invariant-loop-block l = l.updates ++ map owner_update l.block-iterator ≡ map owner_update l.owners.entries
