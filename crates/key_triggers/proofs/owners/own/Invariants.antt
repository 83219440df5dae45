use Rattle.std.proofs.Common.{◌≡◌, drop}
use Rattle.key_triggers.specs.Owners.{owned}
use Rattle.key_triggers.proofs.owners.own.Given as goal

abbrev pub invariant-loop-pointer : goal.invariant-loop-pointer
invariant-loop-pointer l = owned l.owner (drop l.pointer-index l.pointers) l.owners.entries ≡ owned l.owner l.pointers l.fn.owners.entries
