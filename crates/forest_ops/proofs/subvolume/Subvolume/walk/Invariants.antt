use Rattle.std.proofs.Common.{◌≡◌, drop}
use Rattle.forest_ops.specs.Walking.{walk}
use Rattle.forest_ops.proofs.subvolume.Subvolume.walk.Given as goal

abbrev pub invariant-loop-name : goal.invariant-loop-name
invariant-loop-name l = walk l.self (drop l.name-index l.names) l.number ≡ walk l.self l.names l.self.root
