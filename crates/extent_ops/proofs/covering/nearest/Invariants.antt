use Rattle.std.proofs.Common.{◌≡◌, None, take}
use Rattle.std.specs.List.{fold}
use Rattle.std.specs.Option.{option_copied}
use Rattle.extent_ops.specs.Nearest.{nearer}
use Rattle.extent_ops.proofs.covering.nearest.Given as goal

abbrev pub invariant-loop-key : goal.invariant-loop-key
invariant-loop-key l = option_copied l.best ≡ fold (nearer l.tree l.id l.block) None (take l.key-index l.keys)
