use Rattle.std.proofs.Common.{◌≡◌, drop}
use Rattle.std.specs.List.{filter}
use Rattle.dirty_nodes.specs.Splits.{is_large}
use Rattle.dirty_nodes.proofs.splits.first_large.Given as goal

abbrev pub invariant-loop-size : goal.invariant-loop-size
invariant-loop-size l = filter is_large (drop l.size-index l.sizes) ≡ filter is_large l.sizes
