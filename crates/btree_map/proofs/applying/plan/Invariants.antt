use Rattle.std.proofs.Common.{take}
use Rattle.btree_map.specs.Applied.{ArePlanned}
use Rattle.btree_map.specs.Trees.{keys_of_cuts}
use Rattle.btree_map.proofs.applying.plan.Given as goal

abbrev pub invariant-loop-update : goal.invariant-loop-update
invariant-loop-update l = ArePlanned (keys_of_cuts l.keys) (take l.update-index l.updates) l.last.items l.before
