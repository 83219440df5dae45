use Rattle.std.proofs.Common.{map, take}
use Rattle.tree_keys.specs.PlanLaws.{IsPlanning}
use Rattle.tree_keys.proofs.TreeKeys.net_changes.Given as goal

abbrev pub invariant-loop-change : goal.invariant-loop-change
invariant-loop-change g l = IsPlanning l.self.entries (map g.C.Change.key (take l.change-index l.changes)) l.last.entries l.before
