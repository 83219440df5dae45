use Rattle.tree_keys.specs.PlanLaws.{IsFilling}
use Rattle.tree_keys.proofs.TreeKeys.fill.Given as goal

abbrev pub invariant-loop-pos : goal.invariant-loop-pos
invariant-loop-pos l = IsFilling l.fn.self l.fn.last.entries l.self l.pos-iterator
