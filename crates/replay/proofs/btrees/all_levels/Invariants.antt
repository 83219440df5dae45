use Rattle.std.specs.Vec.Iter.{into_iter_items}
use Rattle.replay.proofs.Making.{IsRaising}
use Rattle.replay.proofs.btrees.all_levels.Given as goal

abbrev pub invariant-loop-level : goal.invariant-loop-level
invariant-loop-level l = IsRaising l.fn.levels l.all (into_iter_items l.level-iterator)
