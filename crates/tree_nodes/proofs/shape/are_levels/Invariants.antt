use Rattle.std.proofs.Common.{ℕ, ◌<◌}
use Rattle.tree_nodes.specs.Levels.{IsLevel, level_of}
use Rattle.tree_nodes.proofs.shape.are_levels.Given as goal

abbrev pub invariant-loop-level : goal.invariant-loop-level
invariant-loop-level l = (k : ℕ) → k < l.level → IsLevel k (level_of l.levels k)
