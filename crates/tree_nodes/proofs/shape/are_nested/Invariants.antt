use Rattle.std.proofs.Common.{ℕ, ◌+◌, ◌<◌}
use Rattle.tree_nodes.specs.Levels.{IsNested, level_of}
use Rattle.tree_nodes.proofs.shape.are_nested.Given as goal

abbrev pub invariant-loop-level : goal.invariant-loop-level
invariant-loop-level l = (k : ℕ) → k + 1 < l.level → IsNested (level_of l.levels (k + 1)) (level_of l.levels k)
