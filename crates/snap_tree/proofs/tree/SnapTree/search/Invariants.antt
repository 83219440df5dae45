use Rattle.std.proofs.Common.{◌+◌, ◌^◌, ◌≤◌}
use Rattle.snap_tree.specs.Snaps.{chain_of}
use Rattle.snap_tree.proofs.Walking.{IsWalk}
use Rattle.snap_tree.proofs.tree.SnapTree.search.Given as goal

abbrev pub invariant-loop-level : goal.invariant-loop-level
invariant-loop-level l = IsWalk (chain_of l.self-inside.snaps.entries l.fn.b) l.fn.a l.at (2 ^ l.level) l.followed × (l.level + l.followed ≤ 32)

abbrev pub decreases-loop-level : goal.decreases-loop-level
decreases-loop-level l = l.level
